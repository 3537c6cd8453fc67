-- The shared tests meet their contracts; a call's own tests behind them.
pub mod SharedTests
pub mod OwnTests

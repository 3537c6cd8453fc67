-- Steps are the first in word order, a simplified term has the type and no other Signs, and the call refuses as
-- specs/Refuses says.
pub mod Steps
pub mod Positions
pub mod Simplify
pub mod Types
pub mod Refuses
pub mod Laws
pub mod Guards

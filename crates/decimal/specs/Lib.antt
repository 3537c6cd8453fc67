-- Bytes put into a buffer, numbers in decimal, and what guards their definition.
pub mod Decimal
pub mod Guards

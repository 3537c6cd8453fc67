-- What the program prints, what that should be, and its sentences by literals.
pub mod Printed
pub mod Right
pub mod Guards

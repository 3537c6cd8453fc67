-- The edition with named variables. A reader reads these modules in this order.
pub mod Named
pub mod Edition
pub mod Convert
pub mod Binders
pub mod Refuses
pub mod Laws
pub mod Guards

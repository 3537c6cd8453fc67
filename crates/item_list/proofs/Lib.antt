-- Laws of lists of items, one for each step of the code.
pub mod ItemPlaces

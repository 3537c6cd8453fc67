-- The items of a batch's list as the code finds them: by their places.
pub mod Items

-- What a say is asked, answers and leaves.
pub mod Said

-- Numbers in a file's lines.
pub mod NumberFile

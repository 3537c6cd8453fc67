-- What the benchmark's function answers.
pub mod Timed

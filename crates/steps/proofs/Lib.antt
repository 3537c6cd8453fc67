-- Laws of steps on words: which rule fits, where the first step is taken, what it fills, and the words of its result.
pub mod Heads
pub mod Redexes
pub mod Sites
pub mod Fillings
pub mod StepWords

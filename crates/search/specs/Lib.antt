-- Where statements are looked for.
pub mod Sources

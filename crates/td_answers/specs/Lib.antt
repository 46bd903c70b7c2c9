pub mod Unescaped
pub mod Objects
pub mod Refusals
pub mod Answers

mod PlainText
mod PlainObjects
mod PlainAnswers
pub mod Texts
pub mod Arrays

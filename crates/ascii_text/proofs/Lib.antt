pub mod Decided
pub mod Ascii
pub mod Decimals
pub mod Places
pub mod DigitsAgain

mod Readers
mod Amounts
pub mod Printed

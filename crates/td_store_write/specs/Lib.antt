pub mod InUse
pub mod Written
pub mod Carried
pub mod Created
pub mod Laws

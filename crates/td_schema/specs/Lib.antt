pub mod Tables
pub mod Layouts
pub mod Making
pub mod Fields

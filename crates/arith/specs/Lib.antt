pub mod Words
pub mod Examples
pub mod Printed
pub mod Wrapping

pub mod Links
pub mod Printing
pub mod Worked

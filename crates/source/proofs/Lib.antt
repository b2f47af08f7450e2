pub mod Steps
pub mod Words
pub mod Racks
pub mod Worked

pub mod Waiting
pub mod Racks
pub mod Rack
pub mod Tape
pub mod Bytes
pub mod Reading
pub mod Examples

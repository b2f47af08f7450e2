pub mod Listing
pub mod Examples
pub mod Links

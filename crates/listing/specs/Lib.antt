pub mod Line
pub mod Listing
pub mod Session
pub mod Inner

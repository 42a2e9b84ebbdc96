pub mod Notes
pub mod Calls
pub mod Lengths
pub mod Cases

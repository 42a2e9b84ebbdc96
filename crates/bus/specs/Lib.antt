pub mod Bus
pub mod Refusals
pub mod Calls
pub mod Rows
pub mod Inner

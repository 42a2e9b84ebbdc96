pub mod Result
pub mod Rows
pub mod Calls
pub mod Models
pub mod Trace

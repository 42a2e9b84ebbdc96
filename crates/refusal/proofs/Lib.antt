pub mod Logic
pub mod Lists
pub mod Longer
pub mod Buffers
pub mod Checks
pub mod Calls
pub mod Placing

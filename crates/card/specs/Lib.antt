pub mod Run
pub mod Turn
pub mod Cause
pub mod Refusals
pub mod Calls
pub mod Inner

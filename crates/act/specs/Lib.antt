pub mod Cause
pub mod Act
pub mod Inner

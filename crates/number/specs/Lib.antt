pub mod Number
pub mod Data
pub mod Inner

pub mod Sheet
pub mod Lookup
pub mod Values
pub mod Inner

pub mod Text
pub mod Word
pub mod Bytes
pub mod Inner

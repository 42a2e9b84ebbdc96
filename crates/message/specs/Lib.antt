pub mod Message
pub mod Prefix
pub mod Position
pub mod Spell
pub mod Inner

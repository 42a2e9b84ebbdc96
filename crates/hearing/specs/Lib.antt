pub mod Hearing
pub mod Inner
pub mod Normal
pub mod Sound

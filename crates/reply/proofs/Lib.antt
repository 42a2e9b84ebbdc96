pub mod Spelled
pub mod Reader
pub mod Zeros
pub mod Unheard
pub mod Sent

pub mod Laws
pub mod Models
pub mod Given
pub mod Answers

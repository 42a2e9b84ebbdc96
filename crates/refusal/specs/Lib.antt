pub mod Lists
pub mod Buffer
pub mod Refusal
pub mod Check
pub mod Call

pub mod Reply
pub mod Inner
pub mod Read

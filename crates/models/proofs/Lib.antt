pub mod Models
pub mod Maps

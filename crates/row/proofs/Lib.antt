pub mod Laws
pub mod Back
pub mod Arrays
pub mod Bytes
pub mod Offers

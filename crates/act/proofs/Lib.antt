pub mod Judged
pub mod OnOffer
pub mod Effects
pub mod Fits
pub mod Zeros
pub mod Spoken
pub mod Shapes

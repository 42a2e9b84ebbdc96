pub mod Table
pub mod Dcp100Controller
pub mod Dcp100Programmer
pub mod Udi1500
pub mod Scans
pub mod Model

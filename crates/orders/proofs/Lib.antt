pub mod Cheaper
pub mod Offsets

pub mod Trims
pub mod Scales
pub mod Known
pub mod Rescales
pub mod DistinctLaws

pub mod Fractions
pub mod Upto
pub mod Rounding
pub mod Rescaling
pub mod Literals

pub mod Types
pub mod Figures
pub mod Questions
pub mod Laws
pub mod Kept
pub mod Names

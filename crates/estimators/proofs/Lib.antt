pub mod Divisors
pub mod FirstDisjoint
pub mod InBounds

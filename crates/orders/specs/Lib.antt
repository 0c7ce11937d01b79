pub mod Orders
pub mod Choice

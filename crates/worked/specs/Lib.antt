pub mod Cases
pub mod SheetCases

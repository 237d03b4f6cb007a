pub mod Events
pub mod Written
pub mod Rows
pub mod Journals

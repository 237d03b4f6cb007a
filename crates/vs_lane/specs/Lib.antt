pub mod Feeding
pub mod Pieces
pub mod Stands
pub mod Steps
pub mod Answers
pub mod Ends
pub mod Spelled

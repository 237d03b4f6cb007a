pub mod Cells
pub mod Kinds
pub mod Lines
pub mod Recordings
pub mod Answers
pub mod Pieces

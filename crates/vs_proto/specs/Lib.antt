pub mod Kinds
pub mod Shapes
pub mod Cells
pub mod Tables
pub mod Answers
pub mod Frames

pub mod Parts
pub mod Grammar
pub mod Binding
pub mod Rows
pub mod Refusals
pub mod Productions

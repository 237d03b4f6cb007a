pub mod Reading
pub mod Bits
pub mod Layouts
pub mod Lent
pub mod Columns
pub mod Tables
pub mod Rows
pub mod Grammar

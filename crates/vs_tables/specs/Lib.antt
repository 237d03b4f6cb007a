pub mod Parts
pub mod Packed
pub mod Rows
pub mod RowKeys
pub mod Changes

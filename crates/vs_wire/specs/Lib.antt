pub mod Varint
pub mod Fields
pub mod Seen

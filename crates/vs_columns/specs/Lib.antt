pub mod Kinds
pub mod Digits
pub mod Dates
pub mod Decimals
pub mod Values

pub mod Heads
pub mod Bodies
pub mod Lent
pub mod Packed
pub mod Words
pub mod FirstWords

pub mod Heads
pub mod Beats

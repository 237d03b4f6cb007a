pub mod Events
pub mod States
pub mod Table
pub mod Meaning
pub mod Productions
pub mod Steps
pub mod Laws

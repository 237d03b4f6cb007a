pub mod Words
pub mod Lines
pub mod Kinds
pub mod Rules
pub mod Named
pub mod Reading
pub mod Listing
pub mod Laws

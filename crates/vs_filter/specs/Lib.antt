pub mod Fits
pub mod Rules
pub mod Picks
pub mod Keys
pub mod Causes
pub mod Laws

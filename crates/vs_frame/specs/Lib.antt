pub mod Frames
pub mod Codec
pub mod Laws

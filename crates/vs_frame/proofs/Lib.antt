pub mod FrameLemmas
pub mod CodecLemmas

pub mod Readings
pub mod PickLemmas
pub mod FirstLemmas
pub mod SlashLemmas
pub mod BuildLemmas
pub mod OrderLemmas
pub mod KeyLemmas

pub mod CutLemmas
pub mod NumberLemmas
pub mod TableLemmas
pub mod LawfulLemmas
pub mod FaultLemmas
pub mod Lawful

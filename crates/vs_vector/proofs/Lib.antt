pub mod VectorLemmas
pub mod EntryLemmas
pub mod ChangeLemmas

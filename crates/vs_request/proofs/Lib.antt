pub mod KeyLemmas
pub mod EntryLemmas
pub mod Forks
pub mod StartLaws
pub mod EntryLaws
pub mod ListLaws
pub mod LawfulLemmas
pub mod RequestLaws
mod RequestExamples

pub mod VarintLemmas
pub mod GroupLemmas
pub mod FieldLemmas
pub mod SpellingLemmas

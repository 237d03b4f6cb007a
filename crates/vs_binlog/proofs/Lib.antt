pub mod WordLemmas
pub mod FirstWordLemmas

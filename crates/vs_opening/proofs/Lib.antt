pub mod NameLists
pub mod AskedLemmas
pub mod Ascending
pub mod LawLemmas
pub mod OutsideLemmas
mod Examples

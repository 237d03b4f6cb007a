pub mod WordLemmas
pub mod Lines
pub mod JournalValues
pub mod JournalLemmas
pub mod WalkLemmas
pub mod WindowLemmas
pub mod OverLemmas
pub mod Parts

pub mod EventLaws
pub mod LogLaws
pub mod ListLemmas
pub mod RowLaws
pub mod JournalLaws

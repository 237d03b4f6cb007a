mod PackLemmas
mod PartLemmas
mod RowLemmas
mod TableLemmas

pub mod StepLemmas
pub mod ValueLemmas
pub mod RowGrammar
pub mod BodyGrammar
pub mod TableLemmas
pub mod RowExamples

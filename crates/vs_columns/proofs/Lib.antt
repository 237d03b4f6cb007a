pub mod DigitLemmas
pub mod DecimalLemmas
pub mod KeptLemmas
pub mod DateLemmas
pub mod FrontLemmas
pub mod ValueExamples

pub mod CellLemmas
pub mod RecordingLemmas
pub mod PieceLemmas
pub mod ShowLemmas
pub mod RecordingLaws
pub mod RecordingExamples

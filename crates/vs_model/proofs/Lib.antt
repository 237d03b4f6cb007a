pub mod Lists
pub mod Each
mod Entries
pub mod Places
mod Sent
pub mod OneStep
pub mod Runs
mod Examples
pub mod Resumed
mod Comes
mod Stays
mod Final
mod CopyExamples
mod Lanes
mod LaneExamples
pub mod Given
pub mod Gate
pub mod Ends
mod StreamExamples
mod Keys
mod CopyRows
mod Client
mod ClientChanges
mod CopyFronts
mod CopyFrames
mod CopiesLaw
mod CopiesExamples
pub mod Shards

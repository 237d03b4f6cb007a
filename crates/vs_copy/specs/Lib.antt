pub mod LastKeys
pub mod Copying
pub mod CopiedTables
pub mod Chunks
pub mod Answers
pub mod Laws
pub mod Runs

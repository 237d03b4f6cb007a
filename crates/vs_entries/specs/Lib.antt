pub mod Queries
pub mod JournalRows
pub mod Rules
pub mod Laws
pub mod Reading
pub mod Pieces
pub mod Walks
pub mod Windows

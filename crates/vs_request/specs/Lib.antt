pub mod Keys
pub mod Starts
pub mod Entries
pub mod Requests
pub mod Refusals
pub mod Laws

pub mod Laws
pub mod Ids

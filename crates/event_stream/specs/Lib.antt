pub mod Limits
pub mod EventText
pub mod EventLines
pub mod Laws

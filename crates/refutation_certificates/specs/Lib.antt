pub mod Certificates
pub mod RuleLines
pub mod Laws
pub mod Refutations

pub mod TableProofs
pub mod Laws
pub mod Certified

pub mod Laws
pub mod Forward
pub mod ForwardLaws

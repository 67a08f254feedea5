pub mod AllComeLemmas
pub mod ForwardExecutorLemmas
pub mod DispatchLemmas

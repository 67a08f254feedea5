pub mod ForwardExecutions

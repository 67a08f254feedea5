pub mod Faults
pub mod FormatRefusals
pub mod VerdictLines

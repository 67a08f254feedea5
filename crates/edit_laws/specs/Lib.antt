pub mod KeptLists
pub mod KeptListLaws
pub mod EditNumbers
pub mod EditEffects

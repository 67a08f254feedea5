pub mod FoundLemmas
mod SuccessorLemmas
mod FreeLemmas
mod OpenLemmas
mod PlacementLemmas
mod KeptLemmas

pub mod PlacedEndings

pub mod EditText
pub mod EditLines
pub mod Laws

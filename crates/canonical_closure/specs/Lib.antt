pub mod CanonicalClosure

-- What the window of a reader contains. No public clause cites this module.
use Rattle.std.specs.Prelude.{ℕ, List}

-- the last line given, the bytes taken and not given out, and how many more there is place for after them
pub record WindowContents : Type 0 where
  pub text : List ℕ
  pub kept : List ℕ
  pub free : ℕ

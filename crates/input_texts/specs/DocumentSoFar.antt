-- How far a document was read.
use Rattle.std.specs.Prelude.{ℕ, Bool, List}

-- the greatest number of bytes of the lines of a document and of the line that ends it, line ends not among them
abbrev pub most_document : ℕ
most_document = 67108864

-- the bytes of the lines so far, whether there are any lines, and how many bytes the next line may have
pub record DocumentSoFar : Type 0 where
  pub bytes : List ℕ
  pub started : Bool
  pub left : ℕ

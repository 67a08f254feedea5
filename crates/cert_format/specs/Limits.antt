-- The greatest numbers in the text of a certificate.
use Rattle.std.specs.Prelude.{ℕ}

-- the greatest size of a weight in the text, in whole moments
abbrev pub most_written_weight : ℕ
most_written_weight = 999999999999999999

-- the greatest number of a line in the text
abbrev pub most_line_number : ℕ
most_line_number = 18446744073709551615

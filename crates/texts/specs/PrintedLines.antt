-- Printed lines.
use Rattle.std.specs.Prelude.{ℕ, List, [], ◌∷◌, ◌++◌}
use Rattle.std.specs.List.{flat_map}

-- a word after a blank
abbrev pub after_blank : List ℕ → List ℕ
after_blank word = 32 ∷ word

-- words with one blank between
abbrev pub joined : List (List ℕ) → List ℕ
joined [] = []
joined (first ∷ others) = first ++ flat_map after_blank others

-- a printed line: its words with one blank between, and a line end
abbrev pub printed_line : List (List ℕ) → List ℕ
printed_line words = joined words ++ 10 ∷ []

-- the printed lines, one after another
abbrev pub printed : List (List (List ℕ)) → List ℕ
printed lines = flat_map printed_line lines

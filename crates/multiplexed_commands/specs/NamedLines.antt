-- Lines that are put after a name, and those of an output that begin with one. This project's own choice.
use Rattle.std.specs.Prelude.{◌≡◌, ℕ, ◌<◌, length, Bool, true, false, List, [], ◌∷◌, ◌++◌}
use Rattle.std.specs.List.{flat_map, filter, AllByRecursion}
use Rattle.std.specs.Str.{bytes_eq}
use Rattle.texts.specs.Lines.{whole_lines, unfinished}
use Rattle.texts.specs.Words.{words, is_blank, is_remark}

-- a line with its end
abbrev pub ended_line : List ℕ → List ℕ
ended_line line = line ++ 10 ∷ []

-- a line after a name and a blank
abbrev pub after_name : List ℕ → List ℕ → List ℕ
after_name name line = name ++ 32 ∷ line

-- the lines of what is put, each after a name
abbrev pub named : List ℕ → List ℕ → List ℕ
named name put = flat_map (λ line. ended_line (after_name name line)) (whole_lines put)

-- whether a word comes first
abbrev pub comes_first : List ℕ → List (List ℕ) → Bool
comes_first name [] = false
comes_first name (first ∷ others) = bytes_eq first name

-- whether a line begins with a name
abbrev pub is_of : List ℕ → List ℕ → Bool
is_of name line = comes_first name (words line)

-- the lines of what is put that begin with a name
abbrev pub of_name : List ℕ → List ℕ → List ℕ
of_name name put = flat_map ended_line (filter (is_of name) (whole_lines put))

-- what stands from the first blank on
abbrev pub from_blank : List ℕ → List ℕ
from_blank [] = []
from_blank (byte ∷ bytes) = elim (is_blank byte) [ true ↦ byte ∷ bytes | false ↦ from_blank bytes ]

-- what stands after the first word of a line
abbrev pub after_first : List ℕ → List ℕ
after_first [] = []
after_first (byte ∷ bytes) = elim (is_blank byte) [ true ↦ after_first bytes | false ↦ from_blank bytes ]

-- a name: bytes above the blank, at least one, and the first is not `#`
pub record IsNaming (name : List ℕ) : Type 0 where
  pub filled : 0 < length name
  pub no_remark : is_remark name ≡ false
  pub plain : AllByRecursion (λ byte. 32 < byte) name

-- what was put ends with a line end, if there is anything
abbrev pub IsOfWholeLines : List ℕ → Type 0
IsOfWholeLines put = unfinished put ≡ []

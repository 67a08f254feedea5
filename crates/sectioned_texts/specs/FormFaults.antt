-- How a line departs from the forms of the lines that may come.
use Rattle.std.specs.Prelude.{◌≡◌, ◌≢◌, ℕ, Bool, true, false, List, ◌∷◌, Option}
use Rattle.texts.specs.Words.{are_passed_over}
use Rattle.net_model.specs.Places.{Form, places_of, DepartsFrom}
use Rattle.net_model.specs.declared.format.FormatKind.{FormatKind}
use Rattle.net_model.specs.declared.format.FormatKind.TheVariants.{UnknownWord}

-- If lines of some first words may come, the line is none of them, for this cause: it begins with none of these words; else what follows its first word departs
-- from the form of such a line.
pub data IsFaultAmong {K A : Type 0} (spelled : K → List ℕ) (form_of : K → Option (Form A)) (may : K
    → Bool) (line : List (List ℕ)) (kind : FormatKind) : Type 0 where
  unknown_word : are_passed_over line ≡ false → ((first : K) (others : List (List ℕ)) → may first ≡ true → line ≢ spelled first ∷ others) → kind ≡ UnknownWord
      → IsFaultAmong spelled form_of may line kind
  departs : (first : K) (others : List (List ℕ)) → may first ≡ true → line ≡ spelled first ∷ others → DepartsFrom (places_of (form_of first)) others kind
      → IsFaultAmong spelled form_of may line kind

-- Texts that are spelled in one way: the words of each line by what it says, and the lines of each value.
use Rattle.std.specs.Prelude.{◌≡◌, ℕ, true, List, [], ◌∷◌, ◌++◌, if◌then◌else◌}
use Rattle.texts.specs.Words.{are_passed_over, words}

-- How a text is spelled. `words_of`: the words of a line by what it says, none if it is passed over. `IsSpelled`: what can be said so.
-- `value_words`: the words of the lines of a value. `end_words`: those of the last line. `IsSpelledValue`: which values can be spelled.
pub record Spelling (L V : Type 0) : Type 1 where
  pub words_of : L → List (List ℕ)
  pub IsSpelled : L → Type 0
  pub value_words : V → List (List (List ℕ))
  pub end_words : List (List ℕ)
  pub IsSpelledValue : V → Type 0

-- a line has these words, and what it says can be spelled; or it is passed over
abbrev pub HasWords : List (List ℕ) → Type 0 → List (List ℕ) → Type 0
HasWords [] Spelled line = are_passed_over line ≡ true
HasWords (first ∷ others) Spelled line = (line ≡ first ∷ others) × Spelled

-- the words of the lines that are not blank
abbrev pub filled_words : List (List ℕ) → List (List (List ℕ))
filled_words [] = []
filled_words (line ∷ others) = if are_passed_over (words line) then filled_words others else words line ∷ filled_words others

module _ {L V : Type 0} (spelling : Spelling L V) where
  -- words spell what a line says
  abbrev pub Spell : L → List (List ℕ) → Type 0
  Spell said line = HasWords (spelling.words_of said) (spelling.IsSpelled said) line

  -- The lines declare a value, and these lines come after it: the lines up to the last one are spelled as the value is, with blank lines between.
  pub record DeclareSpelled (all : List (List ℕ)) (value : V) (after : List (List ℕ)) : Type 0 where
    pub prefix : List (List ℕ)
    pub last : List ℕ
    pub whole : all ≡ prefix ++ last ∷ after
    pub said : filled_words (prefix ++ last ∷ []) ≡ spelling.value_words value
    pub ends : words last ≡ spelling.end_words
    pub spelled : spelling.IsSpelledValue value

-- The forms of lines, of plans, edits and certificates alike: what their places require, and how the words of a line depart from them first.
use Rattle.std.specs.Prelude.{◌≡◌, ◌≢◌, ◌⊎◌, ℕ, ℤ, ◌<◌, ◌≤◌, false, List, [], ◌∷◌, length, Option, Some, None, IsTrue}
use Rattle.net_model.specs.Limits.{most_delay, most_number}
use Rattle.net_model.specs.Names.{is_name, is_short_name}
use Rattle.net_model.specs.Numbers.{spells_natural, spells_number, size_of_number, value_of}
use Rattle.net_model.specs.declared.format.FormatKind.{FormatKind}
use Rattle.net_model.specs.declared.format.FormatKind.TheVariants.{UnknownWord, WordCount, BadName, BadNumber, NumberLimit}

-- what a place of a line requires: a name, a short one, or a whole number up to a limit, from 0 or of either sign
pub data Place : Type 0 where
  of_name : Place
  of_short_name : Place
  of_natural : ℕ → Place
  of_integer : ℕ → Place

-- the places of a number of a plan, and of a delay
abbrev pub of_number : Place
of_number = of_integer most_number

-- the place of a delay
abbrev pub of_delay : Place
of_delay = of_natural most_delay

-- the value of a word in its place
abbrev pub Value : Place → Type 0
Value of_name = List ℕ
Value of_short_name = List ℕ
Value (of_natural limit) = ℕ
Value (of_integer limit) = ℤ

-- what makes something of the values of words in their places
abbrev pub Maker : List Place → Type 0 → Type 0
Maker [] A = A
Maker (place ∷ places) A = Value place → Maker places A

-- a form: which places the rest of a line has, after the words with which it begins, and what the values in these places make
pub record Form (A : Type 0) : Type 0 where
  pub places : List Place
  pub make : Maker places A

-- the places of a line, if there is such a form
abbrev pub places_of : {A : Type 0} → Option (Form A) → Option (List Place)
places_of None = None
places_of (Some form) = Some form.places

-- a word that is what its place requires
abbrev pub Fits : Place → List ℕ → Type 0
Fits of_name word = IsTrue (is_name word)
Fits of_short_name word = IsTrue (is_short_name word)
Fits (of_natural limit) word = IsTrue (spells_natural word) × (value_of word ≤ limit)
Fits (of_integer limit) word = IsTrue (spells_number word) × (size_of_number word ≤ limit)

-- a word that is not what its place requires, and why
abbrev pub Misfits : Place → List ℕ → FormatKind → Type 0
Misfits of_name word kind = (is_name word ≡ false) × (kind ≡ BadName)
Misfits of_short_name word kind = (is_short_name word ≡ false) × (kind ≡ BadName)
Misfits (of_natural limit) word kind =
    ((spells_natural word ≡ false) × (kind ≡ BadNumber))
    ⊎ (IsTrue (spells_natural word) × (limit < value_of word) × (kind ≡ NumberLimit))
Misfits (of_integer limit) word kind =
    ((spells_number word ≡ false) × (kind ≡ BadNumber))
    ⊎ (IsTrue (spells_number word) × (limit < size_of_number word) × (kind ≡ NumberLimit))

-- why the first word, from the left, that is not what its place requires is not
abbrev pub FirstMisfits : List Place → List (List ℕ) → FormatKind → Type 0
FirstMisfits [] words kind = ⊥
FirstMisfits (place ∷ places) [] kind = ⊥
FirstMisfits (place ∷ places) (word ∷ words) kind = Misfits place word kind ⊎ (Fits place word × FirstMisfits places words kind)

-- the first departure of a line from its form: no line begins with its first word, else its count of words, else the first of its words that is not what its
-- place requires
abbrev pub DepartsFrom : Option (List Place) → List (List ℕ) → FormatKind → Type 0
DepartsFrom None others kind = kind ≡ UnknownWord
DepartsFrom (Some places) others kind =
    ((length others ≢ length places) × (kind ≡ WordCount)) ⊎ ((length others ≡ length places) × FirstMisfits places others kind)

-- Words that are read by a form spell what is read of them, and words that are not read depart from it.
use Rattle.std.proofs.Common.{◌≡◌, ◌⊎◌, ◌≤◌, ◌<◌, ◌^◌, ◌==◌, ℕ, ℤ, Bool, true, false, cond, List, [], ◌∷◌, length, Option, None, Some, Result, Ok, Err, refl, sym, subst, arith, inl, inr, IsTrue, unsigned_abs}
use Rattle.std.specs.Fmt.{decimal, signed_decimal}
use Rattle.std.proofs.lemmas.Bool.{eqb-true, eqb-false, leb-true, le-leb}
use Rattle.net_model.specs.LineReading.{word_at, words_at, read_by, read_as}
use Rattle.net_model.specs.Limits.{most_delay, most_number, within_limit}
use Rattle.net_model.specs.Names.{is_name, is_short_name}
use Rattle.net_model.specs.Numbers.{natural_of, integer_of, spells_natural, spells_number, size_of_number, value_of}
use Rattle.net_model.specs.Places.{Place, of_name, of_short_name, of_natural, of_integer, Value, Maker, Form, places_of, Fits, Misfits, FirstMisfits, DepartsFrom}
use Rattle.net_model.specs.WordReading.{◌>>=◌}
use Rattle.net_model.specs.declared.format.FormatKind.{FormatKind}
use Rattle.net_model.specs.declared.format.FormatKind.TheVariants.{UnknownWord, WordCount}
use Rattle.net_model.proofs.DepartureLemmas.{fits_or_not}
use Rattle.net_model.proofs.ReadWordLemmas.{bind_ok, bind_err, name_ok, name_err, short_name_ok, short_name_err}
use Rattle.net_model.proofs.DecimalSpellingLemmas.{IsJudged, judged_integer, judged_natural_word, integer_spelled, spelled_integer, natural_spelled, spelled_natural}

-- a word that is read is what its place requires, and one that is refused is not
fits : (place : Place) (word : List ℕ) (value : Value place) → word_at place word ≡ Ok value → Fits place word
fits of_name word value read =
    let is = name_ok word value read in
    subst (λ (w : List ℕ). IsTrue (is_name w)) (sym is.0) is.1
fits of_short_name word value read =
    let is = short_name_ok word value read in
    subst (λ (w : List ℕ). IsTrue (is_short_name w)) (sym is.0) is.1
fits (of_natural limit) word value read =
    subst (λ (answer : Result ℕ FormatKind). IsJudged limit (spells_natural word) (value_of word) answer) read (judged_natural_word limit word)
fits (of_integer limit) word value read =
    subst (λ (answer : Result ℤ FormatKind). IsJudged limit (spells_number word) (size_of_number word) answer) read (judged_integer limit word)

misfits : (place : Place) (word : List ℕ) (kind : FormatKind) → word_at place word ≡ Err kind → Misfits place word kind
misfits of_name word kind read = name_err word kind read
misfits of_short_name word kind read = short_name_err word kind read
misfits (of_natural limit) word kind read =
    subst (λ (answer : Result ℕ FormatKind). IsJudged limit (spells_natural word) (value_of word) answer) read (judged_natural_word limit word)
misfits (of_integer limit) word kind read =
    subst (λ (answer : Result ℤ FormatKind). IsJudged limit (spells_number word) (size_of_number word) answer) read (judged_integer limit word)

first_misfits : {A : Type 0} (places : List Place) (make : Maker places A) (words : List (List ℕ)) (kind : FormatKind) → length words ≡ length places → words_at places make words ≡ Err kind → FirstMisfits places words kind
first_misfits [] make words kind same read = absurd (cc)
first_misfits (place ∷ places) make [] kind same read = absurd (omega (arith, same))
first_misfits (place ∷ places) make (word ∷ words) kind same read =
    elim (bind_err (word_at place word) _ kind read) [
      | inl here ↦ inl (misfits place word kind here)
      | inr later ↦ inr (fits place word later.0 later.1, first_misfits places (make later.0) words kind (omega (arith, same)) later.2)
    ]

departs_counted : {A : Type 0} (form : Form A) (words : List (List ℕ)) (kind : FormatKind) (counts : Bool) → (length words == length form.places) ≡ counts
    → (cond counts (Ok words) (Err WordCount) >>= words_at form.places form.make) ≡ Err kind → DepartsFrom (Some form.places) words kind
departs_counted form words kind true counts read =
    let same : length words ≡ length form.places = eqb-true (length words) (length form.places) counts in
    inr (same, first_misfits form.places form.make words kind same read)
departs_counted form words kind false counts read = inl (eqb-false (length words) (length form.places) counts, cc)

-- words that are not read depart from their form
pub departs_by : {A : Type 0} (form : Option (Form A)) (words : List (List ℕ)) (kind : FormatKind) → read_as form words ≡ Err kind → DepartsFrom (places_of form) words kind
departs_by None words kind read = let same : Err UnknownWord ≡ Err kind = read in cc
departs_by (Some form) words kind read = departs_counted form words kind (length words == length form.places) refl read

-- how the value of a word is spelled, and which values can be spelled
abbrev pub spelling : (place : Place) → Value place → List ℕ
spelling of_name name = name
spelling of_short_name name = name
spelling (of_natural limit) number = decimal number
spelling (of_integer limit) number = signed_decimal number

abbrev pub IsSpelled : (place : Place) → Value place → Type 0
IsSpelled of_name name = IsTrue (is_name name)
IsSpelled of_short_name name = IsTrue (is_short_name name)
IsSpelled (of_natural limit) number = number ≤ limit
IsSpelled (of_integer limit) number = unsigned_abs number ≤ limit

-- the limits of places are such that the numbers fit the integers of the code
abbrev pub HasLimit : Place → Type 0
HasLimit of_name = Unit {0}
HasLimit of_short_name = Unit {0}
HasLimit (of_natural limit) = limit < 2 ^ 64
HasLimit (of_integer limit) = limit < 2 ^ 63

abbrev pub HaveLimits : List Place → Type 0
HaveLimits [] = Unit {0}
HaveLimits (place ∷ places) = HasLimit place × HaveLimits places

-- the values of words in their places, how they are spelled, that they can be, and what is made of them
abbrev pub Values : List Place → Type 0
Values [] = Unit {0}
Values (place ∷ places) = Value place × Values places

abbrev pub spellings : (places : List Place) → Values places → List (List ℕ)
spellings [] values = []
spellings (place ∷ places) values = spelling place values.0 ∷ spellings places values.1

abbrev pub AreSpelled : (places : List Place) → Values places → Type 0
AreSpelled [] values = Unit {0}
AreSpelled (place ∷ places) values = IsSpelled place values.0 × AreSpelled places values.1

abbrev pub made_of : {A : Type 0} (places : List Place) → Maker places A → Values places → A
made_of [] make values = make
made_of (place ∷ places) make values = made_of places (make values.0) values.1

-- words have these values in their places
pub record States {A : Type 0} (places : List Place) (make : Maker places A) (line : List (List ℕ)) (stated : A) : Type 0 where
  pub values : Values places
  pub words : line ≡ spellings places values
  pub spelled : AreSpelled places values
  pub made : made_of places make values ≡ stated

word_stated : (place : Place) (word : List ℕ) (value : Value place) → HasLimit place → word_at place word ≡ Ok value → (word ≡ spelling place value) × IsSpelled place value
word_stated of_name word value limit read = name_ok word value read
word_stated of_short_name word value limit read = short_name_ok word value read
word_stated (of_natural most) word value limit read = spelled_natural most value word read limit
word_stated (of_integer most) word value limit read = spelled_integer most value word read limit

words_stated : {A : Type 0} (places : List Place) (make : Maker places A) (words : List (List ℕ)) (stated : A) → HaveLimits places → length words ≡ length places → words_at places make words ≡ Ok stated → States places make words stated
words_stated [] make [] stated limits same read = record { values = tt; words = refl; spelled = tt; made = let is : Ok make ≡ Ok stated = read in cc }
words_stated [] make (word ∷ words) stated limits same read = absurd (omega (arith, same))
words_stated (place ∷ places) make [] stated limits same read = absurd (omega (arith, same))
words_stated (place ∷ places) make (word ∷ words) stated limits same read =
    let here = bind_ok (word_at place word) _ stated read in
    let is = word_stated place word here.0 limits.0 here.1 in
    let later = words_stated places (make here.0) words stated limits.1 (omega (arith, same)) here.2 in
    record { values = (here.0, later.values); words = λ i. is.0 i ∷ later.words i; spelled = (is.1, later.spelled); made = later.made }

stated_counted : {A : Type 0} (form : Form A) (words : List (List ℕ)) (stated : A) (counts : Bool) → HaveLimits form.places → (length words == length form.places) ≡ counts
    → (cond counts (Ok words) (Err WordCount) >>= words_at form.places form.make) ≡ Ok stated → States form.places form.make words stated
stated_counted form words stated true limits counts read =
    words_stated form.places form.make words stated limits (eqb-true (length words) (length form.places) counts) read
stated_counted form words stated false limits counts read = absurd (cc)

-- words that are read spell what is read of them
pub stated_by : {A : Type 0} (form : Form A) (words : List (List ℕ)) (stated : A) → HaveLimits form.places → read_by form words ≡ Ok stated → States form.places form.make words stated
stated_by form words stated limits read = stated_counted form words stated (length words == length form.places) limits refl read

-- and do not depart from their form
fits_all : {A : Type 0} (places : List Place) (make : Maker places A) (words : List (List ℕ)) (stated : A) (kind : FormatKind) → words_at places make words ≡ Ok stated → FirstMisfits places words kind → ⊥
fits_all [] make words stated kind read misfits = misfits
fits_all (place ∷ places) make [] stated kind read misfits = misfits
fits_all (place ∷ places) make (word ∷ words) stated kind read (inl here) =
    let first = bind_ok (word_at place word) _ stated read in
    fits_or_not place word kind (fits place word first.0 first.1) here
fits_all (place ∷ places) make (word ∷ words) stated kind read (inr later) =
    let first = bind_ok (word_at place word) _ stated read in
    fits_all places (make first.0) words stated kind first.2 later.1

stays_counted : {A : Type 0} (form : Form A) (words : List (List ℕ)) (stated : A) (kind : FormatKind) (counts : Bool) → (length words == length form.places) ≡ counts
    → (cond counts (Ok words) (Err WordCount) >>= words_at form.places form.make) ≡ Ok stated → DepartsFrom (Some form.places) words kind → ⊥
stays_counted form words stated kind true counts read (inl count) = count.0 (eqb-true (length words) (length form.places) counts)
stays_counted form words stated kind true counts read (inr misfits) = fits_all form.places form.make words stated kind read misfits.1
stays_counted form words stated kind false counts read departs = absurd (cc)

pub stays_by : {A : Type 0} (form : Option (Form A)) (words : List (List ℕ)) (stated : A) (kind : FormatKind) → read_as form words ≡ Ok stated → DepartsFrom (places_of form) words kind → ⊥
stays_by None words stated kind read departs = absurd (let none : Err UnknownWord ≡ Ok stated = read in cc)
stays_by (Some form) words stated kind read departs = stays_counted form words stated kind (length words == length form.places) refl read departs

-- a form that a test chooses
pub form_choice : {A : Type 0} (test : Bool) (x y : Option (Form A)) (words : List (List ℕ)) (stated : A) → read_as (cond test x y) words ≡ Ok stated
    → ((test ≡ true) × (read_as x words ≡ Ok stated)) ⊎ ((test ≡ false) × (read_as y words ≡ Ok stated))
form_choice true x y words stated read = inl (refl, read)
form_choice false x y words stated read = inr (refl, read)

-- the numbers of a plan and a delay are read as they are spelled
pub number_read : (n : ℤ) → within_limit n ≡ true → integer_of most_number (signed_decimal n) ≡ Ok n
number_read n within = integer_spelled most_number n (leb-true (unsigned_abs n) most_number within) (omega arith)

pub number_within : (n : ℤ) → unsigned_abs n ≤ most_number → within_limit n ≡ true
number_within n within = le-leb (unsigned_abs n) most_number within

pub delay_read : (n : ℕ) → n ≤ most_delay → natural_of most_delay (decimal n) ≡ Ok n
delay_read n within = natural_spelled most_delay n within (omega arith)

-- A line that may come is read as what it says, no other line is read, and a line that is refused has its one fault.
use Rattle.std.proofs.Common.{◌≡◌, ℕ, Bool, true, false, List, [], ◌∷◌, Option, None, Some, Result, Ok, Err, refl, sym, ap, ◌∙◌, subst, inl, inr, find}
use Rattle.std.specs.Str.{bytes_eq}
use Rattle.texts.specs.Words.{is_remark, are_passed_over}
use Rattle.net_model.specs.Places.{Form, places_of, DepartsFrom}
use Rattle.net_model.specs.declared.format.FormatKind.{FormatKind}
use Rattle.net_model.specs.declared.format.FormatKind.TheVariants.{UnknownWord, NoHeader}
use Rattle.net_model.proofs.DepartureLemmas.{departs_from_one}
use Rattle.net_model.proofs.LineLemmas.{departs_by}
use Rattle.net_model.proofs.ReadWordLemmas.{choice, word_is}
use Rattle.sectioned_texts.specs.FormFaults.{IsFaultAmong, unknown_word, departs}
use Rattle.sectioned_texts.specs.SectionedTexts.{SectionedText, IsLineIn, passed_over, begins, IsFaultBy, IsFaultIn}
use Rattle.sectioned_texts.specs.Reading.{header_or_unknown, refused_by, word_of, header_line, line_by, line_after, line_among, line_in}
use Rattle.sectioned_texts.specs.LawfulTexts.{HasLawfulLines}

find_passes : {K : Type 0} (test : K → Bool) (all : List K) (first : K) → find test all ≡ Some first → test first ≡ true
find_passes test [] first found = absurd (cc)
find_passes test (x ∷ all) first found =
    elim (choice (test x) (Some x) (find test all) (Some first) found) [
      | inl here ↦ let same : x ≡ first = let both : Some x ≡ Some first = here.1 in cc in subst (λ y. test y ≡ true) same here.0
      | inr after ↦ find_passes test all first after.1
    ]

one_of : {K : Type 0} (x y : K) → Some x ≡ Some y → x ≡ y
one_of x y same = cc

header_unknown : {L : Type 0} (said : Option L) (kind : FormatKind) → header_or_unknown said ≡ Err kind → kind ≡ UnknownWord
header_unknown None kind read = cc
header_unknown (Some said) kind read = absurd (cc)

header_err : {L : Type 0} (says : List ℕ → Option L) (others : List (List ℕ)) (kind : FormatKind) → header_line says others ≡ Err kind → kind ≡ UnknownWord
header_err says [] kind read = cc
header_err says (version ∷ []) kind read = header_unknown (says version) kind read
header_err says (version ∷ next ∷ others) kind read = cc

refused_later : {L : Type 0} (opens : Bool) (read : Result L FormatKind) (said : L) → refused_by opens read ≡ Ok said → read ≡ Ok said
refused_later opens (Ok said) other same = same
refused_later true (Err kind) other same = absurd (cc)
refused_later false (Err kind) other same = absurd (cc)

refused_first : {L : Type 0} (read : Result L FormatKind) (kind : FormatKind) → refused_by true read ≡ Err kind → kind ≡ NoHeader
refused_first (Ok said) kind refused = absurd (cc)
refused_first (Err why) kind refused = cc

refused_same : {L : Type 0} (read : Result L FormatKind) (kind : FormatKind) → refused_by false read ≡ Err kind → read ≡ Err kind
refused_same (Ok said) kind refused = absurd (cc)
refused_same (Err why) kind refused = refused

module _ {S K L P V : Type 0} (text : SectionedText S K L P V) where
  -- a word that is a first word is spelled as it
  pub word_spelled : (word : List ℕ) (first : K) → word_of text word ≡ Some first → word ≡ text.spelled first
  word_spelled word first found =
      word_is word (text.spelled first) (find_passes (λ x. bytes_eq word (text.spelled x)) text.first_words first found)

  -- what follows a first word departs from its form if it is refused
  pub line_departs : (form : Option (Form L)) (others : List (List ℕ)) (kind : FormatKind) → line_by text form others ≡ Err kind → DepartsFrom (places_of form) others kind
  line_departs None others kind read = header_err text.header others kind read
  line_departs (Some form) others kind read = departs_by (Some form) others kind read

  among_ok : (may : K → Bool) (found : Option K) (others : List (List ℕ)) (said : L) → line_among text may found others ≡ Ok said
      → (first : K) × (found ≡ Some first) × (may first ≡ true) × (line_after text first others ≡ Ok said)
  among_ok may None others said read = absurd (cc)
  among_ok may (Some first) others said read =
      elim (choice (may first) (line_after text first others) (Err UnknownWord) (Ok said) read) [
        | inl comes ↦ (first, refl, comes.0, comes.1)
        | inr other ↦ absurd (let wrong : Err UnknownWord ≡ Ok said = other.1 in cc)
      ]

  -- a line has one first word, if each is found as it is spelled
  pub one_word : ((first : K) → word_of text (text.spelled first) ≡ Some first) → (line : List (List ℕ)) (f g : K) (xs ys : List (List ℕ)) → line ≡ text.spelled f ∷ xs
      → line ≡ text.spelled g ∷ ys → (f ≡ g) × (xs ≡ ys)
  one_word found line f g xs ys p q =
      let both : text.spelled f ∷ xs ≡ text.spelled g ∷ ys = sym p ∙ q in
      let first : text.spelled f ≡ text.spelled g = cc in
      let same : Some f ≡ Some g = sym (found f) ∙ ap (word_of text) first ∙ found g in
      (one_of f g same, cc)

  module _ (lawful : HasLawfulLines text) where
    begins_with : (word : List ℕ) (others : List (List ℕ)) (first : K) (rest : List (List ℕ)) → word ∷ others ≡ text.spelled first ∷ rest → word_of text word ≡ Some first
    begins_with word others first rest same = let is : word ≡ text.spelled first = cc in ap (word_of text) is ∙ lawful.found first

    among_by : (may : K → Bool) (word : List ℕ) (others : List (List ℕ)) (kind : FormatKind) (found : Option K) → is_remark word ≡ false → word_of text word ≡ found
        → line_among text may found others ≡ Err kind
        → IsFaultAmong text.spelled text.form_of may (word ∷ others) kind
    among_by may word others kind None filled is read =
        unknown_word filled (λ first rest comes same. let wrong : None ≡ Some first = sym is ∙ begins_with word others first rest same in absurd (cc)) (let unknown : Err UnknownWord ≡ Err kind = read in cc)
    among_by may word others kind (Some first) filled is read =
        elim (choice (may first) (line_after text first others) (Err UnknownWord) (Err kind) read) [
          | inl comes ↦ departs first others comes.0 (ap (λ (w : List ℕ). w ∷ others) (word_spelled word first is)) (line_departs (text.form_of first) others kind comes.1)
          | inr other ↦
              unknown_word filled (λ next rest comes same.
              let one : first ≡ next = one_of first next (sym is ∙ begins_with word others next rest same) in
              let wrong : false ≡ true = sym other.0 ∙ ap may one ∙ comes in
              absurd (cc)) (let unknown : Err UnknownWord ≡ Err kind = other.1 in cc)
        ]

    -- a line that is refused departs from the forms of the lines that may come
    pub among_err : (may : K → Bool) (word : List ℕ) (others : List (List ℕ)) (kind : FormatKind) → is_remark word ≡ false → line_among text may (word_of text word) others ≡ Err kind
        → IsFaultAmong text.spelled text.form_of may (word ∷ others) kind
    among_err may word others kind filled read = among_by may word others kind (word_of text word) filled refl read

    -- a line departs for one cause
    one_cause : (may : K → Bool) (line : List (List ℕ)) (k l : FormatKind) → IsFaultAmong text.spelled text.form_of may line k → IsFaultAmong text.spelled text.form_of may line l → k ≡ l
    one_cause may line k l (unknown_word _ none is) (unknown_word _ none' is') = is ∙ sym is'
    one_cause may line k l (unknown_word _ none is) (departs g ys comes same away) = absurd (none g ys comes same)
    one_cause may line k l (departs f xs comes same away) (unknown_word _ none is') = absurd (none f xs comes same)
    one_cause may line k l (departs f xs comes same away) (departs g ys comes' same' away') =
        let (one, rest) = one_word lawful.found line g f ys xs same' same in
        departs_from_one (places_of (text.form_of f)) xs k l away (subst (λ (ws : List (List ℕ)). DepartsFrom (places_of (text.form_of f)) ws l) rest (subst (λ (h : K). DepartsFrom (places_of (text.form_of h)) ys l) one away'))

    fault_by : (opens : Bool) (section : S) (line : List (List ℕ)) (k l : FormatKind) → IsFaultBy text opens section line k → IsFaultBy text opens section line l → k ≡ l
    fault_by true section line k l a b = a.2 ∙ sym b.2
    fault_by false section line k l a b = one_cause (text.admits section) line k l a b

    -- a line has one fault in a section
    pub one_line_fault : (section : S) (line : List (List ℕ)) (k l : FormatKind) → IsFaultIn text section line k → IsFaultIn text section line l → k ≡ l
    one_line_fault section line k l a b = fault_by (text.opens section) section line k l a b

    read_passed : (section : S) (line : List (List ℕ)) → are_passed_over line ≡ true → line_in text section line ≡ Ok text.blank
    unfolding line_in
    read_passed section [] passed = refl
    read_passed section (first ∷ others) passed = rw passed refl

    -- a line that may come is read as what it says
    pub line_read : (section : S) (said : L) (line : List (List ℕ)) → IsLineIn text section said line → line_in text section line ≡ Ok said
    unfolding line_in
    line_read section said line (passed_over passed same) = read_passed section line passed ∙ ap (λ (x : L). Ok x) (sym same)
    line_read section said line (begins first others may same says) =
        ap (line_in text section) same ∙ rw (lawful.filled first, lawful.found first, may, lawful.read first others said (subst (text.says said) same says)) refl

    -- what is read of a line is what it says, and it may come
    pub line_said : (section : S) (line : List (List ℕ)) (said : L) → line_in text section line ≡ Ok said → IsLineIn text section said line
    unfolding line_in
    line_said section [] said read = passed_over refl (let same : said ≡ text.blank = cc in same)
    line_said section (word ∷ others) said read =
        elim (choice (is_remark word) (Ok text.blank) (refused_by (text.opens section) (line_among text (text.admits section) (word_of text word) others)) (Ok said) read) [
          | inl remark ↦ passed_over remark.0 (let both : Ok text.blank ≡ Ok said = remark.1 in let same : said ≡ text.blank = cc in same)
          | inr other ↦
              let found = among_ok (text.admits section) (word_of text word) others said (refused_later (text.opens section) (line_among text (text.admits section) (word_of text word) others) said other.1) in
              let spelled : word ∷ others ≡ text.spelled found.0 ∷ others = ap (λ (w : List ℕ). w ∷ others) (word_spelled word found.0 found.1) in
              begins found.0 others found.2 spelled (subst (text.says said) (sym spelled) (lawful.said found.0 others said found.3))
        ]

    -- what a line says that may come
    pub line_says : (section : S) (said : L) (line : List (List ℕ)) → IsLineIn text section said line → text.says said line
    line_says section said line (passed_over passed same) = subst (λ (t : L). text.says t line) (sym same) (lawful.blank line passed)
    line_says section said line (begins first others may same says) = says

    fault_of : (opens : Bool) (section : S) (word : List ℕ) (others : List (List ℕ)) (kind : FormatKind) → text.opens section ≡ opens → is_remark word ≡ false
        → line_in text section (word ∷ others) ≡ Err kind → refused_by opens (line_among text (text.admits section) (word_of text word) others) ≡ Err kind → IsFaultBy text opens section (word ∷ others) kind
    unfolding line_in
    fault_of true section word others kind opens filled read refused = (
      filled,
      λ header.
          let (said, comes) = lawful.header section (word ∷ others) opens header in
          let wrong : Err kind ≡ Ok said = sym read ∙ line_read section said (word ∷ others) comes in
          absurd (cc),
      refused_first (line_among text (text.admits section) (word_of text word) others) kind refused,
    )
    fault_of false section word others kind opens filled read refused =
        among_err (text.admits section) word others kind filled (refused_same (line_among text (text.admits section) (word_of text word) others) kind refused)

    -- the fault of a line that is refused in a section
    pub line_err : (section : S) (line : List (List ℕ)) (kind : FormatKind) → line_in text section line ≡ Err kind → IsFaultIn text section line kind
    unfolding line_in
    line_err section [] kind read = absurd (cc)
    line_err section (word ∷ others) kind read =
        elim (choice (is_remark word) (Ok text.blank) (refused_by (text.opens section) (line_among text (text.admits section) (word_of text word) others)) (Err kind) read) [
          | inl remark ↦ absurd (let wrong : Ok text.blank ≡ Err kind = remark.1 in cc)
          | inr other ↦ fault_of (text.opens section) section word others kind refl other.0 read other.1
        ]

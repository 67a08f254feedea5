-- What is required of a text that is spelled in one way: its lines are read back, and its values are what their lines lead to.
use Rattle.std.proofs.Common.{◌≡◌, ◌&&◌, ℕ, ◌<◌, Bool, true, false, List, [], ◌∷◌, ◌++◌, map, Some, Ok, refl, sym, ap, ◌∙◌, subst, append_assoc, arith}
use Rattle.std.specs.Prelude.{nat_le}
use Rattle.std.specs.List.{AllByRecursion}
use Rattle.std.proofs.lemmas.Bool.{and_parts, leb-true}
use Rattle.std.proofs.lemmas.List.{append-nil, map-append}
use Rattle.texts.specs.Words.{is_remark}
use Rattle.texts.proofs.PrintedLineLemmas.{IsPrintable}
use Rattle.sectioned_texts.specs.SectionedTexts.{SectionedText}
use Rattle.sectioned_texts.specs.Reading.{word_of, line_after}
use Rattle.sectioned_texts.specs.Spellings.{Spelling, Spell}

-- bytes above the blank
abbrev pub are_plain : List ℕ → Bool
are_plain [] = true
are_plain (byte ∷ bytes) = nat_le 33 byte && are_plain bytes

all_plain : (bytes : List ℕ) → are_plain bytes ≡ true → AllByRecursion (λ byte. 32 < byte) bytes
all_plain [] plain = tt
all_plain (byte ∷ bytes) plain =
    let (first, others) = and_parts (nat_le 33 byte) (are_plain bytes) plain in
    (leb-true 33 byte first, all_plain bytes others)

-- a word of such bytes is written
pub plain_printable : (byte : ℕ) (bytes : List ℕ) → are_plain (byte ∷ bytes) ≡ true → IsPrintable (byte ∷ bytes)
plain_printable byte bytes plain = record { filled = omega arith; plain = all_plain (byte ∷ bytes) plain }

-- a first word is found as it is written, is no remark, and can be written
pub record IsFirstWord {S K L P V : Type 0} (text : SectionedText S K L P V) (first : K) : Type 0 where
  pub found : word_of text (text.spelled first) ≡ Some first
  pub filled : is_remark (text.spelled first) ≡ false
  pub printable : IsPrintable (text.spelled first)

-- ---- two lists of lines, one after the other
module _ {L A B : Type 0} (say : A → L) (also : B → L) where
  -- one more of the first, if there is none of the second
  pub first_longer : (xs : List A) (ys : List B) (x : A) → ys ≡ [] → (map say xs ++ map also ys) ++ say x ∷ [] ≡ map say (xs ++ x ∷ []) ++ map also ys
  first_longer xs ys x none =
      let alone : List B → List L = λ zs. (map say xs ++ map also zs) ++ say x ∷ [] in
      ap alone none ∙ ap (λ (ls : List L). ls ++ say x ∷ []) (append-nil (map say xs)) ∙ sym (map-append say xs (x ∷ [])) ∙ sym (append-nil (map say (xs ++ x ∷ [])))
      ∙ ap (λ (zs : List B). map say (xs ++ x ∷ []) ++ map also zs) (sym none)

  -- one more of the second
  pub second_longer : (xs : List A) (ys : List B) (y : B) → (map say xs ++ map also ys) ++ also y ∷ [] ≡ map say xs ++ map also (ys ++ y ∷ [])
  second_longer xs ys y = append_assoc (map say xs) (map also ys) (also y ∷ []) ∙ ap (λ (ls : List L). map say xs ++ ls) (sym (map-append also ys (y ∷ [])))

  -- what holds of all holds of each list
  pub of_both : (Q : L → Type 0) (xs : List A) (ys : List B) → AllByRecursion Q (map say xs ++ map also ys) → AllByRecursion (λ x. Q (say x)) xs × AllByRecursion (λ y. Q (also y)) ys
  of_both Q [] ys all = (tt, second Q ys all)
    where
      second : (Q : L → Type 0) (ys : List B) → AllByRecursion Q (map also ys) → AllByRecursion (λ y. Q (also y)) ys
      second Q [] all = tt
      second Q (y ∷ ys) all = (all.0, second Q ys all.1)
  of_both Q (x ∷ xs) ys all = let later = of_both Q xs ys all.1 in ((all.0, later.0), later.1)

  -- the words of both, and of one line more
  pub words_of_both : (words_of : L → List (List ℕ)) (xs : List A) (ys : List B) (last : List (List ℕ))
      → map words_of (map say xs ++ map also ys) ++ last ∷ [] ≡ map (λ x. words_of (say x)) xs ++ (map (λ y. words_of (also y)) ys ++ last ∷ [])
  words_of_both words_of [] ys last = second words_of ys last
    where
      second : (words_of : L → List (List ℕ)) (ys : List B) (last : List (List ℕ)) → map words_of (map also ys) ++ last ∷ [] ≡ map (λ y. words_of (also y)) ys ++ last ∷ []
      second words_of [] last = refl
      second words_of (y ∷ ys) last = ap (λ (ws : List (List (List ℕ))). words_of (also y) ∷ ws) (second words_of ys last)
  words_of_both words_of (x ∷ xs) ys last = ap (λ (ws : List (List (List ℕ))). words_of (say x) ∷ ws) (words_of_both words_of xs ys last)

module _ {S K L P V : Type 0} (text : SectionedText S K L P V) (spelling : Spelling L V) (first_of : L → K) where
  -- in a section a line may come that says this, and is not the last one
  pub record Comes (section : S) (said : L) : Type 0 where
    pub may : text.admits section (first_of said) ≡ true
    pub goes : text.is_last said ≡ false
    pub spelled : spelling.IsSpelled said

  -- lines that say this, none of them blank, lead from what was read to what is read with them
  abbrev pub SaidLead : P → List L → P → Type 0
  SaidLead from [] to = from ≡ to
  SaidLead from (said ∷ others) to = Comes (text.section from) said × SaidLead (text.advanced from said) others to

  -- a line by its first word: what follows that, and that it is read back
  pub record IsReadBack (said : L) : Type 0 where
    pub others : List (List ℕ)
    pub words : spelling.words_of said ≡ text.spelled (first_of said) ∷ others
    pub read : line_after text (first_of said) others ≡ Ok said
    pub printable : AllByRecursion IsPrintable others

  -- where the last line may come
  abbrev pub MayEnd : L → P → Type 0
  MayEnd last read = text.admits (text.section read) (first_of last) ≡ true

  -- the laws of a text that is spelled so
  pub record SpellingLaws : Type 0 where
    pub first : (first : K) → IsFirstWord text first
    pub said : (first : K) (others : List (List ℕ)) (said : L) → line_after text first others ≡ Ok said → Spell spelling said (text.spelled first ∷ others)
    pub back : (said : L) → spelling.IsSpelled said → IsReadBack said
    pub blank_words : spelling.words_of text.blank ≡ []
    pub blank_stays : (read : P) → text.advanced read text.blank ≡ read
    pub blank_goes : text.is_last text.blank ≡ false
    pub last : L
    pub is_last : text.is_last last ≡ true
    pub only_last : (said : L) → text.is_last said ≡ true → said ≡ last
    pub last_words : spelling.words_of last ≡ spelling.end_words
    pub last_spelled : spelling.IsSpelled last
    pub header : (section : S) (line : List (List ℕ)) → text.opens section ≡ true → text.IsHeader line → (said : L) × (line ≡ spelling.words_of said) × Comes section said
    pub lines_of : V → List L
    pub value_words : (value : V) → spelling.value_words value ≡ map spelling.words_of (lines_of value) ++ spelling.end_words ∷ []
    pub told : (value : V) → spelling.IsSpelledValue value → (read : P) × SaidLead text.initial (lines_of value) read × MayEnd last read × (text.value (text.advanced read last) ≡ value)
    pub kept : (said : List L) (read : P) → SaidLead text.initial said read → MayEnd last read
        → (said ≡ lines_of (text.value (text.advanced read last))) × spelling.IsSpelledValue (text.value (text.advanced read last))
    pub can_end : (read : P) → (said : List L) × (to : P) × SaidLead read said to × MayEnd last to

  -- ---- what holds along lines
  module _ (Holds : List L → P → Type 0) (step : (before : List L) (read : P) (said : L) → Holds before read → Comes (text.section read) said → Holds (before ++ said ∷ []) (text.advanced read said)) where
    pub along : (said before : List L) (from to : P) → Holds before from → SaidLead from said to → Holds (before ++ said) to
    along [] before from to holds leads =
        subst (λ (ls : List L). Holds ls to) (sym (append-nil before)) (subst (Holds before) leads holds)
    along (next ∷ said) before from to holds leads =
        subst (λ (ls : List L). Holds ls to) (append_assoc before (next ∷ []) said) (along said (before ++ next ∷ []) (text.advanced from next) to (step before from next holds leads.0) leads.1)

  pub said_lead_on : (first second : List L) (from by to : P) → SaidLead from first by → SaidLead by second to → SaidLead from (first ++ second) to
  said_lead_on [] second from by to leads on = subst (λ (p : P). SaidLead p second to) (sym leads) on
  said_lead_on (said ∷ first) second from by to leads on = (leads.0, said_lead_on first second (text.advanced from said) by to leads.1 on)

  pub all_spelled : (said : List L) (from to : P) → SaidLead from said to → AllByRecursion spelling.IsSpelled said
  all_spelled [] from to leads = tt
  all_spelled (next ∷ said) from to leads = (leads.0.spelled, all_spelled said (text.advanced from next) to leads.1)

  -- lines of one kind, one after another, each longer by one
  module _ {A : Type 0} (say : A → L) (goes : List A → P) (Q : A → Type 0) (moves : (before : List A) (x : A) → text.advanced (goes before) (say x) ≡ goes (before ++ x ∷ []))
      (comes : (before : List A) (x : A) → Q x → Comes (text.section (goes before)) (say x)) where
    pub lead_each : (before xs : List A) → AllByRecursion Q xs → SaidLead (goes before) (map say xs) (goes (before ++ xs))
    lead_each before [] spelled = ap goes (sym (append-nil before))
    lead_each before (x ∷ xs) spelled =
        let all : before ++ x ∷ [] ++ xs ≡ before ++ x ∷ xs = append_assoc before (x ∷ []) xs in
        let rest : SaidLead (goes (before ++ x ∷ [])) (map say xs) (goes (before ++ x ∷ xs)) = subst (λ (ys : List A). SaidLead (goes (before ++ x ∷ [])) (map say xs) (goes ys)) all (lead_each (before ++ x ∷ []) xs spelled.1) in
        (comes before x spelled.0, subst (λ (p : P). SaidLead p (map say xs) (goes (before ++ x ∷ xs))) (sym (moves before x)) rest)

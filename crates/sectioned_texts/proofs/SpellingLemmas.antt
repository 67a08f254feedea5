-- A text that is spelled in one way is lawful, and a printed value is read back.
use Rattle.std.proofs.Common.{◌≡◌, ◌⊎◌, ℕ, Bool, true, false, cond, List, [], ◌∷◌, ◌++◌, map, Ok, refl, sym, ap, ◌∙◌, subst, append_assoc, inl, inr}
use Rattle.std.specs.List.{AllByRecursion}
use Rattle.std.proofs.lemmas.List.{map-append, append_cancel_right}
use Rattle.texts.specs.Words.{are_passed_over, words}
use Rattle.texts.specs.Lines.{lines}
use Rattle.texts.specs.PrintedLines.{joined, printed}
use Rattle.texts.proofs.PrintedLineLemmas.{IsPrintableLine, words-joined, lines-printed}
use Rattle.sectioned_texts.specs.SectionedTexts.{SectionedText, IsLineIn, passed_over, begins, Lead, IsPrefixOf, CanBecomeText}
use Rattle.sectioned_texts.specs.Reading.{line_after}
use Rattle.sectioned_texts.specs.Spellings.{Spelling, HasWords, Spell, DeclareSpelled, filled_words}
use Rattle.sectioned_texts.specs.LawfulTexts.{IsLawful, IsEndedBy}
use Rattle.sectioned_texts.proofs.LineLemmas.{one_word}
use Rattle.sectioned_texts.proofs.ReadingLemmas.{lead_on}
use Rattle.sectioned_texts.proofs.SpelledTexts.{SaidLead, SpellingLaws, all_spelled}

-- the lines of two texts that are not blank
filled_by : (blank : Bool) (line : List (List ℕ)) (xs ys : List (List (List ℕ))) → cond blank (xs ++ ys) (line ∷ (xs ++ ys)) ≡ cond blank xs (line ∷ xs) ++ ys
filled_by true line xs ys = refl
filled_by false line xs ys = refl

filled-append : (xs ys : List (List ℕ)) → filled_words (xs ++ ys) ≡ filled_words xs ++ filled_words ys
filled-append [] ys = refl
filled-append (line ∷ xs) ys =
    ap (λ (rest : List (List (List ℕ))). cond (are_passed_over (words line)) rest (words line ∷ rest)) (filled-append xs ys) ∙ filled_by (are_passed_over (words line)) (words line) (filled_words xs) (filled_words ys)

filled_line : (line : List ℕ) (said : List (List ℕ)) → are_passed_over (words line) ≡ false → words line ≡ said → filled_words (line ∷ []) ≡ said ∷ []
filled_line line said filled is = rw filled (ap (λ (w : List (List ℕ)). w ∷ []) is)

head_is : {A : Type 0} (x y : A) (xs ys : List A) → x ∷ xs ≡ y ∷ ys → x ≡ y
head_is x y xs ys same = cc

tail_is : {A : Type 0} (x y : A) (xs ys : List A) → x ∷ xs ≡ y ∷ ys → xs ≡ ys
tail_is x y xs ys same = cc

nothing_said : {L : Type 0} (words_of : L → List (List ℕ)) (said : List L) → [] ≡ map words_of said → said ≡ []
nothing_said words_of [] none = refl
nothing_said words_of (next ∷ said) none = absurd (cc)

-- the words that a line has
has_words : (own : List (List ℕ)) (Spelled : Type 0) (first : List ℕ) (others line : List (List ℕ)) → own ≡ first ∷ others → line ≡ own → Spelled → HasWords own Spelled line
has_words own Spelled first others line is same spelled =
    subst (λ (ws : List (List ℕ)). HasWords ws Spelled line) (sym is) (same ∙ is, spelled)

these_words : (own : List (List ℕ)) (Spelled : Type 0) (line : List (List ℕ)) → are_passed_over line ≡ false → HasWords own Spelled line → (line ≡ own) × Spelled
these_words [] Spelled line filled has = absurd (let wrong : true ≡ false = sym has ∙ filled in cc)
these_words (first ∷ others) Spelled line filled has = has

module _ {S K L P V : Type 0} (given : SectionedText S K L P V) (spelling : Spelling L V) (first_of : L → K) (laws : SpellingLaws given spelling first_of) where
  -- the text that is spelled so
  abbrev text : SectionedText S K L P V
  text = record given { says = Spell spelling; declares = DeclareSpelled spelling }

  abbrev Words : Type 0
  Words = List (List ℕ)

  filled_said : (said : L) → spelling.IsSpelled said → are_passed_over (spelling.words_of said) ≡ false
  filled_said said spelled = let back = laws.back said spelled in ap are_passed_over back.words ∙ (laws.first (first_of said)).filled

  -- ---- a line in a section, and what it says
  in_section : (section : S) (said : L) (line : Words) → line ≡ spelling.words_of said → given.admits section (first_of said) ≡ true → spelling.IsSpelled said → IsLineIn text section said line
  in_section section said line same may spelled =
      let back = laws.back said spelled in
      begins (first_of said) back.others may (same ∙ back.words) (has_words (spelling.words_of said) (spelling.IsSpelled said) (given.spelled (first_of said)) back.others line back.words same spelled)

  -- a line that is not blank
  record IsFilled (section : S) (said : L) (line : Words) : Type 0 where
    filled : are_passed_over line ≡ false
    words : line ≡ spelling.words_of said
    may : given.admits section (first_of said) ≡ true
    spelled : spelling.IsSpelled said

  of_first : (section : S) (said : L) (line : Words) (first : K) (others : Words) → given.admits section first ≡ true → line ≡ given.spelled first ∷ others → Spell spelling said line
      → IsFilled section said line
  of_first section said line first others may same says =
      let filled : are_passed_over line ≡ false = ap are_passed_over same ∙ (laws.first first).filled in
      let (words, spelled) = these_words (spelling.words_of said) (spelling.IsSpelled said) line filled says in
      let (one, _) = one_word given (λ k. (laws.first k).found) line first (first_of said) others (laws.back said spelled).others same (words ∙ (laws.back said spelled).words) in
      record { filled = filled; words = words; may = subst (λ (k : K). given.admits section k ≡ true) one may; spelled = spelled }

  of_section : (section : S) (said : L) (line : Words) → IsLineIn text section said line → ((said ≡ given.blank) × (are_passed_over line ≡ true)) ⊎ IsFilled section said line
  of_section section said line (passed_over passed same) = inl (same, passed)
  of_section section said line (begins first others may same says) = inr (of_first section said line first others may same says)

  line_read : (first : K) (others : Words) (said : L) → Spell spelling said (given.spelled first ∷ others) → line_after given first others ≡ Ok said
  line_read first others said says =
      let (words, spelled) = these_words (spelling.words_of said) (spelling.IsSpelled said) (given.spelled first ∷ others) ((laws.first first).filled) says in
      let back = laws.back said spelled in
      let (one, rest) = one_word given (λ k. (laws.first k).found) (given.spelled first ∷ others) first (first_of said) others back.others refl (words ∙ back.words) in
      ap (λ (k : K). line_after given k others) one ∙ ap (line_after given (first_of said)) rest ∙ back.read

  -- ---- lines, and what those of them say that are not blank
  record HaveSaid (from : P) (prefix : List (List ℕ)) (to : P) : Type 0 where
    said : List L
    words : filled_words prefix ≡ map spelling.words_of said
    leads : SaidLead given spelling first_of from said to

  have_said : (prefix : List (List ℕ)) (from to : P) → Lead text from prefix to → HaveSaid from prefix to
  have_said [] from to leads = record { said = []; words = refl; leads = leads }
  have_said (line ∷ prefix) from to leads =
      let (next, comes, goes, on) = leads in
      let later = have_said prefix (given.advanced from next) to on in
      elim (of_section (given.section from) next (words line) comes) [
        | inl blank ↦
            let stays : given.advanced from next ≡ from = ap (given.advanced from) blank.0 ∙ laws.blank_stays from in
            record {
              said = later.said;
              words = rw blank.1 later.words;
              leads = subst (λ (p : P). SaidLead given spelling first_of p later.said to) stays later.leads;
            }
        | inr is ↦
            record {
              said = next ∷ later.said;
              words = rw is.filled (ap (λ (w : Words). w ∷ filled_words prefix) is.words ∙ ap (λ (ws : List Words). spelling.words_of next ∷ ws) later.words);
              leads = (record { may = is.may; goes = goes; spelled = is.spelled }, later.leads);
            }
      ]

  lead_by : (blank : Bool) (line : List ℕ) (prefix : List (List ℕ)) (from to : P) (said : List L) → are_passed_over (words line) ≡ blank
      → ((p : P) (later : List L) → filled_words prefix ≡ map spelling.words_of later → SaidLead given spelling first_of p later to → Lead text p prefix to)
      → cond blank (filled_words prefix) (words line ∷ filled_words prefix) ≡ map spelling.words_of said → SaidLead given spelling first_of from said to → Lead text from (line ∷ prefix) to
  lead_by true line prefix from to said blank later spelled leads =
      (given.blank, passed_over blank refl, laws.blank_goes, subst (λ (p : P). Lead text p prefix to) (sym (laws.blank_stays from)) (later from said spelled leads))
  lead_by false line prefix from to [] filled later spelled leads = absurd (cc)
  lead_by false line prefix from to (next ∷ said) filled later spelled leads = (
    next,
    in_section (given.section from) next (words line) (head_is _ _ _ _ spelled) leads.0.may leads.0.spelled,
    leads.0.goes,
    later (given.advanced from next) said (tail_is _ _ _ _ spelled) leads.1,
  )

  said_leads : (prefix : List (List ℕ)) (from to : P) (said : List L) → filled_words prefix ≡ map spelling.words_of said → SaidLead given spelling first_of from said to → Lead text from prefix to
  said_leads [] from to said spelled leads =
      subst (λ (ls : List L). SaidLead given spelling first_of from ls to) (nothing_said spelling.words_of said spelled) leads
  said_leads (line ∷ prefix) from to said spelled leads =
      lead_by (are_passed_over (words line)) line prefix from to said refl (λ p later spells on. said_leads prefix p to later spells on) spelled leads

  -- ---- values
  filled_last : (last : List ℕ) → words last ≡ spelling.end_words → filled_words (last ∷ []) ≡ spelling.end_words ∷ []
  filled_last last ends =
      filled_line last spelling.end_words (ap are_passed_over (ends ∙ sym laws.last_words) ∙ filled_said laws.last laws.last_spelled) ends

  ended : (all : List (List ℕ)) (value : V) (after : List (List ℕ)) → DeclareSpelled spelling all value after → IsEndedBy text all value after
  ended all value after d =
      let (read, leads, may, is) = laws.told value d.spelled in
      let own : List Words = map spelling.words_of (laws.lines_of value) in
      let whole : filled_words d.prefix ++ spelling.end_words ∷ [] ≡ own ++ spelling.end_words ∷ [] = ap (λ (ws : List Words). filled_words d.prefix ++ ws) (sym (filled_last d.last d.ends))
      ∙ sym (filled-append d.prefix (d.last ∷ [])) ∙ d.said ∙ laws.value_words value in
      record {
        prefix = d.prefix;
        last = d.last;
        read = read;
        said = laws.last;
        whole = d.whole;
        leads = said_leads d.prefix given.initial read (laws.lines_of value) (append_cancel_right (filled_words d.prefix) own (spelling.end_words ∷ []) whole) leads;
        comes = in_section (given.section read) laws.last (words d.last) (d.ends ∙ sym laws.last_words) may laws.last_spelled;
        ends = laws.is_last;
        value_is = is;
      }

  -- a line that says the last
  last_line : (section : S) (line : Words) → IsLineIn text section laws.last line → IsFilled section laws.last line
  last_line section line comes =
      elim (of_section section laws.last line comes) [
        | inl blank ↦ absurd (let wrong : true ≡ false = sym laws.is_last ∙ ap given.is_last blank.0 ∙ laws.blank_goes in cc)
        | inr is ↦ is
      ]

  declared_by : (prefix : List (List ℕ)) (last : List ℕ) (after : List (List ℕ)) (read : P) → IsPrefixOf text prefix read → IsFilled (given.section read) laws.last (words last)
      → DeclareSpelled spelling (prefix ++ last ∷ after) (given.value (given.advanced read laws.last)) after
  declared_by prefix last after read leads is =
      let have = have_said prefix given.initial read leads in
      let (same, spelled) = laws.kept have.said read have.leads is.may in
      let value : V = given.value (given.advanced read laws.last) in
      let ends : words last ≡ spelling.end_words = is.words ∙ laws.last_words in
      record {
        prefix = prefix;
        last = last;
        whole = refl;
        said = filled-append prefix (last ∷ []) ∙ ap (λ (ws : List Words). filled_words prefix ++ ws) (filled_last last ends)
            ∙ ap (λ (ws : List Words). ws ++ spelling.end_words ∷ []) (have.words ∙ ap (map spelling.words_of) same) ∙ sym (laws.value_words value);
        ends = ends;
        spelled = spelled;
      }

  declared : (all : List (List ℕ)) (value : V) (after : List (List ℕ)) → IsEndedBy text all value after → DeclareSpelled spelling all value after
  declared all value after e =
      let same : e.said ≡ laws.last = laws.only_last e.said e.ends in
      let comes : IsLineIn text (given.section e.read) laws.last (words e.last) = subst (λ (t : L). IsLineIn text (given.section e.read) t (words e.last)) same e.comes in
      let is : given.value (given.advanced e.read laws.last) ≡ value = ap (λ (t : L). given.value (given.advanced e.read t)) (sym same) ∙ e.value_is in
      subst (λ (v : V). DeclareSpelled spelling all v after) is
      (subst (λ (ls : List (List ℕ)). DeclareSpelled spelling ls (given.value (given.advanced e.read laws.last)) after) (sym e.whole)
      (declared_by e.prefix e.last after e.read e.leads (last_line (given.section e.read) (words e.last) comes)))

  -- ---- printed lines
  said_printable : (said : L) → spelling.IsSpelled said → IsPrintableLine (spelling.words_of said)
  said_printable said spelled =
      let back = laws.back said spelled in
      subst IsPrintableLine (sym back.words) ((laws.first (first_of said)).printable, back.printable)

  all_printable : (said : List L) → AllByRecursion spelling.IsSpelled said → AllByRecursion IsPrintableLine (map spelling.words_of said)
  all_printable [] spelled = tt
  all_printable (next ∷ said) spelled = ((said_printable next spelled.0), all_printable said spelled.1)

  filled_joined : (said : List L) → AllByRecursion spelling.IsSpelled said → filled_words (map joined (map spelling.words_of said)) ≡ map spelling.words_of said
  filled_joined [] spelled = refl
  filled_joined (next ∷ said) spelled =
      rw (words-joined (spelling.words_of next) (said_printable next spelled.0), filled_said next spelled.0)
      (ap (λ (ws : List Words). spelling.words_of next ∷ ws) (filled_joined said spelled.1))

  end_printable : IsPrintableLine spelling.end_words
  end_printable = subst IsPrintableLine laws.last_words (said_printable laws.last laws.last_spelled)

  end_line : List ℕ
  end_line = joined spelling.end_words

  end_said : words end_line ≡ spelling.end_words
  unfolding end_line
  end_said = words-joined spelling.end_words end_printable

  -- a prefix can be continued to a text
  continued : (prefix : List (List ℕ)) (read : P) → IsPrefixOf text prefix read → CanBecomeText text prefix
  continued prefix read leads =
      let (said, to, on, may) = laws.can_end read in
      let more : List (List ℕ) = map joined (map spelling.words_of said) in
      let longer : Lead text given.initial (prefix ++ more) to = lead_on text prefix more given.initial read to leads
      (said_leads more read to said (filled_joined said (all_spelled given spelling first_of said read to on)) on) in
      let value : V = given.value (given.advanced to laws.last) in
      let is : IsFilled (given.section to) laws.last (words end_line) = record {
        filled = ap are_passed_over (end_said ∙ sym laws.last_words) ∙ filled_said laws.last laws.last_spelled;
        words = end_said ∙ sym laws.last_words;
        may = may;
        spelled = laws.last_spelled;
      } in (
        more ++ end_line ∷ [],
        value,
        [],
        subst (λ (all : List (List ℕ)). DeclareSpelled spelling all value []) (append_assoc prefix more (end_line ∷ [])) (declared_by (prefix ++ more) end_line [] to longer is),
      )

  header_in : (section : S) (line : Words) → given.opens section ≡ true → given.IsHeader line → (said : L) × IsLineIn text section said line
  header_in section line opens header =
      let (said, same, comes) = laws.header section line opens header in
      (said, in_section section said line same comes.may comes.spelled)

  blank_says : (line : Words) → are_passed_over line ≡ true → Spell spelling given.blank line
  blank_says line passed = subst (λ (ws : Words). HasWords ws (spelling.IsSpelled given.blank) line) (sym laws.blank_words) passed

  -- a text that is spelled in one way is lawful
  pub spelled_lawful : IsLawful text
  spelled_lawful = record {
    lines = record {
      found = λ first. (laws.first first).found;
      filled = λ first. (laws.first first).filled;
      said = laws.said;
      read = line_read;
      blank = blank_says;
      header = header_in;
    };
    ended = ended;
    declared = declared;
    continued = continued;
  }

  with_end : (own : List Words) → AllByRecursion IsPrintableLine own → AllByRecursion IsPrintableLine (own ++ spelling.end_words ∷ [])
  with_end [] printable = (end_printable, tt)
  with_end (line ∷ own) printable = (printable.0, with_end own printable.1)

  joined_end : (own : List Words) → map joined (own ++ spelling.end_words ∷ []) ≡ map joined own ++ end_line ∷ []
  unfolding end_line
  joined_end own = map-append joined own (spelling.end_words ∷ [])

  -- a printed value declares it
  pub printed_declares : (value : V) → spelling.IsSpelledValue value → DeclareSpelled spelling (lines (printed (spelling.value_words value))) value []
  printed_declares value spelled =
      let (read, leads, may, is) = laws.told value spelled in
      let own : List Words = map spelling.words_of (laws.lines_of value) in
      let each = all_spelled given spelling first_of (laws.lines_of value) given.initial read leads in
      let all : lines (printed (spelling.value_words value)) ≡ map joined own ++ end_line ∷ [] = ap (λ (ws : List Words). lines (printed ws)) (laws.value_words value)
      ∙ lines-printed (own ++ spelling.end_words ∷ []) (with_end own (all_printable (laws.lines_of value) each)) ∙ joined_end own in
      record {
        prefix = map joined own;
        last = end_line;
        whole = all;
        said = filled-append (map joined own) (end_line ∷ []) ∙ ap (λ (ws : List Words). filled_words (map joined own) ++ ws) (filled_last end_line end_said)
            ∙ ap (λ (ws : List Words). ws ++ spelling.end_words ∷ []) (filled_joined (laws.lines_of value) each) ∙ sym (laws.value_words value);
        ends = end_said;
        spelled = spelled;
      }

-- Lines with their ends come if the input may have so many bytes.
use Rattle.std.proofs.Common.{◌≡◌, ℕ, ◌+◌, ◌-◌, ◌≤◌, List, [], ◌∷◌, ◌++◌, length, map, refl, sym, ap, ◌∙◌, subst, arith, append_assoc, inr}
use Rattle.std.specs.List.{AllByRecursion}
use Rattle.std.proofs.lemmas.List.{append-nil}
use Rattle.texts.specs.Lines.{InputLine, line_size, whole_line}
use Rattle.command_engine.specs.Grammars.{Grammar, Leads, ReadsBy}
use Rattle.command_engine.specs.Inputs.{ComeAfter, capacity_after, texts}
use Rattle.command_engine.specs.Pairs.{then_grammar}
use Rattle.command_engine.specs.Readers.{Reader}
use Rattle.command_engine.proofs.InputLemmas.{come_after, come_one_more, ends_by, texts_both}
use Rattle.command_engine.proofs.PathLemmas.{ComeFrom, come_leads}
use Rattle.multiplexed_commands.proofs.AloneLemmas.{comes_within, whole_comes}
use Rattle.stnu_run.proofs.ClosedTextLemmas.{total_both, total_size}

-- what an input may have after lines with their ends
pub left_over : (text : List (List ℕ)) (spare_capacity more : ℕ) → total_size text + more ≤ spare_capacity → more ≤ capacity_after spare_capacity (map whole_line text)
left_over [] spare_capacity more fits = omega (arith, fits)
left_over (line ∷ text) spare_capacity more fits = left_over text (spare_capacity - line_size (whole_line line)) more (omega (arith, fits))

-- ---- by a grammar
module _ {V F : Type 0} (grammar : Grammar V F) where
  -- lines that come come with their ends too
  pub come_whole : (text : List InputLine) (before : List (List ℕ)) (spare_capacity other : ℕ) → ComeAfter grammar before spare_capacity text → total_size (texts text) ≤ other → ComeAfter grammar before other (map whole_line (texts text))
  come_whole [] before spare_capacity other come fits = tt
  come_whole (line ∷ text) before spare_capacity other come fits =
      let within = comes_within come.0 spare_capacity line come.2 in (
        come.0,
        come.1,
        whole_comes come.0 other line.text within.0 (omega (arith, fits)),
        come_whole text (before ++ line.text ∷ []) (spare_capacity - line_size line) (other - line_size (whole_line line.text)) come.3 (omega (arith, fits)),
      )

  -- lines come, and then others
  pub come_both : (first second : List InputLine) (before : List (List ℕ)) (spare_capacity : ℕ) → ComeAfter grammar before spare_capacity first → ComeAfter grammar (before ++ texts first) (capacity_after spare_capacity first) second
      → ComeAfter grammar before spare_capacity (first ++ second)
  come_both [] second before spare_capacity one other = subst (λ (ls : List (List ℕ)). ComeAfter grammar ls spare_capacity second) (append-nil before) other
  come_both (line ∷ first) second before spare_capacity one other = (
    one.0,
    one.1,
    one.2,
    come_both first second (before ++ line.text ∷ []) (spare_capacity - line_size line) one.3
        (subst (λ (ls : List (List ℕ)). ComeAfter grammar ls (capacity_after spare_capacity (line ∷ first)) second) (sym (append_assoc before (line.text ∷ []) (texts first))) other),
  )

-- by a grammar that wants all lines that another wants
pub come_by : {V W F : Type 0} (one : Grammar V F) (other : Grammar W F) → ((seen : List (List ℕ)) (longest : ℕ) → one.longest seen longest → other.longest seen longest)
    → (text : List InputLine) (before : List (List ℕ)) (spare_capacity : ℕ) → ComeAfter one before spare_capacity text → ComeAfter other before spare_capacity text
come_by one other wants [] before spare_capacity come = tt
come_by one other wants (line ∷ text) before spare_capacity come =
    (come.0, wants before come.0 come.1, come.2, come_by one other wants text (before ++ line.text ∷ []) (spare_capacity - line_size line) come.3)

-- the lines of a second text, after the first
pub come_second : {V W F : Type 0} (one : Grammar V F) (two : ℕ → Grammar W F) (past : ℕ) (first : List (List ℕ)) (value : V) → ((rest : List (List ℕ)) → one.declares (first ++ rest) value rest)
    → (text : List InputLine) (seen : List (List ℕ)) (spare_capacity : ℕ) → ComeAfter (two (past + length first)) seen spare_capacity text → ComeAfter (then_grammar one two past) (first ++ seen) spare_capacity text
come_second one two past first value declares [] seen spare_capacity come = tt
come_second one two past first value declares (line ∷ text) seen spare_capacity come = (
  come.0,
  inr (value, record { text = first; rest = seen; whole = refl; declared = declares seen }, come.1),
  come.2,
  subst (λ (ls : List (List ℕ)). ComeAfter (then_grammar one two past) ls (spare_capacity - line_size line) text) (sym (append_assoc first seen (line.text ∷ [])))
      (come_second one two past first value declares text (seen ++ line.text ∷ []) (spare_capacity - line_size line) come.3),
)

-- ---- by a reader
module _ {S V F : Type 0} (reader : Reader S V F) where
  come_leading : (most : ℕ) → ((state : S) → reader.longest state ≡ most) → (text : List (List ℕ)) (from : S) (past spare_capacity : ℕ) (to : S) → Leads reader from past text to → AllByRecursion (λ line. length line ≤ most) text
      → total_size text ≤ spare_capacity → ComeFrom reader from past spare_capacity (map whole_line text) to
  come_leading most fixed [] from past spare_capacity to leads short fits = leads
  come_leading most fixed (line ∷ text) from past spare_capacity to leads short fits =
      let longest = fixed from in (
        leads.0,
        whole_comes (reader.longest from) spare_capacity line (omega (arith, longest, short.0)) (omega (arith, fits)),
        leads.1,
        come_leading most fixed text leads.0 (past + 1) (spare_capacity - line_size (whole_line line)) to leads.2 short.1 (omega (arith, fits)),
      )

  module _ (start : S) (grammar : Grammar V F) (by : ReadsBy reader start 0 grammar) where
    -- what follows a text decides nothing of it
    pub declares_first : (used rest : List InputLine) (value : V) → grammar.declares (texts (used ++ rest)) value (texts rest) → (others : List (List ℕ)) → grammar.declares (texts used ++ others) value others
    declares_first used rest value declared others =
        let read = (by.declares (texts (used ++ rest)) value (texts rest)).0 declared in
        let ends = ends_by used (texts rest) read.prefix read.last (sym (texts_both used rest) ∙ read.whole) in
        let text : texts used ≡ read.prefix ++ read.last ∷ [] =
        ap (λ (ls : List InputLine). texts ls) ends.2 ∙ (texts_both ends.0 (ends.1 ∷ []) ∙ (ap (λ (ls : List (List ℕ)). ls ++ ends.1.text ∷ []) ends.3 ∙ ap (λ (l : List ℕ). read.prefix ++ l ∷ []) ends.4)) in
        (by.declares (texts used ++ others) value others).1 (record {
          prefix = read.prefix;
          last = read.last;
          state = read.state;
          whole = ap (λ (ls : List (List ℕ)). ls ++ others) text ∙ append_assoc read.prefix (read.last ∷ []) others;
          leads = read.leads;
          gives = read.gives;
        })

    -- short lines that declare a value come, if the input may have so many bytes
    pub come_text : (most : ℕ) → ((state : S) → reader.longest state ≡ most) → (all : List (List ℕ)) (value : V) (rest : List (List ℕ)) (spare_capacity : ℕ) → grammar.declares all value rest → AllByRecursion (λ line. length line ≤ most) all
        → total_size all ≤ spare_capacity → (text : List (List ℕ)) × (all ≡ text ++ rest) × ComeAfter grammar [] spare_capacity (map whole_line text)
    come_text most fixed all value rest spare_capacity declared short fits =
        let read = (by.declares all value rest).0 declared in
        let text : List (List ℕ) = read.prefix ++ read.last ∷ [] in
        let split : all ≡ (read.prefix ++ read.last ∷ []) ++ rest = read.whole ∙ sym (append_assoc read.prefix (read.last ∷ []) rest) in
        let sized : total_size all ≡ total_size read.prefix + total_size (read.last ∷ rest) = ap (λ (ls : List (List ℕ)). total_size ls) read.whole ∙ total_both read.prefix (read.last ∷ rest) in
        let parts = subst (λ (ls : List (List ℕ)). AllByRecursion (λ line. length line ≤ most) ls) read.whole short in
        let before = first_all read.prefix (read.last ∷ rest) parts in
        let come = come_leading most fixed read.prefix start 0 spare_capacity read.state read.leads before (omega (arith, sized, fits)) in
        let after = come_after reader start grammar by (map whole_line read.prefix) [] start 0 spare_capacity read.state refl refl come in
        let wanted = (by.longest (texts (map whole_line read.prefix)) (reader.longest read.state)).1 (read.state, come_leads reader (map whole_line read.prefix) start 0 spare_capacity read.state come, refl) in
        let longest = fixed read.state in
        let last_short = (last_all read.prefix (read.last ∷ rest) parts).0 in
        let spare = left_over read.prefix spare_capacity (length read.last + 1) (omega (arith, sized, fits)) in
        let comes = whole_comes (reader.longest read.state) (capacity_after spare_capacity (map whole_line read.prefix)) read.last (omega (arith, longest, last_short)) (omega (arith, spare)) in
        let pushed : map whole_line (read.prefix ++ read.last ∷ []) ≡ map whole_line read.prefix ++ whole_line read.last ∷ [] = map_push read.prefix read.last in (
          text,
          split,
          subst (λ (ls : List InputLine). ComeAfter grammar [] spare_capacity ls) (sym pushed)
              (come_one_more reader start grammar by (map whole_line read.prefix) (whole_line read.last) [] spare_capacity (reader.longest read.state) after wanted comes),
        )
      where
        first_all : (one other : List (List ℕ)) → AllByRecursion (λ line. length line ≤ most) (one ++ other) → AllByRecursion (λ line. length line ≤ most) one
        first_all [] other all_short = tt
        first_all (line ∷ one) other all_short = (all_short.0, first_all one other all_short.1)

        last_all : (one other : List (List ℕ)) → AllByRecursion (λ line. length line ≤ most) (one ++ other) → AllByRecursion (λ line. length line ≤ most) other
        last_all [] other all_short = all_short
        last_all (line ∷ one) other all_short = last_all one other all_short.1

        map_push : (one : List (List ℕ)) (line : List ℕ) → map whole_line (one ++ line ∷ []) ≡ map whole_line one ++ whole_line line ∷ []
        map_push [] line = refl
        map_push (first ∷ one) line = ap (λ (ls : List InputLine). whole_line first ∷ ls) (map_push one line)

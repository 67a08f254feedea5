-- Lines that lead a reader from a state to another.
use Rattle.std.proofs.Common.{◌≡◌, ℕ, ◌+◌, List, [], ◌∷◌, ◌++◌, length, refl, sym, ap, ◌∙◌, subst, arith, append_assoc}
use Rattle.std.proofs.lemmas.List.{append-nil, length-append}
use Rattle.command_engine.specs.Grammars.{Leads, ReadsText, number_after}
use Rattle.command_engine.specs.Readers.{Reader}
use Rattle.command_engine.specs.declared.line_texts.Parse.{Parse}
use Rattle.command_engine.specs.declared.line_texts.Parse.TheVariants.{Continue, Parsed, Refused}

module _ {S V F : Type 0} (reader : Reader S V F) where
  -- more lines lead on
  pub leads_on : (from between to : S) (past : ℕ) (prefix back : List (List ℕ)) → Leads reader from past prefix between → Leads reader between (past + length prefix) back to → Leads reader from past (prefix ++ back) to
  leads_on from between to past [] back one other =
      subst (λ (s : S). Leads reader s past back to) (sym one) (let none : past + 0 ≡ past = omega arith in subst (λ (n : ℕ). Leads reader between n back to) none other)
  leads_on from between to past (line ∷ prefix) back one other =
      let count : past + length (line ∷ prefix) ≡ past + 1 + length prefix = omega arith in
      (one.0, one.1, leads_on one.0 between to (past + 1) prefix back one.2 (subst (λ (n : ℕ). Leads reader between n back to) count other))

  -- one line more leads on
  pub leads_next : (from between to : S) (past : ℕ) (prefix : List (List ℕ)) (line : List ℕ) → Leads reader from past prefix between → reader.reads between (number_after past prefix) line ≡ Continue to
      → Leads reader from past (prefix ++ line ∷ []) to
  leads_next from between to past prefix line leads reads = leads_on from between to past prefix (line ∷ []) leads (to, reads, refl)

  -- each line that leads on keeps it
  abbrev pub StaysOn : (List (List ℕ) → S → Type 0) → ℕ → Type 0
  StaysOn Stands past = (lines : List (List ℕ)) (from to : S) (next : List ℕ) → Stands lines from → reader.reads from (number_after past lines) next ≡ Continue to → Stands (lines ++ next ∷ []) to

  -- what each line that leads on keeps, several lines that lead on keep
  stands_from : (Stands : List (List ℕ) → S → Type 0) (past : ℕ) → StaysOn Stands past
      → (others lines : List (List ℕ)) (from to : S) (count : ℕ) → count ≡ past + length lines → Stands lines from → Leads reader from count others to → Stands (lines ++ others) to
  stands_from Stands past step [] lines from to count at stands leads = subst (λ (ls : List (List ℕ)). Stands ls to) (sym (append-nil lines)) (subst (Stands lines) leads stands)
  stands_from Stands past step (next ∷ others) lines from to count at stands leads =
      let number : count + 1 ≡ number_after past lines = omega (arith, at) in
      let on = step lines from leads.0 next stands (subst (λ (n : ℕ). reader.reads from n next ≡ Continue leads.0) number leads.1) in
      let long = length-append lines (next ∷ []) in
      subst (λ (ls : List (List ℕ)). Stands ls to) (append_assoc lines (next ∷ []) others) (stands_from Stands past step others (lines ++ next ∷ []) leads.0 to (count + 1) (omega (arith, at, long)) on leads.2)

  pub stands_by : (start : S) (past : ℕ) (Stands : List (List ℕ) → S → Type 0) → Stands [] start → StaysOn Stands past
      → (lines : List (List ℕ)) (state : S) → Leads reader start past lines state → Stands lines state
  stands_by start past Stands begins step lines state leads = stands_from Stands past step lines [] start state past (let none : past ≡ past + 0 = omega arith in none) begins leads

  -- lines lead to one state
  pub leads_one : (from a b : S) (past : ℕ) (lines : List (List ℕ)) → Leads reader from past lines a → Leads reader from past lines b → a ≡ b
  leads_one from a b past [] one other = sym one ∙ other
  leads_one from a b past (line ∷ lines) one other =
      let same : one.0 ≡ other.0 = (let x = one.1 in let y = other.1 in cc) in
      leads_one other.0 a b (past + 1) lines (subst (λ (s : S). Leads reader s (past + 1) lines a) same one.2) other.2

  -- the lines that lead on from a state: all of them, or those before one that gives the value of the text or is refused
  pub data Route (from : S) (past : ℕ) (lines : List (List ℕ)) : Type 0 where
    goes_on : (to : S) → Leads reader from past lines to → Route from past lines
    gives_value : (prefix : List (List ℕ)) (line : List ℕ) (others : List (List ℕ)) (to : S) (value : V) → lines ≡ prefix ++ line ∷ others → Leads reader from past prefix to → reader.reads to (number_after past prefix) line ≡ Parsed value
        → Route from past lines
    is_refused : (prefix : List (List ℕ)) (line : List ℕ) (others : List (List ℕ)) (to : S) (fault : F) → lines ≡ prefix ++ line ∷ others → Leads reader from past prefix to → reader.reads to (number_after past prefix) line ≡ Refused fault
        → Route from past lines

  -- the number of the line after one more
  later : (past : ℕ) (line : List ℕ) (prefix : List (List ℕ)) → number_after (past + 1) prefix ≡ number_after past (line ∷ prefix)
  later past line prefix = omega arith

  first_number : (past : ℕ) → past + 1 ≡ number_after past []
  first_number past = omega arith

  route_goes_on : (from next : S) (past : ℕ) (line : List ℕ) (lines : List (List ℕ)) → reader.reads from (past + 1) line ≡ Continue next → Route next (past + 1) lines → Route from past (line ∷ lines)
  route_goes_on from next past line lines reads (goes_on to leads) = goes_on to (next, reads, leads)
  route_goes_on from next past line lines reads (gives_value prefix last others to value whole leads gives) =
      gives_value (line ∷ prefix) last others to value (ap (λ (ls : List (List ℕ)). line ∷ ls) whole) (next, reads, leads) (subst (λ (n : ℕ). reader.reads to n last ≡ Parsed value) (later past line prefix) gives)
  route_goes_on from next past line lines reads (is_refused prefix last others to fault whole leads refuses) =
      is_refused (line ∷ prefix) last others to fault (ap (λ (ls : List (List ℕ)). line ∷ ls) whole) (next, reads, leads) (subst (λ (n : ℕ). reader.reads to n last ≡ Refused fault) (later past line prefix) refuses)

  leads_by : (from : S) (past : ℕ) (line : List ℕ) (lines : List (List ℕ)) (step : Parse S V F) → reader.reads from (past + 1) line ≡ step → ((next : S) → Route next (past + 1) lines) → Route from past (line ∷ lines)
  leads_by from past line lines (Continue next) reads more = route_goes_on from next past line lines reads (more next)
  leads_by from past line lines (Parsed value) reads more = gives_value [] line lines from value refl refl (subst (λ (n : ℕ). reader.reads from n line ≡ Parsed value) (first_number past) reads)
  leads_by from past line lines (Refused fault) reads more = is_refused [] line lines from fault refl refl (subst (λ (n : ℕ). reader.reads from n line ≡ Refused fault) (first_number past) reads)

  pub route : (lines : List (List ℕ)) (from : S) (past : ℕ) → Route from past lines
  route [] from past = goes_on from refl
  route (line ∷ lines) from past = leads_by from past line lines (reader.reads from (past + 1) line) refl (λ next. route lines next (past + 1))

  -- lines read on from a text of which one line was read
  on_from : (from next : S) (past : ℕ) (line : List ℕ) (lines : List (List ℕ)) (value : V) (rest : List (List ℕ)) → reader.reads from (past + 1) line ≡ Continue next → (text : ReadsText reader from past (line ∷ lines) value rest)
      → ReadsText reader next (past + 1) lines value rest
  on_from from next past line lines value rest reads text = by text.prefix text.last text.state text.whole text.leads text.gives
    where
      by : (prefix : List (List ℕ)) (last : List ℕ) (state : S) → line ∷ lines ≡ prefix ++ last ∷ rest → Leads reader from past prefix state → reader.reads state (number_after past prefix) last ≡ Parsed value
          → ReadsText reader next (past + 1) lines value rest
      by [] last state whole leads gives =
          let head : last ≡ line = cc in
          let there : state ≡ from = sym leads in
          let first : reader.reads from (past + 1) line ≡ Parsed value = subst (λ (s : S). reader.reads s (past + 1) line ≡ Parsed value) there
          (subst (λ (l : List ℕ). reader.reads state (past + 1) l ≡ Parsed value) head (subst (λ (n : ℕ). reader.reads state n last ≡ Parsed value) (sym (first_number past)) gives)) in
          absurd (cc)
      by (other ∷ prefix) last state whole leads gives =
          let head : other ≡ line = cc in
          let tail : lines ≡ prefix ++ last ∷ rest = cc in
          let read : reader.reads from (past + 1) line ≡ Continue leads.0 = subst (λ (l : List ℕ). reader.reads from (past + 1) l ≡ Continue leads.0) head leads.1 in
          let same : leads.0 ≡ next = cc in
          record {
            prefix = prefix;
            last = last;
            state = state;
            whole = tail;
            leads = subst (λ (s : S). Leads reader s (past + 1) prefix state) same leads.2;
            gives = subst (λ (n : ℕ). reader.reads state n last ≡ Parsed value) (sym (later past other prefix)) gives;
          }

  -- lines that lead on are no text
  pub leads_no_text : (lines : List (List ℕ)) (from to : S) (past : ℕ) (value : V) (rest : List (List ℕ)) → Leads reader from past lines to → ReadsText reader from past lines value rest → ⊥
  leads_no_text [] from to past value rest leads text = none text.prefix text.whole
    where
      none : (prefix : List (List ℕ)) → [] ≡ prefix ++ text.last ∷ rest → ⊥
      none [] whole = absurd (cc)
      none (line ∷ prefix) whole = absurd (cc)
  leads_no_text (line ∷ lines) from to past value rest leads text =
      leads_no_text lines leads.0 to (past + 1) value rest leads.2 (on_from from leads.0 past line lines value rest leads.1 text)

  -- the lines of a text give one value, and one rest
  pub text_one : (prefix : List (List ℕ)) (from state : S) (past : ℕ) (last : List ℕ) (rest : List (List ℕ)) (value other : V) (after : List (List ℕ)) → Leads reader from past prefix state
      → reader.reads state (number_after past prefix) last ≡ Parsed value
      → ReadsText reader from past (prefix ++ last ∷ rest) other after → (value ≡ other) × (rest ≡ after)
  text_one [] from state past last rest value other after leads gives text = by text.prefix text.last text.state text.whole text.leads text.gives
    where
      first : reader.reads from (past + 1) last ≡ Parsed value
      first = subst (λ (s : S). reader.reads s (past + 1) last ≡ Parsed value) (sym leads) (subst (λ (n : ℕ). reader.reads state n last ≡ Parsed value) (sym (first_number past)) gives)

      by : (prefix : List (List ℕ)) (line : List ℕ) (there : S) → last ∷ rest ≡ prefix ++ line ∷ after → Leads reader from past prefix there → reader.reads there (number_after past prefix) line ≡ Parsed other
          → (value ≡ other) × (rest ≡ after)
      by [] line there whole on also =
          let head : line ≡ last = cc in
          let tail : rest ≡ after = cc in
          let second : reader.reads from (past + 1) last ≡ Parsed other = subst (λ (s : S). reader.reads s (past + 1) last ≡ Parsed other) (sym on)
          (subst (λ (l : List ℕ). reader.reads there (past + 1) l ≡ Parsed other) head (subst (λ (n : ℕ). reader.reads there n line ≡ Parsed other) (sym (first_number past)) also)) in
          let one = first in
          (cc, tail)
      by (line ∷ prefix) last_line there whole on also =
          let head : line ≡ last = cc in
          let read : reader.reads from (past + 1) last ≡ Continue on.0 = subst (λ (l : List ℕ). reader.reads from (past + 1) l ≡ Continue on.0) head on.1 in
          let one = first in
          absurd (cc)
  text_one (line ∷ prefix) from state past last rest value other after leads gives text =
      text_one prefix leads.0 state (past + 1) last rest value other after leads.2 (subst (λ (n : ℕ). reader.reads state n last ≡ Parsed value) (sym (later past line prefix)) gives)
      (on_from from leads.0 past line (prefix ++ last ∷ rest) other after leads.1 text)

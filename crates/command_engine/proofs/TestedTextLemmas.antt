-- A text with a test of its value is read by the grammar of the text with that test.
use Rattle.std.proofs.Common.{◌≡◌, ℕ, ◌+◌, List, [], ◌∷◌, ◌++◌, length, refl, sym, ap, ◌∙◌, subst, arith, inl, inr, ◌⊎◌, append_assoc, Result, Ok, Err}
use Rattle.std.proofs.lemmas.List.{length-append}
use Rattle.command_engine.specs.Grammars.{Grammar, Next, Line, NoLine, Leads, FaultOf, ReadsText, ReadsBy, language, number_after}
use Rattle.command_engine.specs.TestedTexts.{step_by, step_tested, tested_reader, PassesTest, FailsTest, tested_grammar}
use Rattle.command_engine.specs.Readers.{Reader}
use Rattle.command_engine.specs.declared.machines.Stop.{Stop}
use Rattle.command_engine.specs.declared.line_texts.Parse.{Parse}
use Rattle.command_engine.specs.declared.line_texts.Parse.TheVariants.{Continue, Parsed, Refused}
use Rattle.command_engine.specs.declared.tested_texts.Tested.{Tested}

module _ {S Q V W F : Type 0} (reader : Reader S V F) (tests : Q → V → ℕ → Result W F) (test : Q) where
  abbrev outer : Reader (Tested S Q) W F
  outer = tested_reader reader tests

  abbrev with_test : S → Tested S Q
  with_test state = record { text = state; test = test }

  -- ---- one step
  by_goes : (made : Result W F) (to : Tested S Q) → ◌≡◌ {A = Parse (Tested S Q) W F} (step_by reader tests made) (Continue to) → ⊥
  by_goes (Ok other) to is = absurd (cc)
  by_goes (Err fault) to is = absurd (cc)

  by_gives : (made : Result W F) (other : W) → ◌≡◌ {A = Parse (Tested S Q) W F} (step_by reader tests made) (Parsed other) → made ≡ Ok other
  by_gives (Ok one) other is = let same : one ≡ other = cc in ap Ok same
  by_gives (Err fault) other is = absurd (cc)

  by_refused : (made : Result W F) (fault : F) → ◌≡◌ {A = Parse (Tested S Q) W F} (step_by reader tests made) (Refused fault) → made ≡ Err fault
  by_refused (Ok one) fault is = absurd (cc)
  by_refused (Err one) fault is = let same : one ≡ fault = cc in ap Err same

  goes_in : (number : ℕ) (step : Parse S V F) (to : Tested S Q) → step_tested reader tests test number step ≡ Continue to → (next : S) × (step ≡ Continue next) × (to ≡ with_test next)
  goes_in number (Continue next) to is = (next, refl, (let same : to ≡ with_test next = cc in same))
  goes_in number (Parsed value) to is = absurd (by_goes (tests test value number) to is)
  goes_in number (Refused fault) to is = absurd (cc)

  gives_in : (number : ℕ) (step : Parse S V F) (other : W) → step_tested reader tests test number step ≡ Parsed other → (value : V) × (step ≡ Parsed value) × (tests test value number ≡ Ok other)
  gives_in number (Continue next) other is = absurd (cc)
  gives_in number (Parsed value) other is = (value, refl, by_gives (tests test value number) other is)
  gives_in number (Refused fault) other is = absurd (cc)

  refused_in : (number : ℕ) (step : Parse S V F) (fault : F) → step_tested reader tests test number step ≡ Refused fault → (step ≡ Refused fault) ⊎ ((value : V) × (step ≡ Parsed value) × (tests test value number ≡ Err fault))
  refused_in number (Continue next) fault is = absurd (cc)
  refused_in number (Parsed value) fault is = inr (value, refl, by_refused (tests test value number) fault is)
  refused_in number (Refused other) fault is = let same : other ≡ fault = cc in inl (ap Refused same)

  -- ---- lines
  leads_out : (from to : S) (past : ℕ) (lines : List (List ℕ)) → Leads reader from past lines to → Leads outer (with_test from) past lines (with_test to)
  leads_out from to past [] leads = ap with_test leads
  leads_out from to past (line ∷ lines) leads =
      (with_test leads.0, ap (step_tested reader tests test (past + 1)) leads.1, leads_out leads.0 to (past + 1) lines leads.2)

  leads_in : (from : S) (past : ℕ) (lines : List (List ℕ)) (to : Tested S Q) → Leads outer (with_test from) past lines to → (state : S) × (to ≡ with_test state) × Leads reader from past lines state
  leads_in from past [] to leads = (from, sym leads, refl)
  leads_in from past (line ∷ lines) to leads =
      let goes = goes_in (past + 1) (reader.reads from (past + 1) line) leads.0 leads.1 in
      let on = leads_in goes.0 (past + 1) lines to (subst (λ (s : Tested S Q). Leads outer s (past + 1) lines to) goes.2 leads.2) in
      (on.0, on.1, (goes.0, goes.1, on.2))

  -- ---- the number of the line that ends the text
  number_of_last : (past : ℕ) (lines text rest prefix : List (List ℕ)) (last : List ℕ) → lines ≡ text ++ rest → lines ≡ prefix ++ last ∷ rest → past + length text ≡ number_after past prefix
  number_of_last past lines text rest prefix last whole divided =
      let one : length lines ≡ length text + length rest = ap length whole ∙ length-append text rest in
      let two : length lines ≡ length prefix + length (last ∷ rest) = ap length divided ∙ length-append prefix (last ∷ rest) in
      omega (arith, one, two)

  -- if two lists with one more item at the end are the same, the lists are, and the items
  same_prefix : (prefix other : List (List ℕ)) (last line : List ℕ) → prefix ++ last ∷ [] ≡ other ++ line ∷ [] → (prefix ≡ other) × (last ≡ line)
  same_prefix [] [] last line same = (refl, (let is : last ≡ line = cc in is))
  same_prefix [] (one ∷ []) last line same = absurd (cc)
  same_prefix [] (one ∷ two ∷ others) last line same = absurd (cc)
  same_prefix (one ∷ []) [] last line same = absurd (cc)
  same_prefix (one ∷ two ∷ others) [] last line same = absurd (cc)
  same_prefix (one ∷ prefix) (two ∷ other) last line same =
      let first : one ≡ two = cc in
      let rest : prefix ++ last ∷ [] ≡ other ++ line ∷ [] = cc in
      let on = same_prefix prefix other last line rest in
      ((let is : one ∷ prefix ≡ two ∷ other = ap (λ (x : List ℕ). x ∷ prefix) first ∙ ap (λ (xs : List (List ℕ)). two ∷ xs) on.0 in is), on.1)

  module _ (start : S) (past : ℕ) (grammar : Grammar V F) (by : ReadsBy reader start past grammar) where
    text_out : (lines : List (List ℕ)) (other : W) (rest : List (List ℕ)) → PassesTest grammar tests test past lines other rest → ReadsText outer (with_test start) past lines other rest
    text_out lines other rest passes =
        let text = (by.declares lines passes.value rest).0 passes.declared in
        let number = number_of_last past lines passes.text rest text.prefix text.last passes.whole text.whole in
        let tested : tests test passes.value (number_after past text.prefix) ≡ Ok other = subst (λ (n : ℕ). tests test passes.value n ≡ Ok other) number passes.passes in
        record {
          prefix = text.prefix;
          last = text.last;
          state = with_test text.state;
          whole = text.whole;
          leads = leads_out start text.state past text.prefix text.leads;
          gives = ap (step_tested reader tests test (number_after past text.prefix)) text.gives ∙ ap (step_by reader tests) tested;
        }

    text_in : (lines : List (List ℕ)) (other : W) (rest : List (List ℕ)) → ReadsText outer (with_test start) past lines other rest → PassesTest grammar tests test past lines other rest
    text_in lines other rest text =
        let there = leads_in start past text.prefix text.state text.leads in
        let number = number_after past text.prefix in
        let read : outer.reads (with_test there.0) number text.last ≡ Parsed other = subst (λ (s : Tested S Q). outer.reads s (number_after past text.prefix) text.last ≡ Parsed other) there.1 text.gives in
        let gives = gives_in number (reader.reads there.0 number text.last) other read in
        let inner : ReadsText reader start past lines gives.0 rest = record { prefix = text.prefix; last = text.last; state = there.0; whole = text.whole; leads = there.2; gives = gives.1 } in
        let ends : lines ≡ (text.prefix ++ text.last ∷ []) ++ rest = text.whole ∙ sym (append_assoc text.prefix (text.last ∷ []) rest) in
        let place = number_of_last past lines (text.prefix ++ text.last ∷ []) rest text.prefix text.last ends text.whole in
        record {
          value = gives.0;
          text = text.prefix ++ text.last ∷ [];
          whole = ends;
          declared = (by.declares lines gives.0 rest).1 inner;
          passes = subst (λ (n : ℕ). tests test gives.0 n ≡ Ok other) (sym place) gives.2;
        }

    longest_out : (lines : List (List ℕ)) (longest : ℕ) → grammar.longest lines longest → (language outer (with_test start) past).longest lines longest
    longest_out lines longest wanted = let there = (by.longest lines longest).0 wanted in (with_test there.0, leads_out start there.0 past lines there.1, there.2)

    longest_in : (lines : List (List ℕ)) (longest : ℕ) → (language outer (with_test start) past).longest lines longest → grammar.longest lines longest
    longest_in lines longest there =
        let state = leads_in start past lines there.0 there.1 in
        (by.longest lines longest).1 (state.0, state.2, ap (λ (s : Tested S Q). outer.longest s) (sym state.1) ∙ there.2)

    fault_out : (state : S) (number : ℕ) (next : Next) (fault : F) → FaultOf reader state number next fault → FaultOf outer (with_test state) number next fault
    fault_out state number (Line line) fault is = ap (step_tested reader tests test number) is
    fault_out state number (NoLine stop) fault is = is

    fails_out : (lines : List (List ℕ)) (next : Next) (fault : F) → FailsTest grammar tests test past lines next fault → (language outer (with_test start) past).refuses lines next fault
    fails_out lines next fault fails =
        let text = (by.declares (lines ++ fails.line ∷ []) fails.value []).0 fails.declared in
        let same = same_prefix text.prefix lines text.last fails.line (sym text.whole) in
        let number : number_after past text.prefix ≡ number_after past lines = ap (number_after past) same.0 in
        let gives : reader.reads text.state (number_after past lines) fails.line ≡ Parsed fails.value =
        subst (λ (l : List ℕ). reader.reads text.state (number_after past lines) l ≡ Parsed fails.value) same.1 (subst (λ (n : ℕ). reader.reads text.state n text.last ≡ Parsed fails.value) number text.gives) in
        let leads : Leads reader start past lines text.state = subst (λ (ls : List (List ℕ)). Leads reader start past ls text.state) same.0 text.leads in
        let refused : outer.reads (with_test text.state) (number_after past lines) fails.line ≡ Refused fault = ap (step_tested reader tests test (number_after past lines)) gives ∙ ap (step_by reader tests) fails.fails in
        (with_test text.state, leads_out start text.state past lines leads, subst (λ (n : Next). FaultOf outer (with_test text.state) (number_after past lines) n fault) (sym fails.comes) refused)

    refuses_out : (lines : List (List ℕ)) (next : Next) (fault : F) → grammar.refuses lines next fault ⊎ FailsTest grammar tests test past lines next fault → (language outer (with_test start) past).refuses lines next fault
    refuses_out lines next fault (inl refuses) =
        let there = (by.refuses lines next fault).0 refuses in
        (with_test there.0, leads_out start there.0 past lines there.1, fault_out there.0 (number_after past lines) next fault there.2)
    refuses_out lines next fault (inr fails) = fails_out lines next fault fails

    refused_by : (lines : List (List ℕ)) (line : List ℕ) (fault : F) (state : S) → Leads reader start past lines state
        → (reader.reads state (number_after past lines) line ≡ Refused fault) ⊎ ((value : V) × (reader.reads state (number_after past lines) line ≡ Parsed value) × (tests test value (number_after past lines) ≡ Err fault))
        → grammar.refuses lines (Line line) fault ⊎ FailsTest grammar tests test past lines (Line line) fault
    refused_by lines line fault state leads (inl is) = inl ((by.refuses lines (Line line) fault).1 (state, leads, is))
    refused_by lines line fault state leads (inr fails) =
        let text : ReadsText reader start past (lines ++ line ∷ []) fails.0 [] = record { prefix = lines; last = line; state = state; whole = refl; leads = leads; gives = fails.1 } in
        inr (record { line = line; value = fails.0; comes = refl; declared = (by.declares (lines ++ line ∷ []) fails.0 []).1 text; fails = fails.2 })

    refuses_at : (lines : List (List ℕ)) (next : Next) (fault : F) (state : S) → Leads reader start past lines state → FaultOf outer (with_test state) (number_after past lines) next fault
        → grammar.refuses lines next fault ⊎ FailsTest grammar tests test past lines next fault
    refuses_at lines (Line line) fault state leads is =
        refused_by lines line fault state leads (refused_in (number_after past lines) (reader.reads state (number_after past lines) line) fault is)
    refuses_at lines (NoLine stop) fault state leads is = inl ((by.refuses lines (NoLine stop) fault).1 (state, leads, is))

    refuses_in : (lines : List (List ℕ)) (next : Next) (fault : F) → (language outer (with_test start) past).refuses lines next fault → grammar.refuses lines next fault ⊎ FailsTest grammar tests test past lines next fault
    refuses_in lines next fault there =
        let state = leads_in start past lines there.0 there.1 in
        refuses_at lines next fault state.0 state.2 (subst (λ (s : Tested S Q). FaultOf outer s (number_after past lines) next fault) state.1 there.2)

    -- what is read by a grammar is read, with a test, by the grammar with that test
    pub tested_by : ReadsBy outer (with_test start) past (tested_grammar grammar tests test past)
    tested_by = record {
      declares = λ lines other rest. (text_out lines other rest, text_in lines other rest);
      longest = λ lines longest. (longest_out lines longest, longest_in lines longest);
      refuses = λ lines next fault. (refuses_out lines next fault, refuses_in lines next fault);
    }

-- A text of one of two kinds is read by the grammar of its kind.
use Rattle.std.proofs.Common.{◌≡◌, ℕ, ◌+◌, List, [], ◌∷◌, refl, sym, ap, ◌∙◌, subst}
use Rattle.command_engine.specs.Alternatives.{step_within, either_reader}
use Rattle.command_engine.specs.Grammars.{Grammar, Next, Line, NoLine, Leads, FaultOf, ReadsText, ReadsBy, language, number_after}
use Rattle.command_engine.specs.Readers.{Reader}
use Rattle.command_engine.specs.declared.alternatives.Either.TheVariants.{Left, Right}
use Rattle.command_engine.specs.declared.machines.Stop.{Stop}
use Rattle.command_engine.specs.declared.line_texts.Parse.{Parse}
use Rattle.command_engine.specs.declared.line_texts.Parse.TheVariants.{Continue, Parsed, Refused}

-- if a state of a reader wraps one of another, it does what that does
pub record IsWithin {S T V F : Type 0} (inner : Reader S V F) (outer : Reader T V F) (wrap : S → T) : Type 0 where
  pub longest : (state : S) → outer.longest (wrap state) ≡ inner.longest state
  pub reads : (state : S) (number : ℕ) (line : List ℕ) → outer.reads (wrap state) number line ≡ step_within wrap (inner.reads state number line)
  pub stops : (state : S) (number : ℕ) (stop : Stop) → outer.stops (wrap state) number stop ≡ inner.stops state number stop

module _ {S T V F : Type 0} (wrap : S → T) where
  goes_within : (step : Parse S V F) (to : T) → ◌≡◌ {A = Parse T V F} (step_within wrap step) (Continue to) → (next : S) × (step ≡ Continue next) × (to ≡ wrap next)
  goes_within (Continue next) to is = (next, refl, (let same : to ≡ wrap next = cc in same))
  goes_within (Parsed value) to is = absurd (cc)
  goes_within (Refused fault) to is = absurd (cc)

  gives_within : (step : Parse S V F) (value : V) → ◌≡◌ {A = Parse T V F} (step_within wrap step) (Parsed value) → step ≡ Parsed value
  gives_within (Continue next) value is = absurd (cc)
  gives_within (Parsed other) value is = let same : other ≡ value = cc in ap Parsed same
  gives_within (Refused fault) value is = absurd (cc)

  refused_within : (step : Parse S V F) (fault : F) → ◌≡◌ {A = Parse T V F} (step_within wrap step) (Refused fault) → step ≡ Refused fault
  refused_within (Continue next) fault is = absurd (cc)
  refused_within (Parsed other) fault is = absurd (cc)
  refused_within (Refused other) fault is = let same : other ≡ fault = cc in ap Refused same

module _ {S T V F : Type 0} (inner : Reader S V F) (outer : Reader T V F) (wrap : S → T) (within : IsWithin inner outer wrap) where
  leads_out : (from to : S) (past : ℕ) (lines : List (List ℕ)) → Leads inner from past lines to → Leads outer (wrap from) past lines (wrap to)
  leads_out from to past [] leads = ap wrap leads
  leads_out from to past (line ∷ lines) leads =
      (wrap leads.0, within.reads from (past + 1) line ∙ ap (step_within wrap) leads.1, leads_out leads.0 to (past + 1) lines leads.2)

  leads_in : (from : S) (past : ℕ) (lines : List (List ℕ)) (to : T) → Leads outer (wrap from) past lines to → (state : S) × (to ≡ wrap state) × Leads inner from past lines state
  leads_in from past [] to leads = (from, sym leads, refl)
  leads_in from past (line ∷ lines) to leads =
      let goes = goes_within wrap (inner.reads from (past + 1) line) leads.0 (sym (within.reads from (past + 1) line) ∙ leads.1) in
      let on = leads_in goes.0 (past + 1) lines to (subst (λ (s : T). Leads outer s (past + 1) lines to) goes.2 leads.2) in
      (on.0, on.1, (goes.0, goes.1, on.2))

  module _ (start : S) (past : ℕ) where
    text_out : (lines : List (List ℕ)) (value : V) (rest : List (List ℕ)) → ReadsText inner start past lines value rest → ReadsText outer (wrap start) past lines value rest
    text_out lines value rest text = record {
      prefix = text.prefix;
      last = text.last;
      state = wrap text.state;
      whole = text.whole;
      leads = leads_out start text.state past text.prefix text.leads;
      gives = within.reads text.state (number_after past text.prefix) text.last ∙ ap (step_within wrap) text.gives;
    }

    text_in : (lines : List (List ℕ)) (value : V) (rest : List (List ℕ)) → ReadsText outer (wrap start) past lines value rest → ReadsText inner start past lines value rest
    text_in lines value rest text =
        let there = leads_in start past text.prefix text.state text.leads in
        let number = number_after past text.prefix in
        let gives : outer.reads (wrap there.0) number text.last ≡ Parsed value = subst (λ (s : T). outer.reads s (number_after past text.prefix) text.last ≡ Parsed value) there.1 text.gives in
        record {
          prefix = text.prefix;
          last = text.last;
          state = there.0;
          whole = text.whole;
          leads = there.2;
          gives = gives_within wrap (inner.reads there.0 (number_after past text.prefix) text.last) value (sym (within.reads there.0 (number_after past text.prefix) text.last) ∙ gives);
        }

    longest_out : (lines : List (List ℕ)) (longest : ℕ) → (language inner start past).longest lines longest → (language outer (wrap start) past).longest lines longest
    longest_out lines longest there = (wrap there.0, leads_out start there.0 past lines there.1, within.longest there.0 ∙ there.2)

    longest_in : (lines : List (List ℕ)) (longest : ℕ) → (language outer (wrap start) past).longest lines longest → (language inner start past).longest lines longest
    longest_in lines longest there =
        let state = leads_in start past lines there.0 there.1 in
        (state.0, state.2, sym (within.longest state.0) ∙ (ap (λ (s : T). outer.longest s) (sym state.1) ∙ there.2))

    fault_out : (state : S) (number : ℕ) (next : Next) (fault : F) → FaultOf inner state number next fault → FaultOf outer (wrap state) number next fault
    fault_out state number (Line line) fault is = within.reads state number line ∙ ap (step_within wrap) is
    fault_out state number (NoLine stop) fault is = within.stops state number stop ∙ is

    fault_in : (state : S) (number : ℕ) (next : Next) (fault : F) → FaultOf outer (wrap state) number next fault → FaultOf inner state number next fault
    fault_in state number (Line line) fault is = refused_within wrap (inner.reads state number line) fault (sym (within.reads state number line) ∙ is)
    fault_in state number (NoLine stop) fault is = sym (within.stops state number stop) ∙ is

    refuses_out : (lines : List (List ℕ)) (next : Next) (fault : F) → (language inner start past).refuses lines next fault → (language outer (wrap start) past).refuses lines next fault
    refuses_out lines next fault there = (wrap there.0, leads_out start there.0 past lines there.1, fault_out there.0 (number_after past lines) next fault there.2)

    refuses_in : (lines : List (List ℕ)) (next : Next) (fault : F) → (language outer (wrap start) past).refuses lines next fault → (language inner start past).refuses lines next fault
    refuses_in lines next fault there =
        let state = leads_in start past lines there.0 there.1 in
        (state.0, state.2, fault_in state.0 (number_after past lines) next fault (subst (λ (s : T). FaultOf outer s (number_after past lines) next fault) state.1 there.2))

    -- what reads by a grammar does so within another reader
    pub within_by : (grammar : Grammar V F) → ReadsBy inner start past grammar → ReadsBy outer (wrap start) past grammar
    within_by grammar by = record {
      declares = λ lines value rest. (λ declared. text_out lines value rest ((by.declares lines value rest).0 declared), λ text. (by.declares lines value rest).1 (text_in lines value rest text));
      longest = λ lines longest. (λ wanted. longest_out lines longest ((by.longest lines longest).0 wanted), λ there. (by.longest lines longest).1 (longest_in lines longest there));
      refuses = λ lines next fault. (λ refuses. refuses_out lines next fault ((by.refuses lines next fault).0 refuses), λ there. (by.refuses lines next fault).1 (refuses_in lines next fault there));
    }

module _ {A B V F : Type 0} (left : Reader A V F) (right : Reader B V F) (past : ℕ) (grammar : Grammar V F) where
  pub left_by : (start : A) → ReadsBy left start past grammar → ReadsBy (either_reader left right) (Left start) past grammar
  left_by start by = within_by left (either_reader left right) Left (record { longest = λ state. refl; reads = λ state number line. refl; stops = λ state number stop. refl }) start past grammar by

  pub right_by : (start : B) → ReadsBy right start past grammar → ReadsBy (either_reader left right) (Right start) past grammar
  right_by start by = within_by right (either_reader left right) Right (record { longest = λ state. refl; reads = λ state number line. refl; stops = λ state number stop. refl }) start past grammar by

-- A reader whose language keeps to a grammar reads by it, if the grammar says at most one thing of lines.
use Rattle.std.proofs.Common.{◌≡◌, ℕ, List, [], ◌∷◌, ◌++◌, refl, sym, ap, ◌∙◌, subst}
use Rattle.command_engine.specs.Grammars.{Grammar, Next, Line, NoLine, Leads, FaultOf, ReadsText, ReadsBy, language, number_after}
use Rattle.command_engine.specs.Readers.{Reader}
use Rattle.command_engine.specs.declared.line_texts.Parse.{Parse}
use Rattle.command_engine.specs.declared.line_texts.Parse.TheVariants.{Continue, Parsed, Refused}
use Rattle.command_engine.proofs.LeadLemmas.{Route, goes_on, gives_value, is_refused, leads_next, route}

-- what a grammar says of lines, it says once
pub record IsOnce {V F : Type 0} (grammar : Grammar V F) : Type 0 where
  pub one_value : (lines : List (List ℕ)) (value other : V) (rest after : List (List ℕ)) → grammar.declares lines value rest → grammar.declares lines other after → (value ≡ other) × (rest ≡ after)
  pub one_longest : (lines : List (List ℕ)) (a b : ℕ) → grammar.longest lines a → grammar.longest lines b → a ≡ b
  pub one_fault : (lines : List (List ℕ)) (next : Next) (a b : F) → grammar.refuses lines next a → grammar.refuses lines next b → a ≡ b
  pub refused_wanted : (lines : List (List ℕ)) (next : Next) (fault : F) → grammar.refuses lines next fault → (longest : ℕ) × grammar.longest lines longest
  pub value_not_wanted : (lines : List (List ℕ)) (value : V) (rest : List (List ℕ)) (longest : ℕ) → grammar.declares lines value rest → grammar.longest lines longest → ⊥
  pub value_not_refused : (prefix : List (List ℕ)) (line : List ℕ) (others : List (List ℕ)) (value : V) (rest : List (List ℕ)) (fault : F) → grammar.declares (prefix ++ line ∷ others) value rest → grammar.refuses prefix (Line line) fault
      → ⊥
  pub wanted_not_refused : (prefix : List (List ℕ)) (line : List ℕ) (others : List (List ℕ)) (longest : ℕ) (fault : F) → grammar.longest (prefix ++ line ∷ others) longest → grammar.refuses prefix (Line line) fault → ⊥

-- what a reader reads, the grammar says
pub record KeepsTo {S V F : Type 0} (reader : Reader S V F) (start : S) (past : ℕ) (grammar : Grammar V F) : Type 0 where
  pub longest : (lines : List (List ℕ)) (state : S) → Leads reader start past lines state → grammar.longest lines (reader.longest state)
  pub stopped : (lines : List (List ℕ)) (state : S) (stop : _) → Leads reader start past lines state → grammar.refuses lines (NoLine stop) (reader.stops state (number_after past lines) stop)
  pub refused : (lines : List (List ℕ)) (state : S) (line : List ℕ) (fault : F) → Leads reader start past lines state → reader.reads state (number_after past lines) line ≡ Refused fault → grammar.refuses lines (Line line) fault
  pub gives : (lines : List (List ℕ)) (state : S) (line : List ℕ) (value : V) (others : List (List ℕ)) → Leads reader start past lines state → reader.reads state (number_after past lines) line ≡ Parsed value
      → grammar.declares (lines ++ line ∷ others) value others

module _ {S V F : Type 0} (reader : Reader S V F) (start : S) (past : ℕ) (grammar : Grammar V F) (keeps : KeepsTo reader start past grammar) (once : IsOnce grammar) where
  declares_by : (lines : List (List ℕ)) (value : V) (rest : List (List ℕ)) → Route reader start past lines → grammar.declares lines value rest → ReadsText reader start past lines value rest
  declares_by lines value rest (goes_on to leads) declared = absurd (once.value_not_wanted lines value rest (reader.longest to) declared (keeps.longest lines to leads))
  declares_by lines value rest (gives_value prefix line others to other whole leads gives) declared =
      let shown = subst (λ (ls : List (List ℕ)). grammar.declares ls other others) (sym whole) (keeps.gives prefix to line other others leads gives) in
      let same = once.one_value lines other value others rest shown declared in
      record {
        prefix = prefix;
        last = line;
        state = to;
        whole = whole ∙ ap (λ (ls : List (List ℕ)). prefix ++ line ∷ ls) same.1;
        leads = leads;
        gives = gives ∙ ap Parsed same.0;
      }
  declares_by lines value rest (is_refused prefix line others to fault whole leads refuses) declared =
      absurd (once.value_not_refused prefix line others value rest fault (subst (λ (ls : List (List ℕ)). grammar.declares ls value rest) whole declared) (keeps.refused prefix to line fault leads refuses))

  longest_by : (lines : List (List ℕ)) (longest : ℕ) → Route reader start past lines → grammar.longest lines longest → (language reader start past).longest lines longest
  longest_by lines longest (goes_on to leads) wanted = (to, leads, once.one_longest lines (reader.longest to) longest (keeps.longest lines to leads) wanted)
  longest_by lines longest (gives_value prefix line others to value whole leads gives) wanted =
      absurd (once.value_not_wanted lines value others longest (subst (λ (ls : List (List ℕ)). grammar.declares ls value others) (sym whole) (keeps.gives prefix to line value others leads gives)) wanted)
  longest_by lines longest (is_refused prefix line others to fault whole leads refuses) wanted =
      absurd (once.wanted_not_refused prefix line others longest fault (subst (λ (ls : List (List ℕ)). grammar.longest ls longest) whole wanted) (keeps.refused prefix to line fault leads refuses))

  line_by : (lines : List (List ℕ)) (line : List ℕ) (fault : F) (state : S) (step : Parse S V F) → Leads reader start past lines state → reader.reads state (number_after past lines) line ≡ step → grammar.refuses lines (Line line) fault
      → reader.reads state (number_after past lines) line ≡ Refused fault
  line_by lines line fault state (Continue next) leads reads refuses =
      absurd (once.wanted_not_refused lines line [] (reader.longest next) fault (keeps.longest (lines ++ line ∷ []) next (leads_next reader start state next past lines line leads reads)) refuses)
  line_by lines line fault state (Parsed value) leads reads refuses =
      absurd (once.value_not_refused lines line [] value [] fault (keeps.gives lines state line value [] leads reads) refuses)
  line_by lines line fault state (Refused other) leads reads refuses =
      reads ∙ ap Refused (once.one_fault lines (Line line) other fault (keeps.refused lines state line other leads reads) refuses)

  fault_by : (lines : List (List ℕ)) (next : Next) (fault : F) (state : S) → Leads reader start past lines state → grammar.refuses lines next fault → FaultOf reader state (number_after past lines) next fault
  fault_by lines (Line line) fault state leads refuses = line_by lines line fault state (reader.reads state (number_after past lines) line) leads refl refuses
  fault_by lines (NoLine stop) fault state leads refuses = once.one_fault lines (NoLine stop) (reader.stops state (number_after past lines) stop) fault (keeps.stopped lines state stop leads) refuses

  refuses_by : (lines : List (List ℕ)) (next : Next) (fault : F) → grammar.refuses lines next fault → (language reader start past).refuses lines next fault
  refuses_by lines next fault refuses =
      let wanted = once.refused_wanted lines next fault refuses in
      let there = longest_by lines wanted.0 (route reader lines start past) wanted.1 in
      (there.0, there.1, fault_by lines next fault there.0 there.1 refuses)

  refused_by : (lines : List (List ℕ)) (next : Next) (fault : F) (state : S) → Leads reader start past lines state → FaultOf reader state (number_after past lines) next fault → grammar.refuses lines next fault
  refused_by lines (Line line) fault state leads is = keeps.refused lines state line fault leads is
  refused_by lines (NoLine stop) fault state leads is = subst (grammar.refuses lines (NoLine stop)) is (keeps.stopped lines state stop leads)

  pub reads_by : ReadsBy reader start past grammar
  reads_by = record {
    declares = λ lines value rest. (
      declares_by lines value rest (route reader lines start past),
      λ text.
          subst (λ (ls : List (List ℕ)). grammar.declares ls value rest) (sym text.whole) (keeps.gives text.prefix text.state text.last value rest text.leads text.gives),
    );
    longest = λ lines longest. (longest_by lines longest (route reader lines start past), λ there. subst (grammar.longest lines) there.2 (keeps.longest lines there.0 there.1));
    refuses = λ lines next fault. (refuses_by lines next fault, λ there. refused_by lines next fault there.0 there.1 there.2);
  }

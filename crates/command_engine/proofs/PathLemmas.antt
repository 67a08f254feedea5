-- The reading of a text over the lines of an input: the lines that came, one after another, and what came next.
use Rattle.std.proofs.Common.{◌≡◌, ℕ, ◌+◌, ◌-◌, List, [], ◌∷◌, ◌++◌, length, refl, sym, ap, ◌∙◌, subst, arith}
use Rattle.texts.specs.Lines.{InputLine, line_size}
use Rattle.plan_port.specs.Lines.{Coming, Comes, TooLong, TooMuch, coming}
use Rattle.command_engine.specs.Grammars.{Leads, FaultOf}
use Rattle.command_engine.specs.Inputs.{texts, capacity_after, next_by, next_of}
use Rattle.command_engine.specs.Readers.{Reader, Outcome, Given, Faulty, outcome_by, reading}
use Rattle.command_engine.specs.Runs.{Here, after_line}
use Rattle.command_engine.specs.declared.line_texts.Parse.{Parse}
use Rattle.command_engine.specs.declared.line_texts.Parse.TheVariants.{Continue, Parsed, Refused}

module _ {S V F : Type 0} (reader : Reader S V F) where
  -- the outcome by what comes of a line and what it brings, and by the reading of the lines after it
  abbrev pub outcome_on : Coming → Parse S V F → Here S → InputLine → List InputLine → Outcome V F
  outcome_on how step here line lines = outcome_by reader how step here line lines (λ state. reading reader (after_line here line state) lines)

  -- these lines come, and lead from a state to another
  abbrev pub ComeFrom : S → (past spare_capacity : ℕ) → List InputLine → S → Type 0
  ComeFrom from past spare_capacity [] to = from ≡ to
  ComeFrom from past spare_capacity (line ∷ lines) to =
      (next : S) × (coming (reader.longest from) spare_capacity line ≡ Comes) × (reader.reads from (past + 1) line.text ≡ Continue next) × ComeFrom next (past + 1) (spare_capacity - line_size line) lines to

  pub come_leads : (lines : List InputLine) (from : S) (past spare_capacity : ℕ) (to : S) → ComeFrom from past spare_capacity lines to → Leads reader from past (texts lines) to
  come_leads [] from past spare_capacity to come = come
  come_leads (line ∷ lines) from past spare_capacity to come = (come.0, come.2, come_leads lines come.0 (past + 1) (spare_capacity - line_size line) to come.3)

  -- what came last, and the outcome
  pub data Last (state : S) (number spare_capacity : ℕ) : List InputLine → Outcome V F → Type 0 where
    refused : (rest : List InputLine) (fault : F) → FaultOf reader state (number + 1) (next_of (reader.longest state) spare_capacity rest) fault → Last state number spare_capacity rest (Faulty fault)
    given : (line : InputLine) (others : List InputLine) (value : V) → coming (reader.longest state) spare_capacity line ≡ Comes → reader.reads state (number + 1) line.text ≡ Parsed value
        → Last state number spare_capacity (line ∷ others) (Given value (number + 1) (spare_capacity - line_size line) others)

  -- the lines that came, and what came last
  pub record Path (here : Here S) (lines : List InputLine) (outcome : Outcome V F) : Type 0 where
    pub before : List InputLine
    pub rest : List InputLine
    pub state : S
    pub divided : lines ≡ before ++ rest
    pub come : ComeFrom here.state here.number here.spare_capacity before state
    pub last : Last state (here.number + length before) (capacity_after here.spare_capacity before) rest outcome

  at_once : (here : Here S) (rest : List InputLine) (outcome : Outcome V F) → Last here.state here.number here.spare_capacity rest outcome → Path here rest outcome
  at_once here rest outcome last = record {
    before = [];
    rest = rest;
    state = here.state;
    divided = refl;
    come = refl;
    last = let none : here.number ≡ here.number + 0 = omega arith in subst (λ (n : ℕ). Last here.state n here.spare_capacity rest outcome) none last;
  }

  -- the fault of what comes, by what comes of the line
  fault_by : (how : Coming) (here : Here S) (line : InputLine) (lines : List InputLine) (fault : F) → coming (reader.longest here.state) here.spare_capacity line ≡ how
      → FaultOf reader here.state (here.number + 1) (next_by how line.text) fault → Path here (line ∷ lines) (Faulty fault)
  fault_by how here line lines fault comes is =
      at_once here (line ∷ lines) (Faulty fault) (refused (line ∷ lines) fault (subst (λ (h : Coming). FaultOf reader here.state (here.number + 1) (next_by h line.text) fault) (sym comes) is))

  -- the reading of lines goes by a path
  abbrev ReadsByPath : Here S → List InputLine → Type 0
  ReadsByPath here lines = Path here lines (reading reader here lines)

  path_by : (how : Coming) (step : Parse S V F) (here : Here S) (line : InputLine) (lines : List InputLine) → coming (reader.longest here.state) here.spare_capacity line ≡ how → reader.reads here.state (here.number + 1) line.text ≡ step
      → ((state : S) → ReadsByPath (after_line here line state) lines) → Path here (line ∷ lines) (outcome_on how step here line lines)
  path_by Comes (Continue next) here line lines comes reads later =
      let on = later next in
      let count : here.number + 1 + length on.before ≡ here.number + length (line ∷ on.before) = omega arith in
      record {
        before = line ∷ on.before;
        rest = on.rest;
        state = on.state;
        divided = ap (λ (ls : List InputLine). line ∷ ls) on.divided;
        come = (next, comes, reads, on.come);
        last = subst (λ (n : ℕ). Last on.state n (capacity_after here.spare_capacity (line ∷ on.before)) on.rest (reading reader (after_line here line next) lines)) count on.last;
      }
  path_by Comes (Parsed value) here line lines comes reads later = at_once here (line ∷ lines) _ (given line lines value comes reads)
  path_by Comes (Refused fault) here line lines comes reads later = fault_by Comes here line lines fault comes reads
  path_by TooLong step here line lines comes reads later = fault_by TooLong here line lines _ comes refl
  path_by TooMuch step here line lines comes reads later = fault_by TooMuch here line lines _ comes refl

  -- the reading of lines has a path
  pub path : (lines : List InputLine) (here : Here S) → Path here lines (reading reader here lines)
  path [] here = at_once here [] _ (refused [] _ refl)
  path (line ∷ lines) here =
      path_by (coming (reader.longest here.state) here.spare_capacity line) (reader.reads here.state (here.number + 1) line.text) here line lines refl refl (λ state. path lines (after_line here line state))

  -- the outcome by what comes of a line and what it brings
  outcome_is : (here : Here S) (line : InputLine) (lines : List InputLine) (how : Coming) (step : Parse S V F) → coming (reader.longest here.state) here.spare_capacity line ≡ how → reader.reads here.state (here.number + 1) line.text ≡ step
      → reading reader here (line ∷ lines) ≡ outcome_on how step here line lines
  outcome_is here line lines how step comes reads =
      ap (λ (h : Coming). outcome_by reader h (reader.reads here.state (here.number + 1) line.text) here line lines (λ state. reading reader (after_line here line state) lines)) comes
      ∙ ap (λ (s : Parse S V F). outcome_by reader how s here line lines (λ state. reading reader (after_line here line state) lines)) reads

  abbrev at_place : S → (number spare_capacity : ℕ) → Here S
  at_place state number spare_capacity = record { state = state; number = number; spare_capacity = spare_capacity }

  fault_reads : (how : Coming) (state : S) (number spare_capacity : ℕ) (line : InputLine) (others : List InputLine) (fault : F) → coming (reader.longest state) spare_capacity line ≡ how
      → FaultOf reader state (number + 1) (next_by how line.text) fault → reading reader (at_place state number spare_capacity) (line ∷ others) ≡ Faulty fault
  fault_reads Comes state number spare_capacity line others fault comes is = outcome_is (at_place state number spare_capacity) line others Comes (Refused fault) comes is
  fault_reads TooLong state number spare_capacity line others fault comes is = outcome_is (at_place state number spare_capacity) line others TooLong (reader.reads state (number + 1) line.text) comes refl ∙ ap Faulty is
  fault_reads TooMuch state number spare_capacity line others fault comes is = outcome_is (at_place state number spare_capacity) line others TooMuch (reader.reads state (number + 1) line.text) comes refl ∙ ap Faulty is

  last_reads : (state : S) (number spare_capacity : ℕ) (rest : List InputLine) (outcome : Outcome V F) → Last state number spare_capacity rest outcome → reading reader (at_place state number spare_capacity) rest ≡ outcome
  last_reads state number spare_capacity rest outcome (refused [] fault is) = ap Faulty is
  last_reads state number spare_capacity rest outcome (refused (line ∷ others) fault is) = fault_reads (coming (reader.longest state) spare_capacity line) state number spare_capacity line others fault refl is
  last_reads state number spare_capacity rest outcome (given line others value comes reads) = outcome_is (at_place state number spare_capacity) line others Comes (Parsed value) comes reads

  -- lines that come are read on
  pub reads_on : (before rest : List InputLine) (from : S) (number spare_capacity : ℕ) (state : S) (outcome : Outcome V F) → ComeFrom from number spare_capacity before state
      → Last state (number + length before) (capacity_after spare_capacity before) rest outcome → reading reader (at_place from number spare_capacity) (before ++ rest) ≡ outcome
  reads_on [] rest from number spare_capacity state outcome come last =
      let none : number + 0 ≡ number = omega arith in
      last_reads from number spare_capacity rest outcome (subst (λ (s : S). Last s number spare_capacity rest outcome) (sym come) (subst (λ (n : ℕ). Last state n spare_capacity rest outcome) none last))
  reads_on (line ∷ before) rest from number spare_capacity state outcome come last =
      let count : number + length (line ∷ before) ≡ number + 1 + length before = omega arith in
      outcome_is (at_place from number spare_capacity) line (before ++ rest) Comes (Continue come.0) come.1 come.2
      ∙ reads_on before rest come.0 (number + 1) (spare_capacity - line_size line) state outcome come.3 (subst (λ (n : ℕ). Last state n (capacity_after spare_capacity (line ∷ before)) rest outcome) count last)

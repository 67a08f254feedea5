-- The reading of an input is what the grammar of its text says of it.
use Rattle.std.proofs.Common.{◌≡◌, ℕ, ◌+◌, ◌-◌, List, [], ◌∷◌, ◌++◌, length, refl, sym, ap, ◌∙◌, subst, arith, inl, inr, append_assoc}
use Rattle.std.proofs.lemmas.List.{append-nil, length-append, map-append, length-map}
use Rattle.texts.specs.Lines.{InputLine, input_lines, lines, line_size}
use Rattle.texts.proofs.InputLemmas.{lines-texts}
use Rattle.plan_port.specs.Lines.{Comes, coming}
use Rattle.command_engine.specs.AnswersOnce.{AnswersOutcome, answers_once_machine}
use Rattle.command_engine.specs.Grammars.{Grammar, Leads, FaultOf, ReadsText, ReadsBy, number_after}
use Rattle.command_engine.specs.Inputs.{texts, capacity_after, next_of, ComeAfter, IsFirstRefusal, DeclaresBy, AnswersLineOrRefuses, AnswersLine, last_before}
use Rattle.command_engine.specs.Limits.{most_input}
use Rattle.command_engine.specs.Readers.{Reader, Refusing, Outcome, Given, Faulty, reading}
use Rattle.command_engine.specs.Runs.{Runs, begins}
use Rattle.command_engine.specs.declared.endings.End.{End}
use Rattle.command_engine.specs.declared.line_texts.Parse.TheVariants.{Continue, Parsed}
use Rattle.command_engine.proofs.AnswersOnceLemmas.{runs_are}
use Rattle.command_engine.proofs.LeadLemmas.{leads_next, leads_one, text_one}
use Rattle.command_engine.proofs.PathLemmas.{ComeFrom, Last, refused, given, come_leads, path, reads_on}

pub texts_both : (before rest : List InputLine) → texts (before ++ rest) ≡ texts before ++ texts rest
texts_both before rest = map-append (λ (line : InputLine). line.text) before rest

pub texts_many : (lines : List InputLine) → length (texts lines) ≡ length lines
texts_many lines = length-map lines (λ (line : InputLine). line.text)

pub capacity_both : (spare_capacity : ℕ) (first second : List InputLine) → capacity_after spare_capacity (first ++ second) ≡ capacity_after (capacity_after spare_capacity first) second
capacity_both spare_capacity [] second = refl
capacity_both spare_capacity (line ∷ first) second = capacity_both (spare_capacity - line_size line) first second

-- lines whose bytes end so
pub ends_by : (used : List InputLine) (rest prefix : List (List ℕ)) (last : List ℕ) → texts used ++ rest ≡ prefix ++ last ∷ rest → (before : List InputLine) × (line : InputLine) × (used ≡ before ++ line ∷ []) × (texts before ≡ prefix)
    × (line.text ≡ last)
ends_by [] rest prefix last whole =
    let long = ap length whole in
    let size = length-append prefix (last ∷ rest) in
    absurd (omega (arith, long, size))
ends_by (line ∷ []) rest [] last whole =
    let head : line.text ≡ last = cc in
    ([], line, refl, refl, head)
ends_by (line ∷ next ∷ used) rest [] last whole =
    let long = ap length whole in
    let size = length-append (texts used) rest in
    absurd (omega (arith, long, size))
ends_by (line ∷ used) rest (first ∷ prefix) last whole =
    let head : line.text ≡ first = cc in
    let tail : texts used ++ rest ≡ prefix ++ last ∷ rest = cc in
    let on = ends_by used rest prefix last tail in
    (line ∷ on.0, on.1, ap (λ (ls : List InputLine). line ∷ ls) on.2, (let same = on.3 in cc), on.4)

module _ {S V F : Type 0} (reader : Reader S V F) (start : S) (grammar : Grammar V F) (by : ReadsBy reader start 0 grammar) where
  -- ---- lines that come by the grammar come from the state to which those before them lead
  one_state : (lines : List (List ℕ)) (longest : ℕ) (state : S) → Leads reader start 0 lines state → grammar.longest lines longest → reader.longest state ≡ longest
  one_state lines longest state leads wanted =
      let there = (by.longest lines longest).0 wanted in
      let same = leads_one reader start state there.0 0 lines leads there.1 in
      ap (λ (s : S). reader.longest s) same ∙ there.2

  come_from : (input : List InputLine) (before : List (List ℕ)) (from : S) (past spare_capacity : ℕ) (to : S) → past ≡ length before → Leads reader start 0 before from → ComeAfter grammar before spare_capacity input
      → Leads reader from past (texts input) to → ComeFrom reader from past spare_capacity input to
  come_from [] before from past spare_capacity to at there come leads = leads
  come_from (line ∷ input) before from past spare_capacity to at there come leads =
      let allowed = one_state before come.0 from there come.1 in
      let comes : coming (reader.longest from) spare_capacity line ≡ Comes = subst (λ (n : ℕ). coming n spare_capacity line ≡ Comes) (sym allowed) come.2 in
      let number : past + 1 ≡ number_after 0 before = omega (arith, at) in
      let next = leads_next reader start from leads.0 0 before line.text there (subst (λ (n : ℕ). reader.reads from n line.text ≡ Continue leads.0) number leads.1) in
      let long = length-append before (line.text ∷ []) in
      (leads.0, comes, leads.1, come_from input (before ++ line.text ∷ []) leads.0 (past + 1) (spare_capacity - line_size line) to (omega (arith, at, long)) next come.3 leads.2)

  pub come_after : (input : List InputLine) (before : List (List ℕ)) (from : S) (past spare_capacity : ℕ) (to : S) → past ≡ length before → Leads reader start 0 before from → ComeFrom reader from past spare_capacity input to
      → ComeAfter grammar before spare_capacity input
  come_after [] before from past spare_capacity to at there come = tt
  come_after (line ∷ input) before from past spare_capacity to at there come =
      let wanted = (by.longest before (reader.longest from)).1 (from, there, refl) in
      let number : past + 1 ≡ number_after 0 before = omega (arith, at) in
      let next = leads_next reader start from come.0 0 before line.text there (subst (λ (n : ℕ). reader.reads from n line.text ≡ Continue come.0) number come.2) in
      let long = length-append before (line.text ∷ []) in
      (reader.longest from, wanted, come.1, come_after input (before ++ line.text ∷ []) come.0 (past + 1) (spare_capacity - line_size line) to (omega (arith, at, long)) next come.3)

  -- ---- what a reading comes to, by the grammar
  -- a value is given after these lines, with this capacity
  pub record IsGivenAt (input : List InputLine) (value : V) (number spare_capacity : ℕ) (rest : List InputLine) : Type 0 where
    pub used : List InputLine
    pub divided : input ≡ used ++ rest
    pub counted : number ≡ length used
    pub left : spare_capacity ≡ capacity_after most_input used
    pub declares : DeclaresBy grammar used rest value

  abbrev pub OutcomeIs : List InputLine → Outcome V F → Type 0
  OutcomeIs input (Given value number spare_capacity rest) = IsGivenAt input value number spare_capacity rest
  OutcomeIs input (Faulty fault) = IsFirstRefusal grammar input fault

  at_number : (before : List InputLine) → number_after 0 (texts before) ≡ 0 + length before + 1
  at_number before = let many = texts_many before in omega (arith, many)

  pub come_one_more : (before : List InputLine) (line : InputLine) (seen : List (List ℕ)) (spare_capacity longest : ℕ) → ComeAfter grammar seen spare_capacity before → grammar.longest (seen ++ texts before) longest
      → coming longest (capacity_after spare_capacity before) line ≡ Comes → ComeAfter grammar seen spare_capacity (before ++ line ∷ [])
  come_one_more [] line seen spare_capacity longest come wanted comes = (longest, subst (λ (ls : List (List ℕ)). grammar.longest ls longest) (append-nil seen) wanted, comes, tt)
  come_one_more (first ∷ before) line seen spare_capacity longest come wanted comes =
      let joined : seen ++ texts (first ∷ before) ≡ (seen ++ first.text ∷ []) ++ texts before = sym (append_assoc seen (first.text ∷ []) (texts before)) in
      (come.0, come.1, come.2, come_one_more before line (seen ++ first.text ∷ []) (spare_capacity - line_size first) longest come.3 (subst (λ (ls : List (List ℕ)). grammar.longest ls longest) joined wanted) comes)

  last_is : (before rest : List InputLine) (state : S) (outcome : Outcome V F) → ComeFrom reader start 0 most_input before state → Last reader state (0 + length before) (capacity_after most_input before) rest outcome
      → OutcomeIs (before ++ rest) outcome
  last_is before rest state outcome come (refused others fault is) =
      let leads = come_leads reader before start 0 most_input state come in
      record {
        before = before;
        rest = others;
        longest = reader.longest state;
        divided = refl;
        come = come_after before [] start 0 most_input state refl refl come;
        wanted = (by.longest (texts before) (reader.longest state)).1 (state, leads, refl);
        refused = (by.refuses (texts before) _ fault).1 (state, leads, subst (λ (n : ℕ). FaultOf reader state n (next_of (reader.longest state) (capacity_after most_input before) others) fault) (sym (at_number before)) is);
      }
  last_is before rest state outcome come (given line others value comes reads) =
      let leads = come_leads reader before start 0 most_input state come in
      let used : List InputLine = before ++ line ∷ [] in
      let whole : (before ++ line ∷ []) ++ others ≡ before ++ line ∷ others = append_assoc before (line ∷ []) others in
      let after = come_after before [] start 0 most_input state refl refl come in
      let wanted = (by.longest (texts before) (reader.longest state)).1 (state, leads, refl) in
      let text : ReadsText reader start 0 (texts ((before ++ line ∷ []) ++ others)) value (texts others) = record {
        prefix = texts before;
        last = line.text;
        state = state;
        whole = ap (λ (ls : List InputLine). texts ls) whole ∙ texts_both before (line ∷ others);
        leads = leads;
        gives = subst (λ (n : ℕ). reader.reads state n line.text ≡ Parsed value) (sym (at_number before)) reads;
      } in
      record {
        used = used;
        divided = sym whole;
        counted = let long = length-append before (line ∷ []) in omega (arith, long);
        left = sym (capacity_both most_input before (line ∷ []));
        declares = record {
          come = come_one_more before line [] most_input (reader.longest state) after wanted comes;
          declared = (by.declares (texts (used ++ others)) value (texts others)).1 text;
        };
      }

  pub outcome_is : (input : List InputLine) → OutcomeIs input (reading reader (begins start) input)
  outcome_is input =
      let route = path reader input (begins start) in
      let out = reading reader (begins start) input in
      subst (λ (ls : List InputLine). OutcomeIs ls out) (sym route.divided) (last_is route.before route.rest route.state out route.come route.last)

  -- ---- the first refusal is what a reading comes to
  pub refusal_read : (input : List InputLine) (fault : F) → IsFirstRefusal grammar input fault → reading reader (begins start) input ≡ Faulty fault
  refusal_read input fault first =
      let refuses = (by.refuses (texts first.before) _ fault).0 first.refused in
      let state = refuses.0 in
      let same = one_state (texts first.before) first.longest state refuses.1 first.wanted in
      let come = come_from first.before [] start 0 most_input state refl refl first.come refuses.1 in
      let is : FaultOf reader state (0 + length first.before + 1) (next_of (reader.longest state) (capacity_after most_input first.before) first.rest) fault =
      subst (λ (n : ℕ). FaultOf reader state (0 + length first.before + 1) (next_of n (capacity_after most_input first.before) first.rest) fault) (sym same)
      (subst (λ (n : ℕ). FaultOf reader state n (next_of first.longest (capacity_after most_input first.before) first.rest) fault) (at_number first.before) refuses.2) in
      ap (λ (ls : List InputLine). reading reader (begins start) ls) first.divided
      ∙ reads_on reader first.before first.rest start 0 most_input state (Faulty fault) come (refused first.rest fault is)

  -- ---- lines that come and declare a value give it
  -- lines that end with one that gives the value of a text
  record EndsText (used : List InputLine) (value : V) : Type 0 where
    before : List InputLine
    line : InputLine
    state : S
    whole : used ≡ before ++ line ∷ []
    leads : Leads reader start 0 (texts before) state
    gives : reader.reads state (number_after 0 (texts before)) line.text ≡ Parsed value

  ends_text : (used rest : List InputLine) (value : V) → DeclaresBy grammar used rest value → EndsText used value
  ends_text used rest value declares =
      let text = (by.declares (texts (used ++ rest)) value (texts rest)).0 declares.declared in
      let whole : texts used ++ texts rest ≡ text.prefix ++ text.last ∷ texts rest = sym (texts_both used rest) ∙ text.whole in
      let ends = ends_by used (texts rest) text.prefix text.last whole in
      record {
        before = ends.0;
        line = ends.1;
        state = text.state;
        whole = ends.2;
        leads = subst (λ (ls : List (List ℕ)). Leads reader start 0 ls text.state) (sym ends.3) text.leads;
        gives = subst (λ (l : List ℕ). reader.reads text.state (number_after 0 (texts ends.0)) l ≡ Parsed value) (sym ends.4)
            (subst (λ (ls : List (List ℕ)). reader.reads text.state (number_after 0 ls) text.last ≡ Parsed value) (sym ends.3) text.gives);
      }

  -- the first lines of those that come come, and then the next one
  come_split : (before : List InputLine) (line : InputLine) (seen : List (List ℕ)) (spare_capacity : ℕ) → ComeAfter grammar seen spare_capacity (before ++ line ∷ [])
      → ComeAfter grammar seen spare_capacity before × (longest : ℕ) × grammar.longest (seen ++ texts before) longest × (coming longest (capacity_after spare_capacity before) line ≡ Comes)
  come_split [] line seen spare_capacity come = (tt, come.0, subst (λ (ls : List (List ℕ)). grammar.longest ls come.0) (sym (append-nil seen)) come.1, come.2)
  come_split (first ∷ before) line seen spare_capacity come =
      let joined : (seen ++ first.text ∷ []) ++ texts before ≡ seen ++ texts (first ∷ before) = append_assoc seen (first.text ∷ []) (texts before) in
      let on = come_split before line (seen ++ first.text ∷ []) (spare_capacity - line_size first) come.3 in
      ((come.0, come.1, come.2, on.0), on.1, subst (λ (ls : List (List ℕ)). grammar.longest ls on.1) joined on.2, on.3)

  pub declared_read : (input used rest : List InputLine) (value : V) → input ≡ used ++ rest → DeclaresBy grammar used rest value → reading reader (begins start) input ≡ Given value (length used) (capacity_after most_input used) rest
  declared_read input used rest value divided declares =
      let ends = ends_text used rest value declares in
      let before = ends.before in
      let line = ends.line in
      let split = come_split before line [] most_input (subst (λ (ls : List InputLine). ComeAfter grammar [] most_input ls) ends.whole declares.come) in
      let same = one_state (texts before) split.1 ends.state ends.leads split.2 in
      let comes : coming (reader.longest ends.state) (capacity_after most_input before) line ≡ Comes = subst (λ (n : ℕ). coming n (capacity_after most_input before) line ≡ Comes) (sym same) split.3 in
      let come = come_from before [] start 0 most_input ends.state refl refl split.0 ends.leads in
      let reads = subst (λ (n : ℕ). reader.reads ends.state n line.text ≡ Parsed value) (at_number before) ends.gives in
      let read = reads_on reader before (line ∷ rest) start 0 most_input ends.state _ come (given line rest value comes reads) in
      let all : input ≡ before ++ line ∷ rest = divided ∙ (ap (λ (ls : List InputLine). ls ++ rest) ends.whole ∙ append_assoc before (line ∷ []) rest) in
      let count : 0 + length before + 1 ≡ length used = (let long = ap length ends.whole in let size = length-append before (line ∷ []) in omega (arith, long, size)) in
      let spare_capacity : capacity_after most_input before - line_size line ≡ capacity_after most_input used = sym (capacity_both most_input before (line ∷ []))
      ∙ ap (λ (ls : List InputLine). capacity_after most_input ls) (sym ends.whole) in
      ap (λ (ls : List InputLine). reading reader (begins start) ls) all
      ∙ (read
      ∙ (ap (λ (n : ℕ). Given value n (capacity_after most_input before - line_size line) rest) count
      ∙ ap (λ (n : ℕ). Given value (length used) n rest) spare_capacity))

  -- ---- the promise
  module _ {Q : Type 0} (answers : Q → V → ℕ → List ℕ → End → Type 0) (refusing : Refusing F) (question : Q) where
    abbrev Answered : Outcome V F → List ℕ → End → Type 0
    Answered outcome put end = AnswersOutcome answers reader refusing question outcome put end

    answers_by : (input put : List ℕ) (end : End) (outcome : Outcome V F) → OutcomeIs (input_lines input) outcome → Answered outcome put end → AnswersLineOrRefuses grammar refusing (answers question) input put end
    answers_by input put end (Given value number spare_capacity rest) is answered =
        let all : texts (is.used ++ rest) ≡ lines input = ap (λ (ls : List InputLine). texts ls) (sym is.divided) ∙ sym (lines-texts input) in
        let count : length (lines input) ≡ length is.used + length (texts rest) = ap length (sym all ∙ texts_both is.used rest) ∙ (length-append (texts is.used) (texts rest) ∙ ap (λ (n : ℕ). n + length (texts rest)) (texts_many is.used)) in
        let last : number ≡ last_before (texts rest) (lines input) = (let counted = is.counted in omega (arith, counted, count)) in
        inl (value, texts rest, subst (λ (ls : List (List ℕ)). grammar.declares ls value (texts rest)) all is.declares.declared, subst (λ (n : ℕ). answers question value n put end) last answered)
    answers_by input put end (Faulty fault) is answered = inr (fault, is, answered)

    -- what is put for an input by what its reading comes to answers the input
    pub outcome_answered : (input put : List ℕ) (end : End) → Answered (reading reader (begins start) (input_lines input)) put end → AnswersLine grammar refusing (answers question) input put end
    outcome_answered input put end answered =
        let outcome = reading reader (begins start) (input_lines input) in
        record {
          answers = answers_by input put end outcome (outcome_is (input_lines input)) answered;
          declared = λ value within. subst (λ (o : Outcome V F). Answered o put end) (declared_read (input_lines input) within.used within.rest value within.divided within.declares) answered;
          refuses = λ fault first. subst (λ (o : Outcome V F). Answered o put end) (refusal_read (input_lines input) fault first) answered;
        }

    -- a run answers the input
    pub answers_text : (input put : List ℕ) (end : End) → Runs (answers_once_machine answers reader refusing) (record { question = question; text = start }) input put end → AnswersLine grammar refusing (answers question) input put end
    answers_text input put end runs = outcome_answered input put end (runs_are answers reader refusing question start input put end runs)

-- a grammar by which a reader reads gives one value of lines, and one rest
module _ {S V F : Type 0} (reader : Reader S V F) (start : S) (past : ℕ) (grammar : Grammar V F) (by : ReadsBy reader start past grammar) where
  pub value_one : (all : List (List ℕ)) (value other : V) (rest after : List (List ℕ)) → grammar.declares all value rest → grammar.declares all other after → (value ≡ other) × (rest ≡ after)
  value_one all value other rest after is also =
      let text = (by.declares all value rest).0 is in
      let second = subst (λ (ls : List (List ℕ)). ReadsText reader start past ls other after) text.whole ((by.declares all other after).0 also) in
      text_one reader text.prefix start text.state past text.last rest value other after text.leads text.gives second

-- The engine changes the limit of cells alone.
use Rattle.std.proofs.Common.{◌≡◌, ◌↔◌, ◌⊎◌, inl, inr, ℕ, ◌<◌, Bool, true, false, List, ◌∷◌, ◌++◌, length, Option, Some, None, Ok, Err, refl, sym, ap, ◌∙◌, subst, if◌then◌else◌}
use Rattle.std.proofs.lemmas.Bool.{leb-false, lt-leb}
use Rattle.texts.specs.Lines.{InputLine, input_lines}
use Rattle.net_model.specs.Network.{Plan}
use Rattle.cell_table.specs.Limits.{key_count, most_keys}
use Rattle.command_words.specs.Arguments.{arguments_by, is_given, text_given}
use Rattle.command_words.specs.SpelledWords.{Use, valued, Spells, is_plain}
use Rattle.command_words.specs.Syntax.{Text}
use Rattle.command_engine.specs.AnswersOnce.{AnswersOutcome}
use Rattle.command_engine.specs.Endings.{end_number}
use Rattle.command_engine.specs.Inputs.{capacity_after}
use Rattle.command_engine.specs.Limits.{most_input}
use Rattle.command_engine.specs.Readers.{Outcome, Given, Faulty, reading}
use Rattle.command_engine.specs.Runs.{Runs, begins}
use Rattle.command_engine.specs.declared.endings.End.{End}
use Rattle.command_engine.specs.declared.endings.End.TheVariants.{Limit}
use Rattle.command_engine.proofs.AnswersOnceLemmas.{runs_are}
use Rattle.command_engine.proofs.InputLemmas.{IsGivenAt, OutcomeIs, declared_read, outcome_is}
use Rattle.common_answers.specs.Faults.{refusing}
use Rattle.common_answers.specs.declared.faults.Fault.{Fault}
use Rattle.common_answers.specs.declared.faults.Fault.TheVariants.{Cells as BeyondCells}
use Rattle.input_texts.specs.PlanInput.{json_name, initial_input, input_reader, plan_in}
use Rattle.input_texts.specs.declared.plan_input.PlanForm.{PlanForm}
use Rattle.input_texts.proofs.PlanInputLemmas.{input_by}
use Rattle.command_contracts.specs.PlanWords.{delay_name, form_given}
use Rattle.command_contracts.specs.Programs.{DefineSame, Defines, Program}
use Rattle.command_contracts.specs.Requests.{requested_by, program_of_request}
use Rattle.command_contracts.specs.WorkerCounts.{workers_name, workers_of}
use Rattle.command_contracts.specs.declared.status.Status.{Status}
use Rattle.command_contracts.proofs.SameLemmas.{same_self}
use Rattle.command_contracts.proofs.UseLemmas.{given_without, text_absent, text_there, text_without}
use Rattle.command_contracts.proofs.WorkersLemmas.{asks, where_workers}
use Rattle.command_contracts.proofs.FormWordLemmas.{said_form}
use Rattle.check_command.specs.CheckPromise.{check_program}
use Rattle.check_command.specs.CheckAnswers.{check_answers, check_request, check_machine, check_reader, check_start, check_syntax, engine_test, proof_name}
use Rattle.check_command.specs.EngineLaw.{ChangesTheLimitAlone, IsBeyondCells, IsSameButForCells, cells_line, check_of}
use Rattle.check_command.specs.Engines.{SpellsEngine, engine_given, engine_name, engine_tests, engine_word, takes, reported_line}
use Rattle.check_command.specs.Words.{SayCheckFlags}
use Rattle.check_command.specs.declared.check_question.CheckFlags.{CheckFlags}
use Rattle.check_command.specs.declared.engine.Engine.{Engine}
use Rattle.check_command.specs.declared.engine.Engine.TheVariants.{Rounds, Cells}
use Rattle.check_command.proofs.CheckWordLemmas.{check_exactly, flags_given, is_named}
use Rattle.check_command.proofs.OptionLemmas.{Among, among}
use Rattle.check_command.proofs.ReadingLemmas.{given_by, outcome_tested, reading_tested, run_answers}

-- ---- runs

abbrev answers : CheckFlags → Plan → ℕ → List ℕ → End → Type 0
answers flags net number = check_answers flags net

-- what the reading of the plan of an input comes to, before the engine tests it
abbrev read : PlanForm → List ℕ → Outcome Plan Fault
read form input = reading input_reader (begins (initial_input form)) (input_lines input)

-- and after that
abbrev read_for : CheckFlags → List ℕ → Outcome Plan Fault
read_for flags input = outcome_tested input_reader engine_tests (engine_test flags) (read flags.form input)

abbrev Puts : CheckFlags → Outcome Plan Fault → List ℕ → End → Type 0
Puts flags outcome put end = AnswersOutcome answers check_reader refusing flags outcome put end

runs_to : (flags : CheckFlags) (input put : List ℕ) (end : End) → Runs check_machine (check_start flags) input put end → Puts flags (read_for flags input) put end
runs_to flags input put end runs =
    subst (λ (o : Outcome Plan Fault). Puts flags o put end) (reading_tested input_reader engine_tests (engine_test flags) (begins (initial_input flags.form)) (input_lines input))
    (runs_are answers check_reader refusing flags (check_start flags).text input put end runs)

runs_from : (flags : CheckFlags) (input put : List ℕ) (end : End) → Puts flags (read_for flags input) put end → Runs check_machine (check_start flags) input put end
runs_from flags input put end puts =
    run_answers answers check_reader refusing flags (check_start flags).text input put end
    (subst (λ (o : Outcome Plan Fault). Puts flags o put end) (sym (reading_tested input_reader engine_tests (engine_test flags) (begins (initial_input flags.form)) (input_lines input))) puts)

-- flags with an engine
abbrev by_engine : PlanForm → Bool → Engine → CheckFlags
by_engine form proof engine = record { form = form; proof = proof; engine = engine }

many_keys : (net : Plan) → takes Cells net ≡ false → most_keys < key_count net
many_keys net is = leb-false (key_count net) most_keys is

beyond_takes : (net : Plan) → most_keys < key_count net → takes Cells net ≡ false
beyond_takes net many = lt-leb (key_count net) most_keys many

-- what comes of a network that was given, by whether the engine takes it
module _ (net : Plan) (fault : Fault) (number spare_capacity : ℕ) (rest : List InputLine) where
  taken_given : (fits : Bool) → fits ≡ true → ◌≡◌ {A = Outcome Plan Fault} (given_by (if fits then Ok net else Err fault) number spare_capacity rest) (Given net number spare_capacity rest)
  taken_given true is = refl
  taken_given false is = absurd cc

  refused_given : (fits : Bool) → fits ≡ false → ◌≡◌ {A = Outcome Plan Fault} (given_by (if fits then Ok net else Err fault) number spare_capacity rest) (Faulty fault)
  refused_given true is = absurd cc
  refused_given false is = refl

module _ (form : PlanForm) (proof : Bool) (input : List ℕ) where
  abbrev cells : CheckFlags
  cells = by_engine form proof Cells

  abbrev rounds : CheckFlags
  rounds = by_engine form proof Rounds

  -- if cells hold the keys, both engines let the network pass
  given_same : (net : Plan) (fits : Bool) → takes Cells net ≡ fits → (number spare_capacity : ℕ) (rest : List InputLine) → read form input ≡ Given net number spare_capacity rest
      → (read_for cells input ≡ read_for rounds input) ⊎ IsBeyondCells form input
  given_same net true fits number spare_capacity rest is =
      let kept : outcome_tested input_reader engine_tests (engine_test cells) (Given net number spare_capacity rest) ≡ outcome_tested input_reader engine_tests (engine_test rounds) (Given net number spare_capacity rest) =
      taken_given net (BeyondCells (reported_line form.notation number)) number spare_capacity rest (takes Cells net) fits in
      inl (subst (λ (o : Outcome Plan Fault). outcome_tested input_reader engine_tests (engine_test cells) o ≡ outcome_tested input_reader engine_tests (engine_test rounds) o) (sym is) kept)
  given_same net false fits number spare_capacity rest is =
      let given : IsGivenAt input_reader (initial_input form) (plan_in form) (input_by form 0) (input_lines input) net number spare_capacity rest =
      subst (OutcomeIs input_reader (initial_input form) (plan_in form) (input_by form 0) (input_lines input)) is (outcome_is input_reader (initial_input form) (plan_in form) (input_by form 0) (input_lines input)) in
      inr (record { net = net; within = record { used = given.used; rest = rest; divided = given.divided; declares = given.declares }; many = many_keys net fits })

  same_or_beyond : (outcome : Outcome Plan Fault) → read form input ≡ outcome → (read_for cells input ≡ read_for rounds input) ⊎ IsBeyondCells form input
  same_or_beyond (Given net number spare_capacity rest) is = given_same net (takes Cells net) refl number spare_capacity rest is
  same_or_beyond (Faulty fault) is =
      inl (subst (λ (o : Outcome Plan Fault). outcome_tested input_reader engine_tests (engine_test cells) o ≡ outcome_tested input_reader engine_tests (engine_test rounds) o) (sym is) refl)

  not_beyond : ¬ IsBeyondCells form input → read_for cells input ≡ read_for rounds input
  not_beyond none = by (same_or_beyond (read form input) refl)
    where
      by : (read_for cells input ≡ read_for rounds input) ⊎ IsBeyondCells form input → read_for cells input ≡ read_for rounds input
      by (inl same) = same
      by (inr beyond) = absurd (none beyond)

  -- the engine decides nothing of the answer
  kept : (one other : Engine) (outcome : Outcome Plan Fault) (put : List ℕ) (end : End) → Puts (by_engine form proof one) outcome put end → Puts (by_engine form proof other) outcome put end
  kept one other (Given net number spare_capacity rest) put end answered = answered
  kept one other (Faulty fault) put end answered = answered

  runs_same : ¬ IsBeyondCells form input → (put : List ℕ) (status : Status) → Defines (check_program cells) input put status ↔ Defines (check_program rounds) input put status
  runs_same none put status = (
    λ defines. (
      defines.0,
      defines.1,
      runs_from rounds input put defines.0
          (subst (λ (o : Outcome Plan Fault). Puts rounds o put defines.0) (not_beyond none) (kept Cells Rounds (read_for cells input) put defines.0 (runs_to cells input put defines.0 defines.2))),
    ),
    λ defines. (
      defines.0,
      defines.1,
      runs_from cells input put defines.0
          (subst (λ (o : Outcome Plan Fault). Puts cells o put defines.0) (sym (not_beyond none)) (kept Rounds Cells (read_for rounds input) put defines.0 (runs_to rounds input put defines.0 defines.2))),
    ),
  )

  module _ (beyond : IsBeyondCells form input) where
    abbrev reported : Fault
    reported = BeyondCells (reported_line form.notation (length beyond.within.used))

    beyond_read : read_for cells input ≡ Faulty reported
    beyond_read =
        let within = beyond.within in
        let is = declared_read input_reader (initial_input form) (plan_in form) (input_by form 0) (input_lines input) within.used within.rest beyond.net within.divided within.declares in
        ap (outcome_tested input_reader engine_tests (engine_test cells)) is
        ∙ refused_given beyond.net reported (length within.used) (capacity_after most_input within.used) within.rest (takes Cells beyond.net) (beyond_takes beyond.net beyond.many)

    runs_refused : (put : List ℕ) (status : Status) → Defines (check_program cells) input put status ↔ ((put ≡ cells_line form.notation (length beyond.within.used)) × (status ≡ record { 0 = 4 }))
    runs_refused put status = (to, from)
      where
        number : End → Status
        number end = record { 0 = end_number end }

        to : Defines (check_program cells) input put status → (put ≡ cells_line form.notation (length beyond.within.used)) × (status ≡ record { 0 = 4 })
        to (end, is, runs) =
            let puts : Puts cells (Faulty reported) put end = subst (λ (o : Outcome Plan Fault). Puts cells o put end) beyond_read (runs_to cells input put end runs) in
            (puts.0, is ∙ ap number puts.1)

        from : (put ≡ cells_line form.notation (length beyond.within.used)) × (status ≡ record { 0 = 4 }) → Defines (check_program cells) input put status
        from (line, is) =
            (Limit, is, runs_from cells input put Limit (subst (λ (o : Outcome Plan Fault). Puts cells o put Limit) (sym beyond_read) (line, refl)))

same_but_for_cells : (form : PlanForm) (proof : Bool) → IsSameButForCells form (check_program (by_engine form proof Cells)) (check_program (by_engine form proof Rounds))
same_but_for_cells form proof = record {
  same = λ input none put status. runs_same form proof input none put status;
  refused = λ input beyond put status. runs_refused form proof input beyond put status;
}

-- ---- words

plain : (engine : Engine) → is_plain (engine_word engine) ≡ true
plain Rounds = refl
plain Cells = refl

spelled_engine : (engine : Engine) (words : List Text) → SpellsEngine engine words → Spells (valued engine_name (engine_word engine)) words
spelled_engine engine words (inl is) = inl (is, plain engine)
spelled_engine engine words (inr is) = inr is

-- the request with an engine, by the other words
abbrev request_with : Bool → Option PlanForm → Option ℕ → Engine → Option CheckFlags
request_with proof form workers engine = where_workers (flags_given proof (Some engine) form) workers

engines_requested : (proof : Bool) (form : Option PlanForm) (workers : Option ℕ) (engine : Engine) (flags : CheckFlags) → request_with proof form workers engine ≡ Some flags
    → (flags.engine ≡ engine) × ((other : Engine) → request_with proof form workers other ≡ Some (by_engine flags.form flags.proof other))
engines_requested proof form None engine flags is = absurd cc
engines_requested proof None (Some count) engine flags is = absurd cc
engines_requested proof (Some form) (Some count) engine flags is =
    let one : by_engine form proof engine ≡ flags = cc in
    (ap (λ (f : CheckFlags). f.engine) (sym one), λ other. ap (λ (f : CheckFlags). let o : Option CheckFlags = Some (by_engine f.form f.proof other) in o) one)

-- ---- uses with an engine, and without
module _ (before after : List Use) (none : is_given engine_name (before ++ after) ≡ false) where
  abbrev others : List Use
  others = before ++ after

  abbrev with_engine : Engine → List Use
  with_engine engine = before ++ valued engine_name (engine_word engine) ∷ after

  abbrev request_so : Engine → Option CheckFlags
  request_so engine = request_with (is_given proof_name others) (said_form others) (workers_of (text_given workers_name others)) engine

  uses_with : (engine : Engine) → check_request (arguments_by check_syntax (with_engine engine)) ≡ request_so engine
  uses_with engine =
      let given : Use = valued engine_name (engine_word engine) in
      let json : is_given json_name (with_engine engine) ≡ is_given json_name others = given_without given json_name refl before after in
      let proof : is_given proof_name (with_engine engine) ≡ is_given proof_name others = given_without given proof_name refl before after in
      let workers : text_given workers_name (with_engine engine) ≡ text_given workers_name others = text_without given workers_name refl before after in
      let delay : text_given delay_name (with_engine engine) ≡ text_given delay_name others = text_without given delay_name refl before after in
      let named : engine_given (text_given engine_name (with_engine engine)) ≡ Some engine = ap engine_given (text_there engine_name (engine_word engine) before after none) ∙ is_named engine in
      λ i. where_workers (flags_given (proof i) (named i) (form_given (json i) (delay i))) (workers_of (workers i))

  uses_without : check_request (arguments_by check_syntax others) ≡ request_so Rounds
  uses_without =
      ap (λ (value : Option Text). where_workers (flags_given (is_given proof_name others) (engine_given value) (said_form others)) (workers_of (text_given workers_name others))) (text_absent engine_name others none)

-- what words ask with an engine, they ask with another one too
module _ (engine : Engine) (prefix spelled back : List Text) (flags : CheckFlags) (spells : SpellsEngine engine spelled) (is : requested_by check_syntax check_request (prefix ++ (spelled ++ back)) ≡ Some flags) where
  stands : Among check_syntax check_request engine_name (engine_word engine) prefix spelled back flags
  stands = among check_syntax refl check_request engine_name (engine_word engine) refl refl flags prefix spelled back (spelled_engine engine spelled spells) is

  its : (flags.engine ≡ engine) × ((other : Engine) → request_so stands.before stands.after stands.single other ≡ Some (by_engine flags.form flags.proof other))
  its =
      engines_requested (is_given proof_name (stands.before ++ stands.after)) (said_form (stands.before ++ stands.after)) (workers_of (text_given workers_name (stands.before ++ stands.after))) engine flags
      (sym (uses_with stands.before stands.after stands.single engine) ∙ stands.asks)

  request_engine : (other : Engine) (words : List Text) → SpellsEngine other words → requested_by check_syntax check_request (prefix ++ (words ++ back)) ≡ Some (by_engine flags.form flags.proof other)
  request_engine other words spelled_so =
      asks check_syntax refl check_request (prefix ++ (words ++ back)) (with_engine stands.before stands.after stands.single other) (stands.with_other (engine_word other) words (spelled_engine other words spelled_so))
      ∙ (uses_with stands.before stands.after stands.single other ∙ its.1 other)

  request_without : requested_by check_syntax check_request (prefix ++ back) ≡ Some (by_engine flags.form flags.proof Rounds)
  request_without =
      asks check_syntax refl check_request (prefix ++ back) (stands.before ++ stands.after) stands.without
      ∙ (uses_without stands.before stands.after stands.single ∙ its.1 Rounds)

-- ---- the law

cells_change : (prefix spelled others back : List Text) → SpellsEngine Cells spelled → SpellsEngine Rounds others
    → (flags : CheckFlags) → SayCheckFlags check_syntax flags (prefix ++ (spelled ++ back)) → IsSameButForCells flags.form (check_of (prefix ++ (spelled ++ back))) (check_of (prefix ++ (others ++ back)))
cells_change prefix spelled others back cells rounds flags say =
    let is = (check_exactly (prefix ++ (spelled ++ back)) flags).1 say in
    let one : check_of (prefix ++ (spelled ++ back)) ≡ check_program (by_engine flags.form flags.proof Cells) = ap (program_of_request check_program) (request_engine Cells prefix spelled back flags cells is Cells spelled cells) in
    let other : check_of (prefix ++ (others ++ back)) ≡ check_program (by_engine flags.form flags.proof Rounds) = ap (program_of_request check_program) (request_engine Cells prefix spelled back flags cells is Rounds others rounds) in
    subst (λ (p : Program). IsSameButForCells flags.form p (check_of (prefix ++ (others ++ back)))) (sym one)
    (subst (λ (p : Program). IsSameButForCells flags.form (check_program (by_engine flags.form flags.proof Cells)) p) (sym other) (same_but_for_cells flags.form flags.proof))

taken_by : (engine other : Engine) (prefix spelled others back : List Text) → SpellsEngine engine spelled → SpellsEngine other others
    → ((flags : CheckFlags) × SayCheckFlags check_syntax flags (prefix ++ (spelled ++ back))) → ((flags : CheckFlags) × SayCheckFlags check_syntax flags (prefix ++ (others ++ back)))
taken_by engine other prefix spelled others back one also (flags, say) =
    let is = (check_exactly (prefix ++ (spelled ++ back)) flags).1 say in
    let query = by_engine flags.form flags.proof other in
    (query, (check_exactly (prefix ++ (others ++ back)) query).0 (request_engine engine prefix spelled back flags one is other others also))

rounds_change : (prefix spelled back : List Text) → SpellsEngine Rounds spelled
    → (flags : CheckFlags) → SayCheckFlags check_syntax flags (prefix ++ (spelled ++ back)) → DefineSame (check_of (prefix ++ (spelled ++ back))) (check_of (prefix ++ back))
rounds_change prefix spelled back rounds flags say =
    let is = (check_exactly (prefix ++ (spelled ++ back)) flags).1 say in
    let one = request_engine Rounds prefix spelled back flags rounds is Rounds spelled rounds in
    let other = request_without Rounds prefix spelled back flags rounds is in
    subst (DefineSame (check_of (prefix ++ (spelled ++ back)))) (ap (program_of_request check_program) (one ∙ sym other)) (same_self (check_of (prefix ++ (spelled ++ back))))

pub changes_the_limit_alone : ChangesTheLimitAlone check_of
changes_the_limit_alone = record {
  cells = cells_change;
  taken = λ prefix spelled others back cells rounds. (taken_by Cells Rounds prefix spelled others back cells rounds, taken_by Rounds Cells prefix others spelled back rounds cells);
  rounds = rounds_change;
}

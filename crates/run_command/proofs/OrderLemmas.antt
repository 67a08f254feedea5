-- With feeders `run` puts what it puts without them for the input in order.
use Rattle.std.proofs.Common.{◌≡◌, ℕ, List, ◌++◌, length, refl, sym, ap, ◌∙◌, subst, inl, inr}
use Rattle.texts.specs.Lines.{InputLine, input_lines}
use Rattle.net_model.specs.Network.{Plan}
use Rattle.net_model.specs.ShownForm.{shown_form}
use Rattle.event_stream.specs.Laws.{OneReading}
use Rattle.execution_model.specs.Feeds.{Execution, started}
use Rattle.execution_model.specs.Laws.{setting_of}
use Rattle.command_engine.specs.Inputs.{DeclaresBy, capacity_after}
use Rattle.command_engine.specs.Limits.{most_input}
use Rattle.command_engine.specs.Phases.{FollowsOutcome, GoesOn}
use Rattle.command_engine.specs.Readers.{Outcome, Given, Faulty, reading}
use Rattle.command_engine.specs.Runs.{Run, Runs, begins}
use Rattle.command_engine.specs.declared.endings.End.{End}
use Rattle.command_engine.specs.declared.machines.Flow.{Flow}
use Rattle.command_engine.specs.declared.machines.Flow.TheVariants.{Continue, Finish}
use Rattle.command_engine.proofs.InputLemmas.{OutcomeIs, declared_read, outcome_is}
use Rattle.command_engine.proofs.PhaseLemmas.{run_is}
use Rattle.event_phase.specs.EventRuns.{EventRun, event_run_by}
use Rattle.event_phase.specs.EventPhase.{executing_machine}
use Rattle.event_phase.specs.CompletionOrders.{CompletionOrder, as_named, in_order}
use Rattle.common_answers.specs.Faults.{refusing}
use Rattle.common_answers.specs.declared.faults.Fault.{Fault}
use Rattle.input_texts.specs.PlanInput.{initial_input, input_reader, plan_in}
use Rattle.input_texts.specs.declared.plan_input.PlanForm.{PlanForm}
use Rattle.input_texts.proofs.PlanInputLemmas.{input_by}
use Rattle.run_command.specs.OrderedTexts.{DeclaresNone, FeedersPutTheLinesInOrder, IsOrderedAfterPlan}
use Rattle.run_command.specs.RunCommand.{RunForm, run_begins, run_machine, run_start}
use Rattle.run_command.proofs.AlikeLemmas.{AreAlike, all_alike_ordered, all_ordered_alike, alike_runs, with_completion_order}
use Rattle.run_command.proofs.FollowLemmas.{follows_run, given_over}

module _ (form : PlanForm) where
  -- what the reading of the plan of an input comes to
  abbrev outcome_of : List ℕ → Outcome Plan Fault
  outcome_of input = reading input_reader (begins (initial_input form)) (input_lines input)

  abbrev form_with_order : CompletionOrder → RunForm
  form_with_order completion_order = record { form = form; completion_order = completion_order }

  abbrev FollowsBy : CompletionOrder → Outcome Plan Fault → List ℕ → End → Type 0
  FollowsBy completion_order outcome put end = FollowsOutcome run_begins input_reader refusing executing_machine (form_with_order completion_order) outcome put end

  abbrev RunsBy : CompletionOrder → (input put : List ℕ) → End → Type 0
  RunsBy completion_order input put end = Runs run_machine (run_start (form_with_order completion_order)) input put end

  followed : (completion_order : CompletionOrder) (input put : List ℕ) (end : End) → RunsBy completion_order input put end → FollowsBy completion_order (outcome_of input) put end
  followed completion_order input put end runs =
      run_is run_begins input_reader refusing executing_machine (form_with_order completion_order) (begins (initial_input form)) (input_lines input) put end runs

  follows : (completion_order : CompletionOrder) (input put : List ℕ) (end : End) → FollowsBy completion_order (outcome_of input) put end → RunsBy completion_order input put end
  follows completion_order input put end so =
      follows_run run_begins input_reader refusing executing_machine (form_with_order completion_order) (begins (initial_input form)) (input_lines input) put end so

  module _ (h k : CompletionOrder) where
    begins_other : (net : Plan) (answer : List ℕ) (flow : Flow EventRun) → run_begins (form_with_order h) net answer flow → run_begins (form_with_order k) net answer (with_completion_order k flow)
    begins_other net answer flow (inl (controls, initial)) = inl (
      controls,
      record {
        table = initial.table;
        order = initial.order;
        by_closure = initial.by_closure;
        due = initial.due;
        first = initial.first;
        put = initial.put;
        goes = ap (with_completion_order k) initial.goes;
      },
    )
    begins_other net answer flow (inr (never, (cert, refutes, (over, puts, is)))) = inr (never, (cert, refutes, (over, puts, ap (with_completion_order k) is)))

    module _ (net : Plan) (number spare_capacity : ℕ) (events others : List InputLine) (alike : AreAlike h k (shown_form net) events others) (end : End) where
      abbrev goes_by : CompletionOrder → Flow EventRun → List InputLine → List ℕ → Type 0
      goes_by completion_order flow lines more = GoesOn run_begins input_reader refusing executing_machine flow number spare_capacity lines more end

      state_goes : (state : EventRun) (answer more : List ℕ) → run_begins (form_with_order h) net answer (Continue state)
          → Run executing_machine (record { state = state; number = number; spare_capacity = spare_capacity }) events more end
          → Run executing_machine (record { state = record state { completion_order = k }; number = number; spare_capacity = spare_capacity }) others more end
      state_goes state answer more (inr (never, (cert, refutes, (over, puts, is)))) on = absurd (cc (is))
      state_goes state answer more (inl (controls, initial)) on =
          let first : Execution = started (setting_of (shown_form net) initial.table) in
          let same : state ≡ event_run_by h (shown_form net) first = cc (initial.goes) in
          let there = subst (λ (s : EventRun). Run executing_machine (record { state = s; number = number; spare_capacity = spare_capacity }) events more end) same on in
          let turned = ap (λ (s : EventRun). record s { completion_order = k }) same in
          subst (λ (s : EventRun). Run executing_machine (record { state = s; number = number; spare_capacity = spare_capacity }) others more end) (sym turned)
          (alike_runs h k (shown_form net) end events others alike first number spare_capacity more there)

      goes_other : (flow : Flow EventRun) (answer more : List ℕ) → run_begins (form_with_order h) net answer flow → goes_by h flow events more → goes_by k (with_completion_order k flow) others more
      goes_other (Finish over) answer more initial on = on
      goes_other (Continue state) answer more initial on = state_goes state answer more initial on

      given_other : (put : List ℕ) → FollowsBy h (Given net number spare_capacity events) put end → FollowsBy k (Given net number spare_capacity others) put end
      given_other put (answer, more, flow, initial, puts, on) = (answer, more, with_completion_order k flow, begins_other net answer flow initial, puts, goes_other flow answer more initial on)

      runs_other : (input other : List ℕ) → outcome_of input ≡ Given net number spare_capacity events → outcome_of other ≡ Given net number spare_capacity others → (put : List ℕ) → RunsBy h input put end → RunsBy k other put end
      runs_other input other is also put runs =
          follows k other put end
          (subst (λ (o : Outcome Plan Fault). FollowsBy k o put end) (sym also) (given_other put (subst (λ (o : Outcome Plan Fault). FollowsBy h o put end) is (followed h input put end runs))))

    -- if no network is declared nothing is required of it
    runs_same : (input : List ℕ) → DeclaresNone form input → (put : List ℕ) (end : End) → RunsBy h input put end → RunsBy k input put end
    runs_same input none put end runs =
        by (outcome_of input) refl (outcome_is input_reader (initial_input form) (plan_in form) (input_by form 0) (input_lines input)) (followed h input put end runs)
      where
        by : (outcome : Outcome Plan Fault) → outcome_of input ≡ outcome → OutcomeIs input_reader (initial_input form) (plan_in form) (input_by form 0) (input_lines input) outcome
            → FollowsBy h outcome put end → RunsBy k input put end
        by (Given net number spare_capacity rest) comes is so = absurd (none net is.used rest is.divided is.declares)
        by (Faulty fault) comes is so = follows k input put end (subst (λ (o : Outcome Plan Fault). FollowsBy k o put end) (sym comes) so)

  read_there : (input : List ℕ) (plan events : List InputLine) (net : Plan) → input_lines input ≡ plan ++ events → DeclaresBy (plan_in form) plan events net
      → outcome_of input ≡ Given net (length plan) (capacity_after most_input plan) events
  read_there input plan events net divided declares =
      declared_read input_reader (initial_input form) (plan_in form) (input_by form 0) (input_lines input) plan events net divided declares

  -- what is read of the lines of a plan does not depend on those after them
  read_so : (input other : List ℕ) (plan events others : List InputLine) (net : Plan) → input_lines input ≡ plan ++ events → input_lines other ≡ plan ++ others
      → DeclaresBy (plan_in form) plan events net → outcome_of other ≡ Given net (length plan) (capacity_after most_input plan) others
  read_so input other plan events others net divided divided_so declares =
      let read : List InputLine → Outcome Plan Fault = reading input_reader (begins (initial_input form)) in
      let there = sym (ap read divided) ∙ read_there input plan events net divided declares in
      ap read divided_so ∙ given_over input_reader net (length plan) (capacity_after most_input plan) (begins (initial_input form)) plan events others there

module _ (reads : (net : Plan) (line : List (List ℕ)) → OneReading net line) (form : PlanForm) (input ordered : List ℕ) where
  in_order_after : IsOrderedAfterPlan form input ordered → (put : List ℕ) (end : End) → RunsBy form in_order input put end → RunsBy form as_named ordered put end
  in_order_after is put end runs =
      runs_other form in_order as_named is.net _ _ is.events is.others (all_ordered_alike reads (shown_form is.net) is.events is.others is.lines) end input ordered
      (read_there form input is.plan is.events is.net is.divided is.declares) (read_so form input ordered is.plan is.events is.others is.net is.divided is.divided_so is.declares) put runs

  as_named_after : IsOrderedAfterPlan form input ordered → (put : List ℕ) (end : End) → RunsBy form as_named ordered put end → RunsBy form in_order input put end
  as_named_after is put end runs =
      runs_other form as_named in_order is.net _ _ is.others is.events (all_alike_ordered reads (shown_form is.net) is.events is.others is.lines) end ordered input
      (read_so form input ordered is.plan is.events is.others is.net is.divided is.divided_so is.declares) (read_there form input is.plan is.events is.net is.divided is.declares) put runs

pub lines_in_order : ((net : Plan) (line : List (List ℕ)) → OneReading net line) → FeedersPutTheLinesInOrder
lines_in_order reads form input ordered (inl is) put status = (
  (λ defined. (defined.0, defined.1, in_order_after reads form input ordered is put defined.0 defined.2)),
  (λ defined. (defined.0, defined.1, as_named_after reads form input ordered is put defined.0 defined.2)),
)
lines_in_order reads form input ordered (inr (none, same)) put status = (
  (λ defined. (defined.0, defined.1, subst (λ (text : List ℕ). RunsBy form as_named text put defined.0) (sym same) (runs_same form in_order as_named input none put defined.0 defined.2))),
  (λ defined. (defined.0, defined.1, runs_same form as_named in_order input none put defined.0 (subst (λ (text : List ℕ). RunsBy form as_named text put defined.0) same defined.2))),
)

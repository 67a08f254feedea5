-- `run` keeps its promise.
use Rattle.std.proofs.Common.{◌≡◌, ◌⊎◌, ℕ, List, [], ◌++◌, length, refl, sym, ap, ◌∙◌, subst, inl, inr, append_assoc, append-nil}
use Rattle.texts.specs.Lines.{InputLine, input_lines, lines}
use Rattle.net_model.specs.Network.{Plan}
use Rattle.net_model.specs.ShownForm.{shown_form}
use Rattle.strategy_model.specs.Control.{IsControllable}
use Rattle.closure_laws.proofs.OrderLemmas.{law_ordered_closures_are_controllable}
use Rattle.cert_format.specs.declared.certificate.Certificate.{Certificate}
use Rattle.refutation_certificates.specs.Refutations.{Refutes}
use Rattle.execution_model.specs.Feeds.{started}
use Rattle.execution_model.specs.Laws.{setting_of}
use Rattle.execution_model.specs.Streams.{Listing}
use Rattle.command_engine.specs.AnswersOnce.{AnswersOutcome}
use Rattle.command_engine.specs.Inputs.{AnswersOrRefuses, IsFirstRefusal, capacity_after}
use Rattle.command_engine.specs.Limits.{most_input}
use Rattle.command_engine.specs.Phases.{FollowsOutcome, GoesOn}
use Rattle.command_engine.specs.Readers.{Outcome, Given, Faulty, reading}
use Rattle.command_engine.specs.Runs.{Runs, begins}
use Rattle.command_engine.specs.declared.endings.End.{End}
use Rattle.command_engine.specs.declared.endings.End.TheVariants as ends
use Rattle.command_engine.specs.declared.machines.Flow.{Flow}
use Rattle.command_engine.proofs.InputLemmas.{IsGivenAt, OutcomeIs, declared_read, outcome_is, outcome_answered}
use Rattle.command_engine.proofs.PhaseLemmas.{run_is}
use Rattle.event_phase.specs.EventRuns.{EventRun}
use Rattle.event_phase.specs.Day.{IsWholeDay, IsRefusedDay}
use Rattle.event_phase.specs.EventAnswers.{due_line}
use Rattle.event_phase.specs.EventFaults.{HasEventFault}
use Rattle.event_phase.specs.EventPhase.{executing_machine}
use Rattle.common_answers.specs.Faults.{refusing, fault_end}
use Rattle.input_texts.specs.PlanInput.{initial_input, input_reader, plan_in}
use Rattle.run_command.specs.RunPromise.{EndsAsDeclared, OpensExecution, plan_opens, plan_states, RunPromise}
use Rattle.run_command.specs.RunCommand.{RunForm, run_begins, run_machine, run_start}
use Rattle.common_answers.specs.VerdictLines.{controllable_line, PutsRefuted}
use Rattle.common_answers.specs.declared.faults.Fault.{Fault}
use Rattle.event_phase.proofs.DayLemmas.{ExecutionLaws}
use Rattle.event_phase.proofs.DueLemmas.{due_answered}
use Rattle.event_phase.proofs.ExecutionLemmas.{OpenedBy, IsOpened, Lasts, lasts, execution_keeps, whole_by, refused_so, fault_so, fault_not}
use Rattle.event_phase.proofs.StatedLemmas.{ShowsStated, refused_as_stated, whole_as_stated}
use Rattle.input_texts.proofs.PlanInputLemmas.{input_by, input_sound}
use Rattle.run_command.proofs.NamedDayLemmas.{named_keeps}

module _ (query : RunForm) where
  -- ---- what follows on the reading of a plan
  -- what the reading of the plan of an input comes to
  abbrev outcome_of : List InputLine → Outcome Plan Fault
  outcome_of lines = reading input_reader (begins (initial_input query.form)) lines

  -- how a run follows on what the reading of its plan came to
  abbrev Follows : Outcome Plan Fault → List ℕ → End → Type 0
  Follows outcome put end = FollowsOutcome run_begins input_reader refusing executing_machine query outcome put end

  -- or a certificate is put
  record RefutedSo (net : Plan) (put : List ℕ) (end : End) : Type 0 where
    pub never : ¬ IsControllable net
    pub cert : Certificate
    pub refutes : Refutes (shown_form net) cert
    pub puts : PutsRefuted cert put end

  -- the network is controllable and the execution of its shown form is opened, or a certificate is put
  abbrev HasStarted : Plan → (number spare_capacity : ℕ) → List InputLine → List ℕ → End → Type 0
  HasStarted net number spare_capacity rest put end = (IsControllable net × OpenedBy query.completion_order (shown_form net) number spare_capacity rest put end) ⊎ RefutedSo net put end

  module _ (net : Plan) (number spare_capacity : ℕ) (rest : List InputLine) (put answer more : List ℕ) (flow : Flow EventRun) (end : End) (all : put ≡ answer ++ more)
      (on : GoesOn run_begins input_reader refusing executing_machine flow number spare_capacity rest more end) where
    goes_as : (other : Flow EventRun) → flow ≡ other → GoesOn run_begins input_reader refusing executing_machine other number spare_capacity rest more end
    goes_as other is = subst (λ (o : Flow EventRun). GoesOn run_begins input_reader refusing executing_machine o number spare_capacity rest more end) is on

    initial : run_begins query net answer flow → HasStarted net number spare_capacity rest put end
    initial (inl (controllable, begins)) = inl (
      controllable,
      record {
        controllable = law_ordered_closures_are_controllable (shown_form net) begins.table begins.order begins.by_closure.dispatched.instant begins.by_closure.closure begins.by_closure.dispatched.ordered;
        table = begins.table;
        order = begins.order;
        by_closure = begins.by_closure;
        due = begins.due;
        first = begins.first;
        more = more;
        all = all ∙ (ap (λ (a : List ℕ). a ++ more) begins.put ∙ append_assoc controllable_line (due_line begins.due) more);
        later = goes_as _ begins.goes;
      },
    )
    initial (inr (never, (cert, refutes, (ended, puts, is)))) =
        let over = goes_as _ is in
        inr (record { never = never; cert = cert; refutes = refutes; puts = (all ∙ (ap (λ (m : List ℕ). answer ++ m) over.0 ∙ (append-nil answer ∙ puts.0)), over.1 ∙ puts.1) })

  opened_or : (net : Plan) (number spare_capacity : ℕ) (rest : List InputLine) (put : List ℕ) (end : End) → Follows (Given net number spare_capacity rest) put end
      → HasStarted net number spare_capacity rest put end
  opened_or net number spare_capacity rest put end (answer, more, flow, begins, all, on) = initial net number spare_capacity rest put answer more flow end all on begins

  -- if it is opened after these lines, it is one that they open
  opened_after : (net : Plan) (used rest : List InputLine) (before put : List ℕ) (end : End) → before ≡ [] → OpenedBy query.completion_order net (length used) (capacity_after most_input used) rest put end
      → IsOpened query.completion_order net used rest before put end
  opened_after net used rest before put end nothing opened = record {
    controllable = opened.controllable;
    table = opened.table;
    order = opened.order;
    by_closure = opened.by_closure;
    due = opened.due;
    first = opened.first;
    more = opened.more;
    all = opened.all ∙ ap (λ (b : List ℕ). b ++ (controllable_line ++ (due_line opened.due ++ opened.more))) (sym nothing);
    later = opened.later;
  }

  -- what is put for a network, whatever lines follow
  abbrev Begins : Plan → List ℕ → End → Type 0
  Begins net put end = (number : ℕ) × (spare_capacity : ℕ) × (rest : List InputLine) × Follows (Given net number spare_capacity rest) put end

  abbrev begins_answers : RunForm → Plan → ℕ → List ℕ → End → Type 0
  begins_answers one net last put end = Begins net put end

  follows_answered : (outcome : Outcome Plan Fault) (put : List ℕ) (end : End) → Follows outcome put end → AnswersOutcome begins_answers input_reader refusing query outcome put end
  follows_answered (Given net number spare_capacity rest) put end follows = (number, spare_capacity, rest, follows)
  follows_answered (Faulty fault) put end follows = follows

  module _ (laws : ExecutionLaws) where
    opens_by : (net : Plan) (put : List ℕ) (end : End) → Begins net put end → OpensExecution net put end
    opens_by net put end (number, spare_capacity, rest, follows) = by (opened_or net number spare_capacity rest put end follows)
      where
        by : HasStarted net number spare_capacity rest put end → OpensExecution net put end
        by (inl (controllable, opened)) =
            let first = due_answered (shown_form net) _ _ opened.by_closure [] (started (setting_of (shown_form net) opened.table)) refl refl opened.due opened.first in
            inl (controllable, (opened.due, opened.more, first, opened.all))
        by (inr refuted) = inr (refuted.never, (refuted.cert, refuted.refutes.accepted, refuted.puts))

    opens_text : (input put : List ℕ) (end : End) → AnswersOrRefuses (plan_in query.form) refusing Begins input put end → AnswersOrRefuses (plan_in query.form) refusing OpensExecution input put end
    opens_text input put end (inl (net, after, is, begins)) = inl (net, after, is, opens_by net put end begins)
    opens_text input put end (inr refused) = inr refused

    module _ (input put : List ℕ) (end : End) (follows : Follows (outcome_of (input_lines input)) put end) where
      -- lines of a plan of a controllable network open its execution
      leads : (used rest : List InputLine) (net : Plan) (before : List ℕ) → input_lines input ≡ used ++ rest → (plan_opens query).opens used rest net before → IsControllable net → IsOpened query.completion_order net used rest before put end
      leads used rest net before divided (stated, declares, as_shown, nothing) controls = by (opened_or stated (length used) (capacity_after most_input used) rest put end here)
        where
          here : Follows (Given stated (length used) (capacity_after most_input used) rest) put end
          here = subst (λ (o : Outcome Plan Fault). Follows o put end) (declared_read input_reader (initial_input query.form) (plan_in query.form) (input_by query.form 0) (input_lines input) used rest stated divided declares) follows

          by : HasStarted stated (length used) (capacity_after most_input used) rest put end → IsOpened query.completion_order net used rest before put end
          by (inl (controllable, opened)) = subst (λ (n : Plan). IsOpened query.completion_order n used rest before put end) (sym as_shown) (opened_after (shown_form stated) used rest before put end nothing opened)
          by (inr refuted) = absurd (refuted.refutes.never (subst IsControllable as_shown controls))

      -- how the run ended: by the first refusal of the input, by a certificate, or after an execution was opened
      data Ending : Type 0 where
        refused_text : (fault : Fault) → IsFirstRefusal (plan_in query.form) (input_lines input) fault → end ≡ fault_end fault → Ending
        refuted_network : end ≡ ends.Refused → Ending
        lasted : Lasts laws (plan_opens query) (input_lines input) put end → Ending

      how_ended : Ending
      how_ended = by (outcome_of (input_lines input)) refl follows (outcome_is input_reader (initial_input query.form) (plan_in query.form) (input_by query.form 0) (input_lines input))
        where
          opens : (net : Plan) (number spare_capacity : ℕ) (rest : List InputLine) → IsGivenAt input_reader (initial_input query.form) (plan_in query.form) (input_by query.form 0) (input_lines input) net number spare_capacity rest
              → HasStarted net number spare_capacity rest put end → Ending
          opens net number spare_capacity rest given (inl (controllable, opened_run)) =
              let shown : Plan = shown_form net in
              let opened = subst (λ (n : ℕ). OpenedBy query.completion_order shown n (capacity_after most_input given.used) rest put end) given.counted
              (subst (λ (r : ℕ). OpenedBy query.completion_order shown number r rest put end) given.left opened_run) in
              lasted (lasts laws (plan_opens query) (input_lines input) given.used rest shown [] put end given.divided (net, given.declares, refl, refl) (opened_after shown given.used rest [] put end refl opened))
          opens net number spare_capacity rest given (inr refuted) = refuted_network refuted.puts.1

          by : (outcome : Outcome Plan Fault) → outcome_of (input_lines input) ≡ outcome → Follows outcome put end
              → OutcomeIs input_reader (initial_input query.form) (plan_in query.form) (input_by query.form 0) (input_lines input) outcome → Ending
          by (Given net number spare_capacity rest) comes on is = opens net number spare_capacity rest is (opened_or net number spare_capacity rest put end on)
          by (Faulty fault) comes on is = refused_text fault is on.1

      completes_by : end ≡ ends.Done → (net : Plan) × (listings : List Listing) × IsWholeDay (plan_opens query) (input_lines input) net listings
      completes_by whole = by how_ended
        where
          by : Ending → (net : Plan) × (listings : List Listing) × IsWholeDay (plan_opens query) (input_lines input) net listings
          by (refused_text fault first is) = absurd (fault_not fault end is (inr whole))
          by (refuted_network is) = absurd (cc (is, whole))
          by (lasted one) = (one.net, one.ending.listings, whole_by laws (plan_opens query) (input_lines input) put end one whole one.ending.decided)

      refused_by_day : end ≡ ends.EventRefused → IsRefusedDay (plan_opens query) (input_lines input)
      refused_by_day refused = by how_ended
        where
          by : Ending → IsRefusedDay (plan_opens query) (input_lines input)
          by (refused_text fault first is) = absurd (fault_not fault end is (inl refused))
          by (refuted_network is) = absurd (cc (is, refused))
          by (lasted one) = refused_so laws (plan_opens query) (input_lines input) put end one refused one.ending.decided

      -- so of the network that is declared
      stating : (used rest : List InputLine) (net : Plan) (before : List ℕ) → input_lines input ≡ used ++ rest → (plan_opens query).opens used rest net before
          → ShowsStated (plan_states query) used rest net
      stating used rest net before divided (stated, declares, as_shown, nothing) =
          record { stated = stated; sound = input_sound query.form _ stated _ declares.declared; has = declares; same = as_shown }

      declared_by : EndsAsDeclared query (input_lines input) end
      declared_by = record {
        completes = λ whole.
            let (net, listings, day) = completes_by whole in
            whole_as_stated laws.streams laws.shown (plan_opens query) (input_lines input) (plan_states query) stating net listings day;
        refused = λ refused. refused_as_stated laws.streams laws.shown (plan_opens query) (input_lines input) (plan_states query) stating (refused_by_day refused);
      }

      faults_by : (end ≡ ends.Fault) ⊎ (end ≡ ends.Limit)
          → (fault : Fault) × (IsFirstRefusal (plan_in query.form) (input_lines input) fault ⊎ HasEventFault (plan_opens query) (input_lines input) fault)
      faults_by so = by how_ended
        where
          never : end ≡ ends.Refused → (end ≡ ends.Fault) ⊎ (end ≡ ends.Limit) → ⊥
          never is (inl fault) = absurd (cc (is, fault))
          never is (inr limit) = absurd (cc (is, limit))

          by : Ending → (fault : Fault) × (IsFirstRefusal (plan_in query.form) (input_lines input) fault ⊎ HasEventFault (plan_opens query) (input_lines input) fault)
          by (refused_text fault first is) = (fault, inl first)
          by (refuted_network is) = absurd (never is so)
          by (lasted one) = let (fault, has) = fault_so laws (plan_opens query) (input_lines input) put end one so one.ending.decided in (fault, inr has)

    -- each run keeps the promise
    pub run_keeps : (input put : List ℕ) (end : End) → Runs run_machine (run_start query) input put end → RunPromise query input put end
    run_keeps input put end runs =
        let follows = run_is run_begins input_reader refusing executing_machine query (begins (initial_input query.form)) (input_lines input) put end runs in
        let text = outcome_answered input_reader (initial_input query.form) (plan_in query.form) (input_by query.form 0) begins_answers refusing query input put end (follows_answered (outcome_of (input_lines input)) put end follows) in
        record {
          opens = record {
            answers = opens_text input put end text.answers;
            declared = λ net is. opens_by net put end (text.declared net is);
            refuses = text.refuses;
          };
          execution = execution_keeps laws (plan_opens query) (input_lines input) put end (leads input put end follows);
          completes = completes_by input put end follows;
          refused = refused_by_day input put end follows;
          faults = faults_by input put end follows;
          declared = declared_by input put end follows;
          named = named_keeps (plan_opens query).opens (input_lines input) query.completion_order put end
              (execution_keeps laws (plan_opens query) (input_lines input) put end (leads input put end follows)) (completes_by input put end follows) (refused_by_day input put end follows);
        }

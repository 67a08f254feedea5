-- `fleet` keeps its promise, and its runs end by the causes in their input.
use Rattle.std.proofs.Common.{◌≡◌, ◌⊎◌, inl, inr, ℕ, ◌+◌, ◌-◌, ◌≤◌, List, [], ◌∷◌, ◌++◌, length, refl, sym, ap, ◌∙◌, subst, arith, append_assoc, append-nil}
use Rattle.texts.specs.Limits.{most_line}
use Rattle.texts.specs.Lines.{InputLine, input_lines, line_size}
use Rattle.plan_port.specs.Lines.{Comes, coming}
use Rattle.command_engine.specs.AnswersOnce.{AnswersOutcome}
use Rattle.command_engine.specs.Inputs.{AnswersOrRefuses, DeclaresBy, IsFirstRefusal, capacity_after, texts}
use Rattle.command_engine.specs.Limits.{most_input}
use Rattle.command_engine.specs.Phases.{FollowsOutcome, GoesOn}
use Rattle.command_engine.specs.Readers.{Outcome, Given, Faulty, reading}
use Rattle.command_engine.specs.Runs.{Here, Runs, begins, Run as RunOver}
use Rattle.command_engine.specs.declared.endings.End.{End}
use Rattle.command_engine.specs.declared.endings.End.TheVariants as ends
use Rattle.command_engine.specs.declared.machines.Flow.{Flow}
use Rattle.command_engine.proofs.InputLemmas.{IsGivenAt, OutcomeIs, declared_read, outcome_is, outcome_answered}
use Rattle.command_engine.proofs.PhaseLemmas.{run_is}
use Rattle.command_contracts.specs.Causes.{EndsByCause}
use Rattle.command_contracts.proofs.CauseLemmas.{answers_as, only_by}
use Rattle.common_answers.specs.Faults.{refusing, fault_end, fault_line}
use Rattle.common_answers.specs.FormatRefusals.{Come}
use Rattle.common_answers.specs.declared.faults.Fault.{Fault}
use Rattle.event_phase.specs.EventRuns.{EventRun}
use Rattle.event_phase.specs.ExecutionPromise.{PutsLast}
use Rattle.event_phase.proofs.DayLemmas.{ExecutionLaws}
use Rattle.event_phase.proofs.ExecutionLemmas.{fault_ends_so, fault_not}
use Rattle.multiplexed_commands.specs.Starts.{Start, starting_members, starts_put}
use Rattle.fleet_command.specs.FleetCauses.{HasLineFault, IsClosedInput, IsLineFault, IsServed, NameAll, fleet_causes, names_of, number_then, capacity_then}
use Rattle.fleet_command.specs.FleetCommand.{BeginEach, fleet_begins, fleet_machine, fleet_start, plans_machine}
use Rattle.fleet_command.specs.FleetHeader.{Nothing}
use Rattle.fleet_command.specs.FleetPromise.{AreAnswered, FleetPromise, OpensFleet}
use Rattle.fleet_command.specs.FleetText.{Plans, initial_fleet, fleet_in, fleet_reader}
use Rattle.fleet_command.specs.PlanNames.{AreNamed}
use Rattle.fleet_command.specs.declared.fleet_question.FleetQuestion.{FleetQuestion}
use Rattle.fleet_command.proofs.AloneLemmas.{each_alone}
use Rattle.fleet_command.proofs.LineLemmas.{EndsFleet, HowEnds, at_end, by_fault, Members, OverLines, closed_so, ends_fleet, fault_so, names_in, over_lines}
use Rattle.fleet_command.proofs.PutNameLemmas.{put_of_names}
use Rattle.fleet_command.proofs.TextLemmas.{declared_names, fleet_by}

-- what the reading of the text of an input comes to
abbrev outcome_of : List InputLine → Outcome (Nothing × Plans) Fault
outcome_of lines = reading fleet_reader (begins initial_fleet) lines

abbrev Follows : FleetQuestion → Outcome (Nothing × Plans) Fault → List ℕ → End → Type 0
Follows query outcome put end = FollowsOutcome fleet_begins fleet_reader refusing plans_machine query outcome put end

-- the plans begin so, and then their lines are served
record HasStarted (plans : Plans) (number spare_capacity : ℕ) (rest : List InputLine) (put : List ℕ) (end : End) : Type 0 where
  starts : List (Start EventRun)
  each : BeginEach plans starts
  more : List ℕ
  all : put ≡ starts_put starts ++ more
  later : RunOver plans_machine (record { state = starting_members starts; number = number; spare_capacity = spare_capacity }) rest more end

initial : (query : FleetQuestion) (text : Nothing × Plans) (number spare_capacity : ℕ) (rest : List InputLine) (put : List ℕ) (end : End) → Follows query (Given text number spare_capacity rest) put end
    → HasStarted text.1 number spare_capacity rest put end
initial query text number spare_capacity rest put end (answer, more, flow, starts_so, all, on) = record {
  starts = starts_so.starts;
  each = starts_so.each;
  more = more;
  all = all ∙ ap (λ (a : List ℕ). a ++ more) starts_so.put;
  later = subst (λ (o : Flow Members). GoesOn fleet_begins fleet_reader refusing plans_machine o number spare_capacity rest more end) starts_so.goes on;
}

-- their names are those of the plans
start_names : (plans : Plans) (starts : List (Start EventRun)) → BeginEach plans starts → names_in (starting_members starts) ≡ names_of plans
start_names [] [] each = refl
start_names [] (start ∷ starts) each = absurd each
start_names (plan ∷ plans) [] each = absurd each
start_names (plan ∷ plans) (start ∷ starts) (name, begins_so, each) =
    ap (λ (n : List ℕ). n ∷ names_in (starting_members starts)) name ∙ ap (λ (ns : List (List ℕ)). plan.0 ∷ ns) (start_names plans starts each)

capacity_less : (lines : List InputLine) (spare_capacity : ℕ) → capacity_after spare_capacity lines ≤ spare_capacity
capacity_less [] spare_capacity = omega arith
capacity_less (line ∷ lines) spare_capacity = let on = capacity_less lines (spare_capacity - line_size line) in omega (arith, on)

module _ (laws : ExecutionLaws) (query : FleetQuestion) where
  -- what is put for a text, whatever lines follow
  abbrev Begins : Nothing × Plans → List ℕ → End → Type 0
  Begins text put end = (number : ℕ) × (spare_capacity : ℕ) × (rest : List InputLine) × Follows query (Given text number spare_capacity rest) put end

  abbrev begins_answers : FleetQuestion → Nothing × Plans → ℕ → List ℕ → End → Type 0
  begins_answers one text last put end = Begins text put end

  follows_answered : (outcome : Outcome (Nothing × Plans) Fault) (put : List ℕ) (end : End) → Follows query outcome put end → AnswersOutcome begins_answers fleet_reader refusing query outcome put end
  follows_answered (Given text number spare_capacity rest) put end follows = (number, spare_capacity, rest, follows)
  follows_answered (Faulty fault) put end follows = follows

  opens_by : (text : Nothing × Plans) (put : List ℕ) (end : End) → Begins text put end → OpensFleet text put end
  opens_by text put end (number, spare_capacity, rest, follows) =
      let one = initial query text number spare_capacity rest put end follows in
      (one.starts, one.more, one.each, one.all)

  opens_text : (input put : List ℕ) (end : End) → AnswersOrRefuses fleet_in refusing Begins input put end → AnswersOrRefuses fleet_in refusing OpensFleet input put end
  opens_text input put end (inl (text, after, is, begins_so)) = inl (text, after, is, opens_by text put end begins_so)
  opens_text input put end (inr refused) = inr refused

  module _ (input put : List ℕ) (end : End) (follows : Follows query (outcome_of (input_lines input)) put end) where
    module _ (plans : Plans) (served : IsServed (input_lines input) plans) where
      starts_at : HasStarted plans (length served.used) (capacity_after most_input served.used) (served.lines ++ served.rest) put end
      starts_at =
          initial query (served.text, plans) (length served.used) (capacity_after most_input served.used) (served.lines ++ served.rest) put end
          (subst (λ (o : Outcome (Nothing × Plans) Fault). Follows query o put end)
          (declared_read fleet_reader initial_fleet fleet_in fleet_by (input_lines input) served.used (served.lines ++ served.rest) (served.text, plans) served.divided served.declares) follows)

      abbrev first : Here Members
      first = record { state = starting_members starts_at.starts; number = length served.used; spare_capacity = capacity_after most_input served.used }

      names_first : names_in first.state ≡ names_of plans
      names_first = start_names plans starts_at.starts starts_at.each

      over : OverLines first served.lines served.rest starts_at.more end
      over =
          over_lines served.lines served.rest first starts_at.more end served.come
          (subst (λ (names : List (List ℕ)). NameAll names (texts served.lines)) (sym names_first) served.named) starts_at.later

      names_declared : AreNamed plans
      names_declared = declared_names (texts (served.used ++ (served.lines ++ served.rest))) served.text plans (texts (served.lines ++ served.rest)) served.declares.declared

      answered_so : AreAnswered plans served.lines (starts_put starts_at.starts ++ over.said)
      answered_so = record {
        alone =
            each_alone laws plans starts_at.starts (length served.used) (capacity_after most_input served.used) served.lines over.said over.there starts_at.each names_declared
            (capacity_less served.used most_input) over.answers;
        named = put_of_names plans starts_at.starts first served.lines over.said over.there starts_at.each names_declared names_first over.answers;
      }

      all_so : put ≡ (starts_put starts_at.starts ++ over.said) ++ over.more
      all_so = starts_at.all ∙ (ap (λ (m : List ℕ). starts_put starts_at.starts ++ m) over.all ∙ sym (append_assoc (starts_put starts_at.starts) over.said over.more))

      alone_by : (said : List ℕ) × (more : List ℕ) × AreAnswered plans served.lines said × (put ≡ said ++ more)
      alone_by = (starts_put starts_at.starts ++ over.said, over.more, answered_so, all_so)

      names_there : names_in over.there.state ≡ names_of plans
      names_there = over.names ∙ names_first

    closes_by : (closed : IsClosedInput (input_lines input)) → AreAnswered closed.plans closed.served.lines put × (end ≡ ends.Done)
    closes_by closed =
        let plans = closed.plans in
        let served = closed.served in
        let one = over plans served in
        let run : RunOver plans_machine one.there (closed.last ∷ closed.others) one.more end = subst (λ (ls : List InputLine). RunOver plans_machine one.there ls one.more end) closed.next one.later in
        let comes : coming most_line one.there.spare_capacity closed.last ≡ Comes = subst (λ (r : ℕ). coming most_line r closed.last ≡ Comes) (sym one.spare_capacity) closed.comes in
        let ended = closed_so one.there closed.last closed.others one.more end comes closed.ends run in
        let whole : put ≡ starts_put (starts_at plans served).starts ++ one.said =
        all_so plans served ∙ (ap (λ (m : List ℕ). (starts_put (starts_at plans served).starts ++ one.said) ++ m) ended.0 ∙ append-nil (starts_put (starts_at plans served).starts ++ one.said)) in
        (subst (AreAnswered plans served.lines) (sym whole) (answered_so plans served), ended.1)

    faulty_by : (fault : Fault) → HasLineFault (input_lines input) fault → PutsLast (fault_line fault) put × (end ≡ fault_end fault)
    faulty_by fault has =
        let plans = has.plans in
        let served = has.served in
        let one = over plans served in
        let named : IsLineFault (names_in one.there.state) (number_then served + 1) (capacity_then served) served.rest fault =
        subst (λ (names : List (List ℕ)). IsLineFault names (number_then served + 1) (capacity_then served) served.rest fault) (sym (names_there plans served)) has.next in
        let numbered : IsLineFault (names_in one.there.state) (one.there.number + 1) (capacity_then served) served.rest fault =
        subst (λ (n : ℕ). IsLineFault (names_in one.there.state) (n + 1) (capacity_then served) served.rest fault) (sym one.number) named in
        let next : IsLineFault (names_in one.there.state) (one.there.number + 1) one.there.spare_capacity served.rest fault =
        subst (λ (r : ℕ). IsLineFault (names_in one.there.state) (one.there.number + 1) r served.rest fault) (sym one.spare_capacity) numbered in
        let ended = fault_so one.there served.rest fault one.more end next one.later in
        ((starts_put (starts_at plans served).starts ++ one.said, all_so plans served ∙ ap (λ (m : List ℕ). (starts_put (starts_at plans served).starts ++ one.said) ++ m) ended.0), ended.1)

    -- ---- how the run ended: by the first refusal of the text, at a line that closes all, or by a fault of its lines
    data Ending : Type 0 where
      refused_text : (fault : Fault) → IsFirstRefusal fleet_in (input_lines input) fault → end ≡ fault_end fault → Ending
      closed_all : IsClosedInput (input_lines input) → end ≡ ends.Done → Ending
      faulty_line : (fault : Fault) → HasLineFault (input_lines input) fault → end ≡ fault_end fault → Ending

    module _ (text : Nothing) (plans : Plans) (number spare_capacity : ℕ) (rest : List InputLine) (given : IsGivenAt fleet_reader initial_fleet fleet_in fleet_by (input_lines input) (text, plans) number spare_capacity rest)
        (later : List ℕ) (one : EndsFleet (names_of plans) number spare_capacity rest later end) where
      abbrev served_by : IsServed (input_lines input) plans
      served_by = record {
        text = text;
        used = given.used;
        lines = one.served;
        rest = one.rest;
        divided = given.divided ∙ ap (λ (ls : List InputLine). given.used ++ ls) one.divided;
        declares = subst (λ (ls : List InputLine). DeclaresBy fleet_in given.used ls (text, plans)) one.divided given.declares;
        come = subst (λ (r : ℕ). Come r one.served) given.left one.come;
        named = one.named;
      }

      -- where the run stands then
      number_so : number + length one.served ≡ number_then served_by
      number_so = ap (λ (n : ℕ). n + length one.served) given.counted

      capacity_so : capacity_after spare_capacity one.served ≡ capacity_then served_by
      capacity_so = ap (λ (r : ℕ). capacity_after r one.served) given.left

      ends_so : HowEnds (names_of plans) (number + length one.served) (capacity_after spare_capacity one.served) one.rest one.more end → Ending
      ends_so (at_end line others is comes closing nothing done) = closed_all (record {
        plans = plans;
        served = served_by;
        last = line;
        others = others;
        next = is;
        comes = subst (λ (r : ℕ). coming most_line r line ≡ Comes) capacity_so comes;
        ends = closing;
      }) done
      ends_so (by_fault fault faulty puts so) = faulty_line fault (record {
        plans = plans;
        served = served_by;
        next =
            subst (λ (n : ℕ). IsLineFault (names_of plans) (n + 1) (capacity_then served_by) one.rest fault) number_so
            (subst (λ (r : ℕ). IsLineFault (names_of plans) (number + length one.served + 1) r one.rest fault) capacity_so faulty);
      }) so

    -- what is put after the plans have begun
    start_ends : (text : Nothing) (plans : Plans) (number spare_capacity : ℕ) (rest : List InputLine) → IsGivenAt fleet_reader initial_fleet fleet_in fleet_by (input_lines input) (text, plans) number spare_capacity rest
        → HasStarted plans number spare_capacity rest put end → Ending
    start_ends text plans number spare_capacity rest given one =
        let over_all : EndsFleet (names_of plans) number spare_capacity rest one.more end =
        subst (λ (names : List (List ℕ)). EndsFleet names number spare_capacity rest one.more end) (start_names plans one.starts one.each)
        (ends_fleet rest (record { state = starting_members one.starts; number = number; spare_capacity = spare_capacity }) one.more end one.later) in
        ends_so text plans number spare_capacity rest given one.more over_all over_all.how

    how_ended : Ending
    how_ended = by (outcome_of (input_lines input)) refl follows (outcome_is fleet_reader initial_fleet fleet_in fleet_by (input_lines input))
      where
        by : (outcome : Outcome (Nothing × Plans) Fault) → outcome_of (input_lines input) ≡ outcome → Follows query outcome put end → OutcomeIs fleet_reader initial_fleet fleet_in fleet_by (input_lines input) outcome → Ending
        by (Given (text, plans) number spare_capacity rest) comes on is = start_ends text plans number spare_capacity rest is (initial query (text, plans) number spare_capacity rest put end on)
        by (Faulty fault) comes on is = refused_text fault is on.1

    -- by this end only in one way
    completes_by : end ≡ ends.Done → IsClosedInput (input_lines input)
    completes_by done = by how_ended
      where
        by : Ending → IsClosedInput (input_lines input)
        by (refused_text fault is so) = absurd (fault_not fault end so (inr done))
        by (closed_all closed so) = closed
        by (faulty_line fault has so) = absurd (fault_not fault end so (inr done))

    faults_by : (end ≡ ends.Fault) ⊎ (end ≡ ends.Limit) → (fault : Fault) × (IsFirstRefusal fleet_in (input_lines input) fault ⊎ HasLineFault (input_lines input) fault)
    faults_by so = by how_ended
      where
        never : end ≡ ends.Done → (end ≡ ends.Fault) ⊎ (end ≡ ends.Limit) → ⊥
        never is (inl fault) = absurd (cc (is, fault))
        never is (inr limit) = absurd (cc (is, limit))

        by : Ending → (fault : Fault) × (IsFirstRefusal fleet_in (input_lines input) fault ⊎ HasLineFault (input_lines input) fault)
        by (refused_text fault is ended) = (fault, inl is)
        by (closed_all closed done) = absurd (never done so)
        by (faulty_line fault has ended) = (fault, inr has)

    never_by : (end ≡ ends.EventRefused) ⊎ (end ≡ ends.Refused) → ⊥
    never_by so = by how_ended so
      where
        not_refused : (fault : Fault) → (fault_end fault ≡ ends.Limit) ⊎ (fault_end fault ≡ ends.Fault) → end ≡ fault_end fault → end ≡ ends.Refused → ⊥
        not_refused fault (inl limit) is refused = absurd (cc (is, limit, refused))
        not_refused fault (inr wrong) is refused = absurd (cc (is, wrong, refused))

        no_fault : (fault : Fault) → end ≡ fault_end fault → (end ≡ ends.EventRefused) ⊎ (end ≡ ends.Refused) → ⊥
        no_fault fault is (inl event) = fault_not fault end is (inl event)
        no_fault fault is (inr refused) = not_refused fault (fault_ends_so fault) is refused

        by : Ending → (end ≡ ends.EventRefused) ⊎ (end ≡ ends.Refused) → ⊥
        by (refused_text fault is ended) other = no_fault fault ended other
        by (closed_all closed done) (inl event) = absurd (cc (done, event))
        by (closed_all closed done) (inr refused) = absurd (cc (done, refused))
        by (faulty_line fault has ended) other = no_fault fault ended other

  -- each run keeps the promise
  pub fleet_keeps : (input put : List ℕ) (end : End) → Runs fleet_machine (fleet_start query) input put end → FleetPromise input put end
  fleet_keeps input put end runs =
      let follows = run_is fleet_begins fleet_reader refusing plans_machine query (begins initial_fleet) (input_lines input) put end runs in
      let text = outcome_answered fleet_reader initial_fleet fleet_in fleet_by begins_answers refusing query input put end (follows_answered (outcome_of (input_lines input)) put end follows) in
      record {
        opens = record {
          answers = opens_text input put end text.answers;
          declared = λ text_of is. opens_by text_of put end (text.declared text_of is);
          refuses = text.refuses;
        };
        alone = alone_by input put end follows;
        closes = closes_by input put end follows;
        faulty = faulty_by input put end follows;
        completes = completes_by input put end follows;
        faults = faults_by input put end follows;
        never = never_by input put end follows;
      }

-- ---- a run ends by the causes in its input
module _ (input put : List ℕ) (end : End) (promise : FleetPromise input put end) where
  abbrev FleetCause : Type 0
  FleetCause = (line : List ℕ) × fleet_causes.refused input end line × PutsLast line put

  fleet_refused : (other : End) (line : List ℕ) → fleet_causes.refused input other line → end ≡ other
  fleet_refused other line (inl is) = (promise.opens.refuses is.fault is.first).1 ∙ sym is.ends_so
  fleet_refused other line (inr is) = (promise.faulty is.fault is.has).1 ∙ sym is.ends_so

  fleet_fault : (fault : Fault) × (IsFirstRefusal fleet_in (input_lines input) fault ⊎ HasLineFault (input_lines input) fault) → FleetCause
  fleet_fault (fault, inl first) =
      let puts = promise.opens.refuses fault first in
      (fault_line fault, inl (record { fault = fault; first = first; ends_so = puts.1; reported = refl }), ([], puts.0))
  fleet_fault (fault, inr has) =
      let puts = promise.faulty fault has in
      (fault_line fault, inr (record { fault = fault; has = has; ends_so = puts.1; reported = refl }), puts.0)

  pub fleet_ends : EndsByCause fleet_causes input put end
  fleet_ends = record {
    refused = fleet_refused;
    only = only_by {Cause = FleetCause} end (λ is. absurd (promise.never (inl is))) (λ is. fleet_fault (promise.faults is));
    whole = λ closed. answers_as end ends.Done (promise.closes closed).1 tt;
  }

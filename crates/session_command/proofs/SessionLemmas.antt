-- `session` keeps its promise.
use Rattle.std.proofs.Common.{◌≡◌, ◌⊎◌, ℕ, ◌+◌, ◌-◌, List, [], ◌∷◌, ◌++◌, length, refl, sym, ap, ◌∙◌, subst, arith, inl, inr, append_assoc, append-nil}
use Rattle.std.proofs.lemmas.List.{length-append}
use Rattle.texts.specs.Lines.{InputLine, input_lines, lines, line_size}
use Rattle.net_model.specs.Network.{Plan, IsPlan}
use Rattle.net_model.specs.ShownForm.{shown_form}
use Rattle.strategy_model.specs.Control.{IsControllable}
use Rattle.texts.specs.Limits.{most_line}
use Rattle.plan_port.specs.Lines.{Comes, coming}
use Rattle.plan_port.specs.Talk.{Piece}
use Rattle.edit_script.specs.EditText.{IsEditLine}
use Rattle.edit_script.specs.Laws.{OneReading as OneStep}
use Rattle.edit_script.specs.declared.step.Step.{Step}
use Rattle.edit_script.specs.declared.step.Step.TheVariants as step
use Rattle.event_stream.specs.EventText.{EventLine, blank, completed, done}
use Rattle.execution_model.specs.Feeds.{Execution, started}
use Rattle.execution_model.specs.Laws.{setting_of}
use Rattle.execution_model.specs.Streams.{Listing}
use Rattle.command_engine.specs.AnswersOnce.{AnswersOutcome}
use Rattle.command_engine.specs.Breaks.{BreaksForMemory, WantsMemory}
use Rattle.command_engine.specs.Inputs.{AnswersOrRefuses, DeclaresBy, IsFirstRefusal, texts, capacity_after}
use Rattle.command_engine.specs.Limits.{most_input}
use Rattle.command_engine.specs.Phases.{FollowsOutcome, GoesOn}
use Rattle.command_engine.specs.Readers.{Outcome, Given, Faulty, reading}
use Rattle.command_engine.specs.Runs.{Here, Answers, Run as RunOver, Runs, begins}
use Rattle.command_engine.specs.declared.endings.End.{End}
use Rattle.command_engine.specs.declared.endings.End.TheVariants as ends
use Rattle.command_engine.specs.declared.machines.Flow.{Flow}
use Rattle.command_engine.proofs.InputLemmas.{IsGivenAt, OutcomeIs, declared_read, outcome_is, outcome_answered}
use Rattle.command_engine.proofs.PhaseLemmas.{StillServes, answered_so, run_is}
use Rattle.event_phase.specs.CompletionOrders.{as_named}
use Rattle.event_phase.specs.Day.{IsWholeDay, IsRefusedDay}
use Rattle.event_phase.specs.EventFaults.{HasEventFault}
use Rattle.event_phase.specs.EventPhase.{executing_machine}
use Rattle.event_phase.specs.ExecutionPromise.{PutsLast}
use Rattle.event_phase.specs.StatedDay.{HasStatedWholeDay}
use Rattle.common_answers.specs.Faults.{refusing, fault_line, fault_end}
use Rattle.input_texts.specs.PlanInput.{initial_input, input_reader, plan_in}
use Rattle.session_command.specs.SessionAnswers.{ready_line}
use Rattle.session_command.specs.SessionPromise.{EndsAsStated, StateSteps, IsEdited, IsNext, SaysSteps, SaysAll, SaysFirst, OpensByGo, StatesByGo, session_opens, IsStepFault, HasStepFault, PutsReady, PutsFirstDue, IsWholeSession}
use Rattle.session_command.specs.SessionPromise.{SessionPromise, SaysWhole}
use Rattle.session_command.specs.Sessions.{net_of, OpensOn, session_begins, session_machine, session_start, command_machine}
use Rattle.session_command.specs.Standing.{Standing}
use Rattle.common_answers.specs.FormatRefusals.{Come}
use Rattle.common_answers.specs.declared.faults.Fault.{Fault}
use Rattle.input_texts.specs.declared.plan_input.PlanForm.{PlanForm}
use Rattle.session_command.specs.declared.session.InSession.{InSession}
use Rattle.session_command.specs.declared.session.InSession.TheVariants.{Editing, Executing}
use Rattle.event_phase.proofs.EventRunLemmas.{Decides, IsDecided}
use Rattle.event_phase.proofs.DayLemmas.{ExecutionLaws}
use Rattle.event_phase.proofs.DueLemmas.{due_answered}
use Rattle.event_phase.proofs.EventLemmas.{at}
use Rattle.event_phase.proofs.ExecutionLemmas.{Opened, IsOpened, Lasts, lasts, execution_keeps, whole_by, refused_so, fault_so, fault_not, fault_ends_so}
use Rattle.event_phase.proofs.StatedLemmas.{ShowsStated, refused_as_stated, whole_as_stated}
use Rattle.input_texts.proofs.PlanInputLemmas.{input_by, input_sound}
use Rattle.event_phase.proofs.ReplyLemmas.{come_first, come_then, come_both, capacity_both}
use Rattle.session_command.proofs.SessionLines.{at_edit, EndsSession, HowEnds, at_end, by_fault, by_go, session_ends, over_steps, step_fault, end_there, go_there, StillEdited, still_edited, sound_then}
use Rattle.session_command.proofs.SessionOnceLemmas.{OneWay, all_once}

-- ---- places in an input
-- an execution that begins after some lines is opened by these
is_opened : (net : Plan) (used rest : List InputLine) (before more put : List ℕ) (end : End) (number spare_capacity : ℕ) → number ≡ length used → spare_capacity ≡ capacity_after most_input used → put ≡ before ++ more
    → Opened net number spare_capacity rest more end
    → IsOpened as_named net used rest before put end
is_opened net used rest before more put end number spare_capacity counted left all opened = record {
  controllable = opened.controllable;
  table = opened.table;
  order = opened.order;
  by_closure = opened.by_closure;
  due = opened.due;
  first = opened.first;
  more = opened.more;
  all = all ∙ ap (λ (m : List ℕ). before ++ m) opened.all;
  later =
      subst (λ (r : ℕ). RunOver executing_machine (at net (started (setting_of net opened.table)) as_named (length used) r) rest opened.more end) left
      (subst (λ (n : ℕ). RunOver executing_machine (at net (started (setting_of net opened.table)) as_named n spare_capacity) rest opened.more end) counted opened.later);
}

-- the lines up to `go`
abbrev up_to : (plan edits : List InputLine) → InputLine → List InputLine
up_to plan edits go = plan ++ (edits ++ go ∷ [])

go_counted : (plan edits : List InputLine) (go : InputLine) → length (plan ++ edits) + 1 ≡ length (up_to plan edits go)
go_counted plan edits go =
    let one : length (plan ++ edits) ≡ length plan + length edits = length-append plan edits in
    let two : length (up_to plan edits go) ≡ length plan + length (edits ++ go ∷ []) = length-append plan (edits ++ go ∷ []) in
    let three : length (edits ++ go ∷ []) ≡ length edits + length (go ∷ []) = length-append edits (go ∷ []) in
    omega arith

go_left : (plan edits : List InputLine) (go : InputLine) → capacity_after most_input (plan ++ edits) - line_size go ≡ capacity_after most_input (up_to plan edits go)
go_left plan edits go =
    ap (λ (spare_capacity : ℕ). spare_capacity - line_size go) (capacity_both most_input plan edits) ∙ (sym (capacity_both (capacity_after most_input plan) edits (go ∷ [])) ∙ sym (capacity_both most_input plan (edits ++ go ∷ [])))

go_divides : (plan edits : List InputLine) (go : InputLine) (rest : List InputLine) → up_to plan edits go ++ rest ≡ plan ++ (edits ++ (go ∷ rest))
go_divides plan edits go rest = append_assoc plan (edits ++ go ∷ []) rest ∙ ap (λ (ls : List InputLine). plan ++ ls) (append_assoc edits (go ∷ []) rest)

-- a line that is decided ends no run as refuted
not_refuted : (final : Execution) (step_stated : EventLine) (end : End) → Decides final step_stated end → ¬ (end ≡ ends.Refused)
not_refuted final blank end decides so = absurd decides
not_refuted final (completed moment points) end (cause, refuses, is) so = absurd (cc (is, so))
not_refuted final done end (inl (shut, is)) so = absurd (cc (is, so))
not_refuted final done end (inr (point, opens, is)) so = absurd (cc (is, so))

fault_not_refuted : (fault : Fault) (end : End) → end ≡ fault_end fault → ¬ (end ≡ ends.Refused)
fault_not_refuted fault end is so = by (fault_ends_so fault)
  where
    by : (fault_end fault ≡ ends.Limit) ⊎ (fault_end fault ≡ ends.Fault) → ⊥
    by (inl limit) = absurd (cc (is, limit, so))
    by (inr wrong) = absurd (cc (is, wrong, so))

decided_not : (net : Plan) (final : Execution) (number spare_capacity : ℕ) (rest : List InputLine) (end : End) → IsDecided as_named net final number spare_capacity rest end → ¬ (end ≡ ends.Refused)
decided_not net final number spare_capacity rest end (inl (last, others, step_stated, next, comes, is, decides)) so = not_refuted final step_stated end decides so
decided_not net final number spare_capacity rest end (inr (fault, next, is)) so = fault_not_refuted fault end is so

module _ (form : PlanForm) where
  -- ---- what follows on the reading of a plan
  -- what the reading of the plan of an input comes to
  abbrev outcome_of : List InputLine → Outcome Plan Fault
  outcome_of lines = reading input_reader (begins (initial_input form)) lines

  -- how a run follows on what the reading of its plan came to
  abbrev Follows : Outcome Plan Fault → List ℕ → End → Type 0
  Follows outcome put end = FollowsOutcome session_begins input_reader refusing session_machine form outcome put end

  -- a session is opened, and goes on over the other lines
  record StartedSession (net : Plan) (number spare_capacity : ℕ) (rest : List InputLine) (put : List ℕ) (end : End) : Type 0 where
    pub standing : Standing
    pub opens : OpensOn net standing
    pub more : List ℕ
    pub all : put ≡ ready_line ++ more
    pub later : RunOver session_machine (at_edit standing number spare_capacity) rest more end

  initial : (net : Plan) (number spare_capacity : ℕ) (rest : List InputLine) (put : List ℕ) (end : End) → Follows (Given net number spare_capacity rest) put end → StartedSession net number spare_capacity rest put end
  initial net number spare_capacity rest put end (answer, more, flow, (standing, opens, puts, goes), all, on) = record {
    standing = standing;
    opens = opens;
    more = more;
    all = all ∙ ap (λ (a : List ℕ). a ++ more) puts;
    later = subst (λ (o : Flow InSession). GoesOn session_begins input_reader refusing session_machine o number spare_capacity rest more end) goes on;
  }

  -- its network is that of the plan
  opens_net : (net : Plan) (standing : Standing) → OpensOn net standing → net_of standing ≡ net
  opens_net net standing opens = ap net_of opens

  -- what is put for a network, whatever lines follow
  abbrev Begins : Plan → List ℕ → End → Type 0
  Begins net put end = (number : ℕ) × (spare_capacity : ℕ) × (rest : List InputLine) × Follows (Given net number spare_capacity rest) put end

  abbrev begins_answers : PlanForm → Plan → ℕ → List ℕ → End → Type 0
  begins_answers one net last put end = Begins net put end

  follows_answered : (outcome : Outcome Plan Fault) (put : List ℕ) (end : End) → Follows outcome put end → AnswersOutcome begins_answers input_reader refusing form outcome put end
  follows_answered (Given net number spare_capacity rest) put end follows = (number, spare_capacity, rest, follows)
  follows_answered (Faulty fault) put end follows = follows

  begins_ready : (net : Plan) (put : List ℕ) (end : End) → Begins net put end → PutsReady net put end
  begins_ready net put end (number, spare_capacity, rest, follows) = let one = initial net number spare_capacity rest put end follows in (one.more, one.all)

  ready_text : (input put : List ℕ) (end : End) → AnswersOrRefuses (plan_in form) refusing Begins input put end → AnswersOrRefuses (plan_in form) refusing PutsReady input put end
  ready_text input put end (inl (net, after, is, begins)) = inl (net, after, is, begins_ready net put end begins)
  ready_text input put end (inr refused) = inr refused

  -- ---- the promise
  module _ (way : OneWay) (steps : (line : List (List ℕ)) → OneStep line) (laws : ExecutionLaws) where
    module _ (input put : List ℕ) (end : End) (follows : Follows (outcome_of (input_lines input)) put end) where
      started_at : (plan rest : List InputLine) (net : Plan) → input_lines input ≡ plan ++ rest → DeclaresBy (plan_in form) plan rest net → StartedSession net (length plan) (capacity_after most_input plan) rest put end
      started_at plan rest net divided declares =
          initial net (length plan) (capacity_after most_input plan) rest put end
          (subst (λ (o : Outcome Plan Fault). Follows o put end) (declared_read input_reader (initial_input form) (plan_in form) (input_by form 0) (input_lines input) plan rest net divided declares) follows)

      -- where the session stands after lines that state steps
      record Stood (first net : Plan) (step_stated : List Step) (plan edits rest : List InputLine) : Type 0 where
        pub opened : Standing
        pub opens : OpensOn first opened
        pub last : Standing
        pub said : List ℕ
        pub more : List ℕ
        pub says : SaysSteps opened step_stated said last
        pub stands : net_of last ≡ net
        pub all : put ≡ (ready_line ++ said) ++ more
        pub later : RunOver session_machine (at_edit last (length (plan ++ edits)) (capacity_after most_input (plan ++ edits))) rest more end

      stood : (first net : Plan) (step_stated : List Step) (so : IsEdited form (input_lines input) first net step_stated) → Stood first net step_stated so.plan so.edits so.rest
      stood first net step_stated so =
          let one = started_at so.plan (so.edits ++ so.rest) first so.divided so.declares in
          let in_steps : StateSteps (net_of one.standing) (texts so.edits) step_stated net = subst (λ (n : Plan). StateSteps n (texts so.edits) step_stated net) (sym (opens_net first one.standing one.opens)) so.in_steps in
          let over = over_steps steps so.edits so.rest one.standing step_stated net (length so.plan) (capacity_after most_input so.plan) one.more end so.come in_steps one.later in
          record {
            opened = one.standing;
            opens = one.opens;
            last = over.last;
            said = over.said;
            more = over.more;
            says = over.says;
            stands = over.stands;
            all = one.all ∙ (ap (λ (m : List ℕ). ready_line ++ m) over.all ∙ sym (append_assoc ready_line over.said over.more));
            later =
                subst (λ (r : ℕ). RunOver session_machine (at_edit over.last (length (so.plan ++ so.edits)) r) so.rest over.more end) (sym (capacity_both most_input so.plan so.edits))
                (subst (λ (n : ℕ). RunOver session_machine (at_edit over.last n (capacity_after (capacity_after most_input so.plan) so.edits)) so.rest over.more end) (sym (length-append so.plan so.edits)) over.later);
          }

      all_said : (first net : Plan) (step_stated : List Step) (plan edits rest : List InputLine) (one : Stood first net step_stated plan edits rest) → SaysAll first step_stated (ready_line ++ one.said)
      all_said first net step_stated plan edits rest one = record { opened = one.opened; opens = one.opens; said = one.said; last = one.last; says = one.says; all = refl }

      says_by : (first net : Plan) (step_stated : List Step) → IsEdited form (input_lines input) first net step_stated → SaysFirst first step_stated put
      says_by first net step_stated so = let one = stood first net step_stated so in (ready_line ++ one.said, one.more, all_said first net step_stated so.plan so.edits so.rest one, one.all)

      closes_by : (first net : Plan) (step_stated : List Step) → IsNext form (input_lines input) first net step_stated step.End → SaysAll first step_stated put × (end ≡ ends.Done)
      closes_by first net step_stated next =
          let so = next.so_far in
          let one = stood first net step_stated so in
          let there = at_edit one.last (length (so.plan ++ so.edits)) (capacity_after most_input (so.plan ++ so.edits)) in
          let ended =
          end_there steps next.last next.others one.last (length (so.plan ++ so.edits)) (capacity_after most_input (so.plan ++ so.edits)) one.more end next.comes next.statement
          (subst (λ (ls : List InputLine). RunOver session_machine there ls one.more end) next.next one.later) in
          let whole : put ≡ ready_line ++ one.said = one.all ∙ (ap (λ (m : List ℕ). (ready_line ++ one.said) ++ m) ended.0 ∙ append-nil (ready_line ++ one.said)) in
          (subst (SaysAll first step_stated) (sym whole) (all_said first net step_stated so.plan so.edits so.rest one), ended.1)

      faulty_by : (fault : Fault) → HasStepFault form (input_lines input) fault → PutsLast (fault_line fault) put × (end ≡ fault_end fault)
      faulty_by fault has =
          let so = has.so_far in
          let one = stood has.first has.net has.steps so in
          let ended = step_fault steps so.rest one.last (length (so.plan ++ so.edits)) (capacity_after most_input (so.plan ++ so.edits)) one.more end fault has.next one.later in
          ((ready_line ++ one.said, one.all ∙ ap (λ (m : List ℕ). (ready_line ++ one.said) ++ m) ended.0), ended.1)

      -- ---- what `go` opens
      module _ (used rest : List InputLine) (net : Plan) (before : List ℕ) (divided : input_lines input ≡ used ++ rest) (opens : OpensByGo form used rest net before) where
        abbrev edited_so : IsEdited form (input_lines input) opens.first opens.stated opens.steps
        edited_so = record {
          plan = opens.plan;
          edits = opens.edits;
          rest = opens.go ∷ rest;
          divided = divided ∙ (ap (λ (ls : List InputLine). ls ++ rest) opens.divided ∙ go_divides opens.plan opens.edits opens.go rest);
          declares = opens.declares;
          come = come_first (capacity_after most_input opens.plan) opens.edits (opens.go ∷ []) opens.come;
          in_steps = opens.in_steps;
        }

        abbrev stood_so : Stood opens.first opens.stated opens.steps opens.plan opens.edits (opens.go ∷ rest)
        stood_so = stood opens.first opens.stated opens.steps edited_so

        -- the network as it stands is sound
        sound_so : IsPlan (net_of stood_so.last)
        sound_so =
            let first_sound = input_sound form _ opens.first _ opens.declares.declared in
            sound_then stood_so.opened opens.steps stood_so.said stood_so.last stood_so.says (subst IsPlan (sym (opens_net opens.first stood_so.opened stood_so.opens)) first_sound)

        stated_sound : IsPlan opens.stated
        stated_sound = subst IsPlan stood_so.stands sound_so

        stated_by_go : StatesByGo form used rest opens.stated
        stated_by_go = (
          before,
          record {
            first = opens.first;
            stated = opens.stated;
            as_shown = refl;
            steps = opens.steps;
            plan = opens.plan;
            edits = opens.edits;
            go = opens.go;
            divided = opens.divided;
            declares = opens.declares;
            come = opens.come;
            in_steps = opens.in_steps;
            goes = opens.goes;
            says = opens.says;
          },
          refl,
        )

      -- on a controllable network it opens its execution
      leads : (used rest : List InputLine) (net : Plan) (before : List ℕ) → input_lines input ≡ used ++ rest → (session_opens form).opens used rest net before → IsControllable net → IsOpened as_named net used rest before put end
      leads used rest net before divided opens controls =
          let one = stood_so used rest net before divided opens in
          let sound = sound_so used rest net before divided opens in
          let comes : coming most_line (capacity_after most_input (opens.plan ++ opens.edits)) opens.go ≡ Comes =
          subst (λ (r : ℕ). coming most_line r opens.go ≡ Comes) (sym (capacity_both most_input opens.plan opens.edits)) (come_then (capacity_after most_input opens.plan) opens.edits (opens.go ∷ []) opens.come).0 in
          let begins =
          go_there steps opens.go rest one.last (length (opens.plan ++ opens.edits)) (capacity_after most_input (opens.plan ++ opens.edits)) one.more end comes opens.goes
          sound (subst IsControllable (opens.as_shown ∙ ap shown_form (sym one.stands)) controls) one.later in
          let same : before ≡ ready_line ++ one.said = all_once way opens.first opens.steps before (ready_line ++ one.said) opens.says (all_said opens.first opens.stated opens.steps opens.plan opens.edits (opens.go ∷ rest) one) in
          is_opened net used rest before one.more put end _ _ (go_counted opens.plan opens.edits opens.go ∙ ap length (sym opens.divided))
          (go_left opens.plan opens.edits opens.go ∙ ap (capacity_after most_input) (sym opens.divided)) (one.all ∙ ap (λ (b : List ℕ). b ++ one.more) (sym same))
          (subst (λ (n : Plan). Opened n (length (opens.plan ++ opens.edits) + 1) (capacity_after most_input (opens.plan ++ opens.edits) - line_size opens.go) rest one.more end) (ap shown_form one.stands ∙ sym opens.as_shown) begins)

      begins_by : (used rest : List InputLine) (net : Plan) (before : List ℕ) → input_lines input ≡ used ++ rest → OpensByGo form used rest net before → IsControllable net → PutsFirstDue net before put
      begins_by used rest net before divided opens controls =
          let one = leads used rest net before divided opens controls in
          (one.due, one.more, due_answered net _ _ one.by_closure [] (started (setting_of net one.table)) refl refl one.due one.first, one.all)

      -- how the run ended: by the first refusal of the input, at `end`, by a fault of a line, or after an execution was opened
      data Ending : Type 0 where
        refused_text : (fault : Fault) → IsFirstRefusal (plan_in form) (input_lines input) fault → end ≡ fault_end fault → Ending
        whole_session : IsWholeSession form (input_lines input) → end ≡ ends.Done → Ending
        faulty_step : (fault : Fault) → HasStepFault form (input_lines input) fault → end ≡ fault_end fault → Ending
        lasted : Lasts laws (session_opens form) (input_lines input) put end → Ending

      module _ (first : Plan) (plan lines : List InputLine) (divided : input_lines input ≡ plan ++ lines) (declares : DeclaresBy (plan_in form) plan lines first) where
        one_started : StartedSession first (length plan) (capacity_after most_input plan) lines put end
        one_started = started_at plan lines first divided declares

        ended : EndsSession one_started.standing lines (length plan) (capacity_after most_input plan) one_started.more end
        ended = session_ends steps lines one_started.standing (length plan) (capacity_after most_input plan) one_started.more end one_started.later

        abbrev so_far : IsEdited form (input_lines input) first (net_of ended.last) ended.step_stated
        so_far = record {
          plan = plan;
          edits = ended.edits;
          rest = ended.rest;
          divided = divided ∙ ap (λ (ls : List InputLine). plan ++ ls) ended.divided;
          declares = subst (λ (ls : List InputLine). DeclaresBy (plan_in form) plan ls first) ended.divided declares;
          come = ended.come;
          in_steps = subst (λ (n : Plan). StateSteps n (texts ended.edits) ended.step_stated (net_of ended.last)) (opens_net first one_started.standing one_started.opens) ended.in_steps;
        }

        left : capacity_after (capacity_after most_input plan) ended.edits ≡ capacity_after most_input (plan ++ ended.edits)
        left = sym (capacity_both most_input plan ended.edits)

        counted : length plan + length ended.edits ≡ length (plan ++ ended.edits)
        counted = sym (length-append plan ended.edits)

        all_put : put ≡ (ready_line ++ ended.said) ++ ended.more
        all_put = one_started.all ∙ (ap (λ (m : List ℕ). ready_line ++ m) ended.all ∙ sym (append_assoc ready_line ended.said ended.more))

        all_so_far : SaysAll first ended.step_stated (ready_line ++ ended.said)
        all_so_far = record { opened = one_started.standing; opens = one_started.opens; said = ended.said; last = ended.last; says = ended.says; all = refl }

        opens_there : (go : InputLine) (others : List InputLine) → ended.rest ≡ go ∷ others → coming most_line (capacity_after (capacity_after most_input plan) ended.edits) go ≡ Comes → IsEditLine step.Go go.text
            → OpensByGo form (up_to plan ended.edits go) others (shown_form (net_of ended.last)) (ready_line ++ ended.said)
        opens_there go others next comes is = record {
          first = first;
          stated = net_of ended.last;
          as_shown = refl;
          steps = ended.step_stated;
          plan = plan;
          edits = ended.edits;
          go = go;
          divided = refl;
          declares = subst (λ (ls : List InputLine). DeclaresBy (plan_in form) plan (ended.edits ++ ls) first) next so_far.declares;
          come = come_both (capacity_after most_input plan) ended.edits (go ∷ []) ended.come (comes, tt);
          in_steps = so_far.in_steps;
          goes = is;
          says = all_so_far;
        }

        ended_so : HowEnds ended.last (length plan + length ended.edits) (capacity_after (capacity_after most_input plan) ended.edits) ended.rest ended.more end → Ending
        ended_so (at_end line others next comes is nothing so) =
            whole_session (
              first,
              net_of ended.last,
              ended.step_stated,
              record { so_far = so_far; last = line; others = others; next = next; comes = subst (λ (r : ℕ). coming most_line r line ≡ Comes) left comes; statement = is },
            ) so
        ended_so (by_fault fault is puts so) =
            faulty_step fault
            (record {
              first = first;
              net = net_of ended.last;
              steps = ended.step_stated;
              so_far = so_far;
              next =
                  subst (λ (r : ℕ). IsStepFault (length (plan ++ ended.edits) + 1) r ended.rest fault) left
                  (subst (λ (n : ℕ). IsStepFault (n + 1) (capacity_after (capacity_after most_input plan) ended.edits) ended.rest fault) counted is);
            }) so
        ended_so (by_go go others next comes is opened) =
            let used : List InputLine = up_to plan ended.edits go in
            let whole : input_lines input ≡ used ++ others =
            so_far.divided ∙ (ap (λ (ls : List InputLine). plan ++ (ended.edits ++ ls)) next ∙ sym (go_divides plan ended.edits go others)) in
            let number : length plan + length ended.edits + 1 ≡ length used = ap (λ (n : ℕ). n + 1) counted ∙ go_counted plan ended.edits go in
            let spare_capacity : capacity_after (capacity_after most_input plan) ended.edits - line_size go ≡ capacity_after most_input used = ap (λ (r : ℕ). r - line_size go) left ∙ go_left plan ended.edits go in
            lasted
            (lasts laws (session_opens form) (input_lines input) used others (shown_form (net_of ended.last)) (ready_line ++ ended.said) put end whole (opens_there go others next comes is)
            (is_opened (shown_form (net_of ended.last)) used others (ready_line ++ ended.said) ended.more put end _ _ number spare_capacity all_put opened))

      how_ended : Ending
      how_ended = by (outcome_of (input_lines input)) refl follows (outcome_is input_reader (initial_input form) (plan_in form) (input_by form 0) (input_lines input))
        where
          by : (outcome : Outcome Plan Fault) → outcome_of (input_lines input) ≡ outcome → Follows outcome put end → OutcomeIs input_reader (initial_input form) (plan_in form) (input_by form 0) (input_lines input) outcome → Ending
          by (Given net number spare_capacity rest) comes on is = ended_so net is.used rest is.divided is.declares (ended net is.used rest is.divided is.declares).how
          by (Faulty fault) comes on is = refused_text fault is on.1

      completes_by : end ≡ ends.Done → IsWholeSession form (input_lines input) ⊎ ((net : Plan) × (listings : List Listing) × IsWholeDay (session_opens form) (input_lines input) net listings)
      completes_by whole = by how_ended
        where
          by : Ending → IsWholeSession form (input_lines input) ⊎ ((net : Plan) × (listings : List Listing) × IsWholeDay (session_opens form) (input_lines input) net listings)
          by (refused_text fault first is) = absurd (fault_not fault end is (inr whole))
          by (whole_session one is) = inl one
          by (faulty_step fault has is) = absurd (fault_not fault end is (inr whole))
          by (lasted one) = inr (one.net, one.ending.listings, whole_by laws (session_opens form) (input_lines input) put end one whole one.ending.decided)

      refused_by : end ≡ ends.EventRefused → IsRefusedDay (session_opens form) (input_lines input)
      refused_by refused = by how_ended
        where
          by : Ending → IsRefusedDay (session_opens form) (input_lines input)
          by (refused_text fault first is) = absurd (fault_not fault end is (inl refused))
          by (whole_session one is) = absurd (cc (is, refused))
          by (faulty_step fault has is) = absurd (fault_not fault end is (inl refused))
          by (lasted one) = refused_so laws (session_opens form) (input_lines input) put end one refused one.ending.decided

      -- so of the network as it stands at `go`
      stating : (used rest : List InputLine) (net : Plan) (before : List ℕ) → input_lines input ≡ used ++ rest → (session_opens form).opens used rest net before
          → ShowsStated (StatesByGo form) used rest net
      stating used rest net before divided opens = record {
        stated = opens.stated;
        sound = stated_sound used rest net before divided opens;
        has = stated_by_go used rest net before divided opens;
        same = opens.as_shown;
      }

      stated_by : EndsAsStated form (input_lines input) end
      stated_by = record {
        completes = λ whole. by (completes_by whole);
        refused = λ refused. refused_as_stated laws.streams laws.shown (session_opens form) (input_lines input) (StatesByGo form) stating (refused_by refused);
      }
        where
          by : IsWholeSession form (input_lines input) ⊎ ((net : Plan) × (listings : List Listing) × IsWholeDay (session_opens form) (input_lines input) net listings)
              → IsWholeSession form (input_lines input) ⊎ HasStatedWholeDay (session_opens form) (StatesByGo form) (input_lines input)
          by (inl whole) = inl whole
          by (inr (net, listings, day)) = inr (whole_as_stated laws.streams laws.shown (session_opens form) (input_lines input) (StatesByGo form) stating net listings day)

      faults_by : (end ≡ ends.Fault) ⊎ (end ≡ ends.Limit)
          → (fault : Fault) × (IsFirstRefusal (plan_in form) (input_lines input) fault ⊎ (HasStepFault form (input_lines input) fault ⊎ HasEventFault (session_opens form) (input_lines input) fault))
      faults_by so = by how_ended
        where
          never : end ≡ ends.Done → (end ≡ ends.Fault) ⊎ (end ≡ ends.Limit) → ⊥
          never is (inl fault) = absurd (cc (is, fault))
          never is (inr limit) = absurd (cc (is, limit))

          by : Ending → (fault : Fault) × (IsFirstRefusal (plan_in form) (input_lines input) fault ⊎ (HasStepFault form (input_lines input) fault ⊎ HasEventFault (session_opens form) (input_lines input) fault))
          by (refused_text fault first is) = (fault, inl first)
          by (whole_session one is) = absurd (never is so)
          by (faulty_step fault has is) = (fault, inr (inl has))
          by (lasted one) = let (fault, has) = fault_so laws (session_opens form) (input_lines input) put end one so one.ending.decided in (fault, inr (inr has))

      never_refuted_by : ¬ (end ≡ ends.Refused)
      never_refuted_by so = by how_ended
        where
          by : Ending → ⊥
          by (refused_text fault first is) = fault_not_refuted fault end is so
          by (whole_session one is) = absurd (cc (is, so))
          by (faulty_step fault has is) = fault_not_refuted fault end is so
          by (lasted one) =
              decided_not one.net one.ending.final (length one.used + length one.ending.events) (capacity_after (capacity_after most_input one.used) one.ending.events) one.ending.rest end one.ending.decided so

    -- each run keeps the promise
    pub session_keeps : (input put : List ℕ) (end : End) → Runs command_machine (session_start form) input put end → SessionPromise form input put end
    session_keeps input put end runs =
        let follows = run_is session_begins input_reader refusing session_machine form (begins (initial_input form)) (input_lines input) put end runs in
        let text = outcome_answered input_reader (initial_input form) (plan_in form) (input_by form 0) begins_answers refusing form input put end (follows_answered (outcome_of (input_lines input)) put end follows) in
        record {
          opens = record {
            answers = ready_text input put end text.answers;
            declared = λ net is. begins_ready net put end (text.declared net is);
            refuses = text.refuses;
          };
          says = says_by input put end follows;
          closes = closes_by input put end follows;
          begins = begins_by input put end follows;
          execution = execution_keeps laws (session_opens form) (input_lines input) put end (leads input put end follows);
          faulty = faulty_by input put end follows;
          completes = completes_by input put end follows;
          refused = refused_by input put end follows;
          faults = faults_by input put end follows;
          never_refuted = never_refuted_by input put end follows;
          stated = stated_by input put end follows;
        }

  -- ---- want of memory
  module _ (input put : List ℕ) (pieces : List Piece) (wants : WantsMemory command_machine (session_start form) input put pieces) where
    abbrev lines_left : List InputLine
    lines_left = wants.line ∷ wants.rest

    module _ (one : StillServes session_begins input_reader refusing session_machine form (begins (initial_input form)) wants.first lines_left put wants.there) where
      given : IsGivenAt input_reader (initial_input form) (plan_in form) (input_by form 0) (input_lines input) one.value one.number one.spare_capacity (one.others ++ lines_left)
      given =
          let reads : outcome_of (input_lines input) ≡ Given one.value one.number one.spare_capacity (one.others ++ lines_left) = ap outcome_of wants.divided ∙ one.reads in
          subst (OutcomeIs input_reader (initial_input form) (plan_in form) (input_by form 0) (input_lines input)) reads (outcome_is input_reader (initial_input form) (plan_in form) (input_by form 0) (input_lines input))

      says_whole_by : (standing last : Standing) → OpensOn one.value standing → one.answer ≡ ready_line → StillEdited standing one.others one.spare_capacity one.more last → SaysWhole form input put
      says_whole_by standing last opens puts so = record {
        first = one.value;
        net = net_of last;
        steps = so.step_stated;
        edited_so = record {
          plan = given.used;
          edits = one.others;
          rest = lines_left;
          divided = given.divided;
          declares = given.declares;
          come = subst (λ (r : ℕ). Come r one.others) given.left so.come;
          in_steps = subst (λ (n : Plan). StateSteps n (texts one.others) so.step_stated (net_of last)) (opens_net one.value standing opens) so.in_steps;
        };
        line = wants.line;
        others = wants.rest;
        whole = refl;
        says = record { opened = standing; opens = opens; said = one.more; last = last; says = so.says; all = one.all ∙ ap (λ (a : List ℕ). a ++ one.more) puts };
      }

      says_whole : (state : InSession) → one.inner.state ≡ state → session_machine.may_want state → SaysWhole form input put
      says_whole (Executing event_run) is may = absurd may
      says_whole (Editing last) is may =
          let (standing, opens, puts, goes) = one.begins in
          let served : one.served ≡ Editing standing = cc in
          let answers : Answers session_machine (at_edit standing one.number one.spare_capacity) one.others one.more one.inner =
          subst (λ (s : InSession). Answers session_machine (record { state = s; number = one.number; spare_capacity = one.spare_capacity }) one.others one.more one.inner) served one.answers in
          says_whole_by standing last opens puts (still_edited one.others standing last one.number one.spare_capacity one.more one.inner answers is)

  -- a run that breaks off for want of memory has put nothing, or the answers to whole lines, none of which began an execution
  pub session_wants : (input untaken put : List ℕ) (pieces : List Piece) → BreaksForMemory command_machine (session_start form) input untaken put pieces → (put ≡ []) ⊎ SaysWhole form input put
  session_wants input untaken put pieces (inr nothing) = inl nothing.1
  session_wants input untaken put pieces (inl wants) =
      elim (answered_so session_begins input_reader refusing session_machine form (begins (initial_input form)) wants.first (lines_left input put pieces wants) put wants.there wants.answers) [
        | inl reads ↦ inl reads.nothing
        | inr one ↦ inr (says_whole input put pieces wants one one.inner.state refl (subst (λ (h : Here _). command_machine.may_want h.state) one.stands wants.may_want))
      ]

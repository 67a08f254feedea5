-- The lines of events of a run: what each of them brings, and where the run stands after several.
use Rattle.std.proofs.Common.{◌≡◌, ℕ, ◌+◌, ◌-◌, List, [], ◌∷◌, ◌++◌, Option, Some, None, Result, Ok, Err, sym, ap, ◌∙◌, subst, inl, inr, append_assoc}
use Rattle.texts.specs.Lines.{InputLine, line_size}
use Rattle.texts.specs.Words.{words}
use Rattle.net_model.specs.Network.{Plan}
use Rattle.net_model.specs.declared.ids.PointId.{PointId}
use Rattle.net_model.specs.declared.format.FormatKind.{FormatKind}
use Rattle.net_model.specs.declared.format.FormatKind.TheVariants.{NoEnd}
use Rattle.texts.specs.Limits.{most_line}
use Rattle.plan_port.specs.Lines.{Comes, TooLong, TooMuch, coming}
use Rattle.event_stream.specs.EventText.{EventLine, blank, completed, done, IsEventFault}
use Rattle.event_stream.specs.Laws.{OneReading}
use Rattle.net_model.specs.Moments.{Moments}
use Rattle.execution_model.specs.Feeds.{Execution, taken, after_feed, IsFed, first_open, IsFinished, IsWhole, IsDueAnswer}
use Rattle.execution_model.specs.declared.feed_answers.Fed.{Fed}
use Rattle.execution_model.specs.declared.feed_answers.Fed.TheVariants as fed
use Rattle.execution_model.specs.declared.feed_answers.Finished.{Finished}
use Rattle.execution_model.specs.declared.feed_answers.Finished.TheVariants as finished
use Rattle.execution_model.specs.declared.feed_answers.Why.{Why}
use Rattle.command_engine.specs.Runs.{Here, Run}
use Rattle.command_engine.specs.declared.endings.End.{End}
use Rattle.command_engine.specs.declared.endings.End.TheVariants as ends
use Rattle.command_engine.specs.declared.machines.Flow.{Flow}
use Rattle.command_engine.specs.declared.machines.Flow.TheVariants.{Continue, Finish}
use Rattle.event_phase.specs.EventRuns.{EventRun}
use Rattle.event_phase.specs.CompletionOrders.{CompletionOrder, ReportsEvent}
use Rattle.event_phase.specs.EventAnswers.{acts_text, due_line, complete_line, why_words, unfinished_words, event_refusal_line, event_fault_line}
use Rattle.event_phase.specs.EventFaults.{event_refusal}
use Rattle.event_phase.specs.EventPhase.{RefusesEvent, AnswersFeed, AnswersEnd, AnswersEvent, TakesEvent, executing_machine}
use Rattle.common_answers.specs.Faults.{fault_end}
use Rattle.common_answers.specs.declared.faults.Fault.{Fault}
use Rattle.common_answers.specs.declared.faults.Fault.TheVariants.{Format, LineTooLong as LongLine, InputTooMuch as MuchInput}
use Rattle.event_phase.proofs.CompletionOrderLemmas.{stated_once, no_fault}
use Rattle.event_phase.proofs.ReplyLemmas.{Continues, Replied, replied, last_reply}

-- where the execution of a network stands in a run
abbrev pub at : Plan → Execution → CompletionOrder → (number spare_capacity : ℕ) → Here EventRun
at net execution completion_order number spare_capacity = record { state = record { net = net; execution = execution; completion_order = completion_order }; number = number; spare_capacity = spare_capacity }

-- ---- the answer to what a line states
-- a feed, by the refusal so far and the moments that are taken
abbrev FedBy : Option Why → Result Moments Why → Execution → ℕ → Fed → Execution → Type 0
FedBy refused result execution moment answer after =
    elim refused [
      | Some cause ↦ (answer ≡ fed.Ended cause) × (after ≡ execution)
      | None ↦ elim result [
        | Err cause ↦ (answer ≡ fed.Refused cause) × (after ≡ record execution { refused = Some cause })
        | Ok moments ↦ (answer ≡ fed.Acts) × (after ≡ after_feed execution moment moments)
      ]
    ]

fed_so : (execution : Execution) (moment : ℕ) (points : List PointId) (answer : Fed) (after : Execution) (result : Result Moments Why) → execution.refused ≡ None
    → taken execution moment points ≡ result
    → IsFed execution moment points answer after → FedBy None result execution moment answer after
fed_so execution moment points answer after result none is so =
    subst (λ (r : Result Moments Why). FedBy None r execution moment answer after) is
    (subst (λ (o : Option Why). FedBy o (taken execution moment points) execution moment answer after) none so)

-- an end, by the refusal so far and the first open point
abbrev FinishedBy : Option Why → Option PointId → Execution → Finished → Execution → Type 0
FinishedBy refused first execution answer after =
    elim refused [
      | Some cause ↦ (answer ≡ finished.Ended cause) × (after ≡ execution)
      | None ↦ elim first [
        | Some point ↦ (answer ≡ finished.Unfinished point) × (after ≡ execution)
        | None ↦ (answer ≡ finished.Complete) × IsWhole execution after
      ]
    ]

finished_so : (execution : Execution) (answer : Finished) (after : Execution) (first : Option PointId) → execution.refused ≡ None → first_open execution ≡ first
    → IsFinished execution answer after → FinishedBy None first execution answer after
finished_so execution answer after first none is so =
    subst (λ (o : Option PointId). FinishedBy None o execution answer after) is
    (subst (λ (o : Option Why). FinishedBy o (first_open execution) execution answer after) none so)

module _ (state : EventRun) (number : ℕ) (none : state.execution.refused ≡ None) (answer : List ℕ) (flow : Flow EventRun) where
  -- the acts of a feed, the next due moment, and the run continues
  abbrev GoesAfterFeed : ℕ → List PointId → Moments → Type 0
  GoesAfterFeed moment points moments =
      (due : Option ℕ) × IsDueAnswer (after_feed state.execution moment moments) due
      × (answer ≡ acts_text state.net (after_feed state.execution moment moments).acts ++ due_line due)
      × (flow ≡ Continue (record state { execution = after_feed state.execution moment moments }))

  -- a feed that is taken
  taken_goes : (moment : ℕ) (points : List PointId) (moments : Moments) → taken state.execution moment points ≡ Ok moments
      → AnswersEvent state number (completed moment points) answer flow
      → GoesAfterFeed moment points moments
  taken_goes moment points moments is (answered, after, so, answers) =
      let by = fed_so state.execution moment points answered after (Ok moments) none is so in
      let there = subst (λ (e : Execution). AnswersFeed state number answered (record state { execution = e }) answer flow) by.1 answers in
      let now = subst (λ (f : Fed). AnswersFeed state number f (record state { execution = after_feed state.execution moment moments }) answer flow) by.0 there in
      (now.0, now.1, now.2, now.3)

  -- one that is refused ends the run so
  refused_ends : (moment : ℕ) (points : List PointId) (cause : Why) → taken state.execution moment points ≡ Err cause → AnswersEvent state number (completed moment points) answer flow
      → RefusesEvent number (why_words state.net cause) answer flow
  refused_ends moment points cause is (answered, after, so, answers) =
      let by = fed_so state.execution moment points answered after (Err cause) none is so in
      subst (λ (f : Fed). AnswersFeed state number f (record state { execution = after }) answer flow) by.0 answers

  -- an end with no open point: the acts that remain
  done_whole : first_open state.execution ≡ None → AnswersEvent state number done answer flow
      → (after : Execution) × IsWhole state.execution after × (answer ≡ acts_text state.net after.acts ++ complete_line) × (flow ≡ Finish ends.Done)
  done_whole is (answered, after, so, answers) =
      let by = finished_so state.execution answered after None none is so in
      let now = subst (λ (f : Finished). AnswersEnd state.net number f after.acts answer flow) by.0 answers in
      (after, by.1, now.0, now.1)

  -- one with an open point ends the run as refused
  done_unfinished : (point : PointId) → first_open state.execution ≡ Some point → AnswersEvent state number done answer flow
      → RefusesEvent number (unfinished_words state.net point) answer flow
  done_unfinished point is (answered, after, so, answers) =
      let by = finished_so state.execution answered after (Some point) none is so in
      subst (λ (f : Finished). AnswersEnd state.net number f after.acts answer flow) by.0 answers

-- ---- a run over a line, and others
-- a run ends by a fault, with its line
abbrev pub EndsBy : Fault → List ℕ → End → Type 0
EndsBy fault put end = (put ≡ event_refusal fault) × (end ≡ fault_end fault)

-- a run ends by a refused event, with its line, in these words
abbrev pub EndsRefused : ℕ → (words : List (List ℕ)) → List ℕ → End → Type 0
EndsRefused number words put end = (put ≡ event_refusal_line number words) × (end ≡ ends.EventRefused)

-- if no line comes, the run ends by a fault
pub no_line : (net : Plan) (execution : Execution) (completion_order : CompletionOrder) (number spare_capacity : ℕ) (put : List ℕ) (end : End)
    → Run executing_machine (at net execution completion_order number spare_capacity) [] put end → EndsBy (Format (number + 1) NoEnd) put end
no_line net execution completion_order number spare_capacity put end run =
    let last = last_reply executing_machine (at net execution completion_order number spare_capacity) put end run in
    let same : end ≡ last.0 = cc (last.1) in
    (last.2.0, same ∙ last.2.1)

pub too_long : (net : Plan) (execution : Execution) (completion_order : CompletionOrder) (number spare_capacity : ℕ) (line : InputLine) (lines : List InputLine) (put : List ℕ) (end : End)
    → coming most_line spare_capacity line ≡ TooLong → Run executing_machine (at net execution completion_order number spare_capacity) (line ∷ lines) put end → EndsBy (LongLine (number + 1)) put end
too_long net execution completion_order number spare_capacity line lines put end long run =
    let here = at net execution completion_order number spare_capacity in
    let one = replied executing_machine here line lines put end TooLong long run in
    let on = subst (λ (o : Flow EventRun). Continues executing_machine here line lines put end o one.answer) one.replies.1 one.on in
    (on.0 ∙ one.replies.2.0, on.1 ∙ one.replies.2.1)

pub too_much : (net : Plan) (execution : Execution) (completion_order : CompletionOrder) (number spare_capacity : ℕ) (line : InputLine) (lines : List InputLine) (put : List ℕ) (end : End)
    → coming most_line spare_capacity line ≡ TooMuch → Run executing_machine (at net execution completion_order number spare_capacity) (line ∷ lines) put end → EndsBy (MuchInput (number + 1)) put end
too_much net execution completion_order number spare_capacity line lines put end much run =
    let here = at net execution completion_order number spare_capacity in
    let one = replied executing_machine here line lines put end TooMuch much run in
    let on = subst (λ (o : Flow EventRun). Continues executing_machine here line lines put end o one.answer) one.replies.1 one.on in
    (on.0 ∙ one.replies.2.0, on.1 ∙ one.replies.2.1)

module _ (reading : (net : Plan) (line : List (List ℕ)) → OneReading net line) where
  -- what a line states decides the answer
  reported_answers : (state : EventRun) (number : ℕ) (reported : EventLine) (line answer : List ℕ) (flow : Flow EventRun) → ReportsEvent state.completion_order state.net reported line → TakesEvent state number line answer flow
      → AnswersEvent state number reported answer flow
  reported_answers state number reported line answer flow is (inl (other, also, answers)) =
      subst (λ (t : EventLine). AnswersEvent state number t answer flow) (stated_once reading state.completion_order state.net line other reported also is) answers
  reported_answers state number reported line answer flow is (inr (kind, fault, puts, so)) = absurd (no_fault reading state.completion_order state.net line reported kind is fault)

  fault_answers : (state : EventRun) (number : ℕ) (kind : FormatKind) (line answer : List ℕ) (flow : Flow EventRun) → IsEventFault state.net line kind
      → TakesEvent state number line answer flow → (answer ≡ event_fault_line number kind) × (flow ≡ Finish (fault_end (Format number kind)))
  fault_answers state number kind line answer flow is (inl (reported, also, answers)) = absurd (no_fault reading state.completion_order state.net line reported kind also is)
  fault_answers state number kind line answer flow is (inr (other, fault, puts, so)) =
      let same = (reading state.net (words line)).one_fault other kind fault is in
      (puts ∙ ap (event_fault_line number) same, so ∙ ap (λ (k : FormatKind). Finish (fault_end (Format number k))) same)

  module _ (net : Plan) (execution : Execution) (completion_order : CompletionOrder) (number spare_capacity : ℕ) (none : execution.refused ≡ None) (line : InputLine) (lines : List InputLine) (put : List ℕ) (end : End)
      (comes : coming most_line spare_capacity line ≡ Comes) (run : Run executing_machine (at net execution completion_order number spare_capacity) (line ∷ lines) put end) where
    abbrev here : Here EventRun
    here = at net execution completion_order number spare_capacity

    one : Replied executing_machine here line lines put end Comes
    one = replied executing_machine here line lines put end Comes comes run

    statement : (reported : EventLine) → ReportsEvent completion_order net reported line.text → AnswersEvent here.state (number + 1) reported one.answer one.flow
    statement reported is = reported_answers here.state (number + 1) reported line.text one.answer one.flow is one.replies

    on_as : (flow : Flow EventRun) → one.flow ≡ flow → Continues executing_machine here line lines put end flow one.answer
    on_as flow is = subst (λ (o : Flow EventRun). Continues executing_machine here line lines put end o one.answer) is one.on

    pub one_blank : ReportsEvent completion_order net blank line.text → Run executing_machine (at net execution completion_order (number + 1) (spare_capacity - line_size line)) lines put end
    one_blank is =
        let answers = statement blank is in
        let on = on_as (Continue here.state) answers.1 in
        subst (λ (p : List ℕ). Run executing_machine (at net execution completion_order (number + 1) (spare_capacity - line_size line)) lines p end) (sym (on.1 ∙ ap (λ (a : List ℕ). a ++ on.0) answers.0)) on.2

    -- what was put for a feed, and the run over the lines after it
    abbrev pub RunsAfterFeed : ℕ → List PointId → Moments → Type 0
    RunsAfterFeed moment points moments =
        (due : Option ℕ) × (more : List ℕ) × IsDueAnswer (after_feed execution moment moments) due
        × (put ≡ acts_text net (after_feed execution moment moments).acts ++ (due_line due ++ more))
        × Run executing_machine (at net (after_feed execution moment moments) completion_order (number + 1) (spare_capacity - line_size line)) lines more end

    pub one_feed : (moment : ℕ) (points : List PointId) (moments : Moments) → ReportsEvent completion_order net (completed moment points) line.text → taken execution moment points ≡ Ok moments
        → RunsAfterFeed moment points moments
    one_feed moment points moments is takes =
        let goes = taken_goes here.state (number + 1) none one.answer one.flow moment points moments takes (statement (completed moment points) is) in
        let on = on_as _ goes.3 in
        (goes.0, on.0, goes.1, on.1 ∙ (ap (λ (a : List ℕ). a ++ on.0) goes.2 ∙ append_assoc (acts_text net (after_feed execution moment moments).acts) (due_line goes.0) on.0), on.2)

    pub one_refused : (moment : ℕ) (points : List PointId) (cause : Why) → ReportsEvent completion_order net (completed moment points) line.text → taken execution moment points ≡ Err cause
        → EndsRefused (number + 1) (why_words net cause) put end
    one_refused moment points cause is refuses =
        let answers = refused_ends here.state (number + 1) none one.answer one.flow moment points cause refuses (statement (completed moment points) is) in
        let on = on_as (Finish ends.EventRefused) answers.1 in
        (on.0 ∙ answers.0, on.1)

    pub one_done : ReportsEvent completion_order net done line.text → first_open execution ≡ None
        → (after : Execution) × IsWhole execution after × (put ≡ acts_text net after.acts ++ complete_line) × (end ≡ ends.Done)
    one_done is closed =
        let whole = done_whole here.state (number + 1) none one.answer one.flow closed (statement done is) in
        let on = on_as (Finish ends.Done) whole.3 in
        (whole.0, whole.1, on.0 ∙ whole.2, on.1)

    pub one_unfinished : (point : PointId) → ReportsEvent completion_order net done line.text → first_open execution ≡ Some point → EndsRefused (number + 1) (unfinished_words net point) put end
    one_unfinished point is opens =
        let answers = done_unfinished here.state (number + 1) none one.answer one.flow point opens (statement done is) in
        let on = on_as (Finish ends.EventRefused) answers.1 in
        (on.0 ∙ answers.0, on.1)

    pub one_fault : (kind : FormatKind) → IsEventFault net line.text kind → EndsBy (Format (number + 1) kind) put end
    one_fault kind is =
        let answers = fault_answers here.state (number + 1) kind line.text one.answer one.flow is one.replies in
        let on = on_as (Finish (fault_end (Format (number + 1) kind))) answers.1 in
        (on.0 ∙ answers.0, on.1)

-- Executions over lines that state the same, each by its own completion order.
use Rattle.std.proofs.Common.{◌≡◌, ◌⊎◌, ℕ, ◌+◌, ◌-◌, nat_lt, nat_le, ◌&&◌, ◌||◌, Bool, List, [], ◌∷◌, length, refl, sym, ap, ◌∙◌, subst, inl, inr, if◌then◌else◌}
use Rattle.texts.specs.Lines.{InputLine, line_size}
use Rattle.texts.specs.Limits.{most_line}
use Rattle.texts.specs.Words.{words}
use Rattle.plan_port.specs.Lines.{Coming, Comes, TooLong, TooMuch, coming}
use Rattle.net_model.specs.Network.{Plan}
use Rattle.net_model.specs.declared.format.FormatKind.{FormatKind}
use Rattle.desk_feeding.specs.Ordered.{IsInOrder}
use Rattle.desk_feeding.proofs.OrderedLemmas.{order_is_one}
use Rattle.event_stream.specs.EventText.{EventLine, blank, completed, done, IsEventFault}
use Rattle.event_stream.specs.Laws.{OneReading}
use Rattle.execution_model.specs.Feeds.{Execution}
use Rattle.execution_model.specs.declared.feed_answers.Fed.{Fed}
use Rattle.execution_model.specs.declared.feed_answers.Fed.TheVariants as fed
use Rattle.execution_model.specs.declared.feed_answers.Finished.{Finished}
use Rattle.execution_model.specs.declared.feed_answers.Finished.TheVariants as finished
use Rattle.execution_model.specs.declared.feed_answers.Act.{Act}
use Rattle.command_engine.specs.Runs.{RepliesTo, Run}
use Rattle.command_engine.specs.declared.endings.End.{End}
use Rattle.command_engine.specs.declared.machines.Flow.{Flow}
use Rattle.command_engine.specs.declared.machines.Flow.TheVariants.{Continue, Finish}
use Rattle.event_phase.specs.EventRuns.{EventRun, event_run_by}
use Rattle.event_phase.specs.EventPhase.{AnswersEnd, AnswersEvent, AnswersFeed, TakesEvent, executing_machine}
use Rattle.event_phase.specs.CompletionOrders.{CompletionOrder, as_named, in_order, ReportsAs, ReportsEvent}
use Rattle.event_phase.proofs.EventLemmas.{at}
use Rattle.event_phase.proofs.ReplyLemmas.{Continues, last_reply, replied}
use Rattle.run_command.specs.OrderedTexts.{AreOrderedLines, IsOrderedLine, NamesNoPoints, ReportsInOrder}
use Rattle.run_command.proofs.FollowLemmas.{run_ends, run_on}

-- what a line states by one order the other states by another, and so with its faults
pub record IsAlike (h k : CompletionOrder) (net : Plan) (line other : InputLine) : Type 0 where
  pub statement : (reported : EventLine) → ReportsEvent h net reported line.text → ReportsEvent k net reported other.text
  pub faults : (kind : FormatKind) → IsEventFault net line.text kind → IsEventFault net other.text kind
  pub size : length other.text ≡ length line.text
  pub end_stays : other.ended ≡ line.ended

-- so are lines, one after another
abbrev pub AreAlike : (h k : CompletionOrder) → Plan → (lines others : List InputLine) → Type 0
AreAlike h k net [] [] = Unit {0}
AreAlike h k net [] (other ∷ others) = ⊥
AreAlike h k net (line ∷ lines) [] = ⊥
AreAlike h k net (line ∷ lines) (other ∷ others) = IsAlike h k net line other × AreAlike h k net lines others

-- ---- lines in order
module _ (reads : (net : Plan) (line : List (List ℕ)) → OneReading net line) (net : Plan) where
  reported_in_order : (line other : List ℕ) (is : ReportsInOrder net line other) (reported : EventLine) → ReportsEvent in_order net reported line → ReportsEvent as_named net reported other
  reported_in_order line other is reported (read, statement, reports_as) =
      let same = (reads net (words line)).one_statement read (completed is.moment is.named) statement is.statement in
      let now = subst (λ (r : EventLine). ReportsAs in_order r reported) same reports_as in
      let one = order_is_one is.named now.0 is.points now.1 is.order in
      (completed is.moment is.points, is.states_so, (is.points, refl, now.2 ∙ ap (completed is.moment) one))

  reported_as_named : (line other : List ℕ) (is : ReportsInOrder net line other) (reported : EventLine) → ReportsEvent as_named net reported other → ReportsEvent in_order net reported line
  reported_as_named line other is reported (read, statement, reports_as) =
      let same = (reads net (words other)).one_statement read (completed is.moment is.points) statement is.states_so in
      let now = subst (λ (r : EventLine). ReportsAs as_named r reported) same reports_as in
      (completed is.moment is.named, is.statement, (now.0, subst (IsInOrder is.named) (sym now.1) is.order, now.2))

  reported_the_same : (h k : CompletionOrder) (line : List ℕ) → NamesNoPoints net line → (reported : EventLine) → ReportsEvent h net reported line → ReportsEvent k net reported line
  reported_the_same h k line none reported (blank, statement, reports_as) = (blank, statement, reports_as)
  reported_the_same h k line none reported (completed moment named, statement, reports_as) = absurd (none moment named statement)
  reported_the_same h k line none reported (done, statement, reports_as) = (done, statement, reports_as)

  pub ordered_alike : (line other : InputLine) → IsOrderedLine net line other → IsAlike in_order as_named net line other
  ordered_alike line other is = record { statement = statement is.text; faults = faults is.text; size = is.size; end_stays = is.end_stays }
    where
      statement : ReportsInOrder net line.text other.text ⊎ (NamesNoPoints net line.text × (other.text ≡ line.text)) → (reported : EventLine) → ReportsEvent in_order net reported line.text → ReportsEvent as_named net reported other.text
      statement (inl so) reported reports_it = reported_in_order line.text other.text so reported reports_it
      statement (inr (none, same)) reported reports_it = subst (ReportsEvent as_named net reported) (sym same) (reported_the_same in_order as_named line.text none reported reports_it)

      faults : ReportsInOrder net line.text other.text ⊎ (NamesNoPoints net line.text × (other.text ≡ line.text)) → (kind : FormatKind) → IsEventFault net line.text kind → IsEventFault net other.text kind
      faults (inl so) kind fault = absurd ((reads net (words line.text)).not_both (completed so.moment so.named) kind so.statement fault)
      faults (inr (none, same)) kind fault = subst (λ (text : List ℕ). IsEventFault net text kind) (sym same) fault

  pub alike_ordered : (line other : InputLine) → IsOrderedLine net line other → IsAlike as_named in_order net other line
  alike_ordered line other is = record { statement = statement is.text; faults = faults is.text; size = sym is.size; end_stays = sym is.end_stays }
    where
      statement : ReportsInOrder net line.text other.text ⊎ (NamesNoPoints net line.text × (other.text ≡ line.text)) → (reported : EventLine) → ReportsEvent as_named net reported other.text → ReportsEvent in_order net reported line.text
      statement (inl so) reported reports_it = reported_as_named line.text other.text so reported reports_it
      statement (inr (none, same)) reported reports_it = reported_the_same as_named in_order line.text none reported (subst (ReportsEvent as_named net reported) same reports_it)

      faults : ReportsInOrder net line.text other.text ⊎ (NamesNoPoints net line.text × (other.text ≡ line.text)) → (kind : FormatKind) → IsEventFault net other.text kind → IsEventFault net line.text kind
      faults (inl so) kind fault = absurd ((reads net (words other.text)).not_both (completed so.moment so.points) kind so.states_so fault)
      faults (inr (none, same)) kind fault = subst (λ (text : List ℕ). IsEventFault net text kind) same fault

  pub all_ordered_alike : (lines others : List InputLine) → AreOrderedLines net lines others → AreAlike in_order as_named net lines others
  all_ordered_alike [] [] are = tt
  all_ordered_alike [] (other ∷ others) are = absurd are
  all_ordered_alike (line ∷ lines) [] are = absurd are
  all_ordered_alike (line ∷ lines) (other ∷ others) (first, rest) = (ordered_alike line other first, all_ordered_alike lines others rest)

  pub all_alike_ordered : (lines others : List InputLine) → AreOrderedLines net lines others → AreAlike as_named in_order net others lines
  all_alike_ordered [] [] are = tt
  all_alike_ordered [] (other ∷ others) are = absurd are
  all_alike_ordered (line ∷ lines) [] are = absurd are
  all_alike_ordered (line ∷ lines) (other ∷ others) (first, rest) = (alike_ordered line other first, all_alike_ordered lines others rest)

-- ---- how a run goes on
-- the same, with the other order
abbrev pub with_completion_order : CompletionOrder → Flow EventRun → Flow EventRun
with_completion_order k (Continue state) = Continue (record state { completion_order = k })
with_completion_order k (Finish end) = Finish end

abbrev coming_by : (longest spare_capacity size : ℕ) → Bool → Coming
coming_by longest spare_capacity size ended =
    if nat_lt longest size && nat_le longest spare_capacity then TooLong
    else (if nat_lt spare_capacity size || (ended && nat_le spare_capacity size) then TooMuch
    else Comes)

module _ (h k : CompletionOrder) (net : Plan) where
  feed_other : (execution : Execution) (number : ℕ) (answered : Fed) (after : Execution) (answer : List ℕ) (flow : Flow EventRun)
      → AnswersFeed (event_run_by h net execution) number answered (event_run_by h net after) answer flow
      → AnswersFeed (event_run_by k net execution) number answered (event_run_by k net after) answer (with_completion_order k flow)
  feed_other execution number fed.Acts after answer flow (due, is, puts, goes) = (due, is, puts, ap (with_completion_order k) goes)
  feed_other execution number (fed.Refused cause) after answer flow (puts, ends) = (puts, ap (with_completion_order k) ends)
  feed_other execution number (fed.Ended cause) after answer flow (puts, ends) = (puts, ap (with_completion_order k) ends)

  end_other : (number : ℕ) (answered : Finished) (acts : List Act) (answer : List ℕ) (flow : Flow EventRun) → AnswersEnd net number answered acts answer flow
      → AnswersEnd net number answered acts answer (with_completion_order k flow)
  end_other number finished.Complete acts answer flow (puts, ends) = (puts, ap (with_completion_order k) ends)
  end_other number (finished.Unfinished point) acts answer flow (puts, ends) = (puts, ap (with_completion_order k) ends)
  end_other number (finished.Ended cause) acts answer flow (puts, ends) = (puts, ap (with_completion_order k) ends)

  event_other : (execution : Execution) (number : ℕ) (reported : EventLine) (answer : List ℕ) (flow : Flow EventRun) → AnswersEvent (event_run_by h net execution) number reported answer flow
      → AnswersEvent (event_run_by k net execution) number reported answer (with_completion_order k flow)
  event_other execution number blank answer flow (nothing, goes) = (nothing, ap (with_completion_order k) goes)
  event_other execution number (completed moment points) answer flow (answered, after, is, answers) = (answered, after, is, feed_other execution number answered after answer flow answers)
  event_other execution number done answer flow (answered, after, is, answers) = (answered, after, is, end_other number answered after.acts answer flow answers)

  takes_other : (execution : Execution) (number : ℕ) (line other : InputLine) → IsAlike h k net line other → (answer : List ℕ) (flow : Flow EventRun)
      → TakesEvent (event_run_by h net execution) number line.text answer flow → TakesEvent (event_run_by k net execution) number other.text answer (with_completion_order k flow)
  takes_other execution number line other alike answer flow (inl (reported, statement, answers)) = inl (reported, alike.statement reported statement, event_other execution number reported answer flow answers)
  takes_other execution number line other alike answer flow (inr (kind, fault, puts, ends)) = inr (kind, alike.faults kind fault, puts, ap (with_completion_order k) ends)

  -- if it goes on, the network and the order stay
  stays : (state : EventRun) (execution : Execution) → state ≡ event_run_by h net execution → state ≡ event_run_by h net state.execution
  stays state execution is = is ∙ sym (ap (λ (s : EventRun). event_run_by h net s.execution) is)

  fed_stays : (execution : Execution) (number : ℕ) (answered : Fed) (after : Execution) (answer : List ℕ) (state : EventRun)
      → AnswersFeed (event_run_by h net execution) number answered (event_run_by h net after) answer (Continue state) → state ≡ event_run_by h net state.execution
  fed_stays execution number fed.Acts after answer state (due, is, puts, goes) = stays state after (cc (goes))
  fed_stays execution number (fed.Refused cause) after answer state (puts, ends) = absurd (cc (ends))
  fed_stays execution number (fed.Ended cause) after answer state (puts, ends) = absurd (cc (ends))

  end_stays_not : (number : ℕ) (answered : Finished) (acts : List Act) (answer : List ℕ) (state : EventRun) → AnswersEnd net number answered acts answer (Continue state) → ⊥
  end_stays_not number finished.Complete acts answer state (puts, ends) = absurd (cc (ends))
  end_stays_not number (finished.Unfinished point) acts answer state (puts, ends) = absurd (cc (ends))
  end_stays_not number (finished.Ended cause) acts answer state (puts, ends) = absurd (cc (ends))

  takes_stays : (execution : Execution) (number : ℕ) (line answer : List ℕ) (state : EventRun) → TakesEvent (event_run_by h net execution) number line answer (Continue state) → state ≡ event_run_by h net state.execution
  takes_stays execution number line answer state (inl (blank, statement, (nothing, goes))) = stays state execution (cc (goes))
  takes_stays execution number line answer state (inl (completed moment points, statement, (answered, after, is, answers))) = fed_stays execution number answered after answer state answers
  takes_stays execution number line answer state (inl (done, statement, (answered, after, is, answers))) = absurd (end_stays_not number answered after.acts answer state answers)
  takes_stays execution number line answer state (inr (kind, fault, puts, ends)) = absurd (cc (ends))

  -- a run over lines from a place
  abbrev pub RunBy : CompletionOrder → Execution → (number spare_capacity : ℕ) → List InputLine → List ℕ → End → Type 0
  RunBy completion_order execution number spare_capacity lines put end = Run executing_machine (at net execution completion_order number spare_capacity) lines put end

  module _ (line other : InputLine) (lines others : List InputLine) (alike : IsAlike h k net line other) (end : End)
      (later : (next : Execution) (number spare_capacity : ℕ) (more : List ℕ) → RunBy h next number spare_capacity lines more end → RunBy k next number spare_capacity others more end) where
    same_size : line_size other ≡ line_size line
    same_size = ap (λ (n : ℕ). n + (if other.ended then 1 else 0)) alike.size ∙ ap (λ (e : Bool). length line.text + (if e then 1 else 0)) alike.end_stays

    same_coming : (spare_capacity : ℕ) → coming most_line spare_capacity other ≡ coming most_line spare_capacity line
    same_coming spare_capacity = ap (λ (n : ℕ). coming_by most_line spare_capacity n other.ended) alike.size ∙ ap (coming_by most_line spare_capacity (length line.text)) alike.end_stays

    goes_other : (execution : Execution) (number spare_capacity : ℕ) (put answer : List ℕ) (flow : Flow EventRun) → TakesEvent (event_run_by h net execution) (number + 1) line.text answer flow
        → Continues executing_machine (at net execution h number spare_capacity) line lines put end flow answer
        → Continues executing_machine (at net execution k number spare_capacity) other others put end (with_completion_order k flow) answer
    goes_other execution number spare_capacity put answer (Finish over) takes continues = continues
    goes_other execution number spare_capacity put answer (Continue state) takes (more, puts, on) =
        let same = takes_stays execution (number + 1) line.text answer state takes in
        let there : RunBy h state.execution (number + 1) (spare_capacity - line_size line) lines more end =
        subst (λ (s : EventRun). Run executing_machine (record { state = s; number = number + 1; spare_capacity = spare_capacity - line_size line }) lines more end) same on in
        let here : RunBy h state.execution (number + 1) (spare_capacity - line_size other) lines more end = subst (λ (n : ℕ). RunBy h state.execution (number + 1) (spare_capacity - n) lines more end) (sym same_size) there in
        let turned : record state { completion_order = k } ≡ event_run_by k net state.execution = ap (λ (s : EventRun). record s { completion_order = k }) same in (
          more,
          puts,
          subst (λ (s : EventRun). Run executing_machine (record { state = s; number = number + 1; spare_capacity = spare_capacity - line_size other }) others more end) (sym turned)
              (later state.execution (number + 1) (spare_capacity - line_size other) more here),
        )

    stops_other : (execution : Execution) (number spare_capacity : ℕ) (put answer : List ℕ) (flow : Flow EventRun) (over : End) → flow ≡ Finish over
        → Continues executing_machine (at net execution h number spare_capacity) line lines put end flow answer
        → Continues executing_machine (at net execution k number spare_capacity) other others put end flow answer
    stops_other execution number spare_capacity put answer (Finish one) over is continues = continues
    stops_other execution number spare_capacity put answer (Continue state) over is continues = absurd (cc (is))

    alike_line : (execution : Execution) (number spare_capacity : ℕ) (put : List ℕ) (how : Coming) → coming most_line spare_capacity line ≡ how → RunBy h execution number spare_capacity (line ∷ lines) put end
        → RunBy k execution number spare_capacity (other ∷ others) put end
    alike_line execution number spare_capacity put Comes comes run =
        let one = replied executing_machine (at net execution h number spare_capacity) line lines put end Comes comes run in
        let there = at net execution k number spare_capacity in
        let takes = takes_other execution (number + 1) line other alike one.answer one.flow one.replies in
        run_on executing_machine there other others put one.answer (with_completion_order k one.flow) end
        (subst (λ (c : Coming). RepliesTo executing_machine c there other.text one.answer (with_completion_order k one.flow)) (sym (same_coming spare_capacity ∙ comes)) takes)
        (goes_other execution number spare_capacity put one.answer one.flow one.replies one.on)
    alike_line execution number spare_capacity put TooLong comes run =
        let one = replied executing_machine (at net execution h number spare_capacity) line lines put end TooLong comes run in
        let there = at net execution k number spare_capacity in
        run_on executing_machine there other others put one.answer one.flow end
        (subst (λ (c : Coming). RepliesTo executing_machine c there other.text one.answer one.flow) (sym (same_coming spare_capacity ∙ comes)) one.replies)
        (stops_other execution number spare_capacity put one.answer one.flow one.replies.0 one.replies.1 one.on)
    alike_line execution number spare_capacity put TooMuch comes run =
        let one = replied executing_machine (at net execution h number spare_capacity) line lines put end TooMuch comes run in
        let there = at net execution k number spare_capacity in
        run_on executing_machine there other others put one.answer one.flow end
        (subst (λ (c : Coming). RepliesTo executing_machine c there other.text one.answer one.flow) (sym (same_coming spare_capacity ∙ comes)) one.replies)
        (stops_other execution number spare_capacity put one.answer one.flow one.replies.0 one.replies.1 one.on)

  pub alike_runs : (end : End) (lines others : List InputLine) → AreAlike h k net lines others → (execution : Execution) (number spare_capacity : ℕ) (put : List ℕ) → RunBy h execution number spare_capacity lines put end
      → RunBy k execution number spare_capacity others put end
  alike_runs end [] [] alike execution number spare_capacity put run =
      run_ends executing_machine (at net execution k number spare_capacity) [] put end (last_reply executing_machine (at net execution h number spare_capacity) put end run)
  alike_runs end [] (other ∷ others) alike execution number spare_capacity put run = absurd alike
  alike_runs end (line ∷ lines) [] alike execution number spare_capacity put run = absurd alike
  alike_runs end (line ∷ lines) (other ∷ others) (first, rest) execution number spare_capacity put run =
      alike_line line other lines others first end (λ next n r more on. alike_runs end lines others rest next n r more on) execution number spare_capacity put (coming most_line spare_capacity line) refl run

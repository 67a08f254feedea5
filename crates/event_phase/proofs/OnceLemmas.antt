-- An execution over lines of events gives at most one answer: its start is one, and so is the answer to each line.
use Rattle.std.proofs.Common.{◌≡◌, ◌⊎◌, inl, inr, ℕ, zero, suc, ◌<◌, ◌≤◌, true, false, List, [], ◌++◌, Option, Some, None, Result, Ok, Err, refl, ap, sym, subst, ◌∙◌, arith, length}
use Rattle.std.specs.Prelude.{IsSome}
use Rattle.std.proofs.lemmas.Bool.{cases_lt}
use Rattle.std.specs.List.{All}
use Rattle.texts.specs.Words.{words}
use Rattle.net_model.specs.Network.{Plan}
use Rattle.net_model.specs.declared.ids.PointId.{PointId}
use Rattle.net_model.specs.declared.format.FormatKind.{FormatKind}
use Rattle.closure_model.specs.Tables.{Graph}
use Rattle.closure_model.proofs.LawProofs.{law_closure_is_one}
use Rattle.event_stream.specs.EventText.{EventLine, blank, completed, done}
use Rattle.event_stream.specs.Laws.{OneReading}
use Rattle.net_model.specs.Moments.{Moments, moment_of}
use Rattle.execution_model.specs.Execution.{Setting, is_due, acts_at, acted, time_runs, acts_while}
use Rattle.execution_model.specs.Feeds.{Execution, started, next_moment, taken, after_feed, IsFed, first_open, IsWhole, IsFinished, IsNextDue, IsDueAnswer, last_of}
use Rattle.execution_model.specs.Laws.{setting_of}
use Rattle.execution_model.specs.declared.feed_answers.Act.{Act}
use Rattle.execution_model.specs.declared.feed_answers.Why.{Why}
use Rattle.execution_model.specs.declared.feed_answers.Fed.{Fed}
use Rattle.execution_model.specs.declared.feed_answers.Fed.TheVariants as fed
use Rattle.execution_model.specs.declared.feed_answers.Finished.{Finished}
use Rattle.execution_model.specs.declared.feed_answers.Finished.TheVariants as finished
use Rattle.execution_model.proofs.MomentLemmas.{length-acted, come_not_due, none_due_no_acts, no_acts_same}
use Rattle.command_engine.specs.Single.{IsSingle}
use Rattle.command_engine.specs.declared.machines.Flow.{Flow}
use Rattle.command_engine.specs.declared.machines.Flow.TheVariants.{Continue, Finish}
use Rattle.common_answers.specs.VerdictLines.{controllable_line}
use Rattle.event_phase.specs.EventRuns.{EventRun, event_run_by}
use Rattle.event_phase.specs.EventAnswers.{acts_text, due_line, event_fault_line}
use Rattle.event_phase.specs.EventPhase.{AnswersFeed, AnswersEnd, AnswersEvent, TakesEvent, executing_machine}
use Rattle.common_answers.specs.Faults.{fault_end}
use Rattle.common_answers.specs.declared.faults.Fault.TheVariants.{Format}
use Rattle.event_phase.specs.ExecutionStart.{BeginsExecution, BeginsExecutionBy}
use Rattle.event_phase.specs.CompletionOrders.{CompletionOrder, as_named}
use Rattle.event_phase.proofs.CompletionOrderLemmas.{stated_once, no_fault}

-- ---- the next due moment is one
next_due_one : (execution : Execution) (due other : Option ℕ) → IsNextDue execution due → IsNextDue execution other → due ≡ other
next_due_one execution None None a b = refl
next_due_one execution None (Some t) a b = absurd (b.2 (a t b.0))
next_due_one execution (Some t) None a b = absurd (a.2 (b t a.0))
next_due_one execution (Some t) (Some u) a b = by (cases_lt t u) (cases_lt u t)
  where
    by : (t < u) ⊎ (u ≤ t) → (u < t) ⊎ (t ≤ u) → ◌≡◌ {A = Option ℕ} (Some t) (Some u)
    by (inl less) later = absurd (a.2 (b.1 t a.0 less))
    by (inr most) (inl less) = absurd (b.2 (a.1 u b.0 less))
    by (inr most) (inr least) = let same : t ≡ u = omega arith in ap (λ (n : ℕ). Some n) same

abbrev DueWhere : Execution → Option ℕ → Option Why → Type 0
DueWhere execution answer (Some cause) = answer ≡ None
DueWhere execution answer None = IsNextDue execution answer

due_one : (execution : Execution) (due other : Option ℕ) → IsDueAnswer execution due → IsDueAnswer execution other → due ≡ other
due_one execution due other a b = by execution.refused a b
  where
    by : (refused : Option Why) → DueWhere execution due refused → DueWhere execution other refused → due ≡ other
    by (Some cause) x y = x ∙ sym y
    by None x y = next_due_one execution due other x y

-- ---- a feed is answered in one way
module _ (execution : Execution) (moment : ℕ) (listed : List PointId) where
  abbrev FedBy : Fed → Execution → Result Moments Why → Type 0
  FedBy answer after (Err cause) = (answer ≡ fed.Refused cause) × (after ≡ record execution { refused = Some cause })
  FedBy answer after (Ok moments) = (answer ≡ fed.Acts) × (after ≡ after_feed execution moment moments)

  abbrev FedWhere : Fed → Execution → Option Why → Type 0
  FedWhere answer after (Some cause) = (answer ≡ fed.Ended cause) × (after ≡ execution)
  FedWhere answer after None = FedBy answer after (taken execution moment listed)

  fed_one : (answer other : Fed) (after also : Execution) → IsFed execution moment listed answer after → IsFed execution moment listed other also → (answer ≡ other) × (after ≡ also)
  fed_one answer other after also a b = by execution.refused a b
    where
      by_taken : (r : Result Moments Why) → FedBy answer after r → FedBy other also r → (answer ≡ other) × (after ≡ also)
      by_taken (Err cause) x y = (x.0 ∙ sym y.0, x.1 ∙ sym y.1)
      by_taken (Ok moments) x y = (x.0 ∙ sym y.0, x.1 ∙ sym y.1)

      by : (refused : Option Why) → FedWhere answer after refused → FedWhere other also refused → (answer ≡ other) × (after ≡ also)
      by (Some cause) x y = (x.0 ∙ sym y.0, x.1 ∙ sym y.1)
      by None x y = by_taken (taken execution moment listed) x y

-- ---- if every point has come, time changes nothing
module _ (setting : Setting) where
  come_no_acts : (moments : Moments) (t : ℕ) → length moments ≡ length setting.dispatch → All IsSome moments → acts_at setting moments t ≡ []
  come_no_acts moments t long come =
      none_due_no_acts setting moments t (λ point inside. by point (moment_of moments point) refl (come point.0 None (omega (arith, inside, long))))
    where
      by : (point : PointId) (found : Option ℕ) → moment_of moments point ≡ found → IsSome (moment_of moments point) → is_due setting moments t point ≡ false
      by point None none some = let wrong : false ≡ true = subst (λ (o : Option ℕ). IsSome o) none some in absurd (cc)
      by point (Some m) is some = come_not_due setting moments t point m is

  no_more : (moments : Moments) (t count : ℕ) → length moments ≡ length setting.dispatch → All IsSome moments
      → (time_runs setting moments t count ≡ moments) × (acts_while setting moments t count ≡ [])
  no_more moments t zero long come = (refl, refl)
  no_more moments t (suc count) long come =
      let none = come_no_acts moments t long come in
      let same : acted setting moments t ≡ moments = no_acts_same setting moments t long none in
      let rest = no_more moments (suc t) count long come in (
        ap (λ (m : Moments). time_runs setting m (suc t) count) same ∙ rest.0,
        ap (λ (acts : List Act). acts ++ acts_while setting (acted setting moments t) (suc t) count) none ∙ (ap (λ (m : Moments). acts_while setting m (suc t) count) same ∙ rest.1),
      )

  settled : (first count : ℕ) → first ≤ count → (moments : Moments) (t : ℕ) → length moments ≡ length setting.dispatch → All IsSome (time_runs setting moments t first)
      → (time_runs setting moments t count ≡ time_runs setting moments t first) × (acts_while setting moments t count ≡ acts_while setting moments t first)
  settled zero count least moments t long come = no_more moments t count long come
  settled (suc first) zero least moments t long come = absurd (omega (arith, least))
  settled (suc first) (suc count) least moments t long come =
      let rest = settled first count (omega (arith, least)) (acted setting moments t) (suc t) (length-acted setting moments t) come in
      (rest.0, ap (λ (acts : List Act). acts_at setting moments t ++ acts) rest.1)

-- ---- the end is answered in one way
module _ (execution : Execution) where
  abbrev after_time : (moments : Moments) (acts : List Act) → Execution
  after_time moments acts = record execution { moments = moments; last = last_of execution.last acts; acts = acts }

  ordered_one : (first second : Execution) (a : IsWhole execution first) (b : IsWhole execution second) → a.count ≤ b.count → first ≡ second
  ordered_one first second a b least =
      let same = settled execution.setting a.count b.count least execution.moments (next_moment execution) a.long a.come in
      a.after_it ∙ (ap (λ (m : Moments). after_time m (acts_while execution.setting execution.moments (next_moment execution) a.count)) (sym same.0)
      ∙ (ap (λ (acts : List Act). after_time (time_runs execution.setting execution.moments (next_moment execution) b.count) acts) (sym same.1) ∙ sym b.after_it))

  whole_one : (first second : Execution) → IsWhole execution first → IsWhole execution second → first ≡ second
  whole_one first second a b =
      elim (cases_lt a.count b.count) [
        | inl less ↦ ordered_one first second a b (omega (arith, less))
        | inr most ↦ sym (ordered_one second first b a most)
      ]

  abbrev FinishedBy : Finished → Execution → Option PointId → Type 0
  FinishedBy answer after (Some point) = (answer ≡ finished.Unfinished point) × (after ≡ execution)
  FinishedBy answer after None = (answer ≡ finished.Complete) × IsWhole execution after

  abbrev FinishedWhere : Finished → Execution → Option Why → Type 0
  FinishedWhere answer after (Some cause) = (answer ≡ finished.Ended cause) × (after ≡ execution)
  FinishedWhere answer after None = FinishedBy answer after (first_open execution)

  finished_one : (answer other : Finished) (after also : Execution) → IsFinished execution answer after → IsFinished execution other also → (answer ≡ other) × (after ≡ also)
  finished_one answer other after also a b = by execution.refused a b
    where
      by_open : (o : Option PointId) → FinishedBy answer after o → FinishedBy other also o → (answer ≡ other) × (after ≡ also)
      by_open (Some point) x y = (x.0 ∙ sym y.0, x.1 ∙ sym y.1)
      by_open None x y = (x.0 ∙ sym y.0, whole_one after also x.1 y.1)

      by : (refused : Option Why) → FinishedWhere answer after refused → FinishedWhere other also refused → (answer ≡ other) × (after ≡ also)
      by (Some cause) x y = (x.0 ∙ sym y.0, x.1 ∙ sym y.1)
      by None x y = by_open (first_open execution) x y

-- ---- what a line states is answered in one way
feed_once : (state : EventRun) (number : ℕ) (answered : Fed) (after : EventRun) (a b : List ℕ) (x y : Flow EventRun)
    → AnswersFeed state number answered after a x → AnswersFeed state number answered after b y → (a ≡ b) × (x ≡ y)
feed_once state number fed.Acts after a b x y (due, is, put, goes) (other, also, puts, going) =
    (put ∙ (ap (λ (d : Option ℕ). acts_text state.net after.execution.acts ++ due_line d) (due_one after.execution due other is also) ∙ sym puts), goes ∙ sym going)
feed_once state number (fed.Refused cause) after a b x y one other = (one.0 ∙ sym other.0, one.1 ∙ sym other.1)
feed_once state number (fed.Ended cause) after a b x y one other = (one.0 ∙ sym other.0, one.1 ∙ sym other.1)

end_once : (state : EventRun) (number : ℕ) (answered : Finished) (acts : List Act) (a b : List ℕ) (x y : Flow EventRun)
    → AnswersEnd state.net number answered acts a x → AnswersEnd state.net number answered acts b y → (a ≡ b) × (x ≡ y)
end_once state number finished.Complete acts a b x y one other = (one.0 ∙ sym other.0, one.1 ∙ sym other.1)
end_once state number (finished.Unfinished point) acts a b x y one other = (one.0 ∙ sym other.0, one.1 ∙ sym other.1)
end_once state number (finished.Ended cause) acts a b x y one other = (one.0 ∙ sym other.0, one.1 ∙ sym other.1)

event_once : (state : EventRun) (number : ℕ) (reported : EventLine) (a b : List ℕ) (x y : Flow EventRun)
    → AnswersEvent state number reported a x → AnswersEvent state number reported b y → (a ≡ b) × (x ≡ y)
event_once state number blank a b x y one other = (one.0 ∙ sym other.0, one.1 ∙ sym other.1)
event_once state number (completed moment points) a b x y (answered, after, is, answers) (other, also, it, others) =
    let same = fed_one state.execution moment points answered other after also is it in
    let of : Execution → EventRun = λ execution. record state { execution = execution } in
    let moved : AnswersFeed state number other (of also) a x =
    subst (λ (e : Execution). AnswersFeed state number other (of e) a x) same.1 (subst (λ (f : Fed). AnswersFeed state number f (of after) a x) same.0 answers) in
    feed_once state number other (of also) a b x y moved others
event_once state number done a b x y (answered, after, is, answers) (other, also, it, others) =
    let same = finished_one state.execution answered other after also is it in
    let moved : AnswersEnd state.net number other also.acts a x =
    subst (λ (e : Execution). AnswersEnd state.net number other e.acts a x) same.1 (subst (λ (f : Finished). AnswersEnd state.net number f after.acts a x) same.0 answers) in
    end_once state number other also.acts a b x y moved others

-- ---- each line is answered in one way
module _ (reading : (net : Plan) (line : List (List ℕ)) → OneReading net line) where
  line_once : (state : EventRun) (number : ℕ) (line a b : List ℕ) (x y : Flow EventRun)
      → TakesEvent state number line a x → TakesEvent state number line b y → (a ≡ b) × (x ≡ y)
  line_once state number line a b x y (inl (reported, is, answers)) (inl (other, it, others)) =
      let same = stated_once reading state.completion_order state.net line reported other is it in
      event_once state number other a b x y (subst (λ (t : EventLine). AnswersEvent state number t a x) same answers) others
  line_once state number line a b x y (inl (reported, is, answers)) (inr (kind, it, put, ended)) = absurd (no_fault reading state.completion_order state.net line reported kind is it)
  line_once state number line a b x y (inr (kind, is, put, ended)) (inl (other, it, others)) = absurd (no_fault reading state.completion_order state.net line other kind it is)
  line_once state number line a b x y (inr (kind, is, put, ended)) (inr (other, it, also, so)) =
      let same = (reading state.net (words line)).one_fault kind other is it in
      (put ∙ (ap (event_fault_line number) same ∙ sym also), ended ∙ (ap (λ (k : FormatKind). let flow : Flow EventRun = Finish (fault_end (Format number k)) in flow) same ∙ sym so))

  pub executing_single : IsSingle executing_machine
  executing_single = record {
    takes = λ state number line a b x y one other. line_once state number line a b x y one other;
    stops = λ state number stop a b x y one other. (one.0 ∙ sym other.0, one.1 ∙ sym other.1);
  }

-- ---- the start is one
pub begins_once_by : (completion_order : CompletionOrder) (net : Plan) (a b : List ℕ) (x y : Flow EventRun) → BeginsExecutionBy completion_order net a x → BeginsExecutionBy completion_order net b y → (a ≡ b) × (x ≡ y)
begins_once_by completion_order net a b x y one other =
    let same : one.table ≡ other.table = law_closure_is_one net one.table other.table one.by_closure.closure other.by_closure.closure in
    let from : Graph → Execution = λ table. started (setting_of net table) in
    let flow : Graph → Flow EventRun = λ table. Continue (event_run_by completion_order net (from table)) in
    let due = due_one (from other.table) one.due other.due (subst (λ (t : Graph). IsDueAnswer (from t) one.due) same one.first) other.first in
    (one.put ∙ (ap (λ (d : Option ℕ). controllable_line ++ due_line d) due ∙ sym other.put), one.goes ∙ (ap flow same ∙ sym other.goes))

pub begins_once : (net : Plan) (a b : List ℕ) (x y : Flow EventRun) → BeginsExecution net a x → BeginsExecution net b y → (a ≡ b) × (x ≡ y)
begins_once = begins_once_by as_named

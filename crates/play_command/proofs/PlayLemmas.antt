-- `play` keeps its promise, and a network is answered by it in one way.
use Rattle.std.proofs.Common.{◌≡◌, ℕ, zero, suc, ◌≤◌, List, [], ◌∷◌, ◌++◌, length, inl, inr, refl, sym, ap, ◌∙◌, subst, arith}
use Rattle.std.specs.List.{All, AllByRecursion, AllZip, flat_map, slice_index}
use Rattle.std.proofs.lemmas.Int.{ints}
use Rattle.std.proofs.lemmas.List.Elements.{All-from_recursion, recursion_from_All}
use Rattle.std.proofs.lemmas.Bool.{cases_lt}
use Rattle.net_model.specs.Limits.{most_size}
use Rattle.net_model.specs.Network.{Plan, IsLink, IsPlan}
use Rattle.net_model.specs.ShownForm.{shown_form, shown_situation}
use Rattle.net_model.specs.declared.ids.PointId.{PointId}
use Rattle.net_model.specs.declared.part.Link.{Link}
use Rattle.strategy_model.specs.ShownLaws.{EarliestIsShown}
use Rattle.strategy_model.specs.ShownSchedules.{shown_schedule}
use Rattle.strategy_model.specs.Control.{IsEarliest}
use Rattle.strategy_model.specs.Laws.{AtMostOneEarliest}
use Rattle.strategy_model.specs.Situations.{IsDuration, IsSituation, Satisfies, moment_in}
use Rattle.strategy_model.proofs.ShownFormLemmas.{moment_in_shown, size_shown}
use Rattle.execution_model.specs.Feeds.{Execution, started}
use Rattle.dispatch_net.specs.Dispatchable.{DispatchLists}
use Rattle.dispatch_net.specs.declared.dispatch.Conditions.{Conditions}
use Rattle.situation_player.specs.PlayedDays.{IsStartedForward}
use Rattle.strategy_model.specs.Plays.{points_of}
use Rattle.command_engine.specs.Inputs.{AnswersText}
use Rattle.command_engine.specs.declared.endings.End.{End}
use Rattle.command_engine.specs.declared.endings.End.TheVariants.{Done}
use Rattle.common_answers.specs.Faults.{refusing}
use Rattle.input_texts.specs.PlanInput.{plan_in}
use Rattle.play_command.specs.PlayPromise.{AreEarliestTimes, PlayPromise, PutsPlay}
use Rattle.play_command.specs.PlayCommand.{PutsTimes, happened_in, play_answers, time_line, times_text}
use Rattle.common_answers.specs.VerdictLines.{controllable_line}
use Rattle.play_command.specs.PlayedSituation.{situation_of}
use Rattle.play_command.specs.declared.plan_day.PlayWords.{PlayWords}
use Rattle.play_command.specs.declared.which_situation.WhichSituation.{WhichSituation}
use Rattle.command_contracts.proofs.DecidedLemmas.{after_line, yes_by, refutes_by}
use Rattle.forward_executor.specs.ForwardExecutions.{IsForwardDispatch}
use Rattle.command_contracts.proofs.PutVerdictLemmas.{answers_once}

-- ---- the promise

-- the earliest schedule of a situation keeps every bound
pub earliest_satisfies : (net : Plan) (situation schedule : List ℕ) → IsEarliest net situation schedule → Satisfies net schedule
earliest_satisfies net situation schedule is =
    let found = is.controls situation is.is_situation in
    let one : found.0 ≡ schedule = (let both = sym found.1 ∙ is.played in cc) in
    subst (Satisfies net) one found.2

module _ (words : PlayWords) where
  times_begin : (net : Plan) (put : List ℕ) (end : End) → PutsTimes words.which net put end → (more : List ℕ) × (put ≡ controllable_line ++ more)
  times_begin net put end puts = (times_text net puts.schedule, puts.is)

  times_after : (net : Plan) (put : List ℕ) (end : End) → PutsTimes words.which net put end → (more : List ℕ) → put ≡ controllable_line ++ more → AreEarliestTimes words.which net more
  times_after net put end puts more same = record {
    schedule = puts.schedule;
    earliest = puts.earliest;
    satisfies = earliest_satisfies net (situation_of words.which net) puts.schedule puts.earliest;
    is = ap after_line (sym same ∙ puts.is);
  }

  -- if the verdict of the network of an input is put with the day, or the first refusal of the input, the promise is kept
  pub play_keeps : (input put : List ℕ) (end : End) → AnswersText (plan_in words.form) refusing (PutsPlay words) input put end → PlayPromise words input put end
  play_keeps input put end text =
      let yes = yes_by words.form (PutsTimes words.which) times_begin input put end text.answers in
      record {
        plays = text;
        controllable = λ more same net rest network. (yes more same net rest network).0;
        times = λ more same net rest network. times_after net put end (yes more same net rest network).1 more same;
        refutes = refutes_by words.form (PutsTimes words.which) times_begin input put end text.answers;
      }

-- ---- one answer

times_once : AtMostOneEarliest → (which : WhichSituation) (net : Plan) (a b : List ℕ) (x y : End) → PutsTimes which net a x → PutsTimes which net b y → (a ≡ b) × (x ≡ y)
times_once one which net a b x y puts also =
    let same = one net (situation_of which net) puts.schedule also.schedule puts.earliest also.earliest in
    (puts.is ∙ (ap (λ (s : List ℕ). controllable_line ++ times_text net s) same ∙ sym also.is), puts.done ∙ sym also.done)

-- a network is answered in one way, since a situation has one earliest schedule
pub play_answers_once : AtMostOneEarliest → (words : PlayWords) (net : Plan) (a b : List ℕ) (x y : End) → play_answers words net a x → play_answers words net b y → (a ≡ b) × (x ≡ y)
play_answers_once unique words net a b x y = answers_once net (PutsTimes words.which net) (times_once unique words.which net) a b x y

-- ---- the execution that plays the day

-- an execution that is started with a dispatchable network of a forward closed table is so by the table
pub started_by : (net : Plan) (lists : DispatchLists) (made : List Conditions) (execution : Execution) → IsForwardDispatch net lists → made ≡ lists.made
    → execution ≡ started (record { links = net.links; dispatch = made }) → IsStartedForward net execution
started_by net lists made execution is same started_so =
    let from : List Conditions → Execution = λ d. started (record { links = net.links; dispatch = d }) in
    record {
      table = is.table;
      order = is.order;
      dispatched = is.dispatched;
      unused = started_so ∙ ap from (same ∙ is.made);
    }

-- ---- the lines of a day, by the schedule as it is shown

past_end : (moments : List ℕ) (k : ℕ) → length moments ≤ k → slice_index moments k ≡ 0
past_end [] k past = refl
past_end (m ∷ moments) zero past = absurd (omega (arith, past))
past_end (m ∷ moments) (suc k) past = past_end moments k (omega (arith, past))

module _ (net : Plan) (schedule : List ℕ) (long : length schedule ≡ length net.points) where
  -- what is shown of a point happened at its moment in the schedule
  happened_at : (point : PointId) → happened_in net (shown_schedule net schedule) point ≡ moment_in schedule point
  happened_at point = elim (cases_lt point.0 (length net.points)) [
    | inl within ↦ (let shown = moment_in_shown net schedule point long within in omega (arith, shown))
    | inr past ↦
        let size = size_shown net (points_of net) schedule in
        let shown = past_end (shown_schedule net schedule) point.0 (omega (arith, past, long, size)) in
        let stated = past_end schedule point.0 (omega (arith, past, long)) in
        omega (arith, shown, stated)
  ]

  pub times_happened : flat_map (λ point. time_line net point (happened_in net (shown_schedule net schedule) point)) (points_of net) ≡ times_text net schedule
  times_happened = λ i. flat_map (λ point. time_line net point (happened_at point i)) (points_of net)

-- the earliest schedule as it is shown is put as the earliest schedule of the network
pub times_put : EarliestIsShown → (which : WhichSituation) (net shown : Plan) (schedule put : List ℕ) → IsPlan net → shown ≡ shown_form net → IsSituation net (situation_of which net)
    → IsEarliest shown (shown_situation net (situation_of which net)) schedule
    → put ≡ controllable_line ++ flat_map (λ point. time_line net point (happened_in net schedule point)) (points_of net) → PutsTimes which net put Done
times_put law which net shown schedule put plan as_shown is_situation earliest puts =
    let situation = situation_of which net in
    let (stated, is_earliest, same) = (law net situation plan).1 schedule is_situation (subst (λ (n : Plan). IsEarliest n (shown_situation net situation) schedule) as_shown earliest) in
    let long = (earliest_satisfies net situation stated is_earliest).complete in
    record {
      schedule = stated;
      earliest = is_earliest;
      is = puts
          ∙ (ap (λ (s : List ℕ). controllable_line ++ flat_map (λ point. time_line net point (happened_in net s point)) (points_of net)) (sym same)
          ∙ ap (λ (text : List ℕ). controllable_line ++ text) (times_happened net stated long));
      done = refl;
    }

-- ---- the durations of a situation
same_count : (links : List Link) (durations : List ℕ) → AllZip IsDuration links durations → length durations ≡ length links
same_count [] [] picks = refl
same_count [] (d ∷ durations) picks = absurd picks
same_count (link ∷ links) [] picks = absurd picks
same_count (link ∷ links) (d ∷ durations) picks = ap suc (same_count links durations picks.1)

small : (net : Plan) (links : List Link) (durations : List ℕ) → AllByRecursion (IsLink net) links → AllZip IsDuration links durations → AllByRecursion (λ duration. duration ≤ most_size) durations
small net [] [] sound picks = tt
small net [] (d ∷ durations) sound picks = absurd picks
small net (link ∷ links) [] sound picks = absurd picks
small net (link ∷ links) (d ∷ durations) sound picks =
    let longest = picks.0.1 in
    let within = sound.0.shown_within in
    (grind (arith, ints), small net links durations sound.1 picks.1)

module _ (net : Plan) (situation : List ℕ) (is : IsSituation net situation) where
  pub one_each : length situation ≡ length net.links
  one_each = same_count net.links situation is

  pub none_long : IsPlan net → All (λ duration. duration ≤ most_size) situation
  none_long plan = All-from_recursion (λ duration. duration ≤ most_size) situation (small net net.links situation (recursion_from_All (IsLink net) net.links plan.links_sound) is)

-- What is answered is what the definitions say.
use Rattle.std.proofs.Common.{◌≡◌, ℕ, ◌<◌, ◌≤◌, true, false, List, [], length, map, Option, Some, None, ap, sym, subst, ◌∙◌, arith, replicate}
use Rattle.std.specs.Prelude.{IfSome}
use Rattle.std.specs.List.{range_with_len}
use Rattle.std.proofs.lemmas.Bool.{le-leb, true≢false}
use Rattle.std.proofs.lemmas.List.{get_or-replicate, length-replicate}
use Rattle.std.proofs.lemmas.List.FromFn.{fill_by_all}
use Rattle.std.proofs.lemmas.Simd.{map-map}
use Rattle.net_model.specs.declared.ids.PointId.{PointId}
use Rattle.net_model.specs.Moments.{Moments, moment_of}
use Rattle.execution_model.specs.Execution.{Setting, points_of, is_due, acts_at}
use Rattle.execution_model.specs.Feeds.{Execution, started, next_moment, IsNextDue, IsDueAnswer}
use Rattle.execution_model.specs.Paced.{ArePaced}
use Rattle.execution_model.specs.declared.feed_answers.Act.{Act}
use Rattle.execution_model.proofs.MomentLemmas.{no_acts_none_due, none_due_no_acts}
use Rattle.execution_model.proofs.PacedLemmas.{started_paced}
use Rattle.live_executor.specs.ExpectedPoints.{AreLatest}
use Rattle.live_executor.specs.ExecutionStates.{ExecutionSoFar, StandsAt, IsFirstMoment}
use Rattle.live_executor.specs.Due.{holds_from}
use Rattle.live_executor.specs.Limits.{AreBefore}
use Rattle.live_executor.specs.Sound.{KeptNetwork, IsSoundSetting, made_setting, ExecutesTheSame}
use Rattle.live_executor.specs.WokenPoints.{IsAwake}
use Rattle.live_executor.proofs.FirstDueLemmas.{holds_not_yet, known_none_before}
use Rattle.live_executor.proofs.SameLemmas.{due_same}

-- ---- the start
abbrev none_at : PointId → Option ℕ
none_at point = None

none_come : (setting : Setting) → replicate (length setting.dispatch) None ≡ map (λ (point : PointId). none_at point) (points_of setting)
none_come setting =
    let number : ℕ → PointId = λ k. record { 0 = k } in
    let never : ℕ → Option ℕ = λ k. None in
    let n = length setting.dispatch in
    fill_by_all never (replicate n None) n None (length-replicate n None) (λ k below. get_or-replicate n k None None below)
    ∙ sym (map-map none_at number (range_with_len 0 n))

pub starts : (setting wanted : Setting) (moments : Moments) (acts : List Act) → setting ≡ wanted → moments ≡ replicate (length setting.dispatch) None → acts ≡ []
    → record { setting = setting; moments = moments; last = None; acts = acts; refused = None } ≡ started wanted
starts setting wanted moments acts same none no_acts =
    let made : Moments → List Act → Execution = λ m a. record { setting = setting; moments = m; last = None; acts = a; refused = None } in
    ap (λ (m : Moments). made m acts) (none ∙ none_come setting) ∙ ap (made (map none_at (points_of setting))) no_acts ∙ ap started same

abbrev no_moment : Option ℕ
no_moment = None

pub none_before : (end n : ℕ) (moments : Moments) → moments ≡ replicate n no_moment → AreBefore end moments
none_before end n moments none = subst (AreBefore end) (sym none) (λ k d inside.
    let below : k < n = (let long = length-replicate n no_moment in omega (arith, inside, long)) in
    subst (λ (m : Option ℕ). IfSome m (λ a. a < end)) (sym (get_or-replicate n k no_moment d below)) tt)

-- an execution of whose points none has come stands right at the first moment
pub none_stands : (network : KeptNetwork) → ExecutesTheSame network → IsSoundSetting network.setting → length network.setting.dispatch ≡ length network.made → (state : ExecutionSoFar)
    → state.moments ≡ replicate (length network.setting.dispatch) None → IsAwake network.setting 0 state.moments state.counts state.due
    → AreLatest network.setting state.moments state.latest → StandsAt network 0 state
none_stands network same sound whole state none awake expected = record {
  awake = awake;
  expected = expected;
  count = awake.moments_count ∙ whole;
  few = omega (arith, awake.moments_count, sound.few);
  paced = subst (ArePaced (made_setting network)) (sym (none ∙ ap (λ (n : ℕ). replicate n no_moment) whole ∙ none_come (made_setting network))) (started_paced (made_setting network) same.rank same.ranked);
}

-- ---- the next due moment
module _ (network : KeptNetwork) (same : ExecutesTheSame network) (execution : Execution) (state : ExecutionSoFar) (is_made : execution.setting ≡ made_setting network)
    (are_its : execution.moments ≡ state.moments) (stands : StandsAt network (next_moment execution) state) where
  abbrev due : Moments
  due = state.due

  known_at : (t : ℕ) → next_moment execution ≤ t → (point : PointId) → point.0 < length execution.setting.dispatch → is_due execution.setting execution.moments t point ≡ holds_from (moment_of due point) t
  known_at t from point inside =
      let whole : length execution.setting.dispatch ≡ length network.made = ap (λ (s : Setting). length s.dispatch) is_made in
      (ap (λ (s : Setting). is_due s execution.moments t point) is_made ∙ ap (λ (moments : Moments). is_due (made_setting network) moments t point) are_its)
      ∙ (sym (due_same network same state.moments stands.paced t point)
      ∙ (stands.awake.known point (omega (arith, inside, whole, stands.count, stands.awake.moments_count))).0 t from)

  no_act : (t : ℕ) → next_moment execution ≤ t → ((point : PointId) → point.0 < length due → holds_from (moment_of due point) t ≡ false) → acts_at execution.setting execution.moments t ≡ []
  no_act t from none =
      let whole : length execution.setting.dispatch ≡ length network.made = ap (λ (s : Setting). length s.dispatch) is_made in
      none_due_no_acts execution.setting execution.moments t (λ point inside.
      known_at t from point inside ∙ none point (omega (arith, inside, whole, stands.count, stands.awake.moments_count, stands.awake.due_count)))

  pub next_due_is : (answer : Option ℕ) → IsFirstMoment due answer → IsNextDue execution answer
  next_due_is None none = λ t from. no_act t from (λ point inside. ap (λ (o : Option ℕ). holds_from o t) (none point inside))
  next_due_is (Some first) is =
      let whole : length execution.setting.dispatch ≡ length network.made = ap (λ (s : Setting). length s.dispatch) is_made in
      let (point, inside, at) = is.1 in
      let within : point.0 < length execution.setting.dispatch = omega (arith, inside, whole, stands.count, stands.awake.moments_count, stands.awake.due_count) in
      let from : next_moment execution ≤ first =
      known_none_before network.setting (next_moment execution) first state.moments state.counts due stands.awake point first inside at in (
        from,
        (λ t above below. no_act t above (λ other other_inside. holds_not_yet due t (moment_of due other) (λ m its. let later = is.0 other m other_inside its in omega (arith, below, later)))),
        λ none.
            let no : is_due execution.setting execution.moments first point ≡ false = no_acts_none_due execution.setting execution.moments first none point within in
            let yes : holds_from (moment_of due point) first ≡ true = ap (λ (o : Option ℕ). holds_from o first) at ∙ le-leb first first (omega arith) in
            true≢false (sym yes ∙ (sym (known_at first from point within) ∙ no)),
      )

pub due_answer : (execution : Execution) (answer : Option ℕ) → execution.refused ≡ None → IsNextDue execution answer → IsDueAnswer execution answer
due_answer execution answer none is = rw none is

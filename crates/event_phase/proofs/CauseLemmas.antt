-- The cause of a refused event names points of the network, and the acts of an execution are of its points.
use Rattle.std.proofs.Common.{◌≡◌, ℕ, zero, suc, ◌+◌, ◌<◌, Bool, true, false, List, [], ◌∷◌, filter, length, Option, Some, None, Result, Ok, Err, sym, subst, arith}
use Rattle.std.specs.Prelude.{find, nat_lt, unsigned_abs, if◌then◌else◌}
use Rattle.std.specs.List.{All, range_with_len}
use Rattle.std.specs.Option.{IfSome, option_map, option_map_or, option_and_then}
use Rattle.std.proofs.lemmas.List.Elements.{All-head, All-tail, All-map, All-filter, All-append}
use Rattle.std.proofs.lemmas.List.FromFn.{get_or-range_with_len, length-range_with_len}
use Rattle.net_model.specs.Network.{Plan, IsPoint}
use Rattle.net_model.specs.declared.ids.PointId.{PointId}
use Rattle.net_model.specs.declared.part.Link.{Link}
use Rattle.net_model.specs.Moments.{Moments, moment_of}
use Rattle.execution_model.specs.Execution.{Setting, points_of, link_to, is_due, acts_at, acted, acts_while}
use Rattle.net_model.specs.Limits.{most_moment}
use Rattle.execution_model.specs.Feeds.{Execution, next_moment, moments_to, moments_before, refusal_of_duration, activated_before, refusal_of_completion, refusal_of, completed_at}
use Rattle.execution_model.specs.Feeds.{completions_taken, latest_of, is_overdue, overdue_why, first_overdue, none_overdue, completed_in, refusal_of_moment, taken, after_feed, is_open}
use Rattle.execution_model.specs.declared.feed_answers.Act.{Act}
use Rattle.execution_model.specs.declared.feed_answers.Why.{Why}
use Rattle.execution_model.specs.declared.feed_answers.Why.TheVariants as why
use Rattle.event_phase.specs.EventAnswers.{NamesPoints}

-- ---- the points of an execution
module _ (setting : Setting) where
  abbrev IsOf : PointId → Type 0
  IsOf point = point.0 < length setting.dispatch

  abbrev pub IsActOf : Act → Type 0
  IsActOf act = act.point.0 < length setting.dispatch

  all_points : All IsOf (points_of setting)
  all_points =
      All-map IsOf (λ k. let p : PointId = record { 0 = k } in p) (range_with_len 0 (length setting.dispatch))
      (λ k d inside.
      let below : k < length setting.dispatch = omega (arith, inside, length-range_with_len 0 (length setting.dispatch)) in
      let shifted : 0 + k < length setting.dispatch = omega (arith, below) in
      subst (λ (n : ℕ). n < length setting.dispatch) (sym (get_or-range_with_len 0 (length setting.dispatch) k d below)) shifted)

  found_point : (p : PointId → Bool) → IfSome (find p (points_of setting)) IsOf
  found_point p = by (points_of setting) all_points
    where
      chosen : (b : Bool) (point : PointId) (rest : Option PointId) → IsOf point → IfSome rest IsOf → IfSome (if b then Some point else rest) IsOf
      chosen true point rest is others = is
      chosen false point rest is others = others

      by : (points : List PointId) → All IsOf points → IfSome (find p points) IsOf
      by [] all = tt
      by (point ∷ points) all = chosen (p point) point (find p points) (All-head IsOf point points all) (by points (All-tail IsOf point points all))

  acts_of_points : (moments : Moments) (t : ℕ) → All IsActOf (acts_at setting moments t)
  acts_of_points moments t =
      All-map IsActOf (λ point. let act : Act = record { moment = t; point = point } in act) (filter (is_due setting moments t) (points_of setting))
      (All-filter (is_due setting moments t) IsOf (points_of setting) all_points)

  pub acts_while_of_points : (moments : Moments) (t count : ℕ) → All IsActOf (acts_while setting moments t count)
  acts_while_of_points moments t zero = λ k d inside. absurd (omega (arith, inside))
  acts_while_of_points moments t (suc count) =
      All-append IsActOf (acts_at setting moments t) (acts_while setting (acted setting moments t) (suc t) count) (acts_of_points moments t) (acts_while_of_points (acted setting moments t) (suc t) count)

  pub open_point : (moments : Moments) → IfSome (find (is_open setting moments) (points_of setting)) IsOf
  open_point moments = found_point (is_open setting moments)

pub fed_acts_of_points : (execution : Execution) (moment : ℕ) (moments : Moments) → All (IsActOf execution.setting) (after_feed execution moment moments).acts
fed_acts_of_points execution moment moments =
    All-append (IsActOf execution.setting) _ _
    (acts_while_of_points execution.setting execution.moments (next_moment execution) (moments_to execution moment)) (acts_of_points execution.setting moments moment)

-- ---- the causes
module _ (net : Plan) where
  abbrev Names : Option Why → Type 0
  Names cause = IfSome cause (NamesPoints net)

  abbrev NamesIn : Result Moments Why → Type 0
  NamesIn (Ok moments) = Unit {0}
  NamesIn (Err cause) = NamesPoints net cause

  chosen : (b : Bool) (one other : Option Why) → Names one → Names other → Names (if b then one else other)
  chosen true one other first second = first
  chosen false one other first second = second

  mapped : {X : Type 0} (f : X → Option Why) (found : Option X) (missing : Option Why) → ((x : X) → Names (f x)) → Names missing → Names (option_map_or f found missing)
  mapped f None missing each none = none
  mapped f (Some x) missing each none = each x

  refused_or : (cause : Option Why) (others : Result Moments Why) → Names cause → NamesIn others → NamesIn (option_map_or Err cause others)
  refused_or None others names rest = rest
  refused_or (Some cause) others names rest = names

  duration_names : (moment : ℕ) (point : PointId) (link : Link) (activated : ℕ) → IsPoint net point → Names (refusal_of_duration moment point link activated)
  duration_names moment point link activated is =
      chosen (nat_lt moment (activated + unsigned_abs link.low)) (Some (why.TooSoon point (activated + unsigned_abs link.low))) _ is
      (chosen (nat_lt (activated + unsigned_abs link.high) moment) (Some (why.Overdue point (activated + unsigned_abs link.high))) None is tt)

  abbrev completion_by : (moments : Moments) (moment : ℕ) (point : PointId) → Link → Option ℕ → Option Why
  completion_by moments moment point link (Some completed) = Some (why.Twice point completed)
  completion_by moments moment point link None = option_map_or (refusal_of_duration moment point link) (activated_before moments moment link) (Some (why.NotActive point))

  by_completion : (moments : Moments) (moment : ℕ) (point : PointId) (link : Link) (found : Option ℕ) → IsPoint net point → Names (completion_by moments moment point link found)
  by_completion moments moment point link (Some completed) is = is
  by_completion moments moment point link None is =
      mapped (refusal_of_duration moment point link) (activated_before moments moment link) (Some (why.NotActive point)) (λ activated. duration_names moment point link activated is) is

  completion_names : (moments : Moments) (moment : ℕ) (point : PointId) (link : Link) → IsPoint net point → Names (refusal_of_completion moments moment point link)
  completion_names moments moment point link is = by_completion moments moment point link (moment_of moments point) is

  listed_names : (setting : Setting) (moments : Moments) (moment : ℕ) (point : PointId) → IsPoint net point → Names (refusal_of setting moments moment point)
  listed_names setting moments moment point is =
      mapped (refusal_of_completion moments moment point) (link_to setting point) (Some (why.NotContingent point)) (λ link. completion_names moments moment point link is) is

  taken_names : (setting : Setting) (moment : ℕ) (listed : List PointId) (moments : Moments) → All (IsPoint net) listed → NamesIn (completions_taken setting moments moment listed)
  taken_names setting moment [] moments all = tt
  taken_names setting moment (point ∷ others) moments all =
      refused_or (refusal_of setting moments moment point) _ (listed_names setting moments moment point (All-head (IsPoint net) point others all))
      (taken_names setting moment others (completed_at moments moment point) (All-tail (IsPoint net) point others all))

  module _ (execution : Execution) (same : length execution.setting.dispatch ≡ length net.points) where
    overdue_names : (moments : Moments) (moment : ℕ) → Names (first_overdue execution.setting moments moment)
    overdue_names moments moment =
        by (find (is_overdue execution.setting moments moment) (points_of execution.setting)) (found_point execution.setting (is_overdue execution.setting moments moment))
      where
        latest : (point : PointId) (found : Option ℕ) → IsPoint net point → Names (option_map (why.Overdue point) found)
        latest point None is = tt
        latest point (Some at) is = is

        by : (found : Option PointId) → IfSome found (IsOf execution.setting) → Names (option_and_then (overdue_why execution.setting moments) found)
        by None is = tt
        by (Some point) is = latest point (latest_of execution.setting moments point) (subst (λ (n : ℕ). point.0 < n) same is)

    moment_names : (moment : ℕ) → Names (refusal_of_moment execution moment)
    moment_names moment =
        chosen (nat_lt moment (next_moment execution)) _ _ (by execution.last) (chosen (nat_lt most_moment moment) (Some why.MomentLimit) None tt tt)
      where
        by : (last : Option ℕ) → Names (option_map why.NotLater last)
        by None = tt
        by (Some last) = tt

    abbrev completed_by : ℕ → Result Moments Why → Result Moments Why
    completed_by moment (Ok moments) = none_overdue execution.setting moment moments
    completed_by moment (Err cause) = Err cause

    by_completed : (moment : ℕ) (r : Result Moments Why) → NamesIn r → NamesIn (completed_by moment r)
    by_completed moment (Ok moments) names = refused_or (first_overdue execution.setting moments moment) (Ok moments) (overdue_names moments moment) tt
    by_completed moment (Err cause) names = names

    completed_names : (moment : ℕ) (listed : List PointId) → All (IsPoint net) listed → NamesIn (completed_in execution moment listed)
    completed_names moment listed all =
        by_completed moment (completions_taken execution.setting (moments_before execution moment) moment listed) (taken_names execution.setting moment listed (moments_before execution moment) all)

    -- why a feed is refused names points of the network
    pub cause_names : (moment : ℕ) (listed : List PointId) (cause : Why) → All (IsPoint net) listed → taken execution moment listed ≡ Err cause → NamesPoints net cause
    cause_names moment listed cause all refused =
        let names : NamesIn (taken execution moment listed) = refused_or (refusal_of_moment execution moment) _ (moment_names moment) (completed_names moment listed all) in
        subst NamesIn refused names

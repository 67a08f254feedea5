-- The last act of an execution that came to its end.
use Rattle.std.proofs.Common.{◌≡◌, ℕ, zero, suc, ◌+◌, ◌-◌, ◌<◌, ◌≤◌, ◌⊎◌, inl, inr, List, [], ◌∷◌, ◌++◌, length, map, filter, Option, Some, None, refl, ap, sym, subst, ◌∙◌, arith}
use Rattle.std.specs.Prelude.{IsSome, IfSome}
use Rattle.std.specs.List.{All}
use Rattle.std.proofs.lemmas.List.Elements.{All-head, All-tail, All-weaker}
use Rattle.std.proofs.lemmas.List.Sums.{fold-append}
use Rattle.net_model.specs.declared.ids.PointId.{PointId}
use Rattle.net_model.specs.Moments.{Moments, moment_of}
use Rattle.execution_model.specs.Execution.{Setting, is_due, points_of, acts_at, acted, time_runs, acts_while}
use Rattle.execution_model.specs.Feeds.{last_of}
use Rattle.execution_model.specs.declared.feed_answers.Act.{Act}
use Rattle.execution_model.proofs.MomentLemmas.{no_acts_same, length-acted}
use Rattle.live_executor.specs.ExecutionStates.{ExecutionSoFar, RunsOut, without_acts, points_left}
use Rattle.live_executor.specs.Kept.{ExecutionGoesOn, moment_after}
use Rattle.live_executor.specs.Limits.{AreBefore, end_of_time}
use Rattle.live_executor.specs.Sound.{KeptNetwork, made_setting}
use Rattle.live_executor.proofs.FirstDueLemmas.{awake_at_end, stands_with}
use Rattle.live_executor.proofs.MomentLemmas.{acted_before}
use Rattle.live_executor.proofs.SettleLemmas.{left_cons}

-- if each has come none is left
none_left_of : (moments : Moments) → All IsSome moments → points_left moments ≡ 0
none_left_of [] come = refl
none_left_of (None ∷ moments) come = (let no = All-head IsSome None moments come in cc)
none_left_of (Some m ∷ moments) come = (let rest = none_left_of moments (All-tail IsSome (Some m) moments come) in rw (left_cons (Some m) moments) (omega (arith, rest)))

-- the last of acts of one moment
last_mapped : (t : ℕ) (last : Option ℕ) (points : List PointId) → (points ≡ []) ⊎ (last_of last (map (λ point. let act : Act = record { moment = t; point = point } in act) points) ≡ Some t)
last_mapped t last [] = inl refl
last_mapped t last (point ∷ points) =
    inr (elim (last_mapped t (Some t) points) [
      | inl none ↦ ap (λ (ps : List PointId). last_of (Some t) (map (λ point. let act : Act = record { moment = t; point = point } in act) ps)) none
      | inr is ↦ is
    ])

before_more : (b c : ℕ) (moments : Moments) → b ≤ c → AreBefore b moments → AreBefore c moments
before_more b c moments more before = All-weaker (λ (m : Option ℕ). IfSome m (λ a. a < b)) (λ (m : Option ℕ). IfSome m (λ a. a < c)) by moments before
  where
    by : (m : Option ℕ) → IfSome m (λ a. a < b) → IfSome m (λ a. a < c)
    by None below = tt
    by (Some a) below = (let less : a < b = below in omega (arith, less, more))

module _ (setting : Setting) where
  -- no moment is after the last act, and that is within the time that ran
  pub record EndsAt (last : Option ℕ) (moments : Moments) (t count : ℕ) : Type 0 where
    pub early : AreBefore (moment_after (last_of last (acts_while setting moments t count))) (time_runs setting moments t count)
    pub within : moment_after (last_of last (acts_while setting moments t count)) ≤ t + count

  pub ends_at : (last : Option ℕ) (moments : Moments) (t count : ℕ) → length moments ≡ length setting.dispatch → moment_after last ≤ t → AreBefore (moment_after last) moments
      → EndsAt last moments t count
  ends_at last moments t zero whole from before = record { early = before; within = omega (arith, from) }
  ends_at last moments t (suc count) whole from before =
      by (last_mapped t last (filter (is_due setting moments t) (points_of setting))) (ends_at last moments (suc t) count whole (omega (arith, from)) before)
      (ends_at (Some t) (acted setting moments t) (suc t) count (length-acted setting moments t) (omega arith)
      (acted_before setting (t + 1) t moments (omega arith) (before_more (moment_after last) (t + 1) moments (omega (arith, from)) before)))
    where
      by : (filter (is_due setting moments t) (points_of setting) ≡ []) ⊎ (last_of last (acts_at setting moments t) ≡ Some t) → EndsAt last moments (suc t) count
          → EndsAt (Some t) (acted setting moments t) (suc t) count → EndsAt last moments t (suc count)
      by (inl none) same next =
          (let act : PointId → Act = λ point. record { moment = t; point = point } in
          let gone : acts_at setting moments t ≡ [] = ap (map act) none in
          let still : acted setting moments t ≡ moments = no_acts_same setting moments t whole gone in
          let acts : acts_at setting moments t ++ acts_while setting (acted setting moments t) (suc t) count ≡ acts_while setting moments (suc t) count =
          ap (λ (now : List Act). now ++ acts_while setting (acted setting moments t) (suc t) count) gone ∙ ap (λ (m : Moments). acts_while setting m (suc t) count) still in
          let runs : time_runs setting (acted setting moments t) (suc t) count ≡ time_runs setting moments (suc t) count = ap (λ (m : Moments). time_runs setting m (suc t) count) still in
          let last_is = ap (λ (all : List Act). moment_after (last_of last all)) acts in
          record {
            early = subst (λ (m : Moments). AreBefore (moment_after (last_of last (acts_at setting moments t ++ acts_while setting (acted setting moments t) (suc t) count))) m) (sym runs)
                (subst (λ b. AreBefore b (time_runs setting moments (suc t) count)) (sym last_is) same.early);
            within = (let low = same.within in omega (arith, low, last_is));
          })
      by (inr here) same next =
          (let rest = acts_while setting (acted setting moments t) (suc t) count in
          let last_is : moment_after (last_of last (acts_at setting moments t ++ rest)) ≡ moment_after (last_of (Some t) rest) =
          ap moment_after (fold-append (λ (before : Option ℕ) (act : Act). Some act.moment) last (acts_at setting moments t) rest ∙ ap (λ (l : Option ℕ). last_of l rest) here) in
          record {
            early = subst (λ b. AreBefore b (time_runs setting (acted setting moments t) (suc t) count)) (sym last_is) next.early;
            within = (let low = next.within in omega (arith, low, last_is));
          })

some_of : (o : Option ℕ) → IsSome o → (m : ℕ) × (o ≡ Some m)
some_of None is = absurd cc
some_of (Some m) is = (m, refl)

-- an execution continues whichever acts it gives away
pub goes_on_with : (network : KeptNetwork) (from : ℕ) (state : ExecutionSoFar) → ExecutionGoesOn network from state → ExecutionGoesOn network from (without_acts state)
goes_on_with network from state goes = record { stands = stands_with network from state [] state.came goes.stands; before = goes.before; time_left = goes.time_left }

-- it continues at its end
pub goes_at_end : (network : KeptNetwork) (old now : ExecutionSoFar) (last : Option ℕ) → ExecutionGoesOn network (moment_after last) old → RunsOut network (moment_after last) old now
    → ExecutionGoesOn network (moment_after (last_of last now.acts)) (without_acts now)
goes_at_end network old now last goes out =
    let from = moment_after last in
    let soon : from ≤ end_of_time = (let low = goes.time_left in omega (arith, low)) in
    let stands = out.runs.stands in
    let moments_are = out.runs.moments_are in
    let acts_are : now.acts ≡ acts_while (made_setting network) old.moments from (end_of_time - from) = out.runs.acts_are in
    let end = ends_at (made_setting network) last old.moments from (end_of_time - from) goes.stands.count (omega arith) goes.before in
    record {
      stands = record {
        awake = awake_at_end network.setting end_of_time (moment_after (last_of last now.acts)) now.moments now.counts now.due stands.awake
            (λ point inside. some_of (moment_of now.moments point) (out.come point.0 None inside));
        expected = stands.expected;
        count = stands.count;
        few = stands.few;
        paced = stands.paced;
      };
      before = rw (moments_are, acts_are) end.early;
      time_left = (let none = none_left_of now.moments out.come in let low = end.within in let same = ap (λ (all : List Act). moment_after (last_of last all)) acts_are in omega (arith, none, low, same, soon));
    }

-- What a tree plays in every situation is a dynamic execution strategy: up to a moment its plays depend on the completions
-- up to it alone.
use Rattle.std.proofs.Common.{◌≡◌, ℕ, ◌+◌, ◌<◌, ◌≤◌, true, cond, List, [], Option, Some, None, is_some, inl, inr, refl, sym, ap, subst, ◌∙◌, arith}
use Rattle.std.specs.Prelude.{◌==◌}
use Rattle.std.specs.Cmp.Lexicographic.{pointwise}
use Rattle.std.proofs.lemmas.Bool.{cases_lt, eqb-true, eq-eqb, and_parts, and_from, true≢false}
use Rattle.std.proofs.lemmas.Option.{none-some, same_Some}
use Rattle.std.proofs.lemmas.List.Elements.{filter_agree}
use Rattle.net_model.specs.Network.{Plan, IsPlan, IsPoint, activation}
use Rattle.net_model.specs.declared.ids.PointId.{PointId}
use Rattle.strategy_model.specs.Situations.{IsSituation, moment_in}
use Rattle.strategy_model.specs.Plays.{PartialSchedule, same_point, moment_so_far, points_of, may_act}
use Rattle.strategy_model.specs.InstantPlays.{completed, instant_from, instant_cases}
use Rattle.strategy_model.specs.Dispatch.{AgreeUpTo, SameCompletions}
use Rattle.strategy_model.specs.DispatchLaws.{TreesAreDynamic}
use Rattle.strategy_model.specs.declared.tree.Tree.{Tree, Leaf, Node', Row_of-Case, end_of-Case, more_of-Case}
use Rattle.strategy_model.proofs.InstantLemmas.{as_instant}
use Rattle.strategy_model.proofs.PlayLemmas.{and_moment, known_stays, unknown_later, new_moment, GoesOn, goes_on, Lasting, lasting, follow_at_first}
use Rattle.strategy_model.proofs.AgreeLemmas.{both, played_length}
use Rattle.strategy_model.proofs.CompareLemmas.{law_completion_follows_activation}
use Rattle.strategy_model.proofs.KindLemmas.{kind_of_any}
use Rattle.strategy_model.proofs.KnownLemmas.{Known, comes_seen, seen_in, same_tests, completed_is}

-- every moment so far is before t
abbrev Before : PartialSchedule → ℕ → Type 0
Before so_far t = (point : PointId) (m : ℕ) → moment_so_far so_far point ≡ Some m → m < t

before_next : (so_far : PartialSchedule) (t : ℕ) (seen acts : List PointId) → Before so_far t → Before (and_moment so_far t seen acts) (t + 1)
before_next so_far t seen acts before point m found = by (moment_so_far so_far point) refl
  where
    by : (o : Option ℕ) → moment_so_far so_far point ≡ o → m < t + 1
    by None missing =
        let now = new_moment t seen acts point m (sym (unknown_later so_far t seen acts point missing) ∙ found) in
        omega (arith, now)
    by (Some k) known =
        let same = same_Some k m (sym (known_stays so_far t seen acts point k known) ∙ found) in
        let early = before point k known in
        omega (arith, same, early)

-- the moments so far of a play are those of its schedule
known_in_play : (net : Plan) (schedule : List ℕ) (so_far : PartialSchedule) (t : ℕ) → Before so_far t → GoesOn net schedule so_far t → Known net schedule so_far t
known_in_play net schedule so_far t before goes = record {
  before = λ point within sooner. by_then point within sooner (moment_so_far so_far point) refl;
  not_yet = λ point within later. not_by_then point within later (moment_so_far so_far point) refl;
}
  where
    by_then : (point : PointId) → IsPoint net point → moment_in schedule point < t → (o : Option ℕ) → moment_so_far so_far point ≡ o → moment_so_far so_far point ≡ Some (moment_in schedule point)
    by_then point within sooner None missing = let later = goes.later point within missing in absurd (omega (arith, later, sooner))
    by_then point within sooner (Some m) known = known ∙ ap (λ (k : ℕ). Some k) (sym (goes.kept point m within known))

    not_by_then : (point : PointId) → IsPoint net point → t ≤ moment_in schedule point → (o : Option ℕ) → moment_so_far so_far point ≡ o → moment_so_far so_far point ≡ None
    not_by_then point within later None missing = missing
    not_by_then point within later (Some m) known =
        let kept = goes.kept point m within known in
        let early = before point m known in
        absurd (omega (arith, kept, early, later))

-- if the completions up to a moment are the same, the same points are seen at it
same_seen : (net : Plan) (first second : List ℕ) (t m : ℕ) → SameCompletions net t first second → m ≤ t → seen_in net first m ≡ seen_in net second m
same_seen net first second t m same within =
    filter_agree (comes_seen net first m) (comes_seen net second m) (λ point. same_tests (comes_seen net first m point) (comes_seen net second m point) (there point) (back point)) (points_of net)
  where
    comes : (point : PointId) → is_some (activation net point) ≡ true → AgreeUpTo t (moment_in first point) (moment_in second point)
    comes point contingent =
        elim (kind_of_any net point) [
          | inl none ↦ absurd (true≢false (sym contingent ∙ ap is_some none))
          | inr ending ↦ subst (λ (p : PointId). AgreeUpTo t (moment_in first p) (moment_in second p)) ending.ends (same ending.name ending.link ending.declared)
        ]

    there : (point : PointId) → comes_seen net first m point ≡ true → comes_seen net second m point ≡ true
    there point holds =
        let (contingent, now) = and_parts (is_some (activation net point)) (moment_in first point == m) holds in
        let at = eqb-true (moment_in first point) m now in
        and_from (is_some (activation net point)) (moment_in second point == m) contingent (eq-eqb (moment_in second point) m (sym ((comes point contingent).0 (omega (arith, at, within))) ∙ at))

    back : (point : PointId) → comes_seen net second m point ≡ true → comes_seen net first m point ≡ true
    back point holds =
        let (contingent, now) = and_parts (is_some (activation net point)) (moment_in second point == m) holds in
        let at = eqb-true (moment_in second point) m now in
        and_from (is_some (activation net point)) (moment_in first point == m) contingent (eq-eqb (moment_in first point) m ((comes point contingent).1 (omega (arith, at, within)) ∙ at))

-- Schedules of two situations, in each of which every link lasts its duration, that have the same completions up to a moment.
pub record CompletedAlike (net : Plan) (ds es first second : List ℕ) (t : ℕ) : Type 0 where
  pub plan : IsPlan net
  pub first_situation : IsSituation net ds
  pub second_situation : IsSituation net es
  pub first_lasting : Lasting net ds first
  pub second_lasting : Lasting net es second
  pub same : SameCompletions net t first second

module _ (net : Plan) (ds es first second : List ℕ) (t : ℕ) (alike : CompletedAlike net ds es first second t) where
  -- after the moment everything that came by it is known
  all_known : (so_far : PartialSchedule) (m : ℕ) → t < m → GoesOn net first so_far m → GoesOn net second so_far m → (point : PointId) → IsPoint net point → AgreeUpTo t (moment_in first point) (moment_in second point)
  all_known so_far m past first_goes second_goes point within = by (moment_so_far so_far point) refl
    where
      by : (o : Option ℕ) → moment_so_far so_far point ≡ o → AgreeUpTo t (moment_in first point) (moment_in second point)
      by (Some k) known =
          let is = first_goes.kept point k within known ∙ sym (second_goes.kept point k within known) in (λ by_then. is, λ by_then. is)
      by None missing =
          let later = first_goes.later point within missing in
          let later_too = second_goes.later point within missing in
          (λ by_then. absurd (omega (arith, later, by_then, past)), λ by_then. absurd (omega (arith, later_too, by_then, past)))

  mutual
    pub agree_up_to : (tree : Tree) (so_far : PartialSchedule) (m : ℕ) → Before so_far m → instant_from tree net ds so_far m ≡ Some first → instant_from tree net es so_far m ≡ Some second → (point : PointId) → IsPoint net point
        → AgreeUpTo t (moment_in first point) (moment_in second point)
    agree_up_to Leaf so_far m before played_first played_second point within =
        let is : moment_in first point ≡ moment_in second point = ap (λ (s : List ℕ). moment_in s point) (same_Some first second (sym played_first ∙ played_second)) in
        (λ by_then. is, λ by_then. is)
    agree_up_to (Node' shape cases) so_far m before played_first played_second point within =
        let first_goes = goes_on net ds first (Node' shape cases) so_far m played_first in
        let second_goes = goes_on net es second (Node' shape cases) so_far m played_second in
        elim (cases_lt t m) [
          | inl past ↦ all_known so_far m past first_goes second_goes point within
          | inr by_then ↦
              let first_seen = completed_is net ds first alike.plan alike.first_situation (λ name. alike.first_lasting name.0) so_far m (known_in_play net first so_far m before first_goes) in
              let second_seen = completed_is net es second alike.plan alike.second_situation (λ name. alike.second_lasting name.0) so_far m (known_in_play net second so_far m before second_goes) in
              let one : completed net ds so_far m ≡ completed net es so_far m = first_seen ∙ same_seen net first second t m alike.same by_then ∙ sym second_seen in
              agree_among cases so_far m before (completed net ds so_far m) played_first (subst (λ (points : List PointId). instant_cases cases net es so_far m points ≡ Some second) (sym one) played_second) point within
        ]

    agree_among : {n : _} (cases : Row_of-Case n) (so_far : PartialSchedule) (m : ℕ) → Before so_far m → (points : List PointId) → instant_cases cases net ds so_far m points ≡ Some first
        → instant_cases cases net es so_far m points ≡ Some second → (point : PointId) → IsPoint net point → AgreeUpTo t (moment_in first point) (moment_in second point)
    agree_among end_of-Case so_far m before points played_first played_second point within = absurd (none-some first played_first)
    agree_among (more_of-Case seen acts next others) so_far m before points played_first played_second point within =
        let and_now = and_moment so_far m seen acts in
        elim (both (pointwise same_point seen points) (cond (may_act net so_far acts) (instant_from next net ds and_now (m + 1)) None) (instant_cases others net ds so_far m points)
        (cond (may_act net so_far acts) (instant_from next net es and_now (m + 1)) None) (instant_cases others net es so_far m points) played_first played_second) [
          | inl here ↦ elim (both (may_act net so_far acts) (instant_from next net ds and_now (m + 1)) None (instant_from next net es and_now (m + 1)) None here.0 here.1) [
            | inl may ↦ agree_up_to next and_now (m + 1) (before_next so_far m seen acts before) may.0 may.1 point within
            | inr refused ↦ absurd (none-some first refused.0)
          ]
          | inr later ↦ agree_among others so_far m before points later.0 later.1 point within
        ]

pub law_trees_are_dynamic : TreesAreDynamic
law_trees_are_dynamic net strategy schedule_of instant played =
    let instantly : (situation : List ℕ) → IsSituation net situation → instant_from strategy net situation [] 0 ≡ Some (schedule_of situation) =
    λ situation is_situation. as_instant net strategy situation (schedule_of situation) instant (played situation is_situation) in
    record {
      complete = λ situation is_situation. played_length net situation (schedule_of situation) strategy [] 0 (instantly situation is_situation);
      lasting = λ situation name link duration is_situation. law_completion_follows_activation net strategy situation (schedule_of situation) name link duration instant (played situation is_situation);
      seen_alone = λ first second t is_first is_second same point executable. agree_up_to net first second (schedule_of first) (schedule_of second) t (record {
        plan = instant.sound;
        first_situation = is_first;
        second_situation = is_second;
        first_lasting = lasting net instant.sound first (schedule_of first) strategy [] 0 (instantly first is_first) (follow_at_first net first);
        second_lasting = lasting net instant.sound second (schedule_of second) strategy [] 0 (instantly second is_second) (follow_at_first net second);
        same = same;
      }) strategy [] 0 (λ point m found. absurd (none-some m found)) (instantly first is_first) (instantly second is_second) point executable.0;
    }

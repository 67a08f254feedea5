-- A play sees no bound, so a strategy that controls a network controls it with looser bounds.
use Rattle.std.proofs.Common.{◌≡◌, ℕ, pos, ◌+◌, ◌-◌, ◌-ℤ◌, ◌≤ℤ◌, Bool, cond, List, [], ◌∷◌, ◌++◌, None, length, is_none, nat_lt, not, refl, ap, subst, ◌∙◌, arith}
use Rattle.std.specs.List.{AllByRecursion, AllZip, list_any}
use Rattle.std.specs.Prelude.{◌&&◌, ◌||◌, filter}
use Rattle.std.specs.Cmp.Lexicographic.{pointwise}
use Rattle.std.proofs.lemmas.Int.{ints}
use Rattle.std.proofs.lemmas.List.Elements.{All-from_recursion, recursion_from_All}
use Rattle.net_model.specs.Network.{Plan, activation}
use Rattle.net_model.specs.declared.ids.PointId.{PointId}
use Rattle.net_model.specs.declared.part.Bound.{Bound}
use Rattle.net_model.specs.declared.part.Link.{Link}
use Rattle.strategy_model.specs.Situations.{Keeps, moment_in}
use Rattle.strategy_model.specs.Plays.{PartialSchedule, same_point, moment_so_far, at_moment, may_act, is_shown, shows, shown, points_of, play_from, play_cases, play}
use Rattle.strategy_model.specs.LooserLaws.{IsLoosened, LooserBoundsKeepControl}
use Rattle.strategy_model.specs.declared.tree.Tree.{Tree, Leaf, Node', Row_of-Case, end_of-Case, more_of-Case}

-- the network with other bounds
abbrev with_bounds : Plan → List Bound → Plan
with_bounds net bounds = record net { bounds = bounds }

-- a play does not see the bounds
module _ (net : Plan) (bounds : List Bound) (situation : List ℕ) where
  same_may : (so_far : PartialSchedule) (acts : List PointId) → may_act (with_bounds net bounds) so_far acts ≡ may_act net so_far acts
  same_may so_far [] = refl
  same_may so_far (act ∷ acts) =
      ap (λ (b : Bool). nat_lt act.0 (length net.points) && is_none (activation net act) && is_none (moment_so_far so_far act) && not (list_any (same_point act) acts) && b) (same_may so_far acts)

  same_completion : (so_far : PartialSchedule) (t : ℕ) (links : List Link) (durations : List ℕ) (point : PointId)
      → is_shown (with_bounds net bounds) so_far t links durations point ≡ is_shown net so_far t links durations point
  same_completion so_far t [] durations point = refl
  same_completion so_far t (link ∷ links) [] point = refl
  same_completion so_far t (link ∷ links) (duration ∷ durations) point =
      ap (λ (b : Bool). (same_point link.to point && shows net so_far t link duration) || b) (same_completion so_far t links durations point)

  same_shown : (so_far : PartialSchedule) (t : ℕ) → shown (with_bounds net bounds) situation so_far t ≡ shown net situation so_far t
  same_shown so_far t = λ i. filter (λ (point : PointId). same_completion so_far t net.links situation point i) (points_of net)

  mutual
    same_from : (tree : Tree) (so_far : PartialSchedule) (t : ℕ) → play_from tree (with_bounds net bounds) situation so_far t ≡ play_from tree net situation so_far t
    same_from Leaf so_far t = refl
    same_from (Node' shape cases) so_far t =
        same_cases cases so_far t (shown (with_bounds net bounds) situation so_far t) ∙ ap (play_cases cases net situation so_far t) (same_shown so_far t)

    same_cases : {m : _} (cases : Row_of-Case m) (so_far : PartialSchedule) (t : ℕ) (points : List PointId) → play_cases cases (with_bounds net bounds) situation so_far t points ≡ play_cases cases net situation so_far t points
    same_cases end_of-Case so_far t points = refl
    same_cases (more_of-Case seen acts next others) so_far t points =
        let rest = same_from next (so_far ++ at_moment (t - net.delay) seen ++ at_moment t acts) (t + 1) in
        let later = same_cases others so_far t points in
        let may = same_may so_far acts in
        λ i. cond (pointwise same_point seen points) (cond (may i) (rest i) None) (later i)

same_play : (net : Plan) (bounds : List Bound) (situation : List ℕ) (tree : Tree) → play tree (with_bounds net bounds) situation ≡ play tree net situation
same_play net bounds situation tree = same_from net bounds situation tree [] 0

-- what keeps a bound keeps a looser one
keeps_looser : (schedule : List ℕ) (bound other : Bound) → IsLoosened bound other → Keeps schedule bound → Keeps schedule other
keeps_looser schedule bound other (same_from_point, same_to, less) kept =
    subst (λ (p : PointId). (pos (moment_in schedule other.to) -ℤ pos (moment_in schedule p)) ≤ℤ other.most) same_from_point
    (subst (λ (p : PointId). (pos (moment_in schedule p) -ℤ pos (moment_in schedule bound.from)) ≤ℤ other.most) same_to (omega (arith, ints, kept, less)))

keep_looser : (schedule : List ℕ) (bounds others : List Bound) → AllZip IsLoosened bounds others → AllByRecursion (Keeps schedule) bounds → AllByRecursion (Keeps schedule) others
keep_looser schedule [] [] are kept = kept
keep_looser schedule [] (other ∷ others) are kept = absurd are
keep_looser schedule (bound ∷ bounds) [] are kept = absurd are
keep_looser schedule (bound ∷ bounds) (other ∷ others) are kept = (keeps_looser schedule bound other are.0 kept.0, keep_looser schedule bounds others are.1 kept.1)

pub law_looser_bounds_keep_control : LooserBoundsKeepControl
law_looser_bounds_keep_control strategy net bounds looser controls situation is_situation =
    let (schedule, played, satisfies) = controls situation is_situation in (
      schedule,
      same_play net bounds situation strategy ∙ played,
      record {
        complete = satisfies.complete;
        keeps = All-from_recursion (Keeps schedule) bounds (keep_looser schedule net.bounds bounds looser (recursion_from_All (Keeps schedule) net.bounds satisfies.keeps));
      },
    )

-- If the delay is 0 a play is that of instantaneous reaction.
use Rattle.std.proofs.Common.{◌≡◌, ℕ, ◌+◌, ◌-◌, ◌&&◌, Bool, false, cond, List, [], ◌∷◌, ◌++◌, Option, Some, None, refl, sym, ap, ◌∙◌, arith}
use Rattle.std.specs.Prelude.{◌==◌, ◌||◌}
use Rattle.std.specs.Cmp.Lexicographic.{pointwise}
use Rattle.std.proofs.lemmas.List.Elements.{filter_agree}
use Rattle.net_model.specs.Network.{Plan}
use Rattle.net_model.specs.declared.ids.PointId.{PointId}
use Rattle.net_model.specs.declared.part.Link.{Link}
use Rattle.strategy_model.specs.Plays.{PartialSchedule, same_point, moment_so_far, at_moment, points_of, may_act, shows, is_shown, play_from, play_cases, play, IsInstant}
use Rattle.strategy_model.specs.InstantPlays.{completes, is_completed, completed, instant_from, instant_cases}
use Rattle.strategy_model.specs.ShownLaws.{NoDelayIsInstant}
use Rattle.strategy_model.specs.declared.tree.Tree.{Tree, Leaf, Node', Row_of-Case, end_of-Case, more_of-Case}

module _ (net : Plan) (none : net.delay ≡ 0) (situation : List ℕ) where
  abbrev comes_at : ℕ → ℕ → Option ℕ → Bool
  comes_at duration t o = elim o [ Some a ↦ (a + duration) == t | None ↦ false ]

  abbrev comes_late : ℕ → ℕ → Option ℕ → Bool
  comes_late duration t o = elim o [ Some a ↦ (a + duration + net.delay) == t | None ↦ false ]

  same_test : (so_far : PartialSchedule) (t : ℕ) (link : Link) (duration : ℕ) → shows net so_far t link duration ≡ completes so_far t link duration
  same_test so_far t link duration = by (moment_so_far so_far link.from)
    where
      by : (o : Option ℕ) → comes_late duration t o ≡ comes_at duration t o
      by None = refl
      by (Some a) = ap (λ (n : ℕ). n == t) (omega (arith, none))

  same_shown : (so_far : PartialSchedule) (t : ℕ) (links : List Link) (durations : List ℕ) (point : PointId) → is_shown net so_far t links durations point ≡ is_completed so_far t links durations point
  same_shown so_far t [] durations point = refl
  same_shown so_far t (link ∷ links) [] point = refl
  same_shown so_far t (link ∷ links) (duration ∷ durations) point =
      ap (λ (b : Bool). (same_point link.to point && b) || is_shown net so_far t links durations point) (same_test so_far t link duration)
      ∙ ap (λ (b : Bool). (same_point link.to point && completes so_far t link duration) || b) (same_shown so_far t links durations point)

  mutual
    pub from_instant : (tree : Tree) (so_far : PartialSchedule) (t : ℕ) → play_from tree net situation so_far t ≡ instant_from tree net situation so_far t
    from_instant Leaf so_far t = refl
    from_instant (Node' shape cases) so_far t =
        ap (play_cases cases net situation so_far t) (filter_agree (is_shown net so_far t net.links situation) (is_completed so_far t net.links situation) (same_shown so_far t net.links situation) (points_of net))
        ∙ cases_instant cases so_far t (completed net situation so_far t)

    cases_instant : {m : _} (cases : Row_of-Case m) (so_far : PartialSchedule) (t : ℕ) (points : List PointId) → play_cases cases net situation so_far t points ≡ instant_cases cases net situation so_far t points
    cases_instant end_of-Case so_far t points = refl
    cases_instant (more_of-Case seen acts next others) so_far t points =
        let none_less : t - net.delay ≡ t = omega (arith, none) in
        ap (λ (m : ℕ). cond (pointwise same_point seen points) (cond (may_act net so_far acts) (play_from next net situation (so_far ++ at_moment m seen ++ at_moment t acts) (t + 1)) None) (play_cases others net situation so_far t points))
        none_less
        ∙ ap (λ (o : Option (List ℕ)). cond (pointwise same_point seen points) (cond (may_act net so_far acts) o None) (play_cases others net situation so_far t points))
        (from_instant next (so_far ++ at_moment t seen ++ at_moment t acts) (t + 1))
        ∙ ap (λ (o : Option (List ℕ)). cond (pointwise same_point seen points) (cond (may_act net so_far acts) (instant_from next net situation (so_far ++ at_moment t seen ++ at_moment t acts) (t + 1)) None) o)
        (cases_instant others so_far t points)

pub law_no_delay_is_instant : NoDelayIsInstant
law_no_delay_is_instant net strategy situation none = from_instant net none situation strategy [] 0

-- a play of an instant network, and back
pub as_instant : (net : Plan) (strategy : Tree) (situation schedule : List ℕ) → IsInstant net → play strategy net situation ≡ Some schedule → instant_from strategy net situation [] 0 ≡ Some schedule
as_instant net strategy situation schedule instant played = sym (law_no_delay_is_instant net strategy situation instant.no_delay) ∙ played

pub from_as_instant : (net : Plan) (strategy : Tree) (situation schedule : List ℕ) → IsInstant net → instant_from strategy net situation [] 0 ≡ Some schedule → play strategy net situation ≡ Some schedule
from_as_instant net strategy situation schedule instant played = law_no_delay_is_instant net strategy situation instant.no_delay ∙ played

-- A play sees of a network its points, the ends of its links and its delay alone.
use Rattle.std.proofs.Common.{◌≡◌, ℕ, pos, ◌+◌, ◌-◌, Bool, cond, List, [], ◌∷◌, ◌++◌, Option, None, length, map, is_none, nat_lt, not, refl, sym, ap, ◌∙◌}
use Rattle.std.specs.List.{AllZip, list_any}
use Rattle.std.specs.Option.{option_map}
use Rattle.std.specs.Prelude.{◌==◌, ◌&&◌, ◌||◌, filter}
use Rattle.std.specs.Cmp.Lexicographic.{pointwise}
use Rattle.net_model.specs.Network.{Plan, activation}
use Rattle.net_model.specs.declared.ids.PointId.{PointId}
use Rattle.net_model.specs.declared.ids.LinkId.{LinkId}
use Rattle.net_model.specs.declared.part.Link.{Link}
use Rattle.net_model.proofs.Positions.{position-map}
use Rattle.strategy_model.specs.Plays.{PartialSchedule, same_point, moment_so_far, at_moment, may_act, is_shown, shows, shown, points_of, play_from, play_cases, play}
use Rattle.strategy_model.specs.declared.tree.Tree.{Tree, Leaf, Node', Row_of-Case, end_of-Case, more_of-Case}
use Rattle.relaxation_laws.specs.Relaxations.{IsNarrowed, IsRelaxed}

-- a link without its interval
abbrev ends : Link → Link
ends link = record link { low = pos 0; high = pos 0 }

-- what a play sees of a network
abbrev seen_of : Plan → Plan
seen_of net = record { points = net.points; bounds = []; links = map ends net.links; delay = net.delay }

module _ (net : Plan) (situation : List ℕ) where
  same_activation : (point : PointId) → activation (seen_of net) point ≡ activation net point
  same_activation point = ap (option_map (λ k. let name : LinkId = record { 0 = k } in name)) (position-map (λ (l : Link). l.to.0 == point.0) ends net.links)

  same_may : (so_far : PartialSchedule) (acts : List PointId) → may_act (seen_of net) so_far acts ≡ may_act net so_far acts
  same_may so_far [] = refl
  same_may so_far (act ∷ acts) =
      ap (λ (o : Option LinkId). nat_lt act.0 (length net.points) && is_none o && is_none (moment_so_far so_far act) && not (list_any (same_point act) acts) && may_act (seen_of net) so_far acts) (same_activation act)
      ∙ ap (λ (b : Bool). nat_lt act.0 (length net.points) && is_none (activation net act) && is_none (moment_so_far so_far act) && not (list_any (same_point act) acts) && b) (same_may so_far acts)

  same_completion : (so_far : PartialSchedule) (t : ℕ) (links : List Link) (durations : List ℕ) (point : PointId)
      → is_shown (seen_of net) so_far t (map ends links) durations point ≡ is_shown net so_far t links durations point
  same_completion so_far t [] durations point = refl
  same_completion so_far t (link ∷ links) [] point = refl
  same_completion so_far t (link ∷ links) (duration ∷ durations) point =
      ap (λ (b : Bool). (same_point link.to point && shows net so_far t link duration) || b) (same_completion so_far t links durations point)

  same_shown : (so_far : PartialSchedule) (t : ℕ) → shown (seen_of net) situation so_far t ≡ shown net situation so_far t
  same_shown so_far t = λ i. filter (λ (point : PointId). same_completion so_far t net.links situation point i) (points_of net)

  mutual
    same_from : (tree : Tree) (so_far : PartialSchedule) (t : ℕ) → play_from tree (seen_of net) situation so_far t ≡ play_from tree net situation so_far t
    same_from Leaf so_far t = refl
    same_from (Node' shape cases) so_far t =
        same_cases cases so_far t (shown (seen_of net) situation so_far t) ∙ ap (play_cases cases net situation so_far t) (same_shown so_far t)

    same_cases : {m : _} (cases : Row_of-Case m) (so_far : PartialSchedule) (t : ℕ) (points : List PointId) → play_cases cases (seen_of net) situation so_far t points ≡ play_cases cases net situation so_far t points
    same_cases end_of-Case so_far t points = refl
    same_cases (more_of-Case seen acts next others) so_far t points =
        let rest = same_from next (so_far ++ at_moment (t - net.delay) seen ++ at_moment t acts) (t + 1) in
        let later = same_cases others so_far t points in
        let may = same_may so_far acts in
        λ i. cond (pointwise same_point seen points) (cond (may i) (rest i) None) (later i)

-- links that are narrowed keep their ends
same_ends : (links others : List Link) → AllZip IsNarrowed links others → map ends links ≡ map ends others
same_ends [] [] narrowed = refl
same_ends [] (other ∷ others) narrowed = absurd narrowed
same_ends (link ∷ links) [] narrowed = absurd narrowed
same_ends (link ∷ links) (other ∷ others) narrowed =
    let from = narrowed.0.0 in
    let to = narrowed.0.1 in
    let rest = same_ends links others narrowed.1 in
    λ i. record { from = from i; low = pos 0; high = pos 0; to = to i } ∷ rest i

-- so a network and one to which it is relaxed, with the same delay, are played alike
pub same_play : (net other : Plan) → IsRelaxed net other → net.delay ≡ other.delay → (strategy : Tree) (situation : List ℕ) → play strategy other situation ≡ play strategy net situation
same_play net other relaxed same_delay strategy situation =
    let points = relaxed.points in
    let links = same_ends net.links other.links relaxed.links in
    let same : seen_of net ≡ seen_of other = λ i. record { points = points i; bounds = []; links = links i; delay = same_delay i } in
    sym (same_from other situation strategy [] 0) ∙ (sym (ap (λ (n : Plan). play strategy n situation) same) ∙ same_from net situation strategy [] 0)

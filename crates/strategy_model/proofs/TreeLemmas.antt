-- A strategy at a node, read as the list of its cases, and how deep it is.
use Rattle.std.proofs.Common.{◌≡◌, ℕ, suc, ◌+◌, ◌<◌, ◌≤◌, max, Bool, true, false, cond, List, [], ◌∷◌, Option, Some, None, inl, inr, refl, sym, ap, subst, ◌∙◌, arith}
use Rattle.std.specs.Cmp.Lexicographic.{pointwise}
use Rattle.std.proofs.lemmas.Bool.{cond-true, cond-false}
use Rattle.std.proofs.lemmas.Option.{none-some, same_Some}
use Rattle.net_model.specs.Network.{Plan}
use Rattle.net_model.specs.declared.ids.PointId.{PointId}
use Rattle.strategy_model.specs.Plays.{PartialSchedule, same_point, may_act, case_for}
use Rattle.strategy_model.specs.InstantPlays.{completed, instant_from, instant_cases}
use Rattle.strategy_model.specs.declared.tree.Case.{Case}
use Rattle.strategy_model.specs.declared.tree.Tree.{Tree, Leaf, Node, Node', Row_of-Case, end_of-Case, more_of-Case, items-the_row-Case, items_hidden-the_row-Case-0}
use Rattle.strategy_model.specs.declared.tree.Tree.TheBlock.{hidden-the_row-Case-0}
use Rattle.strategy_model.proofs.MomentLemmas.{pick, same_points}
use Rattle.strategy_model.proofs.PlayLemmas.{and_moment}

-- how the play goes on in a case
abbrev pub goes_on_in : Plan → List ℕ → PartialSchedule → ℕ → Option Case → Option (List ℕ)
goes_on_in net situation so_far t None = None
goes_on_in net situation so_far t (Some case) =
    cond (may_act net so_far case.acts) (instant_from case.next net situation (and_moment so_far t case.seen case.acts) (t + 1)) None

choice : (net : Plan) (situation : List ℕ) (so_far : PartialSchedule) (t : ℕ) (b : Bool) (case : Case) (other : Option Case) (rest : Option (List ℕ)) → rest ≡ goes_on_in net situation so_far t other
    → cond b (goes_on_in net situation so_far t (Some case)) rest ≡ goes_on_in net situation so_far t (cond b (Some case) other)
choice net situation so_far t true case other rest is = refl
choice net situation so_far t false case other rest is = is

row_play : {m : _} (cases : Row_of-Case m) (net : Plan) (situation : List ℕ) (so_far : PartialSchedule) (t : ℕ) (points : List PointId)
    → instant_cases cases net situation so_far t points ≡ goes_on_in net situation so_far t (case_for (items-the_row-Case _ cases) points)
row_play end_of-Case net situation so_far t points = refl
row_play (more_of-Case seen acts next others) net situation so_far t points =
    choice net situation so_far t (pointwise same_point seen points) (record { seen = seen; acts = acts; next = next }) (case_for (items-the_row-Case _ others) points) (instant_cases others net situation so_far t points)
    (row_play others net situation so_far t points)

-- at a node the play goes on in the first case that has just the completed points as seen
pub node_play : (cases : List Case) (net : Plan) (situation : List ℕ) (so_far : PartialSchedule) (t : ℕ)
    → instant_from (Node cases) net situation so_far t ≡ goes_on_in net situation so_far t (case_for cases (completed net situation so_far t))
node_play cases net situation so_far t =
    let points = completed net situation so_far t in
    row_play (hidden-the_row-Case-0 cases) net situation so_far t points ∙ ap (λ (cs : List Case). goes_on_in net situation so_far t (case_for cs points)) (items_hidden-the_row-Case-0 cases)

-- how deep a strategy is
abbrev mutual
  pub depth : Tree → ℕ
  depth Leaf = 0
  depth (Node' shape cases) = suc (depth_among cases)

  pub depth_among : {m : _} → Row_of-Case m → ℕ
  depth_among end_of-Case = 0
  depth_among (more_of-Case seen acts next others) = max (depth next) (depth_among others)

shallower : {m : _} (cases : Row_of-Case m) (points : List PointId) (case : Case) → case_for (items-the_row-Case _ cases) points ≡ Some case → depth case.next ≤ depth_among cases
shallower end_of-Case points case found = absurd (none-some case found)
shallower (more_of-Case seen acts next others) points case found =
    elim (pick (pointwise same_point seen points) (Some (record { seen = seen; acts = acts; next = next })) (case_for (items-the_row-Case _ others) points) (Some case) found) [
      | inl here ↦ let same : depth next ≡ depth case.next = ap (λ (c : Case). depth c.next) (same_Some (record { seen = seen; acts = acts; next = next }) case here.1) in omega (arith, same)
      | inr later ↦ let below = shallower others points case later.1 in omega (arith, below)
    ]

pub next_shallower : (cases : List Case) (points : List PointId) (case : Case) → case_for cases points ≡ Some case → depth case.next < depth (Node cases)
next_shallower cases points case found =
    let below = shallower (hidden-the_row-Case-0 cases) points case (ap (λ (cs : List Case). case_for cs points) (items_hidden-the_row-Case-0 cases) ∙ found) in
    omega (arith, below)

-- the case that is taken has just these points as seen
sees : (cases : List Case) (points : List PointId) (case : Case) → case_for cases points ≡ Some case → case.seen ≡ points
sees [] points case found = absurd (none-some case found)
sees (first ∷ cases) points case found =
    elim (pick (pointwise same_point first.seen points) (Some first) (case_for cases points) (Some case) found) [
      | inl here ↦ sym (ap (λ (c : Case). c.seen) (same_Some first case here.1)) ∙ same_points first.seen points here.0
      | inr later ↦ sees cases points case later.1
    ]

-- A step of a play, at a node with these cases when these points are completed.
module _ (net : Plan) (situation : List ℕ) (so_far : PartialSchedule) (t : ℕ) (node : Tree) (cases : List Case) (is : node ≡ Node cases) (seen : List PointId) (seen_is : seen ≡ completed net situation so_far t) where
  at_node : instant_from node net situation so_far t ≡ goes_on_in net situation so_far t (case_for cases seen)
  at_node =
      ap (λ (tree : Tree). instant_from tree net situation so_far t) is ∙ node_play cases net situation so_far t ∙ ap (λ (points : List PointId). goes_on_in net situation so_far t (case_for cases points)) (sym seen_is)

  pub no_case_fits : case_for cases seen ≡ None → instant_from node net situation so_far t ≡ None
  no_case_fits missing = at_node ∙ ap (goes_on_in net situation so_far t) missing

  pub case_refused : (case : Case) → case_for cases seen ≡ Some case → may_act net so_far case.acts ≡ false → instant_from node net situation so_far t ≡ None
  case_refused case found may =
      at_node ∙ ap (goes_on_in net situation so_far t) found ∙ cond-false (may_act net so_far case.acts) (instant_from case.next net situation (and_moment so_far t case.seen case.acts) (t + 1)) None may

  pub case_taken : (case : Case) → case_for cases seen ≡ Some case → may_act net so_far case.acts ≡ true → instant_from node net situation so_far t ≡ instant_from case.next net situation (and_moment so_far t seen case.acts) (t + 1)
  case_taken case found may =
      at_node ∙ ap (goes_on_in net situation so_far t) found ∙ cond-true (may_act net so_far case.acts) (instant_from case.next net situation (and_moment so_far t case.seen case.acts) (t + 1)) None may
      ∙ ap (λ (points : List PointId). instant_from case.next net situation (and_moment so_far t points case.acts) (t + 1)) (sees cases seen case found)

  pub depth_decreases : (case : Case) → case_for cases seen ≡ Some case → depth case.next < depth node
  depth_decreases case found =
      subst (λ (tree : Tree). depth case.next < depth tree) (sym is) (next_shallower cases seen case found)

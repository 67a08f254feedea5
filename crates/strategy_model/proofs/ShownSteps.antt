-- Steps of a play with a delay.
use Rattle.std.proofs.Common.{◌≡◌, ℕ, ◌+◌, ◌<◌, Bool, true, false, cond, List, [], ◌∷◌, Option, Some, None, inl, inr, refl, sym, ap, subst, ◌∙◌, arith}
use Rattle.std.specs.Cmp.Lexicographic.{pointwise}
use Rattle.std.proofs.lemmas.Bool.{cond-true, cond-false}
use Rattle.std.proofs.lemmas.Option.{none-some, same_Some}
use Rattle.net_model.specs.Network.{Plan}
use Rattle.net_model.specs.declared.ids.PointId.{PointId}
use Rattle.strategy_model.proofs.TreeLemmas.{depth, next_shallower}
use Rattle.std.specs.Prelude.{length, drop, min, ◌++◌, ◌-◌}
use Rattle.std.proofs.lemmas.List.{length-drop}
use Rattle.net_model.specs.declared.part.Link.{Link}
use Rattle.strategy_model.specs.declared.tree.Case.{Case}
use Rattle.strategy_model.specs.declared.tree.Tree.{Tree, Node, Row_of-Case, end_of-Case, more_of-Case, items-the_row-Case, items_hidden-the_row-Case-0}
use Rattle.strategy_model.specs.declared.tree.Tree.TheBlock.{hidden-the_row-Case-0}
use Rattle.strategy_model.proofs.MomentLemmas.{pick, same_points}
use Rattle.strategy_model.specs.Plays.{PartialSchedule, same_point, at_moment, may_act, case_for, is_shown, shown, play_from, play_cases}

-- the moments so far, those that were shown at t, and those of its acts
abbrev pub and_late : Plan → PartialSchedule → ℕ → (seen acts : List PointId) → PartialSchedule
and_late net so_far t seen acts = so_far ++ at_moment (t - net.delay) seen ++ at_moment t acts

-- how the play goes on in a case
abbrev pub goes_late : Plan → List ℕ → PartialSchedule → ℕ → Option Case → Option (List ℕ)
goes_late net situation so_far t None = None
goes_late net situation so_far t (Some case) =
    cond (may_act net so_far case.acts) (play_from case.next net situation (and_late net so_far t case.seen case.acts) (t + 1)) None

choice : (net : Plan) (situation : List ℕ) (so_far : PartialSchedule) (t : ℕ) (b : Bool) (case : Case) (other : Option Case) (rest : Option (List ℕ)) → rest ≡ goes_late net situation so_far t other
    → cond b (goes_late net situation so_far t (Some case)) rest ≡ goes_late net situation so_far t (cond b (Some case) other)
choice net situation so_far t true case other rest is = refl
choice net situation so_far t false case other rest is = is

row_play : {m : _} (cases : Row_of-Case m) (net : Plan) (situation : List ℕ) (so_far : PartialSchedule) (t : ℕ) (points : List PointId)
    → play_cases cases net situation so_far t points ≡ goes_late net situation so_far t (case_for (items-the_row-Case _ cases) points)
row_play end_of-Case net situation so_far t points = refl
row_play (more_of-Case seen acts next others) net situation so_far t points =
    choice net situation so_far t (pointwise same_point seen points) (record { seen = seen; acts = acts; next = next }) (case_for (items-the_row-Case _ others) points) (play_cases others net situation so_far t points)
    (row_play others net situation so_far t points)

-- at a node the play goes on in the first case that has just the completed points as seen
pub node_play : (cases : List Case) (net : Plan) (situation : List ℕ) (so_far : PartialSchedule) (t : ℕ) → play_from (Node cases) net situation so_far t ≡ goes_late net situation so_far t (case_for cases (shown net situation so_far t))
node_play cases net situation so_far t =
    let points = shown net situation so_far t in
    row_play (hidden-the_row-Case-0 cases) net situation so_far t points ∙ ap (λ (cs : List Case). goes_late net situation so_far t (case_for cs points)) (items_hidden-the_row-Case-0 cases)

-- the case that is taken has just these points as seen
sees : (cases : List Case) (points : List PointId) (case : Case) → case_for cases points ≡ Some case → case.seen ≡ points
sees [] points case found = absurd (none-some case found)
sees (first ∷ cases) points case found =
    elim (pick (pointwise same_point first.seen points) (Some first) (case_for cases points) (Some case) found) [
      | inl here ↦ sym (ap (λ (c : Case). c.seen) (same_Some first case here.1)) ∙ same_points first.seen points here.0
      | inr later ↦ sees cases points case later.1
    ]

-- A step of a play, at a node with these cases when these points are completed.
module _ (net : Plan) (situation : List ℕ) (so_far : PartialSchedule) (t : ℕ) (node : Tree) (cases : List Case) (is : node ≡ Node cases) (seen : List PointId) (seen_is : seen ≡ shown net situation so_far t) where
  at_node : play_from node net situation so_far t ≡ goes_late net situation so_far t (case_for cases seen)
  at_node =
      ap (λ (tree : Tree). play_from tree net situation so_far t) is ∙ node_play cases net situation so_far t ∙ ap (λ (points : List PointId). goes_late net situation so_far t (case_for cases points)) (sym seen_is)

  pub no_case_fits : case_for cases seen ≡ None → play_from node net situation so_far t ≡ None
  no_case_fits missing = at_node ∙ ap (goes_late net situation so_far t) missing

  pub case_refused : (case : Case) → case_for cases seen ≡ Some case → may_act net so_far case.acts ≡ false → play_from node net situation so_far t ≡ None
  case_refused case found may =
      at_node ∙ ap (goes_late net situation so_far t) found ∙ cond-false (may_act net so_far case.acts) (play_from case.next net situation (and_late net so_far t case.seen case.acts) (t + 1)) None may

  pub case_taken : (case : Case) → case_for cases seen ≡ Some case → may_act net so_far case.acts ≡ true → play_from node net situation so_far t ≡ play_from case.next net situation (and_late net so_far t seen case.acts) (t + 1)
  case_taken case found may =
      at_node ∙ ap (goes_late net situation so_far t) found ∙ cond-true (may_act net so_far case.acts) (play_from case.next net situation (and_late net so_far t case.seen case.acts) (t + 1)) None may
      ∙ ap (λ (points : List PointId). play_from case.next net situation (and_late net so_far t points case.acts) (t + 1)) (sees cases seen case found)

  pub depth_decreases : (case : Case) → case_for cases seen ≡ Some case → depth case.next < depth node
  depth_decreases case found =
      subst (λ (tree : Tree). depth case.next < depth tree) (sym is) (next_shallower cases seen case found)

pub completion_none : (net : Plan) (so_far : PartialSchedule) (t : ℕ) (links : List Link) (durations : List ℕ) (point : PointId) (n : ℕ) → n ≡ min (length links) (length durations)
    → is_shown net so_far t (drop n links) (drop n durations) point ≡ false
completion_none net so_far t links durations point n whole = go (drop n links) (drop n durations) (omega (arith, length-drop n links, length-drop n durations))
  where
    go : (ls : List Link) (ds : List ℕ) → min (length ls) (length ds) ≡ 0 → is_shown net so_far t ls ds point ≡ false
    go [] ds none = refl
    go (l ∷ ls) [] none = refl
    go (l ∷ ls) (d ∷ ds) none = absurd (omega (arith, none))

-- What is found in a table, and one step of the walk along a cycle.
use Rattle.std.proofs.Common.{◌≡◌, ℕ, suc, ◌==◌, not, ◌<◌, true, false, cond, List, [], ◌∷◌, ◌++◌, map, drop, Option, Some, None, Result, Ok, Err, ap, sym, subst, ◌∙◌}
use Rattle.std.specs.Prelude.{IfOk}
use Rattle.std.specs.Option.{option_map_or}
use Rattle.std.specs.List.{find, position_or_len, range_with_len}
use Rattle.net_model.specs.declared.ids.PointId.{PointId}
use Rattle.closure_model.specs.Tables.{Graph}
use Rattle.closure_model.specs.Orders.{contains_point, next_on, placed_points, lowest_unplaced, cycle_after, cycle_from, IsOrder, IsCycle}
use Rattle.closure_model.proofs.OrderLemmas.{find_some, in_range, placed_are_an_order, law_cycles_are_met}

module _ (graph : Graph) (points : ℕ) (order : List PointId) (same_points : points ≡ graph.shape.points) (placed : order ≡ placed_points graph) where
  left_is : find (λ p. not (contains_point order p)) (map (λ k. record { 0 = k }) (range_with_len 0 points)) ≡ lowest_unplaced graph
  left_is = λ i. find (λ p. not (contains_point (placed i) p)) (map (λ k. record { 0 = k }) (range_with_len 0 (same_points i)))

  pub order_says : None ≡ find (λ p. not (contains_point order p)) (map (λ k. record { 0 = k }) (range_with_len 0 points)) → IsOrder graph order
  order_says none = subst (IsOrder graph) (sym placed) (placed_are_an_order graph (sym left_is ∙ sym none))

  pub cycle_says : (first : PointId) (cycle : List PointId) → Some first ≡ find (λ p. not (contains_point order p)) (map (λ k. record { 0 = k }) (range_with_len 0 points)) → cycle ≡ cycle_from graph first → IsCycle graph cycle
  cycle_says first cycle some met = subst (IsCycle graph) (sym met) (law_cycles_are_met graph first (sym left_is ∙ sym some))

pub left_in_range : (order : List PointId) (points : ℕ) (first : PointId) → Some first ≡ find (λ p. not (contains_point order p)) (map (λ k. record { 0 = k }) (range_with_len 0 points)) → first.0 < points
left_in_range order points first some = in_range points first (find_some (λ p. not (contains_point order p)) (map (λ k. record { 0 = k }) (range_with_len 0 points)) first (sym some)).inside

-- ---- the walk
pub step_met : (graph : Graph) (placed before : List PointId) (p : PointId) (k n : ℕ) → k ≡ suc n → contains_point before p ≡ true → cycle_after graph placed k before p ≡ drop (position_or_len (λ q. q.0 == p.0) before) before
step_met graph placed before p k n steps met =
    ap (λ m. cycle_after graph placed m before p) steps
    ∙ ap (λ b. cond b (drop (position_or_len (λ q. q.0 == p.0) before) before) (option_map_or (cycle_after graph placed n (before ++ p ∷ [])) (next_on graph placed p) [])) met

pub step_on : (graph : Graph) (placed before after : List PointId) (p : PointId) (o : Option PointId) (k n : ℕ) → k ≡ suc n → contains_point before p ≡ false → next_on graph placed p ≡ o → after ≡ before ++ p ∷ []
    → cycle_after graph placed k before p ≡ option_map_or (cycle_after graph placed n after) o []
step_on graph placed before after p o k n steps new next more =
    ap (λ m. cycle_after graph placed m before p) steps
    ∙ ap (λ b. cond b (drop (position_or_len (λ q. q.0 == p.0) before) before) (option_map_or (cycle_after graph placed n (before ++ p ∷ [])) (next_on graph placed p) [])) new
    ∙ (λ i. option_map_or (cycle_after graph placed n (sym more i)) (next i) [])

pub if_items : {V E : Type 0} (items : V → List PointId) (r : Result V E) (xs : List PointId) (P : List PointId → Type 0) → IfOk r (λ v. items v ≡ xs) → P xs → IfOk r (λ v. P (items v))
if_items items (Ok v) xs P is holds = subst P (sym is) holds
if_items items (Err e) xs P is holds = tt

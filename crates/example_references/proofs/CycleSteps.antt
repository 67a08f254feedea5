-- One step of the walk along a cycle.
use Rattle.std.proofs.Common.{◌≡◌, ℕ, suc, ◌==◌, true, false, cond, List, [], ◌∷◌, ◌++◌, drop, Option, Result, Ok, Err, ap, sym, ◌∙◌}
use Rattle.std.specs.Prelude.{IfOk}
use Rattle.std.specs.Option.{option_map_or}
use Rattle.std.specs.List.{position_or_len}
use Rattle.net_model.specs.declared.ids.PointId.{PointId}
use Rattle.closure_model.specs.Tables.{Graph}
use Rattle.closure_model.specs.Orders.{contains_point, next_on, cycle_after}

pub step_met : (graph : Graph) (placed before : List PointId) (p : PointId) (k n : ℕ) → k ≡ suc n → contains_point before p ≡ true → cycle_after graph placed k before p ≡ drop (position_or_len (λ q. q.0 == p.0) before) before
step_met graph placed before p k n steps met =
    ap (λ m. cycle_after graph placed m before p) steps
    ∙ ap (λ b. cond b (drop (position_or_len (λ q. q.0 == p.0) before) before) (option_map_or (cycle_after graph placed n (before ++ p ∷ [])) (next_on graph placed p) [])) met

pub step_on : (graph : Graph) (placed before after : List PointId) (p : PointId) (o : Option PointId) (k n : ℕ) → k ≡ suc n → contains_point before p ≡ false → next_on graph placed p ≡ o → after ≡ before ++ p ∷ []
    → cycle_after graph placed k before p ≡ option_map_or (cycle_after graph placed n after) o []
step_on graph placed before after p o k n steps new next more =
    ap (λ m. cycle_after graph placed m before p) steps
    ∙ ap (λ b. cond b (drop (position_or_len (λ q. q.0 == p.0) before) before) (option_map_or (cycle_after graph placed n (before ++ p ∷ [])) (next_on graph placed p) [])) new
    ∙ (λ i. option_map_or (cycle_after graph placed n (sym more i)) (next i) [])

pub same_items : {V E : Type 0} (items : V → List PointId) (r : Result V E) (xs ys : List PointId) → IfOk r (λ v. items v ≡ xs) → xs ≡ ys → IfOk r (λ v. items v ≡ ys)
same_items items (Ok v) xs ys is same = is ∙ same
same_items items (Err e) xs ys is same = tt

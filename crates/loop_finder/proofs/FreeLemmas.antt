-- What is found in the lists of where negative ordinary edges go.
use Rattle.std.proofs.Common.{◌≡◌, ℕ, zero, suc, ◌<◌, ◌≤◌, ltb, Bool, true, false, cond, ◌&&◌, not, List, [], ◌∷◌, filter, length, get_or, Option, Some, None}
use Rattle.std.proofs.Common.{refl, ap, sym, subst, ◌∙◌, arith}
use Rattle.std.specs.List.{All, Contains, find}
use Rattle.std.proofs.lemmas.Bool.Decides.{nat_tests}
use Rattle.std.proofs.lemmas.List.Elements.{All-contains, Contains-get_or}
use Rattle.net_model.specs.declared.ids.PointId.{PointId}
use Rattle.closure_model.specs.Keys.{all_points}
use Rattle.closure_model.specs.Orders.{goes, contains_point, next_on}
use Rattle.closure_model.specs.Tables.{Graph}
use Rattle.closure_model.proofs.Lists.{Contains-filter_from}
use Rattle.closure_model.proofs.OrderLemmas.{find_some, in_range}
use Rattle.loop_finder.specs.Marks.{IsHead}
use Rattle.loop_finder.specs.NegativeSuccessors.{point, targets_of, AreNegativeSuccessors, next_in, AreTargetsWithin}

-- ---- the lists and the table
find_filter : (p q : PointId → Bool) (xs : List PointId) → find (λ x. p x && q x) xs ≡ find q (filter p xs)
find_filter p q [] = refl
find_filter p q (x ∷ xs) = by (p x) refl (find_filter p q xs)
  where
    by : (b : Bool) → p x ≡ b → find (λ x. p x && q x) xs ≡ find q (filter p xs) → cond (p x && q x) (Some x) (find (λ x. p x && q x) xs) ≡ find q (cond (p x) (x ∷ filter p xs) (filter p xs))
    by true is rest = (λ i. cond (is i && q x) (Some x) (rest i)) ∙ sym (ap (λ b. find q (cond b (x ∷ filter p xs) (filter p xs))) is)
    by false is rest = (λ i. cond (is i && q x) (Some x) (rest i)) ∙ sym (ap (λ b. find q (cond b (x ∷ filter p xs) (filter p xs))) is)

module _ (graph : Graph) (lists : List (List PointId)) (are : AreNegativeSuccessors graph lists) (placed : List PointId) where
  pub next_is : (from : PointId) → from.0 < length lists → next_in lists placed from ≡ next_on graph placed from
  next_is from inside = ap (find (λ to. not (contains_point placed to))) (are.each from.0 inside) ∙ sym (find_filter (goes graph from) (λ to. not (contains_point placed to)) (all_points graph.shape))

pub successors_within : (graph : Graph) (lists : List (List PointId)) → AreNegativeSuccessors graph lists → (points : ℕ) → points ≡ graph.shape.points → AreTargetsWithin lists points
successors_within graph lists are points same from = by lists from are.each
  where
    none_past : (ls : List (List PointId)) (k : ℕ) → length ls ≤ k → get_or ls k [] ≡ []
    none_past [] k past = refl
    none_past (l ∷ ls) zero past = absurd (omega arith)
    none_past (l ∷ ls) (suc k) past = none_past ls k (omega arith)

    all_of : (ps : List PointId) → ((p : PointId) → Contains ps p → p.0 < points) → All (λ to. to.0 < points) ps
    all_of ps each k d inside = each (get_or ps k d) (Contains-get_or ps k d inside)

    by : (ls : List (List PointId)) (k : ℕ) → ((j : ℕ) → j < length ls → get_or ls j [] ≡ filter (goes graph (point j)) (all_points graph.shape)) → All (λ to. to.0 < points) (get_or ls k [])
    by ls k each = at (ltb k (length ls)) refl
      where
        at : (b : Bool) → ltb k (length ls) ≡ b → All (λ to. to.0 < points) (get_or ls k [])
        at true less =
            let inside : k < length ls = grind (arith, nat_tests) in
            subst (All (λ (to : PointId). to.0 < points)) (sym (each k inside))
            (all_of (filter (goes graph (point k)) (all_points graph.shape)) (λ p there. subst (λ n. p.0 < n) (sym same) (in_range graph.shape.points p (Contains-filter_from (goes graph (point k)) (all_points graph.shape) p there))))
        at false past = let over : length ls ≤ k = grind (arith, nat_tests) in subst (All (λ (to : PointId). to.0 < points)) (sym (none_past ls k over)) (λ j d inside. absurd (omega arith))

-- ---- a list and its head
pub head_none : (placed targets : List PointId) → IsHead placed targets 0
head_none placed targets = record { inside = omega arith; placed_before = λ k d less. absurd (omega arith) }

-- if all points of a list are placed, none is found that is not
pub none_open : (placed targets : List PointId) → IsHead placed targets (length targets) → find (λ to. not (contains_point placed to)) targets ≡ None
none_open placed targets head = by targets (λ k d inside. head.placed_before k d inside)
  where
    by : (ts : List PointId) → ((k : ℕ) (d : PointId) → k < length ts → contains_point placed (get_or ts k d) ≡ true) → find (λ to. not (contains_point placed to)) ts ≡ None
    by [] all = refl
    by (t ∷ ts) all = ap (λ b. cond (not b) (Some t) (find (λ to. not (contains_point placed to)) ts)) (all 0 t (omega arith)) ∙ by ts (λ k d inside. all (suc k) d (omega arith))

-- the first point that is not placed is found
pub first_open_found : (placed targets : List PointId) (k : ℕ) (d : PointId) → IsHead placed targets k → k < length targets → contains_point placed (get_or targets k d) ≡ false
    → find (λ to. not (contains_point placed to)) targets ≡ Some (get_or targets k d)
first_open_found placed targets k d head inside out = by targets k inside out head.placed_before
  where
    by : (ts : List PointId) (k : ℕ) → k < length ts → contains_point placed (get_or ts k d) ≡ false → ((j : ℕ) (e : PointId) → j < k → contains_point placed (get_or ts j e) ≡ true)
        → find (λ to. not (contains_point placed to)) ts ≡ Some (get_or ts k d)
    by [] k inside out before = absurd (omega arith)
    by (t ∷ ts) zero inside out before = ap (λ b. cond (not b) (Some t) (find (λ to. not (contains_point placed to)) ts)) out
    by (t ∷ ts) (suc k) inside out before = ap (λ b. cond (not b) (Some t) (find (λ to. not (contains_point placed to)) ts)) (before 0 t (omega arith)) ∙ by ts k (omega arith) out (λ j e less. before (suc j) e (omega arith))

-- ---- the list of a point, as it is read
pub read_targets : (lists : List (List PointId)) (from : ℕ) (targets read : List PointId) → from < length lists → targets ≡ read → read ≡ get_or lists from read → targets ≡ targets_of lists (point from)
read_targets lists from targets read inside is at = is ∙ at ∙ same lists from inside
  where
    same : (ls : List (List PointId)) (k : ℕ) → k < length ls → get_or ls k read ≡ get_or ls k []
    same [] k less = absurd (omega arith)
    same (l ∷ ls) zero less = refl
    same (l ∷ ls) (suc k) less = same ls k (omega arith)

pub read_within : (lists : List (List PointId)) (points marks from : ℕ) (targets : List PointId) → AreTargetsWithin lists points → marks ≡ points → targets ≡ targets_of lists (point from) → All (λ to. to.0 < marks) targets
read_within lists points marks from targets within same are = subst (λ n. All (λ (to : PointId). to.0 < n) targets) (sym same) (subst (All (λ (to : PointId). to.0 < points)) (sym are) (within from))

pub next_read : (graph : Graph) (lists : List (List PointId)) → AreNegativeSuccessors graph lists → (placed : List PointId) (from : PointId) (targets : List PointId) (next : Option PointId) → from.0 < length lists
    → targets ≡ targets_of lists from
    → next ≡ find (λ to. not (contains_point placed to)) targets → next_on graph placed from ≡ next
next_read graph lists are placed from targets next inside read is = sym (next_is graph lists are placed from inside) ∙ ap (find (λ to. not (contains_point placed to))) (sym read) ∙ sym is

pub found_within : (lists : List (List PointId)) (points : ℕ) (placed : List PointId) (from : ℕ) (targets : List PointId) → AreTargetsWithin lists points → targets ≡ targets_of lists (point from) → (next : PointId)
    → Some next ≡ find (λ to. not (contains_point placed to)) targets → next.0 < points
found_within lists points placed from targets within are next is =
    All-contains (λ (to : PointId). to.0 < points) targets next (subst (All (λ (to : PointId). to.0 < points)) (sym are) (within from)) (find_some (λ to. not (contains_point placed to)) targets next (sym is)).inside

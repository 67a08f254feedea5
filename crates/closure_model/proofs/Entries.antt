-- What stands in a finite map by its keys, and what its list of entries holds, are the same.
use Rattle.std.proofs.Common.{◌≡◌, zero, suc, Bool, true, false, cond, ◌&&◌, List, [], ◌∷◌, Some, refl, ap, sym, subst, ◌∙◌, arith}
use lib.Dec.{T}
use Rattle.std.specs.List.{Contains}
use Rattle.std.specs.declared.cmp.Ordering.{Ordering}
use Rattle.std.specs.declared.cmp.Ordering.TheVariants.{Equal}
use Rattle.std.specs.Ordering.{eq_by_cmp, is_lt}
use Rattle.std.specs.Cmp.{IsTotalOrder, Equal-is, tied_itself}
use Rattle.std.specs.FinMap.{FinMap, IsAntisymmetric, find, is_sorted, entries, entries_sorted, get, get-entries}
use Rattle.std.specs.FinMap.Entries.{below_all}

pub both : (a b : Bool) → T (a && b) → T a × T b
both true b holds = (tt, holds)
both false b holds = absurd holds

pub both_back : (a b : Bool) → T a → T b → T (a && b)
both_back true b one two = two
both_back false b one two = absurd one

-- an order that says less of a key and itself says nothing true
not_below_itself : (r : Ordering) → r ≡ Equal → T (is_lt r) → ⊥
not_below_itself r is below = let same : T (is_lt Equal) = subst (λ q. T (is_lt q)) is below in same

module _ {K : Type 0} {R : K → K → Ordering} (o : IsTotalOrder R) (same : IsAntisymmetric R) where
  pub tied : (k q : K) → eq_by_cmp R k q ≡ true → k ≡ q
  tied k q e = same k q ((Equal-is (R k q)).0 e)

  pub ties : (k q : K) → k ≡ q → eq_by_cmp R k q ≡ true
  ties k q e = (Equal-is (R k q)).1 (ap (R k) (sym e) ∙ tied_itself o k)

module _ {K X : Type 0} {R : K → K → Ordering} (o : IsTotalOrder R) (same : IsAntisymmetric R) where
  -- what is found stands in the list
  pub contained_where_found : (k : K) (v : X) (es : List (K × X)) → find R k es ≡ Some v → Contains es (k, v)
  contained_where_found k v [] found = absurd cc
  contained_where_found k v (e ∷ es) found = by (contained_where_found k v es) (eq_by_cmp R k e.0) refl found
    where
      by : (find R k es ≡ Some v → Contains es (k, v)) → (b : Bool) → eq_by_cmp R k e.0 ≡ b → cond b (Some e.1) (find R k es) ≡ Some v → Contains (e ∷ es) (k, v)
      by rest true is here =
          let key : k ≡ e.0 = tied o same k e.0 is in
          let value : e.1 ≡ v = cc in
          let pair : e ≡ (k, v) = λ i. (sym key i, value i) in
          (0, omega arith, pair)
      by rest false is there = let (i, inside, at) = rest there in (suc i, omega arith, at)

  below_contained : (x k : K) (v : X) (es : List (K × X)) → T (below_all R x es) → Contains es (k, v) → T (is_lt (R x k))
  below_contained x k v [] below (i, inside, at) = absurd (omega arith)
  below_contained x k v (e ∷ es) below (zero, inside, at) = subst (λ (p : K × X). T (is_lt (R x p.0))) at (both _ _ below).0
  below_contained x k v (e ∷ es) below (suc i, inside, at) = below_contained x k v es (both _ _ below).1 (i, omega arith, at)

  -- and what stands in a list in order is found
  pub found_where_contained : (k : K) (v : X) (es : List (K × X)) → T (is_sorted R es) → Contains es (k, v) → find R k es ≡ Some v
  found_where_contained k v [] sorted (i, inside, at) = absurd (omega arith)
  found_where_contained k v (e ∷ es) sorted (zero, inside, at) =
      let key : e.0 ≡ k = ap (λ (p : K × X). p.0) at in
      let value : e.1 ≡ v = ap (λ (p : K × X). p.1) at in
      let test : eq_by_cmp R k e.0 ≡ true = ties o same k e.0 (sym key) in
      rw test (ap Some value)
  found_where_contained k v (e ∷ es) sorted (suc i, inside, at) = by (found_where_contained k v es (both _ _ sorted).1 (i, omega arith, at)) (eq_by_cmp R k e.0) refl
    where
      rest : Contains es (k, v)
      rest = (i, omega arith, at)

      by : find R k es ≡ Some v → (b : Bool) → eq_by_cmp R k e.0 ≡ b → cond b (Some e.1) (find R k es) ≡ Some v
      by later true is =
          let below : T (is_lt (R e.0 k)) = below_contained e.0 k v es (both _ _ sorted).0 rest in
          let itself : R e.0 k ≡ Equal = ap (R e.0) (tied o same k e.0 is) ∙ tied_itself o e.0 in
          absurd (not_below_itself (R e.0 k) itself below)
      by later false is = later

  pub contained_entry : (m : FinMap R X) (k : K) (v : X) → get m k ≡ Some v → Contains (entries m) (k, v)
  contained_entry m k v found = contained_where_found k v (entries m) (sym (get-entries m k) ∙ found)

  pub entry_found : (m : FinMap R X) (k : K) (v : X) → Contains (entries m) (k, v) → get m k ≡ Some v
  entry_found m k v inside = get-entries m k ∙ found_where_contained k v (entries m) (entries_sorted m) inside

-- The finite map that has at each key of a rising list what a function gives.
use Rattle.std.proofs.Common.{◌≡◌, ℤ, Bool, true, false, cond, ◌||◌, List, [], ◌∷◌, Option, Some, None, refl, ap, sym, subst, ◌∙◌, inl, inr}
use lib.Dec.{T}
use Rattle.std.specs.Option.{option_map}
use Rattle.std.specs.List.{AllByRecursion, cons_option, filter_map, list_any, Contains}
use Rattle.std.specs.declared.cmp.Ordering.TheVariants.{Less}
use Rattle.std.specs.Ordering.{eq_by_cmp, is_lt}
use Rattle.std.specs.FinMap.{FinMap, find, is_sorted, get, entries, from_sorted, get-from_sorted, entries-from_sorted, same_map}
use Rattle.std.specs.FinMap.Entries.{below_all}
use Rattle.closure_model.specs.Keys.{Key, Shape, IsKey, key_cmp, all_keys}
use Rattle.closure_model.proofs.KeyOrder.{key_total, same_key, key_test}
use Rattle.closure_model.proofs.KeyLists.{Rises, all_keys_rise, all_keys_sound, all_keys_whole}
use Rattle.closure_model.proofs.Lists.{Contains-none, Contains-head, Contains-tail, Contains-cases, each-contained}
use Rattle.closure_model.proofs.Entries.{both_back}

-- the entries of the keys at which a function gives something
abbrev pub tabulated : (Key → Option ℤ) → List Key → List (Key × ℤ)
tabulated f keys = filter_map (λ key. option_map (λ w. (key, w)) (f key)) keys

-- ---- what is found
is_in : Key → List Key → Bool
is_in key keys = list_any (eq_by_cmp key_cmp key) keys

find-tabulated : (f : Key → Option ℤ) (keys : List Key) (key : Key) → find key_cmp key (tabulated f keys) ≡ cond (list_any (eq_by_cmp key_cmp key) keys) (f key) None
find-tabulated f [] key = refl
find-tabulated f (first ∷ keys) key = by (f first) refl (eq_by_cmp key_cmp key first) refl (find-tabulated f keys key)
  where
    same_either : (b : Bool) → f key ≡ None → cond b (f key) None ≡ f key
    same_either true none = refl
    same_either false none = sym none

    by : (o : Option ℤ) → f first ≡ o → (b : Bool) → eq_by_cmp key_cmp key first ≡ b → find key_cmp key (tabulated f keys) ≡ cond (list_any (eq_by_cmp key_cmp key) keys) (f key) None
        → find key_cmp key (cons_option (option_map (λ w. (first, w)) o) (tabulated f keys)) ≡ cond (b || list_any (eq_by_cmp key_cmp key) keys) (f key) None
    by None is true tie rest =
        let key_is : key ≡ first = (key_test key first).0 tie in
        rest ∙ same_either (list_any (eq_by_cmp key_cmp key) keys) (ap f key_is ∙ is)
    by None is false tie rest = rest
    by (Some w) is true tie rest =
        let key_is : key ≡ first = (key_test key first).0 tie in
        ap (λ b. cond b (Some w) (find key_cmp key (tabulated f keys))) tie ∙ sym (ap f key_is ∙ is)
    by (Some w) is false tie rest = ap (λ b. cond b (Some w) (find key_cmp key (tabulated f keys))) tie ∙ rest

-- ---- the entries are in order
below-tabulated : (f : Key → Option ℤ) (first : Key) (keys : List Key) → AllByRecursion (λ l. key_cmp first l ≡ Less) keys → T (below_all key_cmp first (tabulated f keys))
below-tabulated f first [] below = tt
below-tabulated f first (key ∷ keys) (less, more) = by (f key) (below-tabulated f first keys more)
  where
    by : (o : Option ℤ) → T (below_all key_cmp first (tabulated f keys)) → T (below_all key_cmp first (cons_option (option_map (λ w. (key, w)) o) (tabulated f keys)))
    by None rest = rest
    by (Some w) rest = both_back (is_lt (key_cmp first key)) (below_all key_cmp first (tabulated f keys)) (subst (λ r. T (is_lt r)) (sym less) tt) rest

pub sorted-tabulated : (f : Key → Option ℤ) (keys : List Key) → Rises keys → T (is_sorted key_cmp (tabulated f keys))
sorted-tabulated f [] rises = tt
sorted-tabulated f (key ∷ keys) (first, more) = by (f key) (sorted-tabulated f keys more)
  where
    by : (o : Option ℤ) → T (is_sorted key_cmp (tabulated f keys)) → T (is_sorted key_cmp (cons_option (option_map (λ w. (key, w)) o) (tabulated f keys)))
    by None rest = rest
    by (Some w) rest = both_back (below_all key_cmp key (tabulated f keys)) (is_sorted key_cmp (tabulated f keys)) (below-tabulated f key keys first) rest

-- ---- the map over all keys of a shape
any_contained : (keys : List Key) (key : Key) → Contains keys key → list_any (eq_by_cmp key_cmp key) keys ≡ true
any_contained [] key inside = absurd (Contains-none key inside)
any_contained (first ∷ keys) key inside = by (any_contained keys key) (eq_by_cmp key_cmp key first) refl
  where
    by : (Contains keys key → list_any (eq_by_cmp key_cmp key) keys ≡ true) → (b : Bool) → eq_by_cmp key_cmp key first ≡ b → (b || list_any (eq_by_cmp key_cmp key) keys) ≡ true
    by rest true tie = refl
    by rest false tie = rest (elim (Contains-cases first keys key inside) [
      | inl is ↦ let test : eq_by_cmp key_cmp key first ≡ true = (key_test key first).1 (sym is) in absurd cc
      | inr there ↦ there
    ])

contained_any : (keys : List Key) (key : Key) → list_any (eq_by_cmp key_cmp key) keys ≡ true → Contains keys key
contained_any [] key any = absurd cc
contained_any (first ∷ keys) key any = by (contained_any keys key) (eq_by_cmp key_cmp key first) refl any
  where
    by : (list_any (eq_by_cmp key_cmp key) keys ≡ true → Contains keys key) → (b : Bool) → eq_by_cmp key_cmp key first ≡ b → (b || list_any (eq_by_cmp key_cmp key) keys) ≡ true → Contains (first ∷ keys) key
    by rest true tie holds = subst (Contains (first ∷ keys)) (sym ((key_test key first).0 tie)) (Contains-head first keys)
    by rest false tie holds = Contains-tail first keys key (rest holds)

abbrev pub dense_map : Shape → (Key → Option ℤ) → FinMap key_cmp ℤ
dense_map shape f = from_sorted (tabulated f (all_keys shape))

get-dense : (shape : Shape) (f : Key → Option ℤ) (key : Key) → get (dense_map shape f) key ≡ cond (list_any (eq_by_cmp key_cmp key) (all_keys shape)) (f key) None
get-dense shape f key = get-from_sorted key_cmp (tabulated f (all_keys shape)) key (sorted-tabulated f (all_keys shape) (all_keys_rise shape)) ∙ find-tabulated f (all_keys shape) key

pub get-dense_in : (shape : Shape) (f : Key → Option ℤ) (key : Key) → IsKey shape key → get (dense_map shape f) key ≡ f key
get-dense_in shape f key is = get-dense shape f key ∙ ap (λ b. cond b (f key) None) (any_contained (all_keys shape) key (all_keys_whole shape key is))

pub entries-dense : (shape : Shape) (f : Key → Option ℤ) → entries (dense_map shape f) ≡ tabulated f (all_keys shape)
entries-dense shape f = entries-from_sorted key_cmp (tabulated f (all_keys shape)) (sorted-tabulated f (all_keys shape) (all_keys_rise shape))

-- a map is the one over all keys if it has what the function gives there, and nothing elsewhere
pub is_dense : (shape : Shape) (f : Key → Option ℤ) (m : FinMap key_cmp ℤ) → ((key : Key) → IsKey shape key → get m key ≡ f key) → ((key : Key) → (IsKey shape key → ⊥) → get m key ≡ None) → dense_map shape f ≡ m
is_dense shape f m here elsewhere = same_map key_total same_key (dense_map shape f) m at
  where
    at : (key : Key) → get (dense_map shape f) key ≡ get m key
    at key = get-dense shape f key ∙ by (list_any (eq_by_cmp key_cmp key) (all_keys shape)) refl
      where
        by : (b : Bool) → list_any (eq_by_cmp key_cmp key) (all_keys shape) ≡ b → cond b (f key) None ≡ get m key
        by true any = sym (here key (each-contained (IsKey shape) (all_keys shape) key (all_keys_sound shape) (contained_any (all_keys shape) key any)))
        by false none = sym (elsewhere key (λ is. let any : list_any (eq_by_cmp key_cmp key) (all_keys shape) ≡ true = any_contained (all_keys shape) key (all_keys_whole shape key is) in absurd cc))

-- What holds of each element of a list that is made from others, and what such a list holds.
use Rattle.std.proofs.Common.{◌≡◌, ℕ, ◌+◌, ◌<◌, zero, suc, Bool, true, false, cond, ◌⊎◌, List, [], ◌∷◌, ◌++◌, map, length, take, get_or, Option, Some, None, refl, ap, sym, ◌∙◌, subst, inl, inr, arith}
use Rattle.std.specs.Prelude.{filter}
use Rattle.std.specs.List.{AllByRecursion, Contains, enumerate_from, filter_map, flat_map, list_any}
use Rattle.std.proofs.lemmas.Grind.{common_steps}
use Rattle.std.proofs.lemmas.List.{take_more}
use Rattle.std.proofs.lemmas.List.Folds.{Any-from_list_any, list_any-from_Any}
use Rattle.std.proofs.lemmas.List.Elements.{Contains-append_cases, Contains-append_left, Contains-append_right}
use Rattle.net_model.proofs.NetworkLemmas.{enumerate_from-push}

pub Contains-head : {X : Type 0} (x : X) (xs : List X) → Contains (x ∷ xs) x
Contains-head x xs = (0, omega arith, refl)

pub Contains-tail : {X : Type 0} (x : X) (xs : List X) (y : X) → Contains xs y → Contains (x ∷ xs) y
Contains-tail x xs y (k, inside, at) = (suc k, omega arith, at)

pub Contains-cases : {X : Type 0} (x : X) (xs : List X) (y : X) → Contains (x ∷ xs) y → (x ≡ y) ⊎ Contains xs y
Contains-cases x xs y (zero, inside, at) = inl at
Contains-cases x xs y (suc k, inside, at) = inr (k, omega arith, at)

pub Contains-none : {X : Type 0} (y : X) → Contains [] y → ⊥
Contains-none y (k, inside, at) = absurd (omega arith)

pub Contains-map : {X Y : Type 0} (f : X → Y) (xs : List X) (x : X) → Contains xs x → Contains (map f xs) (f x)
Contains-map f [] x inside = absurd (Contains-none x inside)
Contains-map f (y ∷ ys) x (zero, inside, at) = (0, omega arith, ap f at)
Contains-map f (y ∷ ys) x (suc k, inside, at) = Contains-tail (f y) (map f ys) (f x) (Contains-map f ys x (k, omega arith, at))

pub Contains-map_from : {X Y : Type 0} (f : X → Y) (xs : List X) (y : Y) → Contains (map f xs) y → (x : X) × Contains xs x × (f x ≡ y)
Contains-map_from f [] y inside = absurd (Contains-none y inside)
Contains-map_from f (x ∷ xs) y (zero, inside, at) = (x, Contains-head x xs, at)
Contains-map_from f (x ∷ xs) y (suc k, inside, at) =
    let (z, there, is) = Contains-map_from f xs y (k, omega arith, at) in (z, Contains-tail x xs z there, is)

pub Contains-flat_map : {X Y : Type 0} (f : X → List Y) (xs : List X) (x : X) (y : Y) → Contains xs x → Contains (f x) y → Contains (flat_map f xs) y
Contains-flat_map f [] x y outer inner = absurd (Contains-none x outer)
Contains-flat_map f (z ∷ zs) x y (zero, inside, at) inner = Contains-append_left (f z) (flat_map f zs) y (subst (λ w. Contains (f w) y) (sym at) inner)
Contains-flat_map f (z ∷ zs) x y (suc k, inside, at) inner =
    Contains-append_right (f z) (flat_map f zs) y (Contains-flat_map f zs x y (k, omega arith, at) inner)

pub Contains-flat_map_from : {X Y : Type 0} (f : X → List Y) (xs : List X) (y : Y) → Contains (flat_map f xs) y → (x : X) × Contains xs x × Contains (f x) y
Contains-flat_map_from f [] y inside = absurd (Contains-none y inside)
Contains-flat_map_from f (x ∷ xs) y inside = by (Contains-flat_map_from f xs y) (Contains-append_cases (f x) (flat_map f xs) y inside)
  where
    by : (Contains (flat_map f xs) y → (z : _) × Contains xs z × Contains (f z) y) → Contains (f x) y ⊎ Contains (flat_map f xs) y → (z : _) × Contains (x ∷ xs) z × Contains (f z) y
    by rest (inl here) = (x, Contains-head x xs, here)
    by rest (inr there) = let (z, at, is) = rest there in (z, Contains-tail x xs z at, is)

-- a filter keeps what passes, and nothing else
pub Contains-filter : {X : Type 0} (keep : X → Bool) (xs : List X) (x : X) → Contains xs x → keep x ≡ true → Contains (filter keep xs) x
Contains-filter keep [] x inside passes = absurd (Contains-none x inside)
Contains-filter keep (y ∷ ys) x inside passes = by (λ there. Contains-filter keep ys x there passes) (keep y) refl (Contains-cases y ys x inside)
  where
    by : (Contains ys x → Contains (filter keep ys) x) → (b : Bool) → keep y ≡ b → (y ≡ x) ⊎ Contains ys x → Contains (cond b (y ∷ filter keep ys) (filter keep ys)) x
    by rest true is (inl same) = subst (Contains (y ∷ filter keep ys)) same (Contains-head y (filter keep ys))
    by rest true is (inr there) = Contains-tail y (filter keep ys) x (rest there)
    by rest false is (inl same) = let clash : keep y ≡ true = ap keep same ∙ passes in absurd cc
    by rest false is (inr there) = rest there

pub Contains-filter_from : {X : Type 0} (keep : X → Bool) (xs : List X) (x : X) → Contains (filter keep xs) x → Contains xs x
Contains-filter_from keep [] x inside = absurd (Contains-none x inside)
Contains-filter_from keep (y ∷ ys) x inside = by (λ there. Contains-filter_from keep ys x there) (keep y) inside
  where
    by : (Contains (filter keep ys) x → Contains ys x) → (b : Bool) → Contains (cond b (y ∷ filter keep ys) (filter keep ys)) x → Contains (y ∷ ys) x
    by rest true inside = either (Contains-cases y (filter keep ys) x inside)
      where
        either : (y ≡ x) ⊎ Contains (filter keep ys) x → Contains (y ∷ ys) x
        either (inl is) = subst (Contains (y ∷ ys)) is (Contains-head y ys)
        either (inr there) = Contains-tail y ys x (rest there)
    by rest false inside = Contains-tail y ys x (rest inside)

pub Contains-filter_passes : {X : Type 0} (keep : X → Bool) (xs : List X) (x : X) → Contains (filter keep xs) x → keep x ≡ true
Contains-filter_passes keep [] x inside = absurd (Contains-none x inside)
Contains-filter_passes keep (y ∷ ys) x inside = by (λ there. Contains-filter_passes keep ys x there) (keep y) refl inside
  where
    by : (Contains (filter keep ys) x → keep x ≡ true) → (b : Bool) → keep y ≡ b → Contains (cond b (y ∷ filter keep ys) (filter keep ys)) x → keep x ≡ true
    by rest true is inside = either (Contains-cases y (filter keep ys) x inside)
      where
        either : (y ≡ x) ⊎ Contains (filter keep ys) x → keep x ≡ true
        either (inl same) = ap keep (sym same) ∙ is
        either (inr there) = rest there
    by rest false is inside = rest inside

pub filter_all : {X : Type 0} (p : X → Bool) (xs : List X) → ((x : X) → Contains xs x → p x ≡ true) → filter p xs ≡ xs
filter_all p [] all = refl
filter_all p (x ∷ xs) all = ap (λ b. cond b (x ∷ filter p xs) (filter p xs)) (all x (Contains-head x xs)) ∙ ap (λ ys. x ∷ ys) (filter_all p xs (λ y inside. all y (Contains-tail x xs y inside)))

pub Contains-filter_map : {X Y : Type 0} (f : X → Option Y) (xs : List X) (x : X) (y : Y) → Contains xs x → f x ≡ Some y → Contains (filter_map f xs) y
Contains-filter_map f [] x y inside is = absurd (Contains-none x inside)
Contains-filter_map f (z ∷ zs) x y inside is = by (λ there. Contains-filter_map f zs x y there is) (f z) refl (Contains-cases z zs x inside)
  where
    by : (Contains zs x → Contains (filter_map f zs) y) → (o : Option _) → f z ≡ o → (z ≡ x) ⊎ Contains zs x → Contains (filter_map f (z ∷ zs)) y
    by rest None none (inl here) = let same : f z ≡ f x = ap f here in absurd cc
    by rest None none (inr there) = rw none (rest there)
    by rest (Some w) some (inl here) = let same : f z ≡ f x = ap f here in let both : w ≡ y = cc in rw some (0, omega arith, both)
    by rest (Some w) some (inr there) = rw some (Contains-tail w (filter_map f zs) y (rest there))

pub Contains-filter_map_from : {X Y : Type 0} (f : X → Option Y) (xs : List X) (y : Y) → Contains (filter_map f xs) y → (x : X) × Contains xs x × (f x ≡ Some y)
Contains-filter_map_from f [] y inside = absurd (Contains-none y inside)
Contains-filter_map_from f (x ∷ xs) y inside = by (λ there. let (z, at, is) = Contains-filter_map_from f xs y there in (z, Contains-tail x xs z at, is)) (f x) refl inside
  where
    by : (Contains (filter_map f xs) y → (z : _) × Contains (x ∷ xs) z × (f z ≡ Some y)) → (o : Option _) → f x ≡ o → Contains (filter_map f (x ∷ xs)) y → (z : _) × Contains (x ∷ xs) z × (f z ≡ Some y)
    by rest None none inside = rest (rw none at inside)
    by rest (Some w) some inside = either (Contains-cases w (filter_map f xs) y (rw some at inside))
      where
        either : (w ≡ y) ⊎ Contains (filter_map f xs) y → (z : _) × Contains (x ∷ xs) z × (f z ≡ Some y)
        either (inl here) = (x, Contains-head x xs, some ∙ ap Some here)
        either (inr there) = rest there

-- one of a list passes a test
pub any_is : {X : Type 0} (p : X → Bool) (xs : List X) → list_any p xs ≡ true → (x : X) × Contains xs x × (p x ≡ true)
any_is p xs test = let (k, x, inside, at, passes) = Any-from_list_any p xs test in (x, (k, inside, at), passes)

pub any_from : {X : Type 0} (p : X → Bool) (xs : List X) (x : X) → Contains xs x → p x ≡ true → list_any p xs ≡ true
any_from p xs x (k, inside, at) passes = list_any-from_Any p xs (k, x, inside, at, passes)

pub each-append : {X : Type 0} (P : X → Type 0) (xs ys : List X) → AllByRecursion P xs → AllByRecursion P ys → AllByRecursion P (xs ++ ys)
each-append P [] ys here there = there
each-append P (x ∷ xs) ys (one, more) there = (one, each-append P xs ys more there)

pub each-weaker : {X : Type 0} (P Q : X → Type 0) → ((x : X) → P x → Q x) → (xs : List X) → AllByRecursion P xs → AllByRecursion Q xs
each-weaker P Q weaker [] all = tt
each-weaker P Q weaker (x ∷ xs) (one, more) = (weaker x one, each-weaker P Q weaker xs more)

pub each-map : {X Y : Type 0} (P : Y → Type 0) (f : X → Y) (xs : List X) → AllByRecursion (λ x. P (f x)) xs → AllByRecursion P (map f xs)
each-map P f [] all = tt
each-map P f (x ∷ xs) (one, more) = (one, each-map P f xs more)

pub each-every : {X : Type 0} (P : X → Type 0) → ((x : X) → P x) → (xs : List X) → AllByRecursion P xs
each-every P every [] = tt
each-every P every (x ∷ xs) = (every x, each-every P every xs)

pub each-from_contains : {X : Type 0} (P : X → Type 0) (xs : List X) → ((x : X) → Contains xs x → P x) → AllByRecursion P xs
each-from_contains P [] every = tt
each-from_contains P (x ∷ xs) every = (every x (Contains-head x xs), each-from_contains P xs (λ y inside. every y (Contains-tail x xs y inside)))

pub each-contained : {X : Type 0} (P : X → Type 0) (xs : List X) (x : X) → AllByRecursion P xs → Contains xs x → P x
each-contained P [] x all inside = absurd (Contains-none x inside)
each-contained P (y ∷ ys) x (one, more) (zero, inside, at) = subst P at one
each-contained P (y ∷ ys) x (one, more) (suc k, inside, at) = each-contained P ys x more (k, omega arith, at)

-- a numbered list, and one more
pub numbered_more : {X : Type 0} (k : ℕ) (xs : List X) (d : X) → k < length xs → enumerate_from 0 (take (k + 1) xs) ≡ enumerate_from 0 (take k xs) ++ (k, get_or xs k d) ∷ []
numbered_more k xs d inside = ap (enumerate_from 0) (take_more xs k d inside) ∙ enumerate_from-push 0 k (take k xs) (get_or xs k d) (grind (arith, common_steps))

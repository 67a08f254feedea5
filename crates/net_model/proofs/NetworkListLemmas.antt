-- Of a list whose items are apart, each item may follow those before it: a network is filled from its three lists.
use Rattle.std.proofs.Common.{◌≡◌, ℕ, ◌+◌, ◌<◌, ◌==◌, false, List, [], ◌++◌, length, map, take, get_or, None, position, IsTrue, sym, ap, subst, ◌∙◌, arith}
use Rattle.std.specs.List.{All, AllPairs, IsDistinct}
use Rattle.std.specs.Option.{option_map}
use Rattle.std.specs.Str.{bytes_eq}
use Rattle.std.proofs.Math.Seq.{take-append-add}
use Rattle.std.proofs.lemmas.Bool.Decides.{nat_tests}
use Rattle.std.proofs.lemmas.Cmp.{nat_list_eq_equiv}
use Rattle.std.proofs.lemmas.List.{get_or-take, get_or-append-add, get_or-map, get_or_default, length-append, length-map, length-take}
use Rattle.std.proofs.lemmas.Map.Keys.{apart_from_distinct}
use Rattle.net_model.proofs.NetworkLemmas.{IsBound-more, IsLink-more}
use Rattle.net_model.proofs.Positions.{None_from_fails}
use Rattle.net_model.specs.Names.{is_name}
use Rattle.net_model.specs.Network.{Plan, IsPlan, IsBound, IsLink, point_named, bound_named, activation}
use Rattle.net_model.specs.declared.part.Bound.{Bound}
use Rattle.net_model.specs.declared.part.Link.{Link}

module _ {X : Type 0} (R : X → X → Type 0) where
  -- those before a place are so related to the item at it
  before : (xs : List X) (n : ℕ) (d : X) → n < length xs → AllPairs R xs → All (λ x. R x (get_or xs n d)) (take n xs)
  before xs n d inside pairs k e early =
      let short : k < n = omega (arith, length-take n xs) in
      let same : get_or (take n xs) k e ≡ get_or xs k d = get_or-take n xs k e short ∙ get_or_default xs k e d (omega arith) in
      subst (λ x. R x (get_or xs n d)) (sym same) (pairs k n d short inside)

  -- the same of a list that is appended
  before_appended : (xs ys : List X) (n : ℕ) (d : X) → n < length ys → AllPairs R (xs ++ ys) → All (λ x. R x (get_or ys n d)) (xs ++ take n ys)
  before_appended xs ys n d inside pairs =
      let all = before (xs ++ ys) (length xs + n) d (omega (arith, length-append xs ys)) pairs in
      subst (λ zs. All (λ x. R x (get_or ys n d)) zs) (take-append-add xs ys n) (subst (λ y. All (λ x. R x y) (take (length xs + n) (xs ++ ys))) (get_or-append-add xs ys n d) all)

-- what is true of each two items by what a function makes of them
pub pairs_from_map : {X Y : Type 0} (R : Y → Y → Type 0) (f : X → Y) (xs : List X) → AllPairs R (map f xs) → AllPairs (λ x y. R (f x) (f y)) xs
pairs_from_map R f xs pairs i j d less inside =
    let first : get_or (map f xs) i (f d) ≡ f (get_or xs i d) = get_or-map f xs i d (f d) (omega arith) in
    let second : get_or (map f xs) j (f d) ≡ f (get_or xs j d) = get_or-map f xs j d (f d) inside in
    subst (λ y. R (f (get_or xs i d)) y) second (subst (λ x. R x (get_or (map f xs) j (f d))) first (pairs i j (f d) less (omega (arith, length-map xs f))))

-- what is true of each item of a list is true of each that was appended
All-appended_right : {X : Type 0} (P : X → Type 0) (xs ys : List X) → All P (xs ++ ys) → All P ys
All-appended_right P xs ys all k d inside = subst P (get_or-append-add xs ys k d) (all (length xs + k) d (omega (arith, length-append xs ys)))

-- names that differ differ from each other
pub names_apart : (names : List (List ℕ)) → IsDistinct bytes_eq names → AllPairs (λ x y. bytes_eq y x ≡ false) names
names_apart names distinct i j d less inside = nat_list_eq_equiv.symm (get_or names j d) (get_or names i d) ∙ apart_from_distinct bytes_eq names i j d distinct less inside

-- the next of names that differ is not among those before it
pub next_name_new : (names : List (List ℕ)) (n : ℕ) (name : List ℕ) → n < length names → IsDistinct bytes_eq names → name ≡ get_or names n name
    → position (bytes_eq name) (take n names) ≡ None
next_name_new names n name inside distinct is =
    let apart = before (λ x y. bytes_eq y x ≡ false) names n name inside (names_apart names distinct) in
    None_from_fails (bytes_eq name) (take n names) (subst (λ text. All (λ x. bytes_eq text x ≡ false) (take n names)) (sym is) apart)

-- the next point, bound or link of a list that is taken in: its name is free, no link ends where it does, and it is sound
module _ (net now : Plan) (points : List (List ℕ)) (n : ℕ) (name : List ℕ) (inside : n < length points) (sound : IsPlan (record net { points = net.points ++ points }))
    (taken : now ≡ record net { points = net.points ++ take n points }) (is : name ≡ get_or points n name) where
  pub next_point_not_taken : point_named now name ≡ None
  next_point_not_taken =
      let apart = before_appended (λ x y. bytes_eq y x ≡ false) net.points points n name inside (names_apart (net.points ++ points) sound.points_apart) in
      let free = subst (λ text. All (λ x. bytes_eq text x ≡ false) (net.points ++ take n points)) (sym is) apart in
      ap (λ (p : Plan). point_named p name) taken ∙ ap (option_map (λ k. record { 0 = k })) (None_from_fails (bytes_eq name) (net.points ++ take n points) free)

module _ (net now : Plan) (bounds : List Bound) (n : ℕ) (bound : Bound) (inside : n < length bounds) (sound : IsPlan (record net { bounds = net.bounds ++ bounds }))
    (taken : now ≡ record net { bounds = net.bounds ++ take n bounds }) (is : bound ≡ get_or bounds n bound) where
  bounds_apart : AllPairs (λ (b c : Bound). bytes_eq c.name b.name ≡ false) (net.bounds ++ bounds)
  bounds_apart = pairs_from_map (λ x y. bytes_eq y x ≡ false) (λ (b : Bound). b.name) (net.bounds ++ bounds) (names_apart (map (λ (b : Bound). b.name) (net.bounds ++ bounds)) sound.bounds_apart)

  pub next_bound_not_taken : bound_named now bound.name ≡ None
  next_bound_not_taken =
      let apart = before_appended (λ (b c : Bound). bytes_eq c.name b.name ≡ false) net.bounds bounds n bound inside bounds_apart in
      let free = subst (λ (c : Bound). All (λ (b : Bound). bytes_eq c.name b.name ≡ false) (net.bounds ++ take n bounds)) (sym is) apart in
      ap (λ (p : Plan). bound_named p bound.name) taken ∙ ap (option_map (λ k. record { 0 = k })) (None_from_fails (λ (b : Bound). bytes_eq bound.name b.name) (net.bounds ++ take n bounds) free)

  pub next_bound_sound : IsBound now bound
  next_bound_sound =
      let held = All-appended_right (IsBound (record net { bounds = net.bounds ++ bounds })) net.bounds bounds sound.bounds_sound n bound inside in
      IsBound-more (record net { bounds = net.bounds ++ bounds }) now (omega (arith, ap (λ (p : Plan). length p.points) taken)) (ap (λ (p : Plan). p.delay) taken) bound
      (subst (IsBound (record net { bounds = net.bounds ++ bounds })) (sym is) held)

module _ (net now : Plan) (links : List Link) (n : ℕ) (link : Link) (inside : n < length links) (sound : IsPlan (record net { links = net.links ++ links }))
    (taken : now ≡ record net { links = net.links ++ take n links }) (is : link ≡ get_or links n link) where
  links_apart : AllPairs (λ (l m : Link). l.to.0 == m.to.0 ≡ false) (net.links ++ links)
  links_apart i j d less within = let differ = sound.links_apart i j d less within in grind (arith, nat_tests)

  pub next_link_not_taken : activation now link.to ≡ None
  next_link_not_taken =
      let apart = before_appended (λ (l m : Link). l.to.0 == m.to.0 ≡ false) net.links links n link inside links_apart in
      let free = subst (λ (m : Link). All (λ (l : Link). l.to.0 == m.to.0 ≡ false) (net.links ++ take n links)) (sym is) apart in
      ap (λ (p : Plan). activation p link.to) taken ∙ ap (option_map (λ k. record { 0 = k })) (None_from_fails (λ (l : Link). l.to.0 == link.to.0) (net.links ++ take n links) free)

  pub next_link_sound : IsLink now link
  next_link_sound =
      let held = All-appended_right (IsLink (record net { links = net.links ++ links })) net.links links sound.links_sound n link inside in
      IsLink-more (record net { links = net.links ++ links }) now (omega (arith, ap (λ (p : Plan). length p.points) taken)) (ap (λ (p : Plan). p.delay) taken) link (subst (IsLink (record net { links = net.links ++ links })) (sym is) held)

no_names_apart : IsDistinct {K = List ℕ} bytes_eq []
unfolding IsDistinct
no_names_apart = tt

-- the points of a network alone are one
pub points_alone : (net : Plan) → IsPlan net → (points : List (List ℕ)) → points ≡ net.points → IsPlan (record { points = points; bounds = []; links = []; delay = net.delay })
points_alone net sound points are = record {
  points_named = subst (All (λ name. IsTrue (is_name name))) (sym are) sound.points_named;
  points_apart = subst (IsDistinct bytes_eq) (sym are) sound.points_apart;
  bounds_sound = λ k d inside. absurd (omega arith);
  bounds_apart = no_names_apart;
  links_sound = λ k d inside. absurd (omega arith);
  links_apart = λ i j d less inside. absurd (omega arith);
  few_points = omega (arith, sound.few_points, ap length are);
  few_bounds = omega arith;
  few_links = omega arith;
  short_delay = sound.short_delay;
}

-- The lists of keys rise, and hold exactly the keys that there are.
use Rattle.std.proofs.Common.{◌≡◌, ℕ, zero, suc, ◌+◌, ◌-◌, ◌==◌, ◌≤◌, ◌<◌, Bool, true, false, cond, List, [], ◌∷◌, ◌++◌, map, filter, Option, Some, None, refl, ap, sym, subst, ◌∙◌, arith}
use Rattle.std.specs.Prelude.{slice_get}
use Rattle.std.specs.List.{AllByRecursion, Contains, flat_map, range_with_len, enumerate_from}
use Rattle.std.specs.List.Sorted.{IsStrictlySortedBy}
use Rattle.std.specs.declared.cmp.Ordering.TheVariants.{Less, Equal}
use Rattle.std.specs.Ordering.{nat_cmp}
use Rattle.std.proofs.lemmas.Bool.{eqb-true}
use Rattle.std.proofs.lemmas.Bool.Decides.{nat_tests}
use Rattle.net_model.specs.declared.ids.PointId.{PointId}
use Rattle.net_model.specs.declared.ids.LinkId.{LinkId}
use Rattle.closure_model.specs.Keys.{Key, Shape, IsKey, IsLabelAt, key_cmp, ordinary_key, labelled_key, all_points, labels_at, keys_between, row_keys, all_keys}
use Rattle.closure_model.proofs.Lists.{each-append, each-weaker, each-map, each-every, Contains-head, Contains-tail, Contains-map, Contains-flat_map}

-- ---- the order of two keys
nat_less : (a b : ℕ) → a < b → nat_cmp a b ≡ Less
nat_less a b less = grind (arith, nat_tests)

nat_self : (a : ℕ) → nat_cmp a a ≡ Equal
nat_self a = grind (arith, nat_tests)

pub less_by_target : (k l : Key) → k.to.0 < l.to.0 → key_cmp k l ≡ Less
less_by_target k l less = rw (nat_less k.to.0 l.to.0 less) refl

pub less_by_source : (k l : Key) → k.to ≡ l.to → k.from.0 < l.from.0 → key_cmp k l ≡ Less
less_by_source k l same less =
    let to : nat_cmp k.to.0 l.to.0 ≡ Equal = ap (λ (p : PointId). nat_cmp k.to.0 p.0) (sym same) ∙ nat_self k.to.0 in
    rw (to, nat_less k.from.0 l.from.0 less) refl

less_by_having_a_label : (from to : PointId) (label : LinkId) → key_cmp (ordinary_key from to) (labelled_key from to label) ≡ Less
less_by_having_a_label from to label = rw (nat_self to.0, nat_self from.0) refl

less_by_label : (from to : PointId) (first second : LinkId) → first.0 < second.0 → key_cmp (labelled_key from to first) (labelled_key from to second) ≡ Less
less_by_label from to first second less = rw (nat_self to.0, nat_self from.0, nat_less first.0 second.0 less) refl

-- ---- lists that rise
abbrev pub Rises : List Key → Type 0
Rises [] = Unit {0}
Rises (k ∷ ks) = AllByRecursion (λ l. key_cmp k l ≡ Less) ks × Rises ks

rises-append : (ks ls : List Key) → Rises ks → Rises ls → AllByRecursion (λ k. AllByRecursion (λ l. key_cmp k l ≡ Less) ls) ks → Rises (ks ++ ls)
rises-append [] ls one two apart = two
rises-append (k ∷ ks) ls (first, more) two (under, apart) = (each-append (λ l. key_cmp k l ≡ Less) ks ls first under, rises-append ks ls more two apart)

point : ℕ → PointId
point k = record { 0 = k }

abbrev points : ℕ → ℕ → List PointId
points a n = map (λ k. record { 0 = k }) (range_with_len a n)

-- what holds of the keys of each later point holds of all of them
each_from : (P : Key → Type 0) (f : PointId → List Key) (a n : ℕ) → ((p : PointId) → a ≤ p.0 → p.0 < a + n → AllByRecursion P (f p)) → AllByRecursion P (flat_map f (points a n))
each_from P f a zero each = tt
each_from P f a (suc n) each =
    each-append P (f (record { 0 = a })) (flat_map f (points (a + 1) n)) (each (record { 0 = a }) (omega arith) (omega arith)) (each_from P f (a + 1) n (λ p low high. each p (omega arith) (omega arith)))

module _ (own : Key → PointId) (Fixed : Key → Type 0) (less : (k l : Key) → Fixed k → Fixed l → (own k).0 < (own l).0 → key_cmp k l ≡ Less)
    (f : PointId → List Key) (owned : (p : PointId) → AllByRecursion (λ k. (own k ≡ p) × Fixed k) (f p)) (each : (p : PointId) → Rises (f p)) where
  -- the keys of points in order rise if those of each point do and those of one are below those of the next
  rises_over : (a n : ℕ) → Rises (flat_map f (points a n))
  rises_over a zero = tt
  rises_over a (suc n) = rises-append (f (record { 0 = a })) (flat_map f (points (a + 1) n)) (each (record { 0 = a })) (rises_over (a + 1) n)
      (each-weaker (λ k. (own k ≡ (record { 0 = a })) × Fixed k) (λ k. AllByRecursion (λ l. key_cmp k l ≡ Less) (flat_map f (points (a + 1) n))) apart (f (record { 0 = a })) (owned (record { 0 = a })))
    where
      apart : (k : Key) → (own k ≡ (record { 0 = a })) × Fixed k → AllByRecursion (λ l. key_cmp k l ≡ Less) (flat_map f (points (a + 1) n))
      apart k (mine, fixed) = each_from (λ l. key_cmp k l ≡ Less) f (a + 1) n (λ p low high. each-weaker (λ l. (own l ≡ p) × Fixed l) (λ l. key_cmp k l ≡ Less) (below p low) (f p) (owned p))
        where
          below : (p : PointId) → a + 1 ≤ p.0 → (l : Key) → (own l ≡ p) × Fixed l → key_cmp k l ≡ Less
          below p low l (theirs, also) = less k l fixed also (let here : (own k).0 ≡ a = ap (λ (q : PointId). q.0) mine in let there : (own l).0 ≡ p.0 = ap (λ (q : PointId). q.0) theirs in omega arith)

-- ---- labels
abbrev labels : PointId → ℕ → List PointId → List LinkId
labels to n begins = map (λ (e : ℕ × PointId). record { 0 = e.0 }) (filter (λ (e : ℕ × PointId). e.1.0 == to.0) (enumerate_from n begins))

labels_from : (to : PointId) (n : ℕ) (begins : List PointId) → AllByRecursion (λ (l : LinkId). n ≤ l.0) (labels to n begins)
labels_from to n [] = tt
labels_from to n (p ∷ ps) = by (p.0 == to.0) (each-weaker (λ (l : LinkId). n + 1 ≤ l.0) (λ (l : LinkId). n ≤ l.0) (λ l more. omega arith) (labels to (n + 1) ps) (labels_from to (n + 1) ps))
  where
    by : (b : Bool) → AllByRecursion (λ (l : LinkId). n ≤ l.0) (labels to (n + 1) ps)
        → AllByRecursion (λ (l : LinkId). n ≤ l.0) (map (λ (e : ℕ × PointId). record { 0 = e.0 }) (cond b ((n, p) ∷ filter (λ (e : ℕ × PointId). e.1.0 == to.0) (enumerate_from (n + 1) ps))
        (filter (λ (e : ℕ × PointId). e.1.0 == to.0) (enumerate_from (n + 1) ps))))
    by true rest = (omega arith, rest)
    by false rest = rest

label_keys_rise : (from to : PointId) (n : ℕ) (begins : List PointId) → Rises (map (labelled_key from to) (labels to n begins))
label_keys_rise from to n [] = tt
label_keys_rise from to n (p ∷ ps) = by (p.0 == to.0) (label_keys_rise from to (n + 1) ps) (labels_from to (n + 1) ps)
  where
    by : (b : Bool) → Rises (map (labelled_key from to) (labels to (n + 1) ps)) → AllByRecursion (λ (l : LinkId). n + 1 ≤ l.0) (labels to (n + 1) ps)
        → Rises (map (labelled_key from to) (map (λ (e : ℕ × PointId). record { 0 = e.0 }) (cond b ((n, p) ∷ filter (λ (e : ℕ × PointId). e.1.0 == to.0) (enumerate_from (n + 1) ps))
        (filter (λ (e : ℕ × PointId). e.1.0 == to.0) (enumerate_from (n + 1) ps)))))
    by true rest above = (
      each-map (λ l. key_cmp (labelled_key from to (record { 0 = n })) l ≡ Less) (labelled_key from to) (labels to (n + 1) ps)
          (each-weaker (λ (l : LinkId). n + 1 ≤ l.0) (λ (l : LinkId). key_cmp (labelled_key from to (record { 0 = n })) (labelled_key from to l) ≡ Less) (λ l more. less_by_label from to (record { 0 = n }) l (omega arith))
          (labels to (n + 1) ps) above),
      rest,
    )
    by false rest above = rest

-- ---- the keys between two points, of a row, and all of them
keys_between_rise : (shape : Shape) (to from : PointId) → Rises (keys_between shape to from)
keys_between_rise shape to from = (
  each-map (λ l. key_cmp (ordinary_key from to) l ≡ Less) (labelled_key from to) (labels_at shape to) (each-every (λ (l : LinkId). key_cmp (ordinary_key from to) (labelled_key from to l) ≡ Less) (less_by_having_a_label from to)
      (labels_at shape to)),
  label_keys_rise from to 0 shape.activations,
)

keys_between_owned : (shape : Shape) (to from : PointId) → AllByRecursion (λ k. (k.from ≡ from) × (k.to ≡ to)) (keys_between shape to from)
keys_between_owned shape to from = ((refl, refl), each-map (λ k. (k.from ≡ from) × (k.to ≡ to)) (labelled_key from to) (labels_at shape to) (each-every (λ (l : LinkId). (from ≡ from) × (to ≡ to)) (λ l. (refl, refl)) (labels_at shape to)))

pub row_keys_rise : (shape : Shape) (to : PointId) → Rises (row_keys shape to)
row_keys_rise shape to =
    rises_over (λ k. k.from) (λ k. k.to ≡ to) (λ k l one two less. less_by_source k l (one ∙ sym two) less) (keys_between shape to) (keys_between_owned shape to) (keys_between_rise shape to) 0 shape.points

pub row_keys_owned : (shape : Shape) (to : PointId) → AllByRecursion (λ k. k.to ≡ to) (row_keys shape to)
row_keys_owned shape to = each_from (λ k. k.to ≡ to) (keys_between shape to) 0 shape.points (λ p low high. each-weaker (λ k. (k.from ≡ p) × (k.to ≡ to)) (λ k. k.to ≡ to) (λ k both. both.1) (keys_between shape to p)
    (keys_between_owned shape to p))

pub all_keys_rise : (shape : Shape) → Rises (all_keys shape)
all_keys_rise shape =
    rises_over (λ k. k.to) (λ k. Unit {0}) (λ k l one two less. less_by_target k l less) (row_keys shape)
    (λ p. each-weaker (λ k. k.to ≡ p) (λ k. (k.to ≡ p) × Unit {0}) (λ k is. (is, tt)) (row_keys shape p) (row_keys_owned shape p)) (row_keys_rise shape) 0 shape.points

pub strictly_sorted : (ks : List Key) → Rises ks → IsStrictlySortedBy key_cmp ks
unfolding IsStrictlySortedBy
strictly_sorted [] rises = tt
strictly_sorted (k ∷ ks) (first, more) = (first, strictly_sorted ks more)

-- ---- which keys stand in the lists
-- a label is the place, from a number on, where a point stands
abbrev pub IsLabelFrom : PointId → ℕ → List PointId → LinkId → Type 0
IsLabelFrom to n begins l = (n ≤ l.0) × (slice_get begins (l.0 - n) ≡ Some to)

-- the labels after a point, with the place of that point before them if it is the target
abbrev labels_with : Bool → PointId → ℕ → PointId → List PointId → List LinkId
labels_with b to n p ps = map (λ (e : ℕ × PointId). record { 0 = e.0 }) (cond b ((n, p) ∷ filter (λ (e : ℕ × PointId). e.1.0 == to.0) (enumerate_from (n + 1) ps)) (filter (λ (e : ℕ × PointId). e.1.0 == to.0) (enumerate_from (n + 1) ps)))

pub labels_sound : (to : PointId) (n : ℕ) (begins : List PointId) → AllByRecursion (IsLabelFrom to n begins) (labels to n begins)
labels_sound to n [] = tt
labels_sound to n (p ∷ ps) = by (p.0 == to.0) refl (each-weaker (IsLabelFrom to (n + 1) ps) (IsLabelFrom to n (p ∷ ps)) moved (labels to (n + 1) ps) (labels_sound to (n + 1) ps))
  where
    moved : (l : LinkId) → IsLabelFrom to (n + 1) ps l → IsLabelFrom to n (p ∷ ps) l
    moved l (low, at) = let next : l.0 - n ≡ suc (l.0 - (n + 1)) = omega arith in (omega arith, ap (slice_get (p ∷ ps)) next ∙ at)

    by : (b : Bool) → p.0 == to.0 ≡ b → AllByRecursion (IsLabelFrom to n (p ∷ ps)) (labels to (n + 1) ps) → AllByRecursion (IsLabelFrom to n (p ∷ ps)) (labels_with b to n p ps)
    by true is rest =
        let here : p ≡ to = ap (λ (k : ℕ). record { 0 = k }) (eqb-true p.0 to.0 is) in
        let first : n - n ≡ 0 = omega arith in
        ((omega arith, ap (slice_get (p ∷ ps)) first ∙ ap Some here), rest)
    by false is rest = rest

labels_whole : (to : PointId) (n : ℕ) (begins : List PointId) (k : ℕ) → slice_get begins k ≡ Some to → Contains {X = LinkId} (labels to n begins) (record { 0 = n + k })
labels_whole to n [] k at = absurd cc
labels_whole to n (p ∷ ps) zero at = by (p.0 == to.0) refl
  where
    by : (b : Bool) → p.0 == to.0 ≡ b → Contains {X = LinkId} (labels_with b to n p ps) (record { 0 = n + 0 })
    by true is = (0, omega arith, let same : n ≡ n + 0 = omega arith in ap (λ (k : ℕ). record { 0 = k }) same)
    by false is = let here : p ≡ to = cc in let same : p.0 == to.0 ≡ true = rw here (grind (arith, nat_tests)) in absurd cc
labels_whole to n (p ∷ ps) (suc k) at = by (p.0 == to.0) (let moved : n + 1 + k ≡ n + suc k = omega arith in subst (λ (m : ℕ). Contains {X = LinkId} (labels to (n + 1) ps) (record { 0 = m })) moved (labels_whole to (n + 1) ps k at))
  where
    by : (b : Bool) → Contains {X = LinkId} (labels to (n + 1) ps) (record { 0 = n + suc k })
        → Contains {X = LinkId} (labels_with b to n p ps) (record { 0 = n + suc k })
    by true rest = Contains-tail (record { 0 = n }) (labels to (n + 1) ps) (record { 0 = n + suc k }) rest
    by false rest = rest

pub Contains-points : (a n : ℕ) (p : PointId) → a ≤ p.0 → p.0 < a + n → Contains (points a n) p
Contains-points a zero p low high = absurd (omega arith)
Contains-points a (suc n) p low high = by (λ more. Contains-points (a + 1) n p more (omega arith)) (a == p.0) refl
  where
    by : (a + 1 ≤ p.0 → Contains (points (a + 1) n) p) → (b : Bool) → a == p.0 ≡ b → Contains (points a (suc n)) p
    by later true is = (0, omega arith, ap (λ (k : ℕ). record { 0 = k }) (eqb-true a p.0 is))
    by later false is = Contains-tail (record { 0 = a }) (points (a + 1) n) p (later (grind (arith, nat_tests)))

-- every key in the list is one that there is
pub all_keys_sound : (shape : Shape) → AllByRecursion (IsKey shape) (all_keys shape)
all_keys_sound shape = each_from (IsKey shape) (row_keys shape) 0 shape.points (λ to low high. each_from (IsKey shape) (keys_between shape to) 0 shape.points (λ from low' high'. between to from high high'))
  where
    between : (to from : PointId) → to.0 < 0 + shape.points → from.0 < 0 + shape.points → AllByRecursion (IsKey shape) (keys_between shape to from)
    between to from one two = (
      record { to_point = omega arith; from_point = omega arith; labelled = tt },
      each-map (IsKey shape) (labelled_key from to) (labels_at shape to)
          (each-weaker (λ (l : LinkId). (0 ≤ l.0) × (slice_get shape.activations (l.0 - 0) ≡ Some to)) (λ (l : LinkId). IsKey shape (labelled_key from to l)) labelled (labels_at shape to) (labels_sound to 0 shape.activations)),
    )
      where
        labelled : (l : LinkId) → (0 ≤ l.0) × (slice_get shape.activations (l.0 - 0) ≡ Some to) → IsKey shape (labelled_key from to l)
        labelled l (low, at) = let same : l.0 - 0 ≡ l.0 = omega arith in record { to_point = omega arith; from_point = omega arith; labelled = ap (slice_get shape.activations) (sym same) ∙ at }

-- every key that there is stands in the row of its target
pub row_keys_whole : (shape : Shape) (key : Key) → IsKey shape key → Contains (row_keys shape key.to) key
row_keys_whole shape key is = by key.label refl is.labelled
  where
    source : Contains (all_points shape) key.from
    source = Contains-points 0 shape.points key.from (omega arith) (omega (arith, is.from_point))

    by : (label : Option LinkId) → key.label ≡ label → IsLabelAt shape key.to label → Contains (row_keys shape key.to) key
    by None none at =
        let same : ordinary_key key.from key.to ≡ key = λ i. record { to = key.to; from = key.from; label = sym none i } in
        subst (Contains (row_keys shape key.to)) same
        (Contains-flat_map (keys_between shape key.to) (all_points shape) key.from (ordinary_key key.from key.to) source (Contains-head (ordinary_key key.from key.to) (map (labelled_key key.from key.to) (labels_at shape key.to))))
    by (Some label) some at =
        let same : labelled_key key.from key.to label ≡ key = λ i. record { to = key.to; from = key.from; label = sym some i } in
        let inside : Contains {X = LinkId} (labels_at shape key.to) label = let zero_more : 0 + label.0 ≡ label.0 = omega arith in
        subst (λ (m : ℕ). Contains {X = LinkId} (labels_at shape key.to) (record { 0 = m })) zero_more (labels_whole key.to 0 shape.activations label.0 at) in
        subst (Contains (row_keys shape key.to)) same
        (Contains-flat_map (keys_between shape key.to) (all_points shape) key.from (labelled_key key.from key.to label) source
        (Contains-tail (ordinary_key key.from key.to) (map (labelled_key key.from key.to) (labels_at shape key.to)) (labelled_key key.from key.to label) (Contains-map (labelled_key key.from key.to) (labels_at shape key.to) label inside)))

pub all_keys_whole : (shape : Shape) (key : Key) → IsKey shape key → Contains (all_keys shape) key
all_keys_whole shape key is =
    Contains-flat_map (row_keys shape) (all_points shape) key.to key (Contains-points 0 shape.points key.to (omega arith) (omega (arith, is.to_point))) (row_keys_whole shape key is)

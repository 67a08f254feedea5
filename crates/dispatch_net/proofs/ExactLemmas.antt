-- The lower bounds and waits of a point are exactly the negative edges that a table has from it, in order.
use Rattle.std.proofs.Common.{◌≡◌, ℕ, zero, suc, ◌+◌, ℤ, pos, ◌≤◌, ◌<◌, Bool, true, false, List, [], ◌∷◌, map, get_or, Option, Some, None, refl, ap, sym, subst, ◌∙◌, arith}
use Rattle.std.specs.Prelude.{int_lt, slice_get, is_some, ◌-ℤ◌, ◌<ℤ◌, if◌then◌else◌}
use Rattle.std.specs.List.{All, AllPairs, AllByRecursion, Contains, cons_option, enumerate_from, filter_map, range_with_len}
use Rattle.std.proofs.lemmas.Int.{ints}
use Rattle.std.proofs.lemmas.List.Elements.{All-from_recursion}
use Rattle.std.proofs.lemmas.List.Kept.{AllPairs-cons}
use Rattle.std.proofs.lemmas.List.{get_or-map, length-map}
use Rattle.net_model.specs.Network.{Plan, activation}
use Rattle.net_model.specs.declared.ids.PointId.{PointId}
use Rattle.net_model.specs.declared.ids.LinkId.{LinkId}
use Rattle.closure_model.specs.Keys.{ordinary_key, labelled_key, all_points}
use Rattle.closure_model.specs.Tables.{Graph, HasEdge, weight_of, IsGraph}
use Rattle.closure_model.proofs.KeyLists.{Contains-points}
use Rattle.closure_model.proofs.Weights.{lt_is, lt_true}
use Rattle.closure_model.proofs.Lists.{Contains-filter_map, Contains-filter_map_from}
use Rattle.dispatch_net.specs.Dispatchable.{with_moments, lower_bounds_in, waits_in, no_conditions, conditions_in, dispatchable}
use Rattle.dispatch_net.specs.Held.{AreInOrder}
use Rattle.dispatch_net.specs.Laws.{AreExact, ListsAreExact}
use Rattle.dispatch_net.proofs.HoldLemmas.{numbered_from, gives, given}
use Rattle.dispatch_net.proofs.ExecutionLemmas.{conditions_stand, conditions_are}

-- ---- numbers that rise from one on
abbrev RiseFrom : {X : Type 0} → (X → ℕ) → ℕ → List X → Type 0
RiseFrom number a [] = Unit {0}
RiseFrom number a (x ∷ xs) = (a ≤ number x) × RiseFrom number (number x + 1) xs

module _ {X : Type 0} (number : X → ℕ) where
  rise_sooner : (a b : ℕ) (xs : List X) → a ≤ b → RiseFrom number b xs → RiseFrom number a xs
  rise_sooner a b [] low rises = tt
  rise_sooner a b (x ∷ xs) low (one, more) = (omega (arith, low, one), more)

  rise_above : (a : ℕ) (xs : List X) → RiseFrom number a xs → AllByRecursion (λ x. a ≤ number x) xs
  rise_above a [] rises = tt
  rise_above a (x ∷ xs) (one, more) = (one, rise_above a xs (rise_sooner a (number x + 1) xs (omega (arith, one)) more))

  rise_weaker : (a b : ℕ) (xs : List X) → a + 1 ≡ b → AllByRecursion (λ x. b ≤ number x) xs → AllByRecursion (λ x. a < number x) xs
  rise_weaker a b [] is all = tt
  rise_weaker a b (x ∷ xs) is (one, more) = (omega (arith, is, one), rise_weaker a b xs is more)

  rising_pairs : (a : ℕ) (xs : List X) → RiseFrom number a xs → AllPairs (λ x y. number x < number y) xs
  rising_pairs a [] rises = λ i j d less inside. absurd (omega (arith, less, inside))
  rising_pairs a (x ∷ xs) (one, more) =
      AllPairs-cons (λ x y. number x < number y) x xs (All-from_recursion (λ y. number x < number y) xs (rise_weaker (number x) (number x + 1) xs refl (rise_above (number x + 1) xs more))) (rising_pairs (number x + 1) xs more)

module _ {X Y : Type 0} (number : X → ℕ) (number_of : Y → ℕ) (f : X → Option Y) (keeps : (x : X) (y : Y) → f x ≡ Some y → number_of y ≡ number x) where
  kept_rise : (a : ℕ) (xs : List X) → RiseFrom number a xs → RiseFrom number_of a (filter_map f xs)
  kept_rise a [] rises = tt
  kept_rise a (x ∷ xs) (one, more) = by (kept_rise (number x + 1) xs more) (f x) refl
    where
      by : RiseFrom number_of (number x + 1) (filter_map f xs) → (o : Option Y) → f x ≡ o → RiseFrom number_of a (cons_option o (filter_map f xs))
      by rest None none = rise_sooner number_of a (number x + 1) (filter_map f xs) (omega (arith, one)) rest
      by rest (Some y) some = let same = keeps x y some in (omega (arith, one, same), subst (λ n. RiseFrom number_of (n + 1) (filter_map f xs)) (sym same) rest)

points_rise : (a n : ℕ) → RiseFrom (λ (p : PointId). p.0) a (map (λ (k : ℕ). let p : PointId = record { 0 = k } in p) (range_with_len a n))
points_rise a zero = tt
points_rise a (suc n) = (omega arith, points_rise (a + 1) n)

numbered_rise : {X : Type 0} (a : ℕ) (xs : List X) → RiseFrom (λ (e : ℕ × X). e.0) a (enumerate_from a xs)
numbered_rise a [] = tt
numbered_rise a (x ∷ xs) = (omega arith, numbered_rise (a + 1) xs)

-- ---- weights and moments
turned_twice : (n : ℤ) → pos 0 -ℤ (pos 0 -ℤ n) ≡ n
turned_twice n = omega (arith, ints)

below_turned : (n : ℤ) → pos 0 <ℤ n → int_lt (pos 0 -ℤ n) (pos 0) ≡ true
below_turned n above = lt_true (pos 0 -ℤ n) (pos 0) (omega (arith, ints, above))

above_turned : (w n : ℤ) → int_lt w (pos 0) ≡ true → pos 0 -ℤ w ≡ n → pos 0 <ℤ n
above_turned w n negative is = let below = lt_is w (pos 0) negative in subst (λ m. pos 0 <ℤ m) is (omega (arith, ints, below))

pub gives_back : {X : Type 0} (x : X) (o : Option ℤ) (n : ℤ) → pos 0 <ℤ n → o ≡ Some (pos 0 -ℤ n) → with_moments x o ≡ Some (x, n)
gives_back {X} x o n above is =
    ap (with_moments x) is ∙ gives x (pos 0 -ℤ n) (below_turned n above) ∙ ap (λ (m : ℤ). let p : Option (X × ℤ) = Some (x, m) in p) (turned_twice n)

pub given_back : {X : Type 0} (x : X) (o : Option ℤ) (y : X) (n : ℤ) → with_moments x o ≡ Some (y, n) → (pos 0 <ℤ n) × (o ≡ Some (pos 0 -ℤ n)) × (x ≡ y)
given_back {X} x o y n gave =
    let its = given x o (y, n) gave in
    let moments : pos 0 -ℤ its.weight ≡ n = ap (λ (p : X × ℤ). p.1) its.is in
    let weight : its.weight ≡ pos 0 -ℤ n = sym (turned_twice its.weight) ∙ ap (λ m. pos 0 -ℤ m) moments in
    (above_turned its.weight n its.negative moments, its.held ∙ ap (λ (w : ℤ). let p : Option ℤ = Some w in p) weight, ap (λ (p : X × ℤ). p.0) its.is)

keeps_number : {X : Type 0} (number : X → ℕ) (x : X) (o : Option ℤ) (y : X × ℤ) → with_moments x o ≡ Some y → number y.0 ≡ number x
keeps_number {X} number x o y gave = sym (ap (λ (p : X × ℤ). number p.0) (given x o y gave).is)

-- ---- a point's lists
pub lists_rise : (table : Graph) (point : PointId) → AreInOrder (record { lower_bounds = lower_bounds_in table point; waits = waits_in table point })
lists_rise table point = record {
  bounds = rising_pairs (λ (b : PointId × ℤ). b.0.0) 0 (lower_bounds_in table point)
      (kept_rise (λ (p : PointId). p.0) (λ (b : PointId × ℤ). b.0.0) (λ (p : PointId). with_moments p (weight_of table (ordinary_key point p)))
      (λ p b gave. keeps_number (λ (q : PointId). q.0) p (weight_of table (ordinary_key point p)) b gave) 0 (all_points table.shape) (points_rise 0 table.shape.points));
  waits = rising_pairs (λ (w : LinkId × ℤ). w.0.0) 0 (waits_in table point)
      (kept_rise (λ (e : ℕ × PointId). e.0) (λ (w : LinkId × ℤ). w.0.0) (λ (e : ℕ × PointId). let l : LinkId = record { 0 = e.0 } in with_moments l (weight_of table (labelled_key point e.1 l)))
      (λ e w gave. keeps_number (λ (l : LinkId). l.0) (record { 0 = e.0 }) (weight_of table (labelled_key point e.1 (record { 0 = e.0 }))) w gave) 0 (enumerate_from 0 table.shape.activations) (numbered_rise 0 table.shape.activations));
}

no_lists_rise : AreInOrder no_conditions
no_lists_rise = record { bounds = λ i j d less inside. absurd (omega (arith, less, inside)); waits = λ i j d less inside. absurd (omega (arith, less, inside)) }

-- what a table gives the points stands in order of number
pub in_order : (net : Plan) (table : Graph) → All AreInOrder (dispatchable net table)
in_order net table k d inside =
    let long = length-map (all_points table.shape) (conditions_in net table) in
    let none : PointId = record { 0 = 0 } in
    subst AreInOrder (sym (get_or-map (conditions_in net table) (all_points table.shape) k none d (omega (arith, inside, long))))
    (by (get_or (all_points table.shape) k none) (is_some (activation net (get_or (all_points table.shape) k none))))
  where
    by : (point : PointId) (b : Bool) → AreInOrder (if b then no_conditions else record { lower_bounds = lower_bounds_in table point; waits = waits_in table point })
    by point true = no_lists_rise
    by point false = lists_rise table point

module _ (table : Graph) (sound : IsGraph table) (point : PointId) where
  bound_in : (other : PointId) (n : ℤ) → (pos 0 <ℤ n) × HasEdge table (record { from = point; to = other; label = None; weight = pos 0 -ℤ n }) → Contains (lower_bounds_in table point) (other, n)
  bound_in other n (above, has) =
      let inside : other.0 < table.shape.points = (sound.keys (record { from = point; to = other; label = None; weight = pos 0 -ℤ n }) has).to_point in
      Contains-filter_map (λ (p : PointId). with_moments p (weight_of table (ordinary_key point p))) (all_points table.shape) other (other, n) (Contains-points 0 table.shape.points other (omega arith) (omega arith))
      (gives_back other (weight_of table (ordinary_key point other)) n above has)

  in_bound : (other : PointId) (n : ℤ) → Contains (lower_bounds_in table point) (other, n) → (pos 0 <ℤ n) × HasEdge table (record { from = point; to = other; label = None; weight = pos 0 -ℤ n })
  in_bound other n listed =
      let (to, there, gave) = Contains-filter_map_from (λ (p : PointId). with_moments p (weight_of table (ordinary_key point p))) (all_points table.shape) (other, n) listed in
      let (above, has, same) = given_back to (weight_of table (ordinary_key point to)) other n gave in
      (above, subst (λ (p : PointId). weight_of table (ordinary_key point p) ≡ Some (pos 0 -ℤ n)) same has)

  wait_in : (link : LinkId) (n : ℤ) → (pos 0 <ℤ n) × ((activation : PointId) × HasEdge table (record { from = point; to = activation; label = Some link; weight = pos 0 -ℤ n })) → Contains (waits_in table point) (link, n)
  wait_in link n (above, found) =
      let (begins, has) = found in
      let labelled : slice_get table.shape.activations link.0 ≡ Some begins = (sound.keys (record { from = point; to = begins; label = Some link; weight = pos 0 -ℤ n }) has).labelled in
      Contains-filter_map (λ (e : ℕ × PointId). let l : LinkId = record { 0 = e.0 } in with_moments l (weight_of table (labelled_key point e.1 l))) (enumerate_from 0 table.shape.activations) (link.0, begins) (link, n)
      (numbered_from table.shape.activations link.0 begins labelled) (gives_back link (weight_of table (labelled_key point begins link)) n above has)

  in_wait : (link : LinkId) (n : ℤ) → Contains (waits_in table point) (link, n) → (pos 0 <ℤ n) × ((activation : PointId) × HasEdge table (record { from = point; to = activation; label = Some link; weight = pos 0 -ℤ n }))
  in_wait link n listed =
      let (e, there, gave) = Contains-filter_map_from (λ (e : ℕ × PointId). let l : LinkId = record { 0 = e.0 } in with_moments l (weight_of table (labelled_key point e.1 l))) (enumerate_from 0 table.shape.activations) (link, n) listed in
      let label : LinkId = record { 0 = e.0 } in
      let (above, has, same) = given_back label (weight_of table (labelled_key point e.1 label)) link n gave in
      (above, (e.1, subst (λ (l : LinkId). weight_of table (labelled_key point e.1 l) ≡ Some (pos 0 -ℤ n)) same has))

  pub lists_exact : AreExact table point (record { lower_bounds = lower_bounds_in table point; waits = waits_in table point })
  lists_exact =
      record {
        bounds = λ other n. (in_bound other n, bound_in other n);
        waits = λ link n. (in_wait link n, wait_in link n);
        bounds_rise = (lists_rise table point).bounds;
        waits_rise = (lists_rise table point).waits;
      }

pub law_lists_are_exact : ListsAreExact
law_lists_are_exact net table point for sound is_point = (
  λ executable. subst (AreExact table point) (sym (conditions_are net table point for executable)) (lists_exact table sound point),
  λ contingent.
      conditions_stand net table point for is_point
      ∙ ap (λ (b : Bool). if b then no_conditions else record { lower_bounds = lower_bounds_in table point; waits = waits_in table point }) contingent,
)

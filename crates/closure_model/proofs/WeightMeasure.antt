-- How far the weights of a table can still be lowered: each round in which something improves leaves less.
use Rattle.std.proofs.Common.{◌≡◌, ◌≢◌, ℕ, ◌+◌, ◌*◌, ◌<◌, ◌≤◌, ℤ, pos, ◌+ℤ◌, ◌≤ℤ◌, ◌<ℤ◌, ◌⊎◌, List, [], ◌∷◌, map, length, Option, Some, None, refl, sym, subst, ◌∙◌, inl, inr, arith}
use Rattle.std.specs.Prelude.{unsigned_abs, sum_by}
use Rattle.std.specs.List.{Contains}
use Rattle.std.proofs.lemmas.Int.{ints}
use Rattle.std.proofs.lemmas.List.Sums.{sum_by-le, sum_by-cons}
use Rattle.std.proofs.lemmas.Option.{same_Some}
use Rattle.net_model.specs.Network.{Plan, IsPlan, greatest}
use Rattle.net_model.specs.declared.part.Edge.{Edge}
use Rattle.closure_model.specs.Derivations.{Support, StandsOn}
use Rattle.closure_model.specs.Keys.{Key, key_of, edge_of, all_keys, shape_of, Shape, IsKey}
use Rattle.closure_model.specs.ReferenceRow.{IsBelow, with_made}
use Rattle.closure_model.specs.ReferenceRound.{round_made, after_round}
use Rattle.closure_model.specs.Tables.{Graph, HasEdge, HasAtMost, IsAtMost, weight_of}
use Rattle.closure_model.specs.declared.rows.Made.{Made}
use Rattle.closure_model.proofs.GroundedEdges.{AreGrounded, grounded_first}
use Rattle.closure_model.proofs.KeyLists.{all_keys_whole}
use Rattle.closure_model.proofs.Lists.{Contains-head, Contains-cases, Contains-none, Contains-map}
use Rattle.closure_model.proofs.RoundClosure.{standing_fits, standing_sound, standing_within}
use Rattle.closure_model.proofs.RoundLaw.{round_is_grounded}
use Rattle.closure_model.proofs.RoundsLaw.{round_stands_after, law_rounds_keep_standing}
use Rattle.closure_model.proofs.TableLemmas.{all_lowered-has, at_most_gives}

-- how far a weight that is not below -M can be lowered
abbrev pub measure_of : ℕ → Option ℤ → ℕ
measure_of most None = 2 * most + 1
measure_of most (Some weight) = unsigned_abs (weight +ℤ pos most)

-- how far the weights of all keys can be lowered
abbrev pub measure : Plan → Graph → ℕ
measure net table = sum_by (λ key. measure_of (greatest net) (weight_of table key)) (all_keys (shape_of net))

decreases_at_most : (most : ℕ) (v w : ℤ) → unsigned_abs v ≤ most → unsigned_abs w ≤ most → w ≤ℤ v → unsigned_abs (w +ℤ pos most) ≤ unsigned_abs (v +ℤ pos most)
decreases_at_most most v w one two less = grind (arith, ints)

decreases_below : (most : ℕ) (v w : ℤ) → unsigned_abs v ≤ most → unsigned_abs w ≤ most → w <ℤ v → unsigned_abs (w +ℤ pos most) < unsigned_abs (v +ℤ pos most)
decreases_below most v w one two less = grind (arith, ints)

within_measure : (most : ℕ) (w : ℤ) → unsigned_abs w ≤ most → unsigned_abs (w +ℤ pos most) < 2 * most + 1
within_measure most w within = grind (arith, ints)

-- a sum of less
sum_at_most : (f g : Key → ℕ) (keys : List Key) → ((key : Key) → f key ≤ g key) → sum_by f keys ≤ sum_by g keys
sum_at_most f g [] each = omega arith
sum_at_most f g (key ∷ keys) each = let here = each key in let rest = sum_at_most f g keys each in omega (arith, sum_by-cons f key keys, sum_by-cons g key keys)

sum_below : (f g : Key → ℕ) (keys : List Key) (one : Key) → ((key : Key) → f key ≤ g key) → Contains keys one → f one < g one → sum_by f keys < sum_by g keys
sum_below f g [] one each inside less = absurd (Contains-none one inside)
sum_below f g (key ∷ keys) one each inside less = by (λ there. sum_below f g keys one each there less) (Contains-cases key keys one inside)
  where
    by : (Contains keys one → sum_by f keys < sum_by g keys) → (key ≡ one) ⊎ Contains keys one → sum_by f (key ∷ keys) < sum_by g (key ∷ keys)
    by later (inl here) =
        let rest = sum_at_most f g keys each in
        let now : f key < g key = subst (λ (k : Key). f k < g k) (sym here) less in
        omega (arith, sum_by-cons f key keys, sum_by-cons g key keys)
    by later (inr there) = let rest = later there in let now = each key in omega (arith, sum_by-cons f key keys, sum_by-cons g key keys)

-- ---- a table that is at most another has at most its measure
module _ (net : Plan) (low high : Graph) (within_low : (edge : Edge) → HasEdge low edge → unsigned_abs edge.weight ≤ greatest net) (within_high : (edge : Edge) → HasEdge high edge
    → unsigned_abs edge.weight ≤ greatest net) (lower : IsAtMost low high) where
  abbrev most : ℕ
  most = greatest net

  measure_at_most : (key : Key) → measure_of most (weight_of low key) ≤ measure_of most (weight_of high key)
  measure_at_most key = by (weight_of high key) refl (weight_of low key) refl
    where
      by : (o : Option ℤ) → weight_of high key ≡ o → (p : Option ℤ) → weight_of low key ≡ p → measure_of most p ≤ measure_of most o
      by None none None gone = omega arith
      by None none (Some w) has = let small = within_measure most w (within_low (edge_of key w) has) in omega arith
      by (Some v) has None gone = let (w, there, less) = at_most_gives low (edge_of key v) (lower (edge_of key v) has) in absurd cc
      by (Some v) has (Some w) there =
          let (u, is, less) = at_most_gives low (edge_of key v) (lower (edge_of key v) has) in
          let same : u ≡ w = same_Some u w (sym is ∙ there) in
          decreases_at_most most v w (within_high (edge_of key v) has) (within_low (edge_of key w) there) (subst (λ (x : ℤ). x ≤ℤ v) same less)

  measure_below : (edge : Edge) → HasAtMost low edge → IsBelow high edge → measure_of most (weight_of low (key_of edge)) < measure_of most (weight_of high (key_of edge))
  measure_below edge met below = let (w, has, less) = at_most_gives low edge met in by w has less (weight_of high (key_of edge)) refl
    where
      lt : (a b c : ℤ) → a ≤ℤ b → b <ℤ c → a <ℤ c
      lt a b c one two = grind (arith, ints)

      by : (w : ℤ) → weight_of low (key_of edge) ≡ Some w → w ≤ℤ edge.weight → (o : Option ℤ) → weight_of high (key_of edge) ≡ o → measure_of most (weight_of low (key_of edge)) < measure_of most o
      by w has less None none = subst (λ (p : Option ℤ). measure_of most p < 2 * most + 1) (sym has) (within_measure most w (within_low (edge_of (key_of edge) w) has))
      by w has less (Some v) there =
          subst (λ (p : Option ℤ). measure_of most p < measure_of most (Some v)) (sym has)
          (decreases_below most v w (within_high (edge_of (key_of edge) v) there) (within_low (edge_of (key_of edge) w) has) (lt w edge.weight v less (below v there)))

  pub measure_decreases : (edge : Edge) → IsKey (shape_of net) (key_of edge) → HasAtMost low edge → IsBelow high edge → measure net low < measure net high
  measure_decreases edge known met below =
      sum_below (λ key. measure_of most (weight_of low key)) (λ key. measure_of most (weight_of high key)) (all_keys (shape_of net)) (key_of edge) measure_at_most (all_keys_whole (shape_of net) (key_of edge) known)
      (measure_below edge met below)

-- ---- a round in which something improves
pub measure_decreases_in_round : (net : Plan) (support : Support) → IsPlan net → StandsOn net support → round_made net support.table ≢ [] → measure net (after_round net support).table < measure net support.table
measure_decreases_in_round net support plan stands some = by (round_made net support.table) refl some
  where
    by : (made : List Made) → round_made net support.table ≡ made → round_made net support.table ≢ [] → measure net (after_round net support).table < measure net support.table
    by [] none some = absurd (some none)
    by (one ∷ made) is some =
        let fits = standing_fits net plan support stands in
        let sound = standing_sound net plan support stands in
        let after = round_stands_after net support plan stands in
        let grounded = round_is_grounded net support.table plan fits sound in
        let (first, below) = grounded_first net support.table support.table one made (subst (AreGrounded net support.table support.table) is grounded) in
        let inside : Contains (round_made net support.table) one = subst (λ (list : List Made). Contains list one) (sym is) (Contains-head one made) in
        let lowered : HasAtMost (with_made support.table (round_made net support.table)) one.edge =
        all_lowered-has support.table (map (λ (m : Made). m.edge) (round_made net support.table)) one.edge (Contains-map (λ (m : Made). m.edge) (round_made net support.table) one inside) in
        let met : HasAtMost (after_round net support).table one.edge = subst (λ (t : Graph). HasAtMost t one.edge) (sym after.table_is) lowered in
        let (weight, has, less) = at_most_gives (after_round net support).table one.edge met in
        let known : IsKey (shape_of net) (key_of one.edge) = subst (λ (s : Shape). IsKey s (key_of one.edge)) (standing_fits net plan (after_round net support) after.stands)
        ((standing_sound net plan (after_round net support) after.stands).keys (edge_of (key_of one.edge) weight) has) in
        measure_decreases net (after_round net support).table support.table (standing_within net plan (after_round net support) after.stands) (standing_within net plan support stands)
        (law_rounds_keep_standing net support plan stands).1 one.edge known met below

-- ---- the measure at the start
measure_limited : (most : ℕ) (o : Option ℤ) → ((w : ℤ) → o ≡ Some w → unsigned_abs w ≤ most) → measure_of most o ≤ 2 * most + 1
measure_limited most None within = omega arith
measure_limited most (Some w) within = let small = within_measure most w (within w refl) in omega arith

pub measure_at_first : (net : Plan) (table : Graph) → ((edge : Edge) → HasEdge table edge → unsigned_abs edge.weight ≤ greatest net) → measure net table ≤ length (all_keys (shape_of net)) * (2 * greatest net + 1)
measure_at_first net table within = sum_by-le (λ key. measure_of (greatest net) (weight_of table key)) (2 * greatest net + 1) (all_keys (shape_of net))
    (λ k d inside. measure_limited (greatest net) (weight_of table _) (λ w has. within (edge_of _ w) has))

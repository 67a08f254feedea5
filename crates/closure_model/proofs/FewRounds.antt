-- Rounds are at most one more than the points.
use Rattle.std.proofs.Common.{◌≡◌, ◌≢◌, ℕ, ℤ, pos, ◌<ℤ◌, suc, ◌+◌, ◌<◌, ◌≤◌, ◌&&◌, Bool, true, false, List, [], ◌∷◌, ◌++◌, length, Option, Some, None, refl, ap, sym, subst, ◌∙◌, arith}
use Rattle.std.specs.List.{Contains, find, flat_map}
use Rattle.std.proofs.lemmas.Bool.{and_parts}
use Rattle.net_model.specs.Network.{Plan, IsPlan}
use Rattle.net_model.specs.declared.ids.PointId.{PointId}
use Rattle.closure_model.specs.Derivations.{Support, StandsOn}
use Rattle.closure_model.specs.Keys.{Shape, shape_of, ordinary_key, all_points}
use Rattle.closure_model.specs.Orders.{goes, lowest_unplaced}
use Rattle.closure_model.specs.ReferenceRow.{reference_row}
use Rattle.closure_model.specs.ReferenceRound.{round_made, after_round}
use Rattle.closure_model.specs.ReferenceRounds.{Ending, RoundsEnd, in_cycle, in_order, after_one}
use Rattle.closure_model.specs.RoundLaws.{RoundsAreFew, UnstaleRowsStay}
use Rattle.closure_model.specs.Tables.{weight_of}
use Rattle.closure_model.proofs.Consequences.{all_points_stand}
use Rattle.closure_model.proofs.Lists.{Contains-head, Contains-tail}
use Rattle.closure_model.proofs.OrderLemmas.{find_none, find_some, in_points}
use Rattle.closure_model.proofs.RoundClosure.{standing_fits, standing_sound}
use Rattle.closure_model.proofs.RoundsLaw.{law_rounds_keep_standing}
use Rattle.closure_model.proofs.RowsNeedRows.{law_rows_need_improved_rows, gone_edge}
use Rattle.closure_model.proofs.Walks.{EndsWalk, alone, longer, walk_lower, walks_are_short}

-- ---- lists
something_in : {X Y : Type 0} (f : X → List Y) (xs : List X) → flat_map f xs ≢ [] → (x : X) × Contains xs x × (f x ≢ [])
something_in f [] some = absurd (some refl)
something_in f (x ∷ xs) some = by (λ rest. something_in f xs rest) (f x) refl some
  where
    by : (flat_map f xs ≢ [] → (y : _) × Contains xs y × (f y ≢ [])) → (ys : List _) → f x ≡ ys → ys ++ flat_map f xs ≢ [] → (y : _) × Contains (x ∷ xs) y × (f y ≢ [])
    by later [] is more = let (y, inside, has) = later more in (y, Contains-tail x xs y inside, has)
    by later (one ∷ ys) is more = (x, Contains-head x xs, λ nothing. (let clash : one ∷ ys ≡ [] = sym is ∙ nothing in absurd cc))

abbrev has_some : {X : Type 0} → List X → Bool
has_some [] = false
has_some (x ∷ xs) = true

some_there : {X : Type 0} (xs : List X) → has_some xs ≡ true → xs ≢ []
some_there [] test none = absurd cc
some_there (x ∷ xs) test none = absurd cc

none_there : {X : Type 0} (xs : List X) → has_some xs ≡ false → xs ≡ []
none_there [] test = refl
none_there (x ∷ xs) test = absurd cc

not_other : (a b : Bool) → (a && b) ≡ false → a ≡ true → b ≡ false
not_other true b holds first = holds
not_other false b holds first = absurd cc

module _ (net : Plan) (plan : IsPlan net) where
  -- if something improves in a row after a round, something improved in the round in the row of a point from which a negative ordinary edge
  -- now goes to the target
  record ComesFrom (was : Support) (to : PointId) : Type 0 where
    from : PointId
    went : goes (after_round net was).table from to ≡ true
    improved : reference_row net was.table from ≢ []

  goes_begins : (support : Support) → StandsOn net support → (from to : PointId) → goes support.table from to ≡ true → from.0 < support.table.shape.points
  goes_begins support stands from to went =
      let (weight, held, below) = gone_edge support.table from to went in
      ((standing_sound net plan support stands).keys (record { from = from; to = to; label = None; weight = weight }) held).from_point

  abbrev from_test : Support → PointId → PointId → Bool
  from_test was to from = goes (after_round net was).table from to && has_some (reference_row net was.table from)

  comes_from : (was : Support) (to : PointId) → StandsOn net was → reference_row net (after_round net was).table to ≢ [] → ComesFrom was to
  comes_from was to stands some = by (find (from_test was to) (all_points (after_round net was).table.shape)) refl
    where
      by : (o : Option PointId) → find (from_test was to) (all_points (after_round net was).table.shape) ≡ o → ComesFrom was to
      by (Some from) is =
          let found = find_some (from_test was to) (all_points (after_round net was).table.shape) from is in
          let (went, improved) = and_parts (goes (after_round net was).table from to) (has_some (reference_row net was.table from)) found.passes in
          record { from = from; went = went; improved = some_there (reference_row net was.table from) improved }
      by None is = absurd (some (law_rows_need_improved_rows net was to plan stands still))
        where
          still : (from : PointId) → goes (after_round net was).table from to ≡ true → reference_row net was.table from ≡ []
          still from went =
              let inside = goes_begins (after_round net was) (law_rounds_keep_standing net was plan stands).0 from to went in
              let test = find_none (from_test was to) (all_points (after_round net was).table.shape) from is (all_points_stand (after_round net was).table.shape from inside) in
              none_there (reference_row net was.table from) (not_other (goes (after_round net was).table from to) (has_some (reference_row net was.table from)) test went)

pub law_unstale_rows_stay : UnstaleRowsStay
law_unstale_rows_stay net support improvements to plan stands listed delta = law_rows_need_improved_rows net support to plan stands still
  where
    still : (from : PointId) → goes (after_round net support).table from to ≡ true → reference_row net support.table from ≡ []
    still from went =
        let (stands_on, lower) = law_rounds_keep_standing net support plan stands in
        let shape : (after_round net support).table.shape ≡ shape_of net = standing_fits net plan (after_round net support) stands_on in
        let inside : from.0 < length net.points = subst (λ (s : Shape). from.0 < s.points) shape (goes_begins net plan (after_round net support) stands_on from to went) in
        let (weight, held, below) = gone_edge (after_round net support).table from to went in
        by inside weight held below (has_some (reference_row net support.table from)) refl
      where
        by : from.0 < length net.points → (weight : ℤ) → weight_of (after_round net support).table (ordinary_key from to) ≡ Some weight → weight <ℤ pos 0 → (b : Bool) → has_some (reference_row net support.table from) ≡ b
            → reference_row net support.table from ≡ []
        by inside weight held below false none = none_there (reference_row net support.table from) none
        by inside weight held below true some =
            absurd (delta (record { from = from; to = to; label = None; weight = weight }, held, refl, below, listed from inside (some_there (reference_row net support.table from) some)))

-- what is known after so many rounds in which something improved: a row in which something improved in the last of them ends a walk of as
-- many points, in the table before it
pub data HasImproved (net : Plan) : ℕ → Support → Type 0 where
  never : (support : Support) → HasImproved net 0 support
  again : (count : ℕ) (was : Support) → StandsOn net was → ((to : PointId) → to.0 < was.table.shape.points → reference_row net was.table to ≢ [] → EndsWalk was.table count to) → HasImproved net count (after_round net was)

module _ (net : Plan) (plan : IsPlan net) where
  -- so a row in which something improves in the next round ends a longer one
  next_walk : (count : ℕ) (support : Support) → HasImproved net count support → (to : PointId) → to.0 < support.table.shape.points → reference_row net support.table to ≢ [] → EndsWalk support.table (suc count) to
  next_walk _ _ (never support) to inside some = alone to inside
  next_walk _ _ (again count was stands walks) to inside some =
      let came = comes_from net plan was to stands some in
      let (stands_on, lower) = law_rounds_keep_standing net was plan stands in
      let shape : (after_round net was).table.shape ≡ was.table.shape = standing_fits net plan (after_round net was) stands_on ∙ sym (standing_fits net plan was stands) in
      let from_inside : came.from.0 < was.table.shape.points = subst (λ (s : Shape). came.from.0 < s.points) shape (goes_begins net plan (after_round net was) stands_on came.from to came.went) in
      longer count came.from to inside came.went (walk_lower (after_round net was).table was.table count came.from shape lower (walks came.from from_inside came.improved))

  -- one round more in which something improves: there are still no more of them than points
  pub improves_again : (count : ℕ) (support : Support) → StandsOn net support → HasImproved net count support → lowest_unplaced support.table ≡ None → round_made net support.table ≢ []
      → HasImproved net (suc count) (after_round net support) × (suc count ≤ length net.points)
  improves_again count support stands has left some =
      let (to, inside, improved) = something_in (reference_row net support.table) (all_points support.table.shape) some in
      let short = walks_are_short support.table (suc count) to left (next_walk count support has to (in_points support.table to inside) improved) in
      let points : support.table.shape.points ≡ length net.points = ap (λ (s : Shape). s.points) (standing_fits net plan support stands) in
      (again (suc count) support stands (next_walk count support has), omega arith)

  few : (start after : Support) (rounds : ℕ) (ending : Ending) (count : ℕ) → StandsOn net start → HasImproved net count start → count ≤ length net.points → RoundsEnd net start rounds after ending → count + rounds ≤ suc (length net.points)
  few start after _ ending count stands has small (in_cycle _ first left) = omega arith
  few start after _ ending count stands has small (in_order _ left none) = omega arith
  few start after _ ending count stands has small (after_one _ _ more _ left some rest) =
      let (on, enough) = improves_again count start stands has left some in
      let later = few (after_round net start) after more ending (suc count) (law_rounds_keep_standing net start plan stands).0 on enough rest in
      omega arith

pub law_rounds_are_few : RoundsAreFew
law_rounds_are_few net start after rounds ending plan stands ends = let all = few net plan start after rounds ending 0 stands (never start) (omega arith) ends in omega arith

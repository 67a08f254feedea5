-- The steps of the loops of a row.
use Rattle.std.proofs.Common.{◌≡◌, ℕ, zero, suc, ◌+◌, ◌<◌, ◌≤◌, ◌==◌, ℤ, Bool, true, false, cond, List, [], ◌∷◌, ◌++◌, length, map, filter, fold, take, drop, get_or, Option, Some, None, refl, ap, sym, subst, ◌∙◌, arith, append-nil}
use Rattle.std.specs.Prelude.{slice_set}
use Rattle.std.specs.List.{flat_map, filter_map, cons_option, range_with_len, enumerate_from, position, position_or_len}
use Rattle.std.specs.Option.{option_to_list}
use Rattle.std.proofs.lemmas.Grind.{common_steps}
use Rattle.std.proofs.lemmas.List.{map-append}
use Rattle.std.proofs.lemmas.List.Concat.{flat_map-append}
use Rattle.std.proofs.lemmas.List.Elements.{filter_map-append}
use Rattle.std.proofs.lemmas.List.FromFn.{map-range_with_len_more}
use Rattle.std.proofs.lemmas.List.Sums.{position_or_len_is}
use Rattle.std.proofs.lemmas.Option.{get_or_from_slice_get}
use Rattle.net_model.specs.Network.{Plan, links_from}
use Rattle.net_model.specs.declared.ids.LinkId.{LinkId}
use Rattle.net_model.specs.declared.ids.PointId.{PointId}
use Rattle.net_model.specs.declared.part.Edge.{Edge}
use Rattle.net_model.specs.declared.part.Link.{Link}
use Rattle.net_model.proofs.Positions.{None_from_fails}
use Rattle.closure_model.specs.Keys.{Shape, labels_at, keys_between}
use Rattle.closure_model.specs.ReferenceRow.{Making, next_slot, first_slot, consequences, relaxed, edge_in, improved}
use Rattle.closure_model.specs.Tables.{Graph}
use Rattle.closure_model.specs.declared.derivation.Node.{Node}
use Rattle.closure_model.specs.declared.rows.Made.{Made}
use Rattle.closure_model.specs.declared.rows.Slot.{Slot}
use Rattle.closure_model.proofs.RowRun.{IsUnderWay, next_there, fewer_after, under_way_next}
use Rattle.closure_model.proofs.RowSteps.{unsettled, after_slot}
use Rattle.example_references.specs.NodeTables.{table_in}
use Rattle.example_references.proofs.NodeFacts.{shape_agrees}

-- ---- an item of a list changed, one after another
module _ {X : Type 0} (f : X → X) where
  mixed_at : (xs : List X) (k : ℕ) (d : X) → k < length xs → get_or (map f (take k xs) ++ drop k xs) k d ≡ get_or xs k d
  mixed_at [] k d inside = absurd (omega arith)
  mixed_at (x ∷ xs) zero d inside = refl
  mixed_at (x ∷ xs) (suc k) d inside = mixed_at xs k d (omega arith)

  mixed_set : (xs : List X) (k : ℕ) (d : X) → k < length xs → slice_set (map f (take k xs) ++ drop k xs) k (f (get_or xs k d)) ≡ map f (take (suc k) xs) ++ drop (suc k) xs
  mixed_set [] k d inside = absurd (omega arith)
  mixed_set (x ∷ xs) zero d inside = refl
  mixed_set (x ∷ xs) (suc k) d inside = ap (λ (ys : List X). f x ∷ ys) (mixed_set xs k d (omega arith))

  pub changed_more : (xs now : List X) (k : ℕ) (new d : X) → k < length xs → now ≡ map f (take k xs) ++ drop k xs → new ≡ f (get_or now k d) → slice_set now k new ≡ map f (take (k + 1) xs) ++ drop (k + 1) xs
  changed_more xs now k new d inside was is =
      let one : suc k ≡ k + 1 = omega arith in
      let item : new ≡ f (get_or xs k d) = is ∙ ap f (ap (λ (ys : List X). get_or ys k d) was ∙ mixed_at xs k d inside) in
      (λ i. slice_set (was i) k (item i)) ∙ (mixed_set xs k d inside ∙ ap (λ n. map f (take n xs) ++ drop n xs) one)

-- ---- the first item that passes
module _ {X : Type 0} (p : X → Bool) where
  pub placed_at : (xs : List X) (k : ℕ) (d : X) → k < length xs → ((j : ℕ) → j < k → p (get_or xs j d) ≡ false) → p (get_or xs k d) ≡ true → Some k ≡ position p xs
  placed_at xs k d inside fails passes =
      let is : position_or_len p xs ≡ k = position_or_len_is p xs k d (omega arith) fails (λ within. passes) in
      grind (arith, common_steps)

  pub placed_nowhere : (xs : List X) (k : ℕ) → length xs ≤ k → ((j : ℕ) (d : X) → j < k → p (get_or xs j d) ≡ false) → None ≡ position p xs
  placed_nowhere xs k past fails = sym (None_from_fails p xs (λ j d inside. fails j d (omega arith)))

-- ---- one more source
points_more : (from : ℕ) → ◌≡◌ {A = List PointId} (map (λ k. record { 0 = k }) (range_with_len 0 (from + 1))) (map (λ k. record { 0 = k }) (range_with_len 0 from) ++ record { 0 = from } ∷ [])
points_more from = map-range_with_len_more (λ (k : ℕ). record { 0 = k }) 0 from from (omega arith)

as_list : {Y : Type 0} (o : Option Y) → cons_option o [] ≡ option_to_list o
as_list None = refl
as_list (Some y) = refl

pub filtered_more : {Y : Type 0} (h : PointId → Option Y) (from : ℕ) (before after : List Y) → before ≡ filter_map h (map (λ k. record { 0 = k }) (range_with_len 0 from)) → after ≡ before ++ option_to_list (h (record { 0 = from }))
    → after ≡ filter_map h (map (λ k. record { 0 = k }) (range_with_len 0 (from + 1)))
filtered_more {Y} h from before after was is =
    let points : List PointId = map (λ k. record { 0 = k }) (range_with_len 0 from) in
    is ∙ ((λ i. was i ++ sym (as_list (h (record { 0 = from }))) i) ∙ (sym (filter_map-append h points (record { 0 = from } ∷ [])) ∙ ap (filter_map h) (sym (points_more from))))

pub flat_more : {Y : Type 0} (f : PointId → List Y) (from : ℕ) (before after : List Y) → before ≡ flat_map f (map (λ k. record { 0 = k }) (range_with_len 0 from)) → after ≡ before ++ f (record { 0 = from })
    → after ≡ flat_map f (map (λ k. record { 0 = k }) (range_with_len 0 (from + 1)))
flat_more {Y} f from before after was is =
    let points : List PointId = map (λ k. record { 0 = k }) (range_with_len 0 from) in
    let one : flat_map f (points ++ record { 0 = from } ∷ []) ≡ flat_map f points ++ f (record { 0 = from }) = flat_map-append f points (record { 0 = from } ∷ [])
    ∙ ap (λ (ys : List Y). flat_map f points ++ ys) (append-nil (f (record { 0 = from }))) in
    is ∙ (ap (λ (ys : List Y). ys ++ f (record { 0 = from })) was ∙ (sym one ∙ ap (flat_map f) (sym (points_more from))))

-- the slots of the sources before one
abbrev pub slots_before : Graph → PointId → ℕ → List Slot
slots_before table to from = map (first_slot table) (flat_map (keys_between table.shape to) (map (λ k. record { 0 = k }) (range_with_len 0 from)))

-- the slots of one more source
pub source_more : (table : Graph) (to : PointId) (from : ℕ) (before after : List Slot)
    → before ≡ slots_before table to from
    → after ≡ before ++ map (first_slot table) (keys_between table.shape to (record { 0 = from }))
    → after ≡ slots_before table to (from + 1)
source_more table to from before after was is =
    let points : List PointId = map (λ k. record { 0 = k }) (range_with_len 0 from) in
    let keys = flat_more (keys_between table.shape to) from (flat_map (keys_between table.shape to) points) (flat_map (keys_between table.shape to) points ++ keys_between table.shape to (record { 0 = from })) refl refl in
    is ∙ (ap (λ (ys : List Slot). ys ++ map (first_slot table) (keys_between table.shape to (record { 0 = from }))) was
    ∙ (sym (map-append (first_slot table) (flat_map (keys_between table.shape to) points) (keys_between table.shape to (record { 0 = from }))) ∙ ap (map (first_slot table)) keys))

-- ---- the links that a point activates, by the network and by its shape
-- the places in pairs of them and links, and in pairs of them and points
abbrev link_places : List (ℕ × Link) → List LinkId
link_places pairs = map (λ (l : ℕ × Link). record { 0 = l.0 }) pairs

abbrev point_places : List (ℕ × PointId) → List LinkId
point_places pairs = map (λ (e : ℕ × PointId). record { 0 = e.0 }) pairs

-- those of links that a point activates, and of that point
abbrev links_in : PointId → ℕ → List Link → List (ℕ × Link)
links_in to n links = filter (λ (l : ℕ × Link). l.1.from.0 == to.0) (enumerate_from n links)

abbrev points_in : PointId → ℕ → List Link → List (ℕ × PointId)
points_in to n links = filter (λ (e : ℕ × PointId). e.1.0 == to.0) (enumerate_from n (map (λ (link : Link). link.from) links))

labels_same : (to : PointId) (n : ℕ) (links : List Link) → link_places (links_in to n links) ≡ point_places (points_in to n links)
labels_same to n [] = refl
labels_same to n (link ∷ links) = by (link.from.0 == to.0) (labels_same to (n + 1) links)
  where
    by : (b : Bool) → link_places (links_in to (n + 1) links) ≡ point_places (points_in to (n + 1) links)
        → link_places (cond b ((n, link) ∷ links_in to (n + 1) links) (links_in to (n + 1) links)) ≡ point_places (cond b ((n, link.from) ∷ points_in to (n + 1) links) (points_in to (n + 1) links))
    by true rest = ap (λ (ls : List LinkId). record { 0 = n } ∷ ls) rest
    by false rest = rest

pub labels_agree : (net : Plan) (nodes : List Node) (to : PointId) → links_from net to ≡ labels_at (table_in net nodes).shape to
labels_agree net nodes to = labels_same to 0 net.links ∙ ap (λ (s : Shape). labels_at s to) (sym (shape_agrees net nodes))

-- ---- the slot that is settled next
module _ (net : Plan) (table : Graph) (to : PointId) (making : Making) (progress : IsUnderWay net table to making) (next : ℕ × ℤ) (some : next_slot making.slots ≡ Some next) (slot d : Slot) (read : slot ≡ get_or making.slots next.0 d) where
  there_is : slot ≡ (next_there net table to making next some).slot
  there_is = let there = next_there net table to making next some in read ∙ get_or_from_slice_get making.slots next.0 there.slot d there.here

  -- what the settling of the slot makes of the row
  module _ (marked : Slot) (edge : Edge) (follow : List Made) (slots : List Slot) (made : List Made) (is_marked : marked ≡ record slot { settled = true }) (is_edge : edge ≡ edge_in to slot next.1)
      (follows : follow ≡ consequences net table edge) (is_slots : slots ≡ fold relaxed (slice_set making.slots next.0 marked) follow) (is_made : made ≡ making.made ++ improved to slot next.1) where
    after_is : after_slot net table to making next (next_there net table to making next some).slot ≡ record { slots = slots; made = made }
    after_is =
        let slots_are : slots ≡ fold relaxed (slice_set making.slots next.0 (record slot { settled = true })) (consequences net table (edge_in to slot next.1)) =
        is_slots ∙ (λ i. fold relaxed (slice_set making.slots next.0 (is_marked i)) ((follows ∙ ap (consequences net table) is_edge) i)) in
        ap (after_slot net table to making next) (sym there_is) ∙ (λ i. record { slots = sym slots_are i; made = sym is_made i })

    pub still_under_way : IsUnderWay net table to (record { slots = slots; made = made })
    still_under_way = subst (IsUnderWay net table to) after_is (under_way_next net table to making next some progress)

    pub progress_fewer : unsettled slots < unsettled making.slots
    progress_fewer = subst (λ (m : Making). unsettled m.slots < unsettled making.slots) after_is (fewer_after net table to making next some)

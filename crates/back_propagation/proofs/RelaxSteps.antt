-- What is relaxed in a row goes to one slot, and the slots keep their keys.
use Rattle.std.proofs.Common.{◌≡◌, ℕ, zero, suc, ◌+◌, ◌*◌, ◌^◌, ◌<◌, ◌≤◌, ℤ, pos, ◌≤ℤ◌, ◌<ℤ◌, Bool, true, false, cond, List, [], ◌∷◌, ◌++◌, length, map, fold, get_or, Option, Some, None, IfSome, refl, ap, sym, subst, ◌∙◌, arith, ◌==◌}
use Rattle.std.proofs.Common.{append-nil}
use Rattle.std.specs.Prelude.{slice_get, position, slice_set, unsigned_abs, filter}
use Rattle.std.specs.Option.{option_map, option_map_or}
use Rattle.std.specs.List.{Contains, flat_map, enumerate_from}
use Rattle.std.proofs.lemmas.Int.{ints}
use Rattle.std.proofs.lemmas.Nat.{mul-add-lt, mul-le}
use Rattle.std.proofs.lemmas.Option.{slice_get-map, same_Some, slice_get_within, get_or_from_slice_get}
use Rattle.std.proofs.lemmas.List.Elements.{All-contains, Contains-get_or}
use Rattle.std.proofs.lemmas.List.Quantifiers.{position-Some}
use Rattle.std.proofs.lemmas.List.Sums.{fold-append}
use Rattle.std.proofs.Math.ListN.{length-map}
use Rattle.net_model.specs.Limits.{most_points, most_links, most_weight}
use Rattle.net_model.specs.Network.{Plan, IsPlan, IsLink, IsPoint, activation}
use Rattle.net_model.specs.Edges.{IsLinkOf}
use Rattle.net_model.specs.Rules.{joined_weight, no_case, upper_case, lower_case, cross_case, removal}
use Rattle.net_model.specs.declared.ids.LinkId.{LinkId}
use Rattle.net_model.specs.declared.ids.PointId.{PointId}
use Rattle.net_model.specs.declared.part.Edge.{Edge}
use Rattle.net_model.specs.declared.part.Link.{Link}
use Rattle.net_model.proofs.NetworkLemmas.{greatest-le}
use Rattle.net_model.proofs.RuleLemmas.{no_case_gives, upper_case_gives, lower_case_gives, cross_case_gives, removal_gives}
use Rattle.closure_model.specs.Keys.{Key, Shape, key_of, row_keys, labels_at, IsLabelAt}
use Rattle.closure_model.specs.ReferenceRow.{given, is_slot_of, has_above, taken, relaxed, from_removal, over_link, from_link, from_first, ordinary_into, consequences, IsWithin}
use Rattle.closure_model.specs.Tables.{Graph, HasEdge, edges_of, row_of, IsGraph}
use Rattle.closure_model.specs.declared.rows.Made.{Made}
use Rattle.closure_model.specs.declared.rows.Slot.{Slot}
use Rattle.closure_model.specs.declared.rows.Why.{Why}
use Rattle.closure_model.specs.declared.rows.Why.TheVariants.{No, Up, Low, Cross}
use Rattle.labelled_graph.specs.Entries.{edge_into, is_ordinary}
use Rattle.labelled_graph.specs.declared.entry.Entry.{Entry}
use Rattle.closure_model.proofs.KeyLists.{row_keys_rise}
use Rattle.closure_model.proofs.Lists.{Contains-map, Contains-filter_from}
use Rattle.closure_model.proofs.Nodes.{listed_at}
use Rattle.closure_model.proofs.KeyPlaces.{only_place}
use Rattle.closure_model.proofs.TableLemmas.{listed_edge}
use Rattle.closure_model.proofs.Slots.{some_of_map, slot_of_key, key_of_slot, relaxed_keys}
use Rattle.closure_model.proofs.ThinnedLemmas.{heavy_first}
use Rattle.back_propagation.specs.SlotPlaces.{place_in_slots, width_of, HasColumn, slot_key, IsSlotAt, after_entry, IsRowAgainst, IsOfRow}
use Rattle.back_propagation.proofs.RowPlaces.{row_at, at_column, column_inside}

-- ---- one slot
nothing_taken : (made : Made) (slots : List Slot) → ((other : ℕ) (one : Slot) → slice_get slots other ≡ Some one → is_slot_of made.edge one ≡ true → ⊥) → relaxed slots made ≡ slots
nothing_taken made [] none = refl
nothing_taken made (x ∷ xs) none = by (is_slot_of made.edge x) refl (nothing_taken made xs (λ other one here is. none (suc other) one here is))
  where
    by : (b : Bool) → is_slot_of made.edge x ≡ b → relaxed xs made ≡ xs → cond b (taken made x) x ∷ relaxed xs made ≡ x ∷ xs
    by true is rest = absurd (none 0 x refl is)
    by false is rest = ap (λ (list : List Slot). x ∷ list) rest

relaxed_set : (made : Made) (slots : List Slot) (place : ℕ) (slot : Slot) → slice_get slots place ≡ Some slot → is_slot_of made.edge slot ≡ true
    → ((other : ℕ) (one : Slot) → slice_get slots other ≡ Some one → is_slot_of made.edge one ≡ true → other ≡ place) → relaxed slots made ≡ slice_set slots place (taken made slot)
relaxed_set made [] place slot here is only = absurd cc
relaxed_set made (x ∷ xs) zero slot here is only =
    let same : x ≡ slot = same_Some x slot here in
    let head : is_slot_of made.edge x ≡ true = ap (is_slot_of made.edge) same ∙ is in
    let rest : relaxed xs made ≡ xs = nothing_taken made xs (λ other one at one_is. (let place = only (suc other) one at one_is in absurd (omega arith))) in
    ap (λ (b : Bool). cond b (taken made x) x ∷ relaxed xs made) head ∙ (ap (λ (list : List Slot). taken made x ∷ list) rest ∙ ap (λ (s : Slot). taken made s ∷ xs) same)
relaxed_set made (x ∷ xs) (suc place) slot here is only =
    by (is_slot_of made.edge x) refl (relaxed_set made xs place slot here is (λ other one at one_is. (let next = only (suc other) one at one_is in omega arith)))
  where
    by : (b : Bool) → is_slot_of made.edge x ≡ b → relaxed xs made ≡ slice_set xs place (taken made slot) → cond b (taken made x) x ∷ relaxed xs made ≡ x ∷ slice_set xs place (taken made slot)
    by true head rest = let place = only 0 x refl head in absurd (omega arith)
    by false head rest = ap (λ (list : List Slot). x ∷ list) rest

pub relax_sets : (slots : List Slot) (place : ℕ) (made : Made) (d : Slot) → IsSlotAt slots place made.edge → slice_set slots place (taken made (get_or slots place d)) ≡ relaxed slots made
relax_sets slots place made d at =
    let same : get_or slots place d ≡ at.slot = get_or_from_slice_get slots place at.slot d at.here in
    ap (λ (s : Slot). slice_set slots place (taken made s)) same ∙ sym (relaxed_set made slots place at.slot at.here at.of_key at.only)

pub relax_takes : (slots : List Slot) (place : ℕ) (made : Made) (at : IsSlotAt slots place made.edge) → slice_set slots place (taken made at.slot) ≡ relaxed slots made
relax_takes slots place made at = sym (relaxed_set made slots place at.slot at.here at.of_key at.only)

-- ---- rows against a table
pub labels_few : (to : PointId) (n : ℕ) (begins : List PointId) → length (filter (λ (e : ℕ × PointId). e.1.0 == to.0) (enumerate_from n begins)) ≤ length begins
labels_few to n [] = omega arith
labels_few to n (p ∷ ps) = by (p.0 == to.0) (labels_few to (n + 1) ps)
  where
    by : (b : Bool) → length (filter (λ (e : ℕ × PointId). e.1.0 == to.0) (enumerate_from (n + 1) ps)) ≤ length ps
        → length (cond b ((n, p) ∷ filter (λ (e : ℕ × PointId). e.1.0 == to.0) (enumerate_from (n + 1) ps)) (filter (λ (e : ℕ × PointId). e.1.0 == to.0) (enumerate_from (n + 1) ps))) ≤ suc (length ps)
    by true rest = omega arith
    by false rest = omega arith

pub width_under : (table : Graph) (to : PointId) (width : ℕ) → IsGraph table → width ≡ width_of table.shape to → width ≤ most_links + 1
width_under table to width sound wide =
    let few = labels_few to 0 table.shape.activations in
    let same : length (labels_at table.shape to) ≡ length (filter (λ (e : ℕ × PointId). e.1.0 == to.0) (enumerate_from 0 table.shape.activations)) =
    length-map {B = LinkId} (filter (λ (e : ℕ × PointId). e.1.0 == to.0) (enumerate_from 0 table.shape.activations)) (λ (e : ℕ × PointId). record { 0 = e.0 }) in
    let links = sound.few_links in
    omega (arith, few, same, wide, links)

pub place_under : (table : Graph) (to : PointId) (width : ℕ) → IsGraph table → width ≡ width_of table.shape to → (from : PointId) (column : ℕ) → from.0 < table.shape.points → column < width → place_in_slots width from column < 2 ^ 64
place_under table to width sound wide from column inside within =
    let below : from.0 * width + column < width * table.shape.points = mul-add-lt from.0 width column table.shape.points inside within in
    let most : width * table.shape.points ≤ (most_links + 1) * most_points = mul-le width table.shape.points (most_links + 1) most_points (width_under table to width sound wide) sound.few_points in
    omega (arith, below, most)

module _ (net : Plan) (table : Graph) (to : PointId) (slots : List Slot) (width : ℕ) (row : IsRowAgainst net table to slots width) where
  pub width_few : width ≤ most_links + 1
  width_few = width_under table to width row.sound row.wide

  pub place_fits : (from : PointId) (column : ℕ) → from.0 < table.shape.points → column < width → place_in_slots width from column < 2 ^ 64
  place_fits = place_under table to width row.sound row.wide

  pub slot_at : (edge : Edge) (column : ℕ) → edge.to ≡ to → edge.from.0 < table.shape.points → HasColumn table.shape to edge.label column → IsSlotAt slots (place_in_slots width edge.from column) edge
  slot_at edge column ends inside has =
      let place : ℕ = place_in_slots width edge.from column in
      let within : column < width_of table.shape to = column_inside table.shape to edge.label column has in
      let there : slice_get (row_keys table.shape to) (edge.from.0 * width_of table.shape to + column) ≡ Some (record { to = to; from = edge.from; label = edge.label }) =
      row_at table.shape to edge.from column inside within ∙ at_column table.shape to edge.from edge.label column has in
      let key : record { to = to; from = edge.from; label = edge.label } ≡ key_of edge = λ i. record { to = sym ends i; from = edge.from; label = edge.label } in
      let at : slice_get (row_keys table.shape to) (place_in_slots width edge.from column) ≡ Some (key_of edge) = ap (λ (w : ℕ). slice_get (row_keys table.shape to) (edge.from.0 * w + column)) row.wide ∙ (there ∙ ap Some key) in
      let (slot, here, of_key) = some_of_map (slot_key to) (slice_get slots (place_in_slots width edge.from column)) (key_of edge)
      (sym (slice_get-map (slot_key to) slots (place_in_slots width edge.from column)) ∙ (ap (λ (ks : List Key). slice_get ks (place_in_slots width edge.from column)) row.keys ∙ at)) in
      record {
        slot = slot;
        here = here;
        of_key = key_of_slot to edge slot of_key;
        only = λ other one one_here one_is. only_place (row_keys table.shape to) (row_keys_rise table.shape to) other (place_in_slots width edge.from column) (key_of edge)
            (ap (λ (ks : List Key). slice_get ks other) (sym row.keys) ∙ (slice_get-map (slot_key to) slots other ∙ (ap (option_map (slot_key to)) one_here ∙ ap Some (slot_of_key to edge one ends one_is)))) at;
      }

relaxes_keys : (to : PointId) (slots : List Slot) (list : List Made) → map (slot_key to) (fold relaxed slots list) ≡ map (slot_key to) slots
relaxes_keys to slots [] = refl
relaxes_keys to slots (made ∷ list) = relaxes_keys to (relaxed slots made) list ∙ relaxed_keys to slots made

pub row_kept : (net : Plan) (table : Graph) (to : PointId) (slots after : List Slot) (width : ℕ) (list : List Made) → after ≡ fold relaxed slots list → IsRowAgainst net table to slots width → IsRowAgainst net table to after width
row_kept net table to slots after width list is row = record {
  plan = row.plan;
  fits = row.fits;
  sound = row.sound;
  within = row.within;
  wide = row.wide;
  keys = ap (map (slot_key to)) is ∙ (relaxes_keys to slots list ∙ row.keys);
}

-- ---- links
-- the link that ends in a point is one of the network
pub activation_known : (net : Plan) (point : PointId) (name : LinkId) → activation net point ≡ Some name → name.0 < length net.links
activation_known net point name is = by (position (λ (l : Link). l.to.0 == point.0) net.links) refl is
  where
    by : (o : Option ℕ) → position (λ (l : Link). l.to.0 == point.0) net.links ≡ o → option_map (λ k. record { 0 = k }) o ≡ Some name → name.0 < length net.links
    by None here found = absurd cc
    by (Some k) here found =
        let same : k ≡ name.0 = ap (λ (l : LinkId). l.0) (same_Some (record { 0 = k }) name found) in
        let (inside, passes, before) = position-Some (λ (l : Link). l.to.0 == point.0) net.links k (record { from = point; low = pos 0; high = pos 0; to = point }) here in
        omega arith

-- ---- an edge of a row
-- a weight from -M to M is one that a rule takes
pub weight_small : (net : Plan) (weight : ℤ) → IsPlan net → IsWithin net weight → unsigned_abs weight ≤ most_weight
weight_small net weight plan within = let small = greatest-le net plan in omega (arith, within, small)

module _ (net : Plan) (table : Graph) (to : PointId) (slots : List Slot) (width : ℕ) (row : IsRowAgainst net table to slots width) (edge : Edge) (column : ℕ) (is : IsOfRow net table to edge column) where
  points_are : table.shape.points ≡ length net.points
  points_are = ap (λ (s : Shape). s.points) row.fits

  pub from_inside : edge.from.0 < table.shape.points
  from_inside = is.key.from_point

  pub from_point : IsPoint net edge.from
  from_point = subst (λ (n : ℕ). edge.from.0 < n) points_are is.key.from_point

  pub column_within : column < width
  column_within = let within = column_inside table.shape to edge.label column is.in_column in let wide = row.wide in omega arith

  pub label_is_link : IfSome edge.label (λ name. name.0 < length net.links)
  label_is_link = by edge.label is.key.labelled
    where
      by : (label : Option LinkId) → IsLabelAt table.shape edge.to label → IfSome label (λ name. name.0 < length net.links)
      by None at = tt
      by (Some name) at =
          let inside = slice_get_within table.shape.activations name.0 edge.to at in
          let same : length table.shape.activations ≡ length net.links = ap (λ (s : Shape). length s.activations) row.fits ∙ length-map net.links (λ (l : Link). l.from) in
          omega arith

  pub removal_slot : (o : Option Edge) → o ≡ removal net edge → IfSome o (IsSlotAt slots (place_in_slots width edge.from 0))
  removal_slot None gave = tt
  removal_slot (Some other) gave =
      let gives = removal_gives net edge other (sym gave) in
      let from : other.from ≡ edge.from = ap (λ (e : Edge). e.from) (sym gives.is) in
      let ends : other.to ≡ to = ap (λ (e : Edge). e.to) (sym gives.is) ∙ is.ends in
      let label : other.label ≡ None = ap (λ (e : Edge). e.label) (sym gives.is) in
      subst (λ (p : PointId). IsSlotAt slots (place_in_slots width p 0) other) from
      (slot_at net table to slots width row other 0 ends (subst (λ (p : PointId). p.0 < table.shape.points) (sym from) is.key.from_point) (subst (λ (l : Option LinkId). HasColumn table.shape to l 0) (sym label) refl))

  pub link_from : (name : LinkId) (link : Link) → IsLinkOf net name link → link.from.0 < table.shape.points
  link_from name link declared = subst (λ (n : ℕ). link.from.0 < n) (sym points_are) (All-contains (IsLink net) net.links link row.plan.links_sound (listed_at net.links name.0 link declared)).from_point

  pub lower_slot : (name : LinkId) (link : Link) (o : Option Edge) → IsLinkOf net name link → o ≡ lower_case net name edge → IfSome o (IsSlotAt slots (place_in_slots width link.from column))
  lower_slot name link None declared gave = tt
  lower_slot name link (Some other) declared gave =
      let gives = lower_case_gives net name edge other (sym gave) in
      let same : gives.link ≡ link = same_Some gives.link link (sym gives.declared ∙ declared) in
      let from : other.from ≡ link.from = ap (λ (e : Edge). e.from) (sym gives.is) ∙ ap (λ (l : Link). l.from) same in
      let ends : other.to ≡ to = ap (λ (e : Edge). e.to) (sym gives.is) ∙ is.ends in
      let label : edge.label ≡ other.label = ap (λ (e : Edge). e.label) gives.is in
      subst (λ (p : PointId). IsSlotAt slots (place_in_slots width p column) other) from
      (slot_at net table to slots width row other column ends (subst (λ (p : PointId). p.0 < table.shape.points) (sym from) (link_from name link declared))
      (subst (λ (l : Option LinkId). HasColumn table.shape to l column) label is.in_column))

  pub cross_slot : (name : LinkId) (link : Link) (o : Option Edge) → IsLinkOf net name link → o ≡ cross_case net name edge → IfSome o (IsSlotAt slots (place_in_slots width link.from column))
  cross_slot name link None declared gave = tt
  cross_slot name link (Some other) declared gave =
      let gives = cross_case_gives net name edge other (sym gave) in
      let same : gives.link ≡ link = same_Some gives.link link (sym gives.declared ∙ declared) in
      let from : other.from ≡ link.from = ap (λ (e : Edge). e.from) (sym gives.is) ∙ ap (λ (l : Link). l.from) same in
      let ends : other.to ≡ to = ap (λ (e : Edge). e.to) (sym gives.is) ∙ is.ends in
      let label : edge.label ≡ other.label = ap (λ (e : Edge). e.label) gives.is in
      subst (λ (p : PointId). IsSlotAt slots (place_in_slots width p column) other) from
      (slot_at net table to slots width row other column ends (subst (λ (p : PointId). p.0 < table.shape.points) (sym from) (link_from name link declared))
      (subst (λ (l : Option LinkId). HasColumn table.shape to l column) label is.in_column))

  pub no_case_slot : (first : Edge) (o : Option Edge) → HasEdge table first → o ≡ no_case first edge → IfSome o (IsSlotAt slots (place_in_slots width first.from column))
  no_case_slot first None has gave = tt
  no_case_slot first (Some other) has gave =
      let gives = no_case_gives first edge other (sym gave) in
      let from : other.from ≡ first.from = ap (λ (e : Edge). e.from) (sym gives.is) in
      let ends : other.to ≡ to = ap (λ (e : Edge). e.to) (sym gives.is) ∙ is.ends in
      let label : edge.label ≡ other.label = gives.second_ordinary ∙ ap (λ (e : Edge). e.label) gives.is in
      subst (λ (p : PointId). IsSlotAt slots (place_in_slots width p column) other) from
      (slot_at net table to slots width row other column ends (subst (λ (p : PointId). p.0 < table.shape.points) (sym from) (row.sound.keys first has).from_point)
      (subst (λ (l : Option LinkId). HasColumn table.shape to l column) label is.in_column))

  pub upper_case_slot : (first : Edge) (o : Option Edge) → HasEdge table first → o ≡ upper_case first edge → IfSome o (IsSlotAt slots (place_in_slots width first.from column))
  upper_case_slot first None has gave = tt
  upper_case_slot first (Some other) has gave =
      let gives = upper_case_gives first edge other (sym gave) in
      let from : other.from ≡ first.from = ap (λ (e : Edge). e.from) (sym gives.is) in
      let ends : other.to ≡ to = ap (λ (e : Edge). e.to) (sym gives.is) ∙ is.ends in
      let label : edge.label ≡ other.label = ap (λ (e : Edge). e.label) gives.is in
      subst (λ (p : PointId). IsSlotAt slots (place_in_slots width p column) other) from
      (slot_at net table to slots width row other column ends (subst (λ (p : PointId). p.0 < table.shape.points) (sym from) (row.sound.keys first has).from_point)
      (subst (λ (l : Option LinkId). HasColumn table.shape to l column) label is.in_column))

-- ---- the lists of consequences
-- what follows with the entries of a row, those without a label
entries_follow : (edge : Edge) (entries : List Entry) → flat_map (after_entry edge) entries ≡ flat_map (from_first edge) (map (edge_into edge.from) (filter is_ordinary entries))
entries_follow edge [] = refl
entries_follow edge (entry ∷ entries) = by (is_ordinary entry) (entries_follow edge entries)
  where
    by : (b : Bool) → flat_map (after_entry edge) entries ≡ flat_map (from_first edge) (map (edge_into edge.from) (filter is_ordinary entries))
        → cond b (from_first edge (edge_into edge.from entry)) [] ++ flat_map (after_entry edge) entries ≡ flat_map (from_first edge) (map (edge_into edge.from) (cond b (entry ∷ filter is_ordinary entries) (filter is_ordinary entries)))
    by true rest = ap (λ (list : List Made). from_first edge (edge_into edge.from entry) ++ list) rest
    by false rest = rest

pub entries_all : (table : Graph) (edge : Edge) (entries : List Entry) → map (edge_into edge.from) (filter is_ordinary entries) ≡ ordinary_into table edge.from
    → flat_map (after_entry edge) entries ≡ flat_map (from_first edge) (ordinary_into table edge.from)
entries_all table edge entries are = entries_follow edge entries ∙ ap (flat_map (from_first edge)) are

-- an edge of an entry is one of the table
pub entry_held : (table : Graph) (to : PointId) (entries : List Entry) (i : ℕ) (d : Entry) → map (edge_into to) entries ≡ row_of table to → i < length entries → HasEdge table (edge_into to (get_or entries i d))
entry_held table to entries i d are inside =
    let among : Contains (map (edge_into to) entries) (edge_into to (get_or entries i d)) = Contains-map (edge_into to) entries (get_or entries i d) (Contains-get_or entries i d inside) in
    listed_edge table (edge_into to (get_or entries i d)) (Contains-filter_from (λ (edge : Edge). edge.to.0 == to.0) (edges_of table) (edge_into to (get_or entries i d))
    (subst (λ (list : List Edge). Contains list (edge_into to (get_or entries i d))) are among))

-- an edge of weight 0 or more goes on over no link and after no edge
not_negative : (edge : Edge) → pos 0 ≤ℤ edge.weight → (w : ℤ) → w ≡ edge.weight → w <ℤ pos 0 → ⊥
not_negative edge high w same low = grind (arith, ints)

never_given : (why : Why) (o : Option Edge) → ((e : Edge) → o ≡ Some e → ⊥) → given why o ≡ []
never_given why None none = refl
never_given why (Some e) none = absurd (none e refl)

firsts_none : (edge : Edge) → pos 0 ≤ℤ edge.weight → (firsts : List Edge) → flat_map (from_first edge) firsts ≡ []
firsts_none edge high [] = refl
firsts_none edge high (first ∷ firsts) = let one = heavy_first edge first high in let rest = firsts_none edge high firsts in rw (one, rest) refl

from_link_none : (net : Plan) (edge : Edge) → pos 0 ≤ℤ edge.weight → from_link net edge ≡ []
from_link_none net edge high = by (activation net edge.from)
  where
    by : (o : Option LinkId) → option_map_or (over_link net edge) o [] ≡ []
    by None = refl
    by (Some name) =
        let one : given (Low name edge) (lower_case net name edge) ≡ [] = never_given (Low name edge) (lower_case net name edge) (λ e is. not_negative edge high edge.weight refl (lower_case_gives net name edge e is).negative) in
        let two : given (Cross name edge) (cross_case net name edge) ≡ [] = never_given (Cross name edge) (cross_case net name edge) (λ e is. not_negative edge high edge.weight refl (cross_case_gives net name edge e is).negative) in
        rw (one, two) refl

pub consequences_of_heavy : (net : Plan) (table : Graph) (edge : Edge) → pos 0 ≤ℤ edge.weight → from_removal net edge ≡ consequences net table edge
consequences_of_heavy net table edge high =
    let link = from_link_none net edge high in
    let firsts = firsts_none edge high (ordinary_into table edge.from) in
    let same : consequences net table edge ≡ from_removal net edge ++ [] = rw (link, firsts) refl in
    sym (same ∙ append-nil (from_removal net edge))

-- ---- what stands at the place of a relaxation
pub at_place : (slots : List Slot) (place : ℕ) (made : Made) (d : Slot) → IsSlotAt slots place made.edge → slice_get slots place ≡ Some (get_or slots place d)
at_place slots place made d at = at.here ∙ ap Some (sym (get_or_from_slice_get slots place at.slot d at.here))

same_set : (slots : List Slot) (place : ℕ) (slot : Slot) → slice_get slots place ≡ Some slot → slice_set slots place slot ≡ slots
same_set [] place slot here = absurd cc
same_set (x ∷ xs) zero slot here = ap (λ (s : Slot). s ∷ xs) (sym (same_Some x slot here))
same_set (x ∷ xs) (suc place) slot here = ap (λ (list : List Slot). x ∷ list) (same_set xs place slot here)

-- a relaxation that is not below the slot changes nothing
pub relax_leaves : (slots : List Slot) (place : ℕ) (made : Made) (d : Slot) → IsSlotAt slots place made.edge → has_above (get_or slots place d) made.edge.weight ≡ false → slots ≡ relaxed slots made
relax_leaves slots place made d at not =
    let slot : Slot = get_or slots place d in
    let kept : taken made slot ≡ slot = ap (λ (b : Bool). cond b (record slot { weight = Some made.edge.weight; why = Some made.why }) slot) not in
    sym (ap (slice_set slots place) kept ∙ same_set slots place slot (at_place slots place made d at)) ∙ relax_sets slots place made d at

-- ---- what is no lesser than the slot
leaves_given : (slots : List Slot) (place : ℕ) (d : Slot) (w : ℤ) (why : Why) (o : Option Edge) → IfSome o (IsSlotAt slots place) → ((other : Edge) → o ≡ Some other → other.weight ≡ w) → has_above (get_or slots place d) w ≡ false
    → fold relaxed slots (given why o) ≡ slots
leaves_given slots place d w why None at weights not = refl
leaves_given slots place d w why (Some other) at weights not = sym (relax_leaves slots place (record { edge = other; why = why }) d at (subst (λ (v : ℤ). has_above (get_or slots place d) v ≡ false) (sym (weights other refl)) not))

module _ (net : Plan) (table : Graph) (to : PointId) (slots : List Slot) (width : ℕ) (row : IsRowAgainst net table to slots width) (edge : Edge) (column : ℕ) (is : IsOfRow net table to edge column) (first : Edge)
    (has : HasEdge table first) where
  pub first_place : place_in_slots width first.from column < length slots
  first_place =
      let at = slot_at net table to slots width row (record { from = first.from; to = edge.to; label = edge.label; weight = edge.weight }) column is.ends (row.sound.keys first has).from_point is.in_column in
      slice_get_within slots (place_in_slots width first.from column) at.slot at.here

  pub first_unchanged : (d : Slot) → has_above (get_or slots (place_in_slots width first.from column) d) (joined_weight first edge) ≡ false → slots ≡ fold relaxed slots (from_first edge first)
  first_unchanged d not =
      let no_left = leaves_given slots (place_in_slots width first.from column) d (joined_weight first edge) (No first edge) (no_case first edge)
      (no_case_slot net table to slots width row edge column is first (no_case first edge) has refl) (λ other gave. ap (λ (e : Edge). e.weight) (sym (no_case_gives first edge other gave).is)) not in
      let up_left = leaves_given slots (place_in_slots width first.from column) d (joined_weight first edge) (Up first edge) (upper_case first edge)
      (upper_case_slot net table to slots width row edge column is first (upper_case first edge) has refl) (λ other gave. ap (λ (e : Edge). e.weight) (sym (upper_case_gives first edge other gave).is)) not in
      sym (fold-append relaxed slots (given (No first edge) (no_case first edge)) (given (Up first edge) (upper_case first edge)) ∙ (ap (λ (s : List Slot). fold relaxed s (given (Up first edge) (upper_case first edge))) no_left ∙ up_left))

-- The slots of a row as a table has it: what is stored for each key, entry after entry.
use Rattle.std.proofs.Common.{◌≡◌, ◌≢◌, ◌==◌, ◌&&◌, ◌⊎◌, ◌≤◌, ◌<◌, ◌+◌, ◌*◌, ◌/◌, ◌%◌, ◌^◌, ℕ, zero, suc, ℤ, pos, Bool, true, false, cond, List, [], ◌∷◌, length, map, replicate, get_or, Option, Some, None, IfSome, refl, ap, sym, subst, ◌∙◌}
use Rattle.std.proofs.Common.{inl, inr, arith}
use Rattle.std.specs.Prelude.{slice_get, slice_set}
use Rattle.std.specs.List.{Contains}
use Rattle.std.specs.Option.{option_map}
use Rattle.std.specs.Ordering.{int_eq}
use Rattle.std.proofs.lemmas.Bool.Decides.{nat_tests}
use Rattle.std.proofs.lemmas.Int.{ints}
use Rattle.std.proofs.lemmas.List.FromFn.{fill_by_all}
use Rattle.std.proofs.lemmas.Nat.{mul-le, mul-add-lt, mod_below, div_below, div-mul-add, mod-mul-add}
use Rattle.std.proofs.lemmas.Option.{same_Some, slice_get-map, slice_get-get_or, slice_get_within, get_or_from_slice_get}
use Rattle.std.proofs.Math.ListN.{length-map}
use Rattle.net_model.specs.Limits.{most_points, most_links, IsWeight}
use Rattle.net_model.specs.declared.ids.LinkId.{LinkId}
use Rattle.net_model.specs.declared.ids.PointId.{PointId}
use Rattle.net_model.specs.declared.part.Edge.{Edge}
use Rattle.closure_model.specs.Keys.{Key, Shape, edge_of, key_of, IsKey, labels_at, row_keys}
use Rattle.closure_model.specs.ReferenceRow.{first_slot, first_slots}
use Rattle.closure_model.specs.Tables.{Graph, HasEdge, IsGraph, edges_of, row_of, weight_of}
use Rattle.closure_model.specs.declared.rows.Slot.{Slot}
use Rattle.closure_model.proofs.KeyLists.{row_keys_rise, row_keys_whole, row_keys_owned}
use Rattle.closure_model.proofs.KeyPlaces.{only_place}
use Rattle.closure_model.proofs.Lists.{Contains-filter, Contains-map_from, each-contained}
use Rattle.closure_model.proofs.Nodes.{listed_at}
use Rattle.closure_model.proofs.TableLemmas.{edge_listed}
use Rattle.closure_model.proofs.Weights.{same_weight}
use Rattle.labelled_graph.specs.Entries.{edge_into, wide_label}
use Rattle.labelled_graph.specs.declared.entry.Entry.{Entry}
use Rattle.back_propagation.specs.SlotPlaces.{HasColumn, IsColumnOf, place_in_slots, width_of}
use Rattle.back_propagation.specs.SlimSlots.{no_weight, stored, stored_of, weight_in_slot, why_in, label_in, greatest_word, StandsFor, StandForKeys, IsSlim, slot_in, slots_of, width_in, word_place}
use Rattle.back_propagation.specs.declared.slots.Slots.TheInside.{Inside}
use Rattle.back_propagation.proofs.RelaxSteps.{place_under, width_under}
use Rattle.back_propagation.proofs.RowPlaces.{row_at, at_column, column_inside, column_of_place, source_of_place, length-row_keys}
use Rattle.back_propagation.proofs.SlimSteps.{places_apart, read_other, read_set, same_or_apart, set_long}

abbrev pub no_entry : Entry
no_entry = record { from = record { 0 = 0 }; label = None; weight = pos 0 }

abbrev no_key : Key
no_key = record { to = record { 0 = 0 }; from = record { 0 = 0 }; label = None }

abbrev no_slot : Slot
no_slot = record { from = record { 0 = 0 }; label = None; weight = None; why = None; settled = false }

-- ---- columns
pub label_of_column : (labels : List LinkId) (label : Option LinkId) (column : ℕ) → IsColumnOf labels label column → label_in labels column ≡ label
label_of_column labels None column is = ap (label_in labels) is
label_of_column labels (Some label) column (k, is, at) = let next : k + 1 ≡ suc k = omega arith in ap (label_in labels) (is ∙ next) ∙ at

-- a label of a key of the row is one of those that stand in columns
pub label_among : (shape : Shape) (to : PointId) (key : Key) (label : LinkId) → IsKey shape key → key.to ≡ to → key.label ≡ Some label → Contains (labels_at shape to) label
label_among shape to key label known ends is =
    let (k, inside, at) = row_keys_whole shape key known in
    let here : slice_get (row_keys shape key.to) k ≡ Some key = slice_get-get_or (row_keys shape key.to) k key inside ∙ ap Some at in
    let column : HasColumn shape key.to (Some label) (k % width_of shape key.to) = subst (λ (l : Option LinkId). HasColumn shape key.to l (k % width_of shape key.to)) is (column_of_place shape key.to k key here) in
    subst (λ (p : PointId). Contains (labels_at shape p) label) ends (listed_at (labels_at shape key.to) column.0 label column.2)

pub labels_among : (table : Graph) (to : PointId) (labels : List LinkId) (entry : Entry) → labels ≡ labels_at table.shape to → IsGraph table → HasEdge table (edge_into to entry) → IfSome entry.label (λ k. Contains labels (record { 0 = k }))
labels_among table to labels entry are sound held = by entry.label refl
  where
    by : (o : Option ℕ) → entry.label ≡ o → IfSome o (λ k. Contains labels (record { 0 = k }))
    by None is = tt
    by (Some k) is =
        let known : IsKey table.shape (key_of (edge_into to entry)) = sound.keys (edge_into to entry) held in
        let one : LinkId = record { 0 = k } in
        subst (λ (ls : List LinkId). Contains ls (record { 0 = k })) (sym are) (label_among table.shape to (key_of (edge_into to entry)) (record { 0 = k }) known refl (ap wide_label is))

pub places_under : (table : Graph) (to : PointId) (width : ℕ) → IsGraph table → width ≡ width_of table.shape to → table.shape.points * width < 2 ^ 64
places_under table to width sound wide =
    let most : table.shape.points * width ≤ most_points * (most_links + 1) = mul-le table.shape.points width most_points (most_links + 1) sound.few_points (width_under table to width sound wide) in
    omega (arith, most)

-- the key of an entry stands at its place
pub entry_place : (table : Graph) (to : PointId) (labels : List LinkId) (entry : Entry) (column : ℕ) → labels ≡ labels_at table.shape to → IsGraph table → HasEdge table (edge_into to entry)
    → IsColumnOf labels (wide_label entry.label) column
    → slice_get (row_keys table.shape to) (place_in_slots (length labels + 1) entry.from column) ≡ Some (key_of (edge_into to entry))
entry_place table to labels entry column are sound held is =
    let has : HasColumn table.shape to (wide_label entry.label) column = subst (λ (ls : List LinkId). IsColumnOf ls (wide_label entry.label) column) are is in
    let wide : length labels + 1 ≡ width_of table.shape to = ap (λ (ls : List LinkId). length ls + 1) are in
    ap (λ (w : ℕ). slice_get (row_keys table.shape to) (entry.from.0 * w + column)) wide
    ∙ (row_at table.shape to entry.from column (sound.keys (edge_into to entry) held).from_point (column_inside table.shape to (wide_label entry.label) column has) ∙ at_column table.shape to entry.from (wide_label entry.label) column has)

pub entry_under : (table : Graph) (to : PointId) (labels : List LinkId) (entry : Entry) (column : ℕ) → labels ≡ labels_at table.shape to → IsGraph table → HasEdge table (edge_into to entry)
    → IsColumnOf labels (wide_label entry.label) column
    → place_in_slots (length labels + 1) entry.from column < 2 ^ 64
entry_under table to labels entry column are sound held is =
    let has : HasColumn table.shape to (wide_label entry.label) column = subst (λ (ls : List LinkId). IsColumnOf ls (wide_label entry.label) column) are is in
    let wide : length labels + 1 ≡ width_of table.shape to = ap (λ (ls : List LinkId). length ls + 1) are in
    let inside = column_inside table.shape to (wide_label entry.label) column has in
    place_under table to (length labels + 1) sound wide entry.from column (sound.keys (edge_into to entry) held).from_point (omega (arith, inside, wide))

place_word : (shape : Shape) (to : PointId) (place : ℕ) → place < shape.points * width_of shape to → place % width_of shape to * shape.points + place / width_of shape to < shape.points * width_of shape to
place_word shape to place below =
    mul-add-lt (place % width_of shape to) shape.points (place / width_of shape to) (width_of shape to) (mod_below place (width_of shape to) (omega arith)) (div_below place (width_of shape to) shape.points (omega arith) below)

pub word_under : (table : Graph) (to : PointId) (labels : List LinkId) (entry : Entry) (column : ℕ) → labels ≡ labels_at table.shape to → IsGraph table → HasEdge table (edge_into to entry) → IsColumnOf labels (wide_label entry.label) column
    → column * table.shape.points + entry.from.0 < table.shape.points * (length labels + 1)
word_under table to labels entry column are sound held is =
    let has : HasColumn table.shape to (wide_label entry.label) column = subst (λ (ls : List LinkId). IsColumnOf ls (wide_label entry.label) column) are is in
    let inside = column_inside table.shape to (wide_label entry.label) column has in
    let wide : length labels + 1 ≡ width_of table.shape to = ap (λ (ls : List LinkId). length ls + 1) are in
    mul-add-lt column table.shape.points entry.from.0 (length labels + 1) (omega (arith, inside, wide)) (sound.keys (edge_into to entry) held).from_point

pub column_under : (table : Graph) (to : PointId) (labels : List LinkId) (entry : Entry) (column : ℕ) → labels ≡ labels_at table.shape to → IsColumnOf labels (wide_label entry.label) column → column < width_of table.shape to
column_under table to labels entry column are is = column_inside table.shape to (wide_label entry.label) column (subst (λ (ls : List LinkId). IsColumnOf ls (wide_label entry.label) column) are is)

-- ---- the walk over the labels
pub record IsPassed (labels : List LinkId) (label : LinkId) (count : ℕ) : Type 0 where
  pub others : (k : ℕ) → k < count → get_or labels k label ≡ label → ⊥

pub passed_none : (labels : List LinkId) (label : LinkId) → IsPassed labels label 0
passed_none labels label = record { others = λ k below. absurd (omega (arith, below)) }

pub passed_more : (labels : List LinkId) (label : LinkId) (count : ℕ) → IsPassed labels label count → (get_or labels count label ≡ label → ⊥) → IsPassed labels label (count + 1)
passed_more labels label count was other = record { others = λ k below. by k (same_or_apart k count) below }
  where
    by : (k : ℕ) → (k ≡ count) ⊎ (k ≢ count) → k < count + 1 → get_or labels k label ≡ label → ⊥
    by k (inl equal) below same = other (ap (λ (n : ℕ). get_or labels n label) (sym equal) ∙ same)
    by k (inr apart) below same = was.others k (omega (arith, apart, below)) same

pub passed_all : (labels : List LinkId) (label : LinkId) (count : ℕ) → length labels ≤ count → IsPassed labels label count → Contains labels label → ⊥
passed_all labels label count past was (k, inside, at) = was.others k (omega (arith, past, inside)) at

-- ---- the walk over the entries
-- the entries before one are stored, and nothing that the table does not have
pub record IsStoredTo (table : Graph) (to : PointId) (entries : List Entry) (weights : List ℤ) (count : ℕ) : Type 0 where
  pub long : length weights ≡ length (row_keys table.shape to)
  pub sound : (place : ℕ) (key : Key) → slice_get (row_keys table.shape to) place ≡ Some key → (get_or weights place (pos 0) ≡ no_weight) ⊎ (weight_of table key ≡ Some (get_or weights place (pos 0)))
  pub whole : (k : ℕ) → k < count → (place : ℕ) (key : Key) → slice_get (row_keys table.shape to) place ≡ Some key → key_of (edge_into to (get_or entries k no_entry)) ≡ key → get_or weights place (pos 0) ≡ (get_or entries k no_entry).weight

replicated : {X : Type 0} (n k : ℕ) (x d : X) → k < n → get_or (replicate n x) k d ≡ x
replicated zero k x d below = absurd (omega (arith, below))
replicated (suc n) zero x d below = refl
replicated (suc n) (suc k) x d below = replicated n k x d (omega (arith, below))

long_replicate : {X : Type 0} (n : ℕ) (x : X) → length (replicate n x) ≡ n
long_replicate zero x = refl
long_replicate (suc n) x = ap suc (long_replicate n x)

pub stored_none : (table : Graph) (to : PointId) (entries : List Entry) (weights : List ℤ) (count : ℕ) → weights ≡ replicate count no_weight → count ≡ length (row_keys table.shape to) → IsStoredTo table to entries weights 0
stored_none table to entries weights count are many = record {
  long = ap length are ∙ (long_replicate count no_weight ∙ many);
  sound = λ place key at. inl (ap (λ (list : List ℤ). get_or list place (pos 0)) are ∙ replicated count place no_weight (pos 0) (let inside = slice_get_within (row_keys table.shape to) place key at in omega (arith, many, inside)));
  whole = λ k below. absurd (omega (arith, below));
}

module _ (table : Graph) (to : PointId) (entries : List Entry) (held : (k : ℕ) → k < length entries → HasEdge table (edge_into to (get_or entries k no_entry))) where
  pub stored_more : (weights : List ℤ) (count : ℕ) → count < length entries → IsStoredTo table to entries weights count → (place : ℕ) → slice_get (row_keys table.shape to) place ≡ Some (key_of (edge_into to (get_or entries count no_entry)))
      → IsStoredTo table to entries (slice_set weights place (get_or entries count no_entry).weight) (count + 1)
  stored_more weights count inside was place at = record {
    long = set_long weights place weight ∙ was.long;
    sound = λ other key there. sound other key there (same_or_apart other place);
    whole = λ k below other key there same. whole k below other key there same (same_or_apart other place) (same_or_apart k count);
  }
    where
      weight : ℤ
      weight = (get_or entries count no_entry).weight

      stays : place < length weights
      stays = let within = slice_get_within (row_keys table.shape to) place (key_of (edge_into to (get_or entries count no_entry))) at in let long = was.long in omega (arith, within, long)

      here : (other : ℕ) → other ≡ place → get_or (slice_set weights place (get_or entries count no_entry).weight) other (pos 0) ≡ (get_or entries count no_entry).weight
      here other equal = ap (λ (k : ℕ). get_or (slice_set weights place (get_or entries count no_entry).weight) k (pos 0)) equal ∙ read_set weights place (get_or entries count no_entry).weight (pos 0) stays

      key_here : (other : ℕ) (key : Key) → other ≡ place → slice_get (row_keys table.shape to) other ≡ Some key → key_of (edge_into to (get_or entries count no_entry)) ≡ key
      key_here other key equal there = same_Some (key_of (edge_into to (get_or entries count no_entry))) key (sym at ∙ (ap (slice_get (row_keys table.shape to)) (sym equal) ∙ there))

      has_here : (other : ℕ) (key : Key) → other ≡ place → slice_get (row_keys table.shape to) other ≡ Some key → weight_of table key ≡ Some (get_or entries count no_entry).weight
      has_here other key equal there = ap (weight_of table) (sym (key_here other key equal there)) ∙ held count inside

      sound : (other : ℕ) (key : Key) → slice_get (row_keys table.shape to) other ≡ Some key → (other ≡ place) ⊎ (other ≢ place)
          → (get_or (slice_set weights place (get_or entries count no_entry).weight) other (pos 0) ≡ no_weight) ⊎ (weight_of table key ≡ Some (get_or (slice_set weights place (get_or entries count no_entry).weight) other (pos 0)))
      sound other key there (inl equal) = inr (has_here other key equal there ∙ ap Some (sym (here other equal)))
      sound other key there (inr apart) =
          let kept : get_or (slice_set weights place (get_or entries count no_entry).weight) other (pos 0) ≡ get_or weights other (pos 0) = read_other weights place other (get_or entries count no_entry).weight (pos 0) apart in
          subst (λ (w : ℤ). (w ≡ no_weight) ⊎ (weight_of table key ≡ Some w)) (sym kept) (was.sound other key there)

      whole : (k : ℕ) → k < count + 1 → (other : ℕ) (key : Key) → slice_get (row_keys table.shape to) other ≡ Some key → key_of (edge_into to (get_or entries k no_entry)) ≡ key → (other ≡ place) ⊎ (other ≢ place) → (k ≡ count) ⊎ (k ≢ count)
          → get_or (slice_set weights place (get_or entries count no_entry).weight) other (pos 0) ≡ (get_or entries k no_entry).weight
      whole k below other key there same (inl equal) last =
          let both : weight_of table key ≡ Some (get_or entries k no_entry).weight = ap (weight_of table) (sym same) ∙ held k (omega (arith, below, inside)) in
          here other equal ∙ same_weight (get_or entries count no_entry).weight (get_or entries k no_entry).weight (sym (has_here other key equal there) ∙ both)
      whole k below other key there same (inr apart) (inl equal) =
          let key_is : key_of (edge_into to (get_or entries count no_entry)) ≡ key = ap (λ (n : ℕ). key_of (edge_into to (get_or entries n no_entry))) (sym equal) ∙ same in
          absurd (apart (only_place (row_keys table.shape to) (row_keys_rise table.shape to) other place key there (at ∙ ap Some key_is)))
      whole k below other key there same (inr apart) (inr earlier) =
          read_other weights place other (get_or entries count no_entry).weight (pos 0) apart ∙ was.whole k (omega (arith, below, earlier)) other key there same

  pub stored_all : (weights : List ℤ) (count : ℕ) → map (edge_into to) entries ≡ row_of table to → length entries ≤ count → IsStoredTo table to entries weights count → weights ≡ map (stored_of table) (row_keys table.shape to)
  stored_all weights count are past was = same_lists weights (map (stored_of table) (row_keys table.shape to)) (pos 0) (was.long ∙ sym (length-map (row_keys table.shape to) (stored_of table))) each
    where
      same_lists : (xs ys : List ℤ) (d : ℤ) → length xs ≡ length ys → ((k : ℕ) → k < length xs → get_or xs k d ≡ get_or ys k d) → xs ≡ ys
      same_lists [] [] d long each = refl
      same_lists [] (y ∷ ys) d long each = absurd (omega (arith, long))
      same_lists (x ∷ xs) [] d long each = absurd (omega (arith, long))
      same_lists (x ∷ xs) (y ∷ ys) d long each =
          let first : x ≡ y = each 0 (omega arith) in
          let rest : xs ≡ ys = same_lists xs ys d (omega (arith, long)) (λ k below. each (suc k) (omega (arith, below))) in
          λ i. first i ∷ rest i

      -- what stands at the place of a key
      at_key : (place : ℕ) (key : Key) → slice_get (row_keys table.shape to) place ≡ Some key → (o : Option ℤ) → weight_of table key ≡ o → get_or weights place (pos 0) ≡ stored o
      at_key place key at None none = by (was.sound place key at)
        where
          by : (get_or weights place (pos 0) ≡ no_weight) ⊎ (weight_of table key ≡ Some (get_or weights place (pos 0))) → get_or weights place (pos 0) ≡ no_weight
          by (inl is) = is
          by (inr has) = absurd cc
      at_key place key at (Some weight) some =
          let owner : key.to ≡ to = each-contained (λ k. k.to ≡ to) (row_keys table.shape to) key (row_keys_owned table.shape to) (listed_at (row_keys table.shape to) place key at) in
          let edge : Edge = edge_of key weight in
          let among = Contains-filter (λ (e : Edge). e.to.0 == to.0) (edges_of table) (edge_of key weight) (edge_listed table (edge_of key weight) some) (grind (arith, nat_tests)) in
          let (entry, inside, is) = Contains-map_from (edge_into to) entries (edge_of key weight) (subst (λ (list : List Edge). Contains list (edge_of key weight)) (sym are) among) in
          let (k, below, there) = inside in
          let read : get_or entries k no_entry ≡ entry = get_or_from_slice_get entries k entry no_entry (slice_get-get_or entries k entry below ∙ ap Some there) in
          let edge_is : edge_into to (get_or entries k no_entry) ≡ edge_of key weight = ap (edge_into to) read ∙ is in
          was.whole k (omega (arith, below, past)) place key at (ap key_of edge_is) ∙ ap (λ (e : Edge). e.weight) edge_is

      each : (k : ℕ) → k < length weights → get_or weights k (pos 0) ≡ get_or (map (stored_of table) (row_keys table.shape to)) k (pos 0)
      each k below =
          let key : Key = get_or (row_keys table.shape to) k no_key in
          let at : slice_get (row_keys table.shape to) k ≡ Some (get_or (row_keys table.shape to) k no_key) = slice_get-get_or (row_keys table.shape to) k no_key (let long = was.long in omega (arith, long, below)) in
          at_key k (get_or (row_keys table.shape to) k no_key) at (weight_of table (get_or (row_keys table.shape to) k no_key)) refl
          ∙ sym (get_or_from_slice_get (map (stored_of table) (row_keys table.shape to)) k (stored_of table (get_or (row_keys table.shape to) k no_key)) (pos 0)
          (slice_get-map (stored_of table) (row_keys table.shape to) k ∙ ap (option_map (stored_of table)) at))

-- ---- the words
pub stand_none : (table : Graph) (to : PointId) (words : List ℤ) (count : ℕ) → words ≡ replicate count greatest_word → count ≡ length (row_keys table.shape to) → StandForKeys table to words
stand_none table to words count are many = (
  ap length are ∙ (long_replicate count greatest_word ∙ many),
  λ place key at other. absurd (other (greatest (place % width_of table.shape to * table.shape.points + place / width_of table.shape to) (let inside = slice_get_within (row_keys table.shape to) place key at in
      let all = length-row_keys table.shape to in column_word place (subst (λ (n : ℕ). place < n) all inside)))),
)
  where
    column_word : (place : ℕ) → place < table.shape.points * width_of table.shape to → place % width_of table.shape to * table.shape.points + place / width_of table.shape to < length words
    column_word place below =
        let under = place_word table.shape to place below in
        let all = length-row_keys table.shape to in
        let long : length words ≡ length (row_keys table.shape to) = ap length are ∙ (long_replicate count greatest_word ∙ many) in
        omega (arith, under, all, long)

    greatest : (k : ℕ) → k < length words → get_or words k (pos 0) ≡ greatest_word
    greatest k below = ap (λ (list : List ℤ). get_or list k (pos 0)) are ∙ replicated count k greatest_word (pos 0) (let long : length words ≡ count = ap length are ∙ long_replicate count greatest_word in omega (arith, below, long))

pub stand_more : (table : Graph) (to : PointId) (words : List ℤ) (entry : Entry) (column place : ℕ) (word : ℤ) → column < width_of table.shape to → place ≡ place_in_slots (width_of table.shape to) entry.from column
    → slice_get (row_keys table.shape to) place ≡ Some (key_of (edge_into to entry))
    → HasEdge table (edge_into to entry) → StandsFor word (Some entry.weight) → StandForKeys table to words → StandForKeys table to (slice_set words (column * table.shape.points + entry.from.0) word)
stand_more table to words entry column place word inside is at held stands (long, was) = (set_long words (column * table.shape.points + entry.from.0) word ∙ long, λ other key there. by other key there (same_or_apart other place))
  where
    all : length (row_keys table.shape to) ≡ table.shape.points * width_of table.shape to
    all = length-row_keys table.shape to

    word_at : ℕ → ℕ
    word_at k = k % width_of table.shape to * table.shape.points + k / width_of table.shape to

    here : place % width_of table.shape to * table.shape.points + place / width_of table.shape to ≡ column * table.shape.points + entry.from.0
    here =
        let rest : place % width_of table.shape to ≡ column = ap (λ (n : ℕ). n % width_of table.shape to) is ∙ mod-mul-add entry.from.0 (width_of table.shape to) column inside in
        let whole : place / width_of table.shape to ≡ entry.from.0 = ap (λ (n : ℕ). n / width_of table.shape to) is ∙ div-mul-add entry.from.0 (width_of table.shape to) column inside in
        λ i. rest i * table.shape.points + whole i

    by : (other : ℕ) (key : Key) → slice_get (row_keys table.shape to) other ≡ Some key → (other ≡ place) ⊎ (other ≢ place)
        → StandsFor (get_or (slice_set words (column * table.shape.points + entry.from.0) word) (other % width_of table.shape to * table.shape.points + other / width_of table.shape to) (pos 0)) (weight_of table key)
    by other key there (inl equal) =
        let below : place < table.shape.points * width_of table.shape to = subst (λ (n : ℕ). place < n) all (slice_get_within (row_keys table.shape to) place (key_of (edge_into to entry)) at) in
        let under = place_word table.shape to place below in
        let key_is : key_of (edge_into to entry) ≡ key = same_Some (key_of (edge_into to entry)) key (sym at ∙ (ap (slice_get (row_keys table.shape to)) (sym equal) ∙ there)) in
        let weight : weight_of table key ≡ Some entry.weight = ap (weight_of table) (sym key_is) ∙ held in
        let place_is : other % width_of table.shape to * table.shape.points + other / width_of table.shape to ≡ column * table.shape.points + entry.from.0 =
        ap (λ (k : ℕ). k % width_of table.shape to * table.shape.points + k / width_of table.shape to) equal ∙ here in
        let read : get_or (slice_set words (column * table.shape.points + entry.from.0) word) (other % width_of table.shape to * table.shape.points + other / width_of table.shape to) (pos 0) ≡ word =
        ap (λ (k : ℕ). get_or (slice_set words (column * table.shape.points + entry.from.0) word) k (pos 0)) place_is ∙ read_set words (column * table.shape.points + entry.from.0) word (pos 0) (omega (arith, under, here, long, all)) in
        subst (λ (w : ℤ). StandsFor w (weight_of table key)) (sym read) (subst (StandsFor word) (sym weight) stands)
    by other key there (inr apart) =
        let below : place < table.shape.points * width_of table.shape to = subst (λ (n : ℕ). place < n) all (slice_get_within (row_keys table.shape to) place (key_of (edge_into to entry)) at) in
        let also : other < table.shape.points * width_of table.shape to = subst (λ (n : ℕ). other < n) all (slice_get_within (row_keys table.shape to) other key there) in
        let others : other % width_of table.shape to * table.shape.points + other / width_of table.shape to ≢ column * table.shape.points + entry.from.0 =
        λ same. apart (places_apart table.shape.points (width_of table.shape to) other place also below (same ∙ sym here)) in
        subst (λ (w : ℤ). StandsFor w (weight_of table key)) (sym (read_other words (column * table.shape.points + entry.from.0) (other % width_of table.shape to * table.shape.points + other / width_of table.shape to) word (pos 0) others))
        (was other key there)

-- ---- the slots at the start
stored_read : (o : Option ℤ) → ((weight : ℤ) → o ≡ Some weight → IsWeight weight) → weight_in_slot (stored o) 0 ≡ o
stored_read None small = refl
stored_read (Some weight) small =
    let range = small weight refl in
    let other : int_eq weight no_weight ≡ false = grind (arith, ints) in
    ap (λ (b : Bool). cond (b && true) None (Some weight)) other

-- nothing is settled, and nothing was lowered
pub record IsAtStart (table : Graph) (to : PointId) (s : Inside) : Type 0 where
  pub points : s.points ≡ table.shape.points
  pub labels : s.labels.items ≡ labels_at table.shape to
  pub weights : s.weights.items ≡ map (stored_of table) (row_keys table.shape to)
  pub words : StandForKeys table to s.words.items
  pub marks : s.marks.items ≡ replicate (length s.weights.items) 0
  pub settled : s.settled.items ≡ replicate (length s.weights.items) false
  pub whys : s.whys.items ≡ []

same_width : (table : Graph) (to : PointId) (s : Inside) → IsAtStart table to s → width_in s ≡ width_of table.shape to
same_width table to s start = ap (λ (labels : List LinkId). length labels + 1) start.labels

pub start_slot : (table : Graph) (to : PointId) (s : Inside) → IsGraph table → IsAtStart table to s → (k : ℕ) (key : Key) → k < length s.weights.items → slice_get (row_keys table.shape to) k ≡ Some key → first_slot table key ≡ slot_in s k
start_slot table to s sound start k key below at =
    let from : key.from ≡ record { 0 = k / width_in s } = source_of_place table.shape to k key at ∙ ap (λ (w : ℕ). record { 0 = k / w }) (sym (same_width table to s start)) in
    let label : label_in s.labels.items (k % width_in s) ≡ key.label = (λ i. label_in (start.labels i) (k % same_width table to s start i))
    ∙ label_of_column (labels_at table.shape to) key.label (k % width_of table.shape to) (column_of_place table.shape to k key at) in
    let held : get_or s.weights.items k (pos 0) ≡ stored_of table key =
    ap (λ (list : List ℤ). get_or list k (pos 0)) start.weights ∙ get_or_from_slice_get (map (stored_of table) (row_keys table.shape to)) k (stored_of table key) (pos 0) (slice_get-map (stored_of table) (row_keys table.shape to) k
    ∙ ap (option_map (stored_of table)) at) in
    let mark : get_or s.marks.items k 0 ≡ 0 = ap (λ (list : List ℕ). get_or list k 0) start.marks ∙ replicated (length s.weights.items) k 0 0 below in
    let settled : get_or s.settled.items k false ≡ false = ap (λ (list : List Bool). get_or list k false) start.settled ∙ replicated (length s.weights.items) k false false below in
    let weight : weight_in_slot (get_or s.weights.items k (pos 0)) (get_or s.marks.items k 0) ≡ weight_of table key =
    (λ i. weight_in_slot (held i) (mark i)) ∙ stored_read (weight_of table key) (λ w has. sound.weights (edge_of key w) has) in
    let why : why_in s.whys.items (get_or s.marks.items k 0) ≡ None = λ i. why_in (start.whys i) (mark i) in
    λ i. record { from = from i; label = sym label i; weight = sym weight i; why = sym why i; settled = sym settled i }

pub start_slim : (table : Graph) (to : PointId) (s : Inside) → IsGraph table → to.0 < table.shape.points → IsAtStart table to s → IsSlim s
start_slim table to s sound inside start = record {
  few = subst (λ (n : ℕ). n ≤ most_points) (sym start.points) sound.few_points;
  small =
      subst (λ (n : ℕ). n < 2 ^ 64) (sym (ap length start.weights ∙ (length-map (row_keys table.shape to) (stored_of table) ∙ length-row_keys table.shape to)))
      (places_under table to (width_of table.shape to) sound refl);
  places = ap length start.weights ∙ (length-map (row_keys table.shape to) (stored_of table) ∙ (length-row_keys table.shape to ∙ (λ i. sym start.points i * (length (sym start.labels i) + 1))));
  marks = ap length start.marks ∙ long_replicate (length s.weights.items) 0;
  settled = ap length start.settled ∙ long_replicate (length s.weights.items) false;
  words = start.words.0 ∙ sym (ap length start.weights ∙ length-map (row_keys table.shape to) (stored_of table));
  stand = stand;
  apart = apart;
  whys = λ place. (let none : get_or s.marks.items place 0 ≡ zero = ap (λ (marks : List ℕ). get_or marks place 0) start.marks ∙ zeros (length s.weights.items) place in omega (arith, none));
}
  where
    many : length (row_keys table.shape to) ≡ length s.weights.items
    many = sym (ap length start.weights ∙ length-map (row_keys table.shape to) (stored_of table))

    stand : (place : ℕ) → place < length s.weights.items → StandsFor (get_or s.words.items (word_place s place) (pos 0)) (slot_in s place).weight
    stand place below =
        let key : Key = get_or (row_keys table.shape to) place no_key in
        let at : slice_get (row_keys table.shape to) place ≡ Some (get_or (row_keys table.shape to) place no_key) = slice_get-get_or (row_keys table.shape to) place no_key (omega (arith, many, below)) in
        let word : place % width_of table.shape to * table.shape.points + place / width_of table.shape to ≡ word_place s place =
        λ i. place % sym (same_width table to s start) i * sym start.points i + place / sym (same_width table to s start) i in
        let weight : weight_of table (get_or (row_keys table.shape to) place no_key) ≡ (slot_in s place).weight =
        ap (λ (slot : Slot). slot.weight) (start_slot table to s sound start place (get_or (row_keys table.shape to) place no_key) below at) in
        subst (λ (k : ℕ). StandsFor (get_or s.words.items k (pos 0)) (slot_in s place).weight) word
        (subst (StandsFor (get_or s.words.items (place % width_of table.shape to * table.shape.points + place / width_of table.shape to) (pos 0))) weight (start.words.1 place (get_or (row_keys table.shape to) place no_key) at))

    -- the key of the first point in a column
    key_in_column : (column : ℕ) → column < width_in s → slice_get (row_keys table.shape to) column ≡ Some (record { to = to; from = record { 0 = 0 }; label = label_in s.labels.items column })
    key_in_column column below =
        let narrow : column < width_of table.shape to = subst (λ (n : ℕ). column < n) (same_width table to s start) below in
        let stored : column < length s.weights.items = (let all = length-row_keys table.shape to in let most = mul-add-lt 0 (width_of table.shape to) column table.shape.points (omega (arith, inside)) narrow in
        omega (arith, many, all, most)) in
        let at : slice_get (row_keys table.shape to) column ≡ Some (get_or (row_keys table.shape to) column no_key) = slice_get-get_or (row_keys table.shape to) column no_key (omega (arith, many, stored)) in
        let none : 0 * width_of table.shape to + column ≡ column = omega arith in
        let whole : column / width_of table.shape to ≡ 0 = ap (λ (n : ℕ). n / width_of table.shape to) (sym none) ∙ div-mul-add 0 (width_of table.shape to) column narrow in
        let rest : column % width_of table.shape to ≡ column = ap (λ (n : ℕ). n % width_of table.shape to) (sym none) ∙ mod-mul-add 0 (width_of table.shape to) column narrow in
        let owner : (get_or (row_keys table.shape to) column no_key).to ≡ to = each-contained (λ k. k.to ≡ to) (row_keys table.shape to) (get_or (row_keys table.shape to) column no_key) (row_keys_owned table.shape to)
        (listed_at (row_keys table.shape to) column (get_or (row_keys table.shape to) column no_key) at) in
        let from : (get_or (row_keys table.shape to) column no_key).from ≡ record { 0 = 0 } = source_of_place table.shape to column (get_or (row_keys table.shape to) column no_key) at ∙ (λ i. record { 0 = whole i }) in
        let label : label_in s.labels.items column ≡ (get_or (row_keys table.shape to) column no_key).label =
        (λ i. label_in (start.labels i) (sym rest i)) ∙ label_of_column (labels_at table.shape to) (get_or (row_keys table.shape to) column no_key).label (column % width_of table.shape to)
        (column_of_place table.shape to column (get_or (row_keys table.shape to) column no_key) at) in
        at ∙ (λ i. Some (record { to = owner i; from = from i; label = sym label i }))

    apart : (one other : ℕ) → one < width_in s → other < width_in s → label_in s.labels.items one ≡ label_in s.labels.items other → one ≡ other
    apart one other below also same =
        only_place (row_keys table.shape to) (row_keys_rise table.shape to) one other (record { to = to; from = record { 0 = 0 }; label = label_in s.labels.items other })
        (key_in_column one below ∙ (λ i. Some (record { to = to; from = record { 0 = 0 }; label = same i }))) (key_in_column other also)

    zeros : (n k : ℕ) → get_or (replicate n zero) k zero ≡ zero
    zeros zero k = refl
    zeros (suc n) zero = refl
    zeros (suc n) (suc k) = zeros n k

pub start_view : (table : Graph) (to : PointId) (s : Inside) → IsGraph table → IsAtStart table to s → slots_of s ≡ first_slots table to
start_view table to s sound start = sym (fill_by_all (slot_in s) (first_slots table to) (length s.weights.items) no_slot long each)
  where
    long : length (first_slots table to) ≡ length s.weights.items
    long = length-map (row_keys table.shape to) (first_slot table) ∙ sym (ap length start.weights ∙ length-map (row_keys table.shape to) (stored_of table))

    each : (k : ℕ) → k < length s.weights.items → get_or (first_slots table to) k no_slot ≡ slot_in s k
    each k below =
        let many : length (row_keys table.shape to) ≡ length s.weights.items = sym (ap length start.weights ∙ length-map (row_keys table.shape to) (stored_of table)) in
        let at : slice_get (row_keys table.shape to) k ≡ Some (get_or (row_keys table.shape to) k no_key) = slice_get-get_or (row_keys table.shape to) k no_key (omega (arith, many, below)) in
        get_or_from_slice_get (first_slots table to) k (first_slot table (get_or (row_keys table.shape to) k no_key)) no_slot (slice_get-map (first_slot table) (row_keys table.shape to) k ∙ ap (option_map (first_slot table)) at)
        ∙ start_slot table to s sound start k (get_or (row_keys table.shape to) k no_key) below at

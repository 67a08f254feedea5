-- The entries of a row begin in points in their order.
use Rattle.std.proofs.Common.{◌≡◌, ◌≤◌, ◌<◌, ◌+◌, ◌-◌, ℕ, zero, suc, ℤ, List, [], ◌∷◌, ◌++◌, length, map, get_or, Option, Some, None, refl, ap, sym, subst, ◌∙◌, arith}
use Rattle.std.specs.Prelude.{slice_get, slice_range}
use Rattle.std.specs.Option.{option_map}
use Rattle.std.specs.List.{AllByRecursion, cons_option, flat_map, range_with_len}
use Rattle.std.proofs.lemmas.Option.{same_Some, slice_get_within, slice_get-get_or, get_or_from_slice_get}
use Rattle.std.proofs.lemmas.List.Edits.{get_or-between, length-between}
use Rattle.net_model.specs.declared.ids.LinkId.{LinkId}
use Rattle.net_model.specs.declared.ids.PointId.{PointId}
use Rattle.net_model.specs.declared.part.Edge.{Edge}
use Rattle.closure_model.specs.Keys.{Key, Shape, edge_of, keys_between, labelled_key, labels_at, row_keys}
use Rattle.closure_model.specs.Tables.{Graph, IsGraph, edges_at, row_of, weight_of}
use Rattle.closure_model.proofs.ListedEdges.{row_listed}
use Rattle.closure_model.proofs.Lists.{each-append, each-weaker, each-map, each-every}
use Rattle.labelled_graph.specs.Entries.{edge_into}
use Rattle.labelled_graph.specs.declared.entry.Entry.{Entry}
use Rattle.back_propagation.specs.Blocks.{Ascend}

-- ---- keys
abbrev KeysAscend : List Key → Type 0
KeysAscend [] = Unit {0}
KeysAscend (key ∷ keys) = AllByRecursion (λ (other : Key). key.from.0 ≤ other.from.0) keys × KeysAscend keys

keys_append : (ks ls : List Key) (a : ℕ) → AllByRecursion (λ (k : Key). k.from.0 ≡ a) ks → AllByRecursion (λ (k : Key). a ≤ k.from.0) ls → KeysAscend ls → KeysAscend (ks ++ ls)
keys_append [] ls a here low rest = rest
keys_append (k ∷ ks) ls a (is, here) low rest = (
  each-append (λ (other : Key). k.from.0 ≤ other.from.0) ks ls
      (each-weaker (λ (other : Key). other.from.0 ≡ a) (λ (other : Key). k.from.0 ≤ other.from.0) (λ other same. omega (arith, is, same)) ks here)
      (each-weaker (λ (other : Key). a ≤ other.from.0) (λ (other : Key). k.from.0 ≤ other.from.0) (λ other more. omega (arith, is, more)) ls low),
  keys_append ks ls a here low rest,
)

between_from : (shape : Shape) (to from : PointId) → AllByRecursion (λ (k : Key). k.from.0 ≡ from.0) (keys_between shape to from)
between_from shape to from = (refl, each-map (λ (k : Key). k.from.0 ≡ from.0) (labelled_key from to) (labels_at shape to) (each-every (λ (label : LinkId). (labelled_key from to label).from.0 ≡ from.0) (λ label. refl) (labels_at shape to)))

keys_ascend : (shape : Shape) (to : PointId) (a n : ℕ)
    → KeysAscend (flat_map (keys_between shape to) (map (λ k. record { 0 = k }) (range_with_len a n))) × AllByRecursion (λ (k : Key). a ≤ k.from.0) (flat_map (keys_between shape to) (map (λ k. record { 0 = k }) (range_with_len a n)))
keys_ascend shape to a zero = (tt, tt)
keys_ascend shape to a (suc n) =
    let one : List Key = keys_between shape to (record { 0 = a }) in
    let rest : List Key = flat_map (keys_between shape to) (map (λ k. record { 0 = k }) (range_with_len (a + 1) n)) in
    let later = keys_ascend shape to (a + 1) n in
    let from = between_from shape to (record { 0 = a }) in
    let low : AllByRecursion (λ (k : Key). a ≤ k.from.0) (flat_map (keys_between shape to) (map (λ k. record { 0 = k }) (range_with_len (a + 1) n))) =
    each-weaker (λ (k : Key). a + 1 ≤ k.from.0) (λ (k : Key). a ≤ k.from.0) (λ k more. omega (arith, more)) (flat_map (keys_between shape to) (map (λ k. record { 0 = k }) (range_with_len (a + 1) n))) later.1 in (
      keys_append (keys_between shape to (record { 0 = a })) (flat_map (keys_between shape to) (map (λ k. record { 0 = k }) (range_with_len (a + 1) n))) a from low later.0,
      each-append (λ (k : Key). a ≤ k.from.0) (keys_between shape to (record { 0 = a })) (flat_map (keys_between shape to) (map (λ k. record { 0 = k }) (range_with_len (a + 1) n)))
          (each-weaker (λ (k : Key). k.from.0 ≡ a) (λ (k : Key). a ≤ k.from.0) (λ k same. omega (arith, same)) (keys_between shape to (record { 0 = a })) from) low,
    )

-- ---- edges
abbrev EdgesAscend : List Edge → Type 0
EdgesAscend [] = Unit {0}
EdgesAscend (edge ∷ edges) = AllByRecursion (λ (other : Edge). edge.from.0 ≤ other.from.0) edges × EdgesAscend edges

edges_from : (table : Graph) (P : PointId → Type 0) (keys : List Key) → AllByRecursion (λ (k : Key). P k.from) keys → AllByRecursion (λ (e : Edge). P e.from) (edges_at table keys)
edges_from table P [] each = tt
edges_from table P (key ∷ keys) (here, more) = by (weight_of table key) (edges_from table P keys more)
  where
    by : (o : Option ℤ) → AllByRecursion (λ (e : Edge). P e.from) (edges_at table keys) → AllByRecursion (λ (e : Edge). P e.from) (cons_option (option_map (edge_of key) o) (edges_at table keys))
    by None rest = rest
    by (Some w) rest = (here, rest)

edges_ascend : (table : Graph) (keys : List Key) → KeysAscend keys → EdgesAscend (edges_at table keys)
edges_ascend table [] each = tt
edges_ascend table (key ∷ keys) (here, more) = by (weight_of table key) (edges_ascend table keys more)
  where
    by : (o : Option ℤ) → EdgesAscend (edges_at table keys) → EdgesAscend (cons_option (option_map (edge_of key) o) (edges_at table keys))
    by None rest = rest
    by (Some w) rest = (edges_from table (λ (p : PointId). key.from.0 ≤ p.0) keys here, rest)

row_ascends : (table : Graph) (to : PointId) → IsGraph table → to.0 < table.shape.points → EdgesAscend (row_of table to)
row_ascends table to sound inside = subst EdgesAscend (sym (row_listed table sound to inside)) (edges_ascend table (row_keys table.shape to) (keys_ascend table.shape to 0 table.shape.points).0)

-- ---- entries
each_at : (P : Edge → Type 0) (to : PointId) (entries : List Entry) (j : ℕ) (other : Entry) → AllByRecursion P (map (edge_into to) entries) → slice_get entries j ≡ Some other → P (edge_into to other)
each_at P to [] j other each at = absurd cc
each_at P to (x ∷ xs) zero other (here, more) at = subst (λ (e : Entry). P (edge_into to e)) (same_Some x other at) here
each_at P to (x ∷ xs) (suc j) other (here, more) at = each_at P to xs j other more at

ascend_at : (to : PointId) (entries : List Entry) → EdgesAscend (map (edge_into to) entries) → (i j : ℕ) (one other : Entry) → i ≤ j → slice_get entries i ≡ Some one → slice_get entries j ≡ Some other → one.from.0 ≤ other.from.0
ascend_at to [] each i j one other before at there = absurd cc
ascend_at to (x ∷ xs) (low, more) zero zero one other before at there = let same : one ≡ other = same_Some one other (sym at ∙ there) in let from : one.from.0 ≡ other.from.0 = ap (λ (e : Entry). e.from.0) same in omega arith
ascend_at to (x ∷ xs) (low, more) zero (suc j) one other before at there =
    let first : x ≡ one = same_Some x one at in
    let from : x.from.0 ≡ one.from.0 = ap (λ (e : Entry). e.from.0) first in
    let most : x.from.0 ≤ other.from.0 = each_at (λ (e : Edge). x.from.0 ≤ e.from.0) to xs j other low there in omega arith
ascend_at to (x ∷ xs) (low, more) (suc i) zero one other before at there = absurd (omega (arith, before))
ascend_at to (x ∷ xs) (low, more) (suc i) (suc j) one other before at there = ascend_at to xs more i j one other (omega (arith, before)) at there

pub entries_ascend : (table : Graph) (to : PointId) (entries : List Entry) → IsGraph table → to.0 < table.shape.points → map (edge_into to) entries ≡ row_of table to → Ascend entries
entries_ascend table to entries sound inside are = ascend_at to entries (subst EdgesAscend (sym are) (row_ascends table to sound inside))

-- of some of them too
pub between_at : (entries : List Entry) (at end k : ℕ) (one : Entry) → end ≤ length entries → slice_get (slice_range entries at end) k ≡ Some one → slice_get entries (at + k) ≡ Some one
between_at entries at end k one within here =
    let below : k < length (slice_range entries at end) = slice_get_within (slice_range entries at end) k one here in
    let long : length (slice_range entries at end) ≡ end - at = length-between entries at end within in
    let inside : at + k < end = omega (arith, below, long) in
    let read : get_or entries (at + k) one ≡ one = sym (get_or-between entries at end k one inside) ∙ get_or_from_slice_get (slice_range entries at end) k one one here in
    slice_get-get_or entries (at + k) one (omega (arith, inside, within)) ∙ ap Some read

pub block_ascends : (entries : List Entry) (at end : ℕ) → end ≤ length entries → Ascend entries → Ascend (slice_range entries at end)
block_ascends entries at end within all i j one other before here there = all (at + i) (at + j) one other (omega (arith, before)) (between_at entries at end i one within here) (between_at entries at end j other within there)

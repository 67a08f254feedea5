-- The negative edges of a table by the points in which they begin: how they are gathered, and that they give the lower bounds and waits of each point.
use Rattle.std.proofs.Common.{◌≡◌, ◌≢◌, ◌==◌, ℕ, ◌+◌, ℤ, pos, ◌<◌, ◌≤◌, ◌⊎◌, Bool, true, false, List, [], ◌∷◌, ◌++◌, map, length, get_or, set, take, replicate, Option, Some, None, refl, ap, sym, subst, ◌∙◌, inl, inr, arith}
use Rattle.std.specs.Prelude.{is_none, is_some, slice_get, ◌-ℤ◌, ◌<ℤ◌, if◌then◌else◌}
use Rattle.std.specs.List.{Contains, cons_option, flat_map, range_with_len}
use Rattle.std.specs.List.Sorted.{IsPermutation, IsNonDecreasingBy}
use Rattle.std.specs.Option.{option_map, option_and_then}
use Rattle.std.specs.declared.cmp.Ordering.TheVariants.{Less}
use Rattle.std.proofs.lemmas.Bool.{cases_eq, cases_lt, eq-eqb, ne_eqb}
use Rattle.std.proofs.lemmas.Grind.{flat_map-append}
use Rattle.std.proofs.lemmas.List.{append-nil, append_assoc, get_or_default, get_or-replicate, get_or-set_other, get_or-set_same, length-replicate, length-set, map-append, take_more}
use Rattle.std.proofs.lemmas.List.Elements.{filter_map-append}
use Rattle.std.proofs.lemmas.List.Sorted.{Contains-permutation, IsPermutation-sym}
use Rattle.std.proofs.lemmas.Option.{same_Some}
use Rattle.net_model.specs.Network.{Plan, IsContingent, activation}
use Rattle.net_model.specs.declared.ids.PointId.{PointId}
use Rattle.net_model.specs.declared.ids.LinkId.{LinkId}
use Rattle.net_model.specs.declared.part.Edge.{Edge}
use Rattle.closure_model.specs.Keys.{Key, IsLabelAt, key_cmp, key_of, edge_of, ordinary_key, labelled_key, all_keys, row_keys}
use Rattle.closure_model.specs.Tables.{Graph, HasEdge, weight_of, edges_of, edges_at, row_of, IsGraph}
use Rattle.closure_model.proofs.KeyLists.{Rises, all_keys_rise, less_by_target}
use Rattle.closure_model.proofs.KeyOrder.{key_itself, key_total}
use Rattle.closure_model.proofs.ListedEdges.{edges_listed, row_listed}
use Rattle.closure_model.proofs.Lists.{Contains-map, Contains-filter_from, Contains-filter_map, Contains-filter_map_from}
use Rattle.closure_model.proofs.TableLemmas.{edge_listed, listed_edge}
use Rattle.labelled_graph.specs.Entries.{edge_into}
use Rattle.labelled_graph.specs.declared.entry.Entry.{Entry}
use Rattle.dispatch_net.specs.declared.dispatch.Conditions.{Conditions}
use Rattle.dispatch_net.specs.Dispatchable.{with_moments, lower_bounds_in, waits_in, no_conditions, conditions_in, conditions_at}
use Rattle.dispatch_net.specs.Outgoing.{bound_of, wait_of, with_edge, conditions_from, AreOutgoing}
use Rattle.dispatch_net.proofs.ExactLemmas.{gives_back, given_back, lists_exact}
use Rattle.dispatch_net.proofs.PassLemmas.{points_more}
use Rattle.dispatch_net.proofs.RisingLemmas.{Pairs, kept_pairs, same_rising, sorted_rises, rising}
use Rattle.dispatch_net.proofs.SlimLists.{same_point}

-- what an edge gives a point
abbrev bound_at : PointId → Edge → Option (PointId × ℤ)
bound_at point edge = if edge.from.0 == point.0 then bound_of edge else None

abbrev wait_at : PointId → Edge → Option (LinkId × ℤ)
wait_at point edge = if edge.from.0 == point.0 then wait_of edge else None

-- ---- lists while they are gathered
pub none_outgoing : (points : ℕ) (lists : List Conditions) → lists ≡ replicate points no_conditions → AreOutgoing points [] lists
none_outgoing points lists are = record {
  count = ap (λ (ls : List Conditions). length ls) are ∙ length-replicate points no_conditions;
  each = λ point inside. ap (λ (ls : List Conditions). conditions_at ls point) are ∙ get_or-replicate points point.0 no_conditions no_conditions inside;
}

module _ (points : ℕ) (edges : List Edge) (lists new : List Conditions) (edge : Edge) (are : AreOutgoing points edges lists) (begins : edge.from.0 < points)
    (is : new ≡ set lists edge.from.0 (with_edge edge (conditions_at lists edge.from))) where
  more : (point : PointId) → conditions_from (edges ++ edge ∷ []) point
      ≡ record { lower_bounds = (conditions_from edges point).lower_bounds ++ cons_option (bound_at point edge) []; waits = (conditions_from edges point).waits ++ cons_option (wait_at point edge) [] }
  more point = λ i. record { lower_bounds = filter_map-append (bound_at point) edges (edge ∷ []) i; waits = filter_map-append (wait_at point) edges (edge ∷ []) i }

  pub edge_pushed : AreOutgoing points (edges ++ edge ∷ []) new
  edge_pushed = record {
    count = ap (λ (ls : List Conditions). length ls) is ∙ length-set lists edge.from.0 (with_edge edge (conditions_at lists edge.from)) ∙ are.count;
    each = λ point inside. ap (λ (ls : List Conditions). conditions_at ls point) is ∙ by point inside (cases_eq edge.from.0 point.0);
  }
    where
      in_lists : edge.from.0 < length lists
      in_lists = let count = are.count in omega (arith, count, begins)

      by : (point : PointId) → point.0 < points → (edge.from.0 ≡ point.0) ⊎ (edge.from.0 ≢ point.0)
          → conditions_at (set lists edge.from.0 (with_edge edge (conditions_at lists edge.from))) point ≡ conditions_from (edges ++ edge ∷ []) point
      by point inside (inl same) =
          let here : edge.from ≡ point = ap (λ (k : ℕ). let p : PointId = record { 0 = k } in p) same in
          subst (λ (p : PointId). conditions_at (set lists edge.from.0 (with_edge edge (conditions_at lists edge.from))) p ≡ conditions_from (edges ++ edge ∷ []) p) here
          (get_or-set_same lists edge.from.0 (with_edge edge (conditions_at lists edge.from)) no_conditions in_lists
          ∙ ap (with_edge edge) (are.each edge.from begins)
          ∙ ap (λ (b : Bool). let c : Conditions = record {
            lower_bounds = (conditions_from edges edge.from).lower_bounds ++ cons_option (if b then bound_of edge else None) [];
            waits = (conditions_from edges edge.from).waits ++ cons_option (if b then wait_of edge else None) [];
          } in c) (sym (eq-eqb edge.from.0 edge.from.0 refl))
          ∙ sym (more edge.from))
      by point inside (inr other) =
          get_or-set_other lists edge.from.0 point.0 (with_edge edge (conditions_at lists edge.from)) no_conditions (λ same. other (sym same))
          ∙ are.each point inside
          ∙ (λ i. record { lower_bounds = sym (append-nil (conditions_from edges point).lower_bounds) i; waits = sym (append-nil (conditions_from edges point).waits) i })
          ∙ ap (λ (b : Bool). let c : Conditions = record {
            lower_bounds = (conditions_from edges point).lower_bounds ++ cons_option (if b then bound_of edge else None) [];
            waits = (conditions_from edges point).waits ++ cons_option (if b then wait_of edge else None) [];
          } in c) (sym (ne_eqb edge.from.0 point.0 other))
          ∙ sym (more point)

-- ---- entry after entry
pub entry_held : (table : Graph) (to : PointId) (entries : List Entry) (k : ℕ) (d : Entry) → map (edge_into to) entries ≡ row_of table to → k < length entries → HasEdge table (edge_into to (get_or entries k d))
entry_held table to entries k d are inside =
    let entry = get_or entries k d in
    let there : Contains (row_of table to) (edge_into to entry) = subst (λ (es : List Edge). Contains es (edge_into to entry)) are (Contains-map (edge_into to) entries entry (k, inside, get_or_default entries k entry d inside)) in
    listed_edge table (edge_into to entry) (Contains-filter_from (λ (e : Edge). e.to.0 == to.0) (edges_of table) (edge_into to entry) there)

pub entry_pushed : (points : ℕ) (to : PointId) (entries : List Entry) (k : ℕ) (d : Entry) (lists : List Conditions) (edge : Edge) (c new : Conditions) → k < length entries
    → edge ≡ edge_into to (get_or entries k d) → (get_or entries k d).from.0 < points → new ≡ with_edge edge (get_or lists (get_or entries k d).from.0 c)
    → (edges : List Edge) → AreOutgoing points (edges ++ map (edge_into to) (take k entries)) lists
    → AreOutgoing points (edges ++ map (edge_into to) (take (k + 1) entries)) (set lists (get_or entries k d).from.0 new)
entry_pushed points to entries k d lists edge c new inside is begins made edges are =
    let entry = get_or entries k d in
    let this : Edge = edge_into to entry in
    let within : entry.from.0 < length lists = let count = are.count in omega (arith, count, begins) in
    let before : get_or lists entry.from.0 c ≡ conditions_at lists entry.from = get_or_default lists entry.from.0 c no_conditions within in
    let pushed = edge_pushed points (edges ++ map (edge_into to) (take k entries)) lists (set lists entry.from.0 new) this are begins (ap (set lists entry.from.0) (made ∙ (λ i. with_edge (is i) (before i)))) in
    let rest : (edges ++ map (edge_into to) (take k entries)) ++ this ∷ [] ≡ edges ++ map (edge_into to) (take (k + 1) entries) =
    append_assoc edges (map (edge_into to) (take k entries)) (this ∷ [])
    ∙ ap (λ (es : List Edge). edges ++ es) (sym (map-append (edge_into to) (take k entries) (entry ∷ [])) ∙ ap (map (edge_into to)) (sym (take_more entries k d inside))) in
    subst (λ (es : List Edge). AreOutgoing points es (set lists entry.from.0 new)) rest pushed

-- ---- row after row
-- the edges of the rows before a point
abbrev pub edges_before : Graph → ℕ → List Edge
edges_before table k = edges_at table (flat_map (row_keys table.shape) (map (λ n. record { 0 = n }) (range_with_len 0 k)))

pub row_more : (table : Graph) → IsGraph table → (k : ℕ) → k < table.shape.points → edges_before table (k + 1) ≡ edges_before table k ++ row_of table (record { 0 = k })
row_more table sound k inside =
    let point : PointId = record { 0 = k } in
    let before : List PointId = map (λ n. record { 0 = n }) (range_with_len 0 k) in
    ap (λ (ps : List PointId). edges_at table (flat_map (row_keys table.shape) ps)) (points_more k)
    ∙ ap (edges_at table) (flat_map-append (row_keys table.shape) before (point ∷ []) ∙ ap (λ (ks : List Key). flat_map (row_keys table.shape) before ++ ks) (append-nil (row_keys table.shape point)))
    ∙ filter_map-append (λ (key : Key). option_map (edge_of key) (weight_of table key)) (flat_map (row_keys table.shape) before) (row_keys table.shape point)
    ∙ ap (λ (es : List Edge). edges_before table k ++ es) (sym (row_listed table sound point inside))

pub rows_all : (table : Graph) → IsGraph table → (k : ℕ) → k ≡ table.shape.points → edges_before table k ≡ edges_of table
rows_all table sound k is = ap (edges_before table) is ∙ sym (edges_listed table sound)

-- ---- the order of the edges
-- an edge of a table comes before another one in the order of keys
record IsBefore (table : Graph) (one other : Edge) : Type 0 where
  less : key_cmp (key_of one) (key_of other) ≡ Less
  has : HasEdge table one
  has_other : HasEdge table other

edge_there : (table : Graph) (key : Key) (edge : Edge) → option_map (edge_of key) (weight_of table key) ≡ Some edge → (key_of edge ≡ key) × HasEdge table edge
edge_there table key edge found = by (weight_of table key) refl found
  where
    by : (o : Option ℤ) → weight_of table key ≡ o → option_map (edge_of key) o ≡ Some edge → (key_of edge ≡ key) × HasEdge table edge
    by None none gave = absurd cc
    by (Some w) some gave = let same : edge_of key w ≡ edge = same_Some (edge_of key w) edge gave in (sym (ap key_of same), subst (HasEdge table) same some)

pairs_of_keys : (keys : List Key) → Rises keys → Pairs (λ k l. key_cmp k l ≡ Less) keys
pairs_of_keys [] rise = tt
pairs_of_keys (k ∷ ks) (first, rest) = (first, pairs_of_keys ks rest)

in_key_order : (table : Graph) → IsGraph table → Pairs (IsBefore table) (edges_of table)
in_key_order table sound =
    subst (Pairs (IsBefore table)) (sym (edges_listed table sound))
    (kept_pairs (λ k l. key_cmp k l ≡ Less) (IsBefore table) (λ key. option_map (edge_of key) (weight_of table key)) keeps (all_keys table.shape) (pairs_of_keys (all_keys table.shape) (all_keys_rise table.shape)))
  where
    keeps : (k l : Key) (one other : Edge) → key_cmp k l ≡ Less → option_map (edge_of k) (weight_of table k) ≡ Some one → option_map (edge_of l) (weight_of table l) ≡ Some other → IsBefore table one other
    keeps k l one other less at there =
        let (key, has) = edge_there table k one at in
        let (key_too, has_too) = edge_there table l other there in
        record { less = (λ i. key_cmp (key i) (key_too i)) ∙ less; has = has; has_other = has_too }

less_not_same : (k l : Key) → key_cmp k l ≡ Less → k ≡ l → ⊥
less_not_same k l less same = let clash : key_cmp k k ≡ Less = ap (key_cmp k) same ∙ less in let itself = key_itself k in absurd cc

ordinary_less : (point one other : PointId) → key_cmp (ordinary_key point one) (ordinary_key point other) ≡ Less → one.0 < other.0
ordinary_less point one other less = by (cases_lt one.0 other.0) (cases_eq one.0 other.0)
  where
    by : (one.0 < other.0) ⊎ (other.0 ≤ one.0) → (one.0 ≡ other.0) ⊎ (one.0 ≢ other.0) → one.0 < other.0
    by (inl below) either = below
    by (inr least) (inl same) = absurd (less_not_same (ordinary_key point one) (ordinary_key point other) less (ap (λ (k : ℕ). ordinary_key point (record { 0 = k })) same))
    by (inr least) (inr apart) =
        let above : other.0 < one.0 = grind (arith, least, apart) in
        let back = less_by_target (ordinary_key point other) (ordinary_key point one) above in
        let turned = key_total.antisymm (ordinary_key point one) (ordinary_key point other) in
        absurd cc

-- ---- what an edge gives
record IsBoundOf (point : PointId) (edge : Edge) (bound : PointId × ℤ) : Type 0 where
  key : key_of edge ≡ ordinary_key point bound.0
  above : pos 0 <ℤ bound.1
  weight : edge.weight ≡ pos 0 -ℤ bound.1

is_bound : (point : PointId) (edge : Edge) (bound : PointId × ℤ) → bound_at point edge ≡ Some bound → IsBoundOf point edge bound
is_bound point edge bound gave = by (edge.from.0 == point.0) refl edge.label refl gave
  where
    by : (b : Bool) → edge.from.0 == point.0 ≡ b → (label : Option LinkId) → edge.label ≡ label → (if b then (if is_none label then with_moments edge.to (Some edge.weight) else None) else None) ≡ Some bound → IsBoundOf point edge bound
    by true from None ordinary is =
        let (above, weight, to) = given_back edge.to (Some edge.weight) bound.0 bound.1 is in
        let begins : edge.from ≡ point = same_point edge.from point from in
        record { key = λ i. record { to = to i; from = begins i; label = ordinary i }; above = above; weight = same_Some edge.weight (pos 0 -ℤ bound.1) weight }
    by true from (Some label) labelled is = absurd cc
    by false from label is_label is = absurd cc

record IsWaitOf (point : PointId) (edge : Edge) (wait : LinkId × ℤ) : Type 0 where
  key : key_of edge ≡ labelled_key point edge.to wait.0
  above : pos 0 <ℤ wait.1
  weight : edge.weight ≡ pos 0 -ℤ wait.1

is_wait : (point : PointId) (edge : Edge) (wait : LinkId × ℤ) → wait_at point edge ≡ Some wait → IsWaitOf point edge wait
is_wait point edge wait gave = by (edge.from.0 == point.0) refl edge.label refl gave
  where
    by : (b : Bool) → edge.from.0 == point.0 ≡ b → (label : Option LinkId) → edge.label ≡ label → (if b then option_and_then (λ (l : LinkId). with_moments l (Some edge.weight)) label else None) ≡ Some wait → IsWaitOf point edge wait
    by true from None ordinary is = absurd cc
    by true from (Some label) labelled is =
        let (above, weight, same) = given_back label (Some edge.weight) wait.0 wait.1 is in
        let begins : edge.from ≡ point = same_point edge.from point from in
        let its : edge.label ≡ Some wait.0 = labelled ∙ ap (λ (l : LinkId). Some l) same in
        record { key = λ i. record { to = edge.to; from = begins i; label = its i }; above = above; weight = same_Some edge.weight (pos 0 -ℤ wait.1) weight }
    by false from label is_label is = absurd cc

module _ (table : Graph) (sound : IsGraph table) (point : PointId) where
  abbrev own : Conditions
  own = conditions_from (edges_of table) point

  -- ---- lower bounds
  bounds_rise : Pairs (λ (b c : PointId × ℤ). b.0.0 < c.0.0) own.lower_bounds
  bounds_rise = kept_pairs (IsBefore table) (λ (b c : PointId × ℤ). b.0.0 < c.0.0) (bound_at point) keeps (edges_of table) (in_key_order table sound)
    where
      keeps : (one other : Edge) (b c : PointId × ℤ) → IsBefore table one other → bound_at point one ≡ Some b → bound_at point other ≡ Some c → b.0.0 < c.0.0
      keeps one other b c before at there =
          let first = is_bound point one b at in
          let second = is_bound point other c there in
          ordinary_less point b.0 c.0 ((λ i. key_cmp (sym first.key i) (sym second.key i)) ∙ before.less)

  bound_listed : (bound : PointId × ℤ) → Contains own.lower_bounds bound → Contains (lower_bounds_in table point) bound
  bound_listed bound among =
      let (edge, there, gave) = Contains-filter_map_from (bound_at point) (edges_of table) bound among in
      let its = is_bound point edge bound gave in
      let has = listed_edge table edge there in
      let held : weight_of table (ordinary_key point bound.0) ≡ Some (pos 0 -ℤ bound.1) = ap (weight_of table) (sym its.key) ∙ has ∙ ap (λ (w : ℤ). Some w) its.weight in
      ((lists_exact table sound point).bounds bound.0 bound.1).1 (its.above, held)

  listed_bound : (bound : PointId × ℤ) → Contains (lower_bounds_in table point) bound → Contains own.lower_bounds bound
  listed_bound bound among =
      let (above, has) = ((lists_exact table sound point).bounds bound.0 bound.1).0 among in
      let edge : Edge = record { from = point; to = bound.0; label = None; weight = pos 0 -ℤ bound.1 } in
      let gave : bound_at point edge ≡ Some bound = ap (λ (b : Bool). if b then bound_of edge else None) (eq-eqb point.0 point.0 refl) ∙ gives_back bound.0 (Some (pos 0 -ℤ bound.1)) bound.1 above refl in
      Contains-filter_map (bound_at point) (edges_of table) edge bound (edge_listed table edge has) gave

  pub bounds_are : own.lower_bounds ≡ lower_bounds_in table point
  bounds_are = same_rising (λ (b : PointId × ℤ). b.0.0) own.lower_bounds (lower_bounds_in table point) (rising (λ (b : PointId × ℤ). b.0.0) own.lower_bounds bounds_rise) (lists_exact table sound point).bounds_rise bound_listed listed_bound

  -- ---- waits
  waits_once : Pairs (λ (v w : LinkId × ℤ). v.0.0 ≢ w.0.0) own.waits
  waits_once = kept_pairs (IsBefore table) (λ (v w : LinkId × ℤ). v.0.0 ≢ w.0.0) (wait_at point) keeps (edges_of table) (in_key_order table sound)
    where
      ends : (edge : Edge) (wait : LinkId × ℤ) → HasEdge table edge → IsWaitOf point edge wait → slice_get table.shape.activations wait.0.0 ≡ Some edge.to
      ends edge wait has its = subst (IsLabelAt table.shape edge.to) (ap (λ (k : Key). k.label) its.key) (sound.keys edge has).labelled

      keeps : (one other : Edge) (v w : LinkId × ℤ) → IsBefore table one other → wait_at point one ≡ Some v → wait_at point other ≡ Some w → v.0.0 ≢ w.0.0
      keeps one other v w before at there same =
          let first = is_wait point one v at in
          let second = is_wait point other w there in
          let to : one.to ≡ other.to = same_Some one.to other.to (sym (ends one v before.has first) ∙ ap (slice_get table.shape.activations) same ∙ ends other w before.has_other second) in
          let label : v.0 ≡ w.0 = ap (λ (k : ℕ). let l : LinkId = record { 0 = k } in l) same in
          less_not_same (key_of one) (key_of other) before.less (first.key ∙ (λ i. labelled_key point (to i) (label i)) ∙ sym second.key)

  wait_listed : (wait : LinkId × ℤ) → Contains own.waits wait → Contains (waits_in table point) wait
  wait_listed wait among =
      let (edge, there, gave) = Contains-filter_map_from (wait_at point) (edges_of table) wait among in
      let its = is_wait point edge wait gave in
      let has = listed_edge table edge there in
      let held : weight_of table (labelled_key point edge.to wait.0) ≡ Some (pos 0 -ℤ wait.1) = ap (weight_of table) (sym its.key) ∙ has ∙ ap (λ (w : ℤ). Some w) its.weight in
      ((lists_exact table sound point).waits wait.0 wait.1).1 (its.above, (edge.to, held))

  listed_wait : (wait : LinkId × ℤ) → Contains (waits_in table point) wait → Contains own.waits wait
  listed_wait wait among =
      let (above, (to, has)) = ((lists_exact table sound point).waits wait.0 wait.1).0 among in
      let edge : Edge = record { from = point; to = to; label = Some wait.0; weight = pos 0 -ℤ wait.1 } in
      let gave : wait_at point edge ≡ Some wait = ap (λ (b : Bool). if b then wait_of edge else None) (eq-eqb point.0 point.0 refl) ∙ gives_back wait.0 (Some (pos 0 -ℤ wait.1)) wait.1 above refl in
      Contains-filter_map (wait_at point) (edges_of table) edge wait (edge_listed table edge has) gave

  pub waits_are : (waits : List (LinkId × ℤ)) → IsPermutation own.waits waits → IsNonDecreasingBy (λ (w : LinkId × ℤ). w.0.0) waits → waits ≡ waits_in table point
  waits_are waits permuted ordered =
      same_rising (λ (w : LinkId × ℤ). w.0.0) waits (waits_in table point) (sorted_rises (λ (w : LinkId × ℤ). w.0.0) own.waits waits waits_once permuted ordered) (lists_exact table sound point).waits_rise
      (λ wait among. wait_listed wait (Contains-permutation waits own.waits wait (IsPermutation-sym own.waits waits permuted) among))
      (λ wait among. Contains-permutation own.waits waits wait permuted (listed_wait wait among))

-- an executable point is executed by what was gathered, once the waits are in order
pub conditions_are : (net : Plan) (table : Graph) → IsGraph table → (point : PointId) (gathered made : Conditions) → gathered ≡ conditions_from (edges_of table) point → (IsContingent net point → ⊥) → made.lower_bounds ≡ gathered.lower_bounds
    → IsPermutation gathered.waits made.waits → IsNonDecreasingBy (λ (w : LinkId × ℤ). w.0.0) made.waits → made ≡ conditions_in net table point
conditions_are net table sound point gathered made is executable bounds permuted ordered = by (is_some (activation net point)) refl
  where
    by : (b : Bool) → is_some (activation net point) ≡ b → made ≡ (if b then no_conditions else record { lower_bounds = lower_bounds_in table point; waits = waits_in table point })
    by true contingent = absurd (executable contingent)
    by false not_contingent =
        let first : made.lower_bounds ≡ lower_bounds_in table point = bounds ∙ ap (λ (c : Conditions). c.lower_bounds) is ∙ bounds_are table sound point in
        let second : made.waits ≡ waits_in table point = waits_are table sound point made.waits (subst (λ (c : Conditions). IsPermutation c.waits made.waits) is permuted) ordered in
        λ i. record { lower_bounds = first i; waits = second i }

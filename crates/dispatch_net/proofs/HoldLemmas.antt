-- The lower bounds and waits that a table gives a point require what its negative edges require.
use Rattle.std.proofs.Common.{◌≡◌, ℕ, ◌+◌, ℤ, pos, ◌<◌, Bool, true, false, inl, inr, List, map, length, get_or, min, Option, Some, None, refl, ap, sym, subst, ◌∙◌, arith, zero-add}
use Rattle.std.specs.Prelude.{slice_get, int_lt, unsigned_abs, ◌-ℤ◌, if◌then◌else◌}
use Rattle.std.specs.List.{Contains, enumerate_from}
use Rattle.std.specs.Option.{option_map, option_map_or}
use Rattle.std.proofs.lemmas.Int.{ints}
use Rattle.std.proofs.lemmas.List.Elements.{Contains-append_left, Contains-append_right, Contains-append_cases}
use Rattle.std.proofs.lemmas.List.FromFn.{get_or-enumerate_from, length-enumerate_from}
use Rattle.std.proofs.lemmas.Option.{none-some, same_Some, slice_get-map, slice_get_within, slice_get-get_or, get_or_from_slice_get}
use Rattle.net_model.specs.Network.{Plan}
use Rattle.net_model.specs.declared.ids.PointId.{PointId}
use Rattle.net_model.specs.declared.ids.LinkId.{LinkId}
use Rattle.net_model.specs.declared.part.Edge.{Edge}
use Rattle.net_model.specs.declared.part.Link.{Link}
use Rattle.closure_model.specs.Keys.{Shape, ordinary_key, labelled_key, all_points}
use Rattle.closure_model.specs.Tables.{Graph, HasEdge, edges_of, weight_of, IsFor, IsGraph}
use Rattle.closure_model.proofs.Lists.{Contains-map, Contains-map_from, Contains-filter_map, Contains-filter_map_from}
use Rattle.closure_model.proofs.KeyLists.{Contains-points}
use Rattle.closure_model.proofs.TableLemmas.{edge_listed, listed_edge}
use Rattle.strategy_model.specs.Situations.{moment_in}
use Rattle.strategy_model.specs.Dispatch.{HoldsBack, release_moment, completion_in}
use Rattle.dispatch_net.specs.Dispatchable.{with_moments, lower_bounds_in, waits_in}
use Rattle.dispatch_net.specs.Execution.{required_by_bound, required_by_wait, required_moments}

-- ---- lists
pub numbered_from : {X : Type 0} (xs : List X) (k : ℕ) (x : X) → slice_get xs k ≡ Some x → Contains (enumerate_from 0 xs) (k, x)
numbered_from xs k x is =
    let inside : k < length xs = slice_get_within xs k x is in
    let read : get_or (enumerate_from 0 xs) k (k, x) ≡ (0 + k, get_or xs k x) = get_or-enumerate_from 0 xs k (k, x) inside in
    let number : 0 + k ≡ k = zero-add k in
    let element : get_or xs k x ≡ x = get_or_from_slice_get xs k x x is in
    (k, omega (arith, length-enumerate_from 0 xs), read ∙ (λ i. (number i, element i)))

pub numbered_is : {X : Type 0} (xs : List X) (e : ℕ × X) → Contains (enumerate_from 0 xs) e → slice_get xs e.0 ≡ Some e.1
numbered_is {X} xs e (k, inside, at) =
    let short : k < length xs = omega (arith, length-enumerate_from 0 xs) in
    let is : e ≡ (0 + k, get_or xs k e.1) = sym at ∙ get_or-enumerate_from 0 xs k e short in
    let number : e.0 ≡ k = ap (λ (p : ℕ × X). p.0) is ∙ zero-add k in
    ap (slice_get xs) number ∙ slice_get-get_or xs k e.1 short ∙ ap (λ (x : X). let o : Option X = Some x in o) (sym (ap (λ (p : ℕ × X). p.1) is))

-- ---- moments
turned : (w : ℤ) → unsigned_abs (pos 0 -ℤ w) ≡ unsigned_abs w
turned w = grind (arith, ints)

pub gives : {X : Type 0} (x : X) (w : ℤ) → int_lt w (pos 0) ≡ true → with_moments x (Some w) ≡ Some (x, pos 0 -ℤ w)
gives {X} x w negative = ap (λ (b : Bool). option_map (λ (n : ℤ). let p : X × ℤ = (x, n) in p) (if b then Some (pos 0 -ℤ w) else None)) negative

-- a negative weight, and what it gives
pub record IsGiven {X : Type 0} (x : X) (o : Option ℤ) (y : X × ℤ) : Type 0 where
  pub weight : ℤ
  pub held : o ≡ Some weight
  pub negative : int_lt weight (pos 0) ≡ true
  pub is : (x, pos 0 -ℤ weight) ≡ y

pub given : {X : Type 0} (x : X) (o : Option ℤ) (y : X × ℤ) → with_moments x o ≡ Some y → IsGiven x o y
given x None y gave = absurd (none-some y gave)
given {X} x (Some w) y gave = by (int_lt w (pos 0)) refl gave
  where
    by : (b : Bool) → int_lt w (pos 0) ≡ b → option_map (λ (n : ℤ). let p : X × ℤ = (x, n) in p) (if b then Some (pos 0 -ℤ w) else None) ≡ Some y → IsGiven x (Some w) y
    by true lt some = record { weight = w; held = refl; negative = lt; is = same_Some (x, pos 0 -ℤ w) y some }
    by false lt none = absurd (none-some y none)

-- ---- what is required
module _ (net : Plan) (table : Graph) (for : IsFor net table) (sound : IsGraph table) (schedule : List ℕ) (point : PointId) where
  begins : (label : LinkId) (to : PointId) → slice_get table.shape.activations label.0 ≡ Some to → (link : Link) × (slice_get net.links label.0 ≡ Some link) × (to ≡ link.from)
  begins label to labelled = by (slice_get net.links label.0) refl
    where
      read : slice_get table.shape.activations label.0 ≡ option_map (λ (link : Link). link.from) (slice_get net.links label.0)
      read = ap (λ (s : Shape). slice_get s.activations label.0) for ∙ slice_get-map (λ (link : Link). link.from) net.links label.0

      by : (o : Option Link) → slice_get net.links label.0 ≡ o → (link : Link) × (slice_get net.links label.0 ≡ Some link) × (to ≡ link.from)
      by None none = absurd (none-some to (sym (read ∙ ap (option_map (λ (link : Link). link.from)) none) ∙ labelled))
      by (Some link) declared = (link, declared, same_Some to link.from (sym labelled ∙ read ∙ ap (option_map (λ (link : Link). link.from)) declared))

  -- a wait requires what its edge requires
  wait_same : (label : LinkId) (to : PointId) (w : ℤ) → slice_get table.shape.activations label.0 ≡ Some to
      → required_by_wait net schedule (label, pos 0 -ℤ w) ≡ min (completion_in net schedule label) (moment_in schedule to + unsigned_abs w)
  wait_same label to w labelled =
      let (link, declared, from) = begins label to labelled in
      ap (λ (o : Option Link). option_map_or (λ (l : Link). min (moment_in schedule l.to) (moment_in schedule l.from + unsigned_abs (pos 0 -ℤ w))) o 0) declared
      ∙ (λ i. min (moment_in schedule link.to) (moment_in schedule (sym from i) + turned w i))
      ∙ sym (ap (λ (o : Option Link). min (option_map_or (λ (l : Link). moment_in schedule l.to) o 0) (moment_in schedule to + unsigned_abs w)) declared)

  -- the release moment of a negative edge is required
  required_from : (to : PointId) (label : Option LinkId) (w : ℤ) → HasEdge table (record { from = point; to = to; label = label; weight = w }) → int_lt w (pos 0) ≡ true
      → Contains (required_moments net schedule (record { lower_bounds = lower_bounds_in table point; waits = waits_in table point })) (release_moment net schedule (record { from = point; to = to; label = label; weight = w }))
  required_from to None w has negative =
      let bounds = lower_bounds_in table point in
      let inside : to.0 < table.shape.points = (sound.keys (record { from = point; to = to; label = None; weight = w }) has).to_point in
      let give : PointId → Option (PointId × ℤ) = λ other. with_moments other (weight_of table (ordinary_key point other)) in
      let listed : Contains bounds (to, pos 0 -ℤ w) =
      Contains-filter_map give (all_points table.shape) to (to, pos 0 -ℤ w) (Contains-points 0 table.shape.points to (omega arith) (omega arith)) (ap (with_moments to) has ∙ gives to w negative) in
      let mapped : Contains (map (required_by_bound schedule) bounds) (moment_in schedule to + unsigned_abs (pos 0 -ℤ w)) = Contains-map (required_by_bound schedule) bounds (to, pos 0 -ℤ w) listed in
      Contains-append_left (map (required_by_bound schedule) bounds) (map (required_by_wait net schedule) (waits_in table point)) (moment_in schedule to + unsigned_abs w)
      (subst (λ n. Contains (map (required_by_bound schedule) bounds) (moment_in schedule to + n)) (turned w) mapped)
  required_from to (Some label) w has negative =
      let waits = waits_in table point in
      let labelled : slice_get table.shape.activations label.0 ≡ Some to = (sound.keys (record { from = point; to = to; label = Some label; weight = w }) has).labelled in
      let give : ℕ × PointId → Option (LinkId × ℤ) = λ e. with_moments (record { 0 = e.0 }) (weight_of table (labelled_key point e.1 (record { 0 = e.0 }))) in
      let listed : Contains waits (label, pos 0 -ℤ w) =
      Contains-filter_map give (enumerate_from 0 table.shape.activations) (label.0, to) (label, pos 0 -ℤ w) (numbered_from table.shape.activations label.0 to labelled) (ap (with_moments label) has ∙ gives label w negative) in
      Contains-append_right (map (required_by_bound schedule) (lower_bounds_in table point)) (map (required_by_wait net schedule) waits) (min (completion_in net schedule label) (moment_in schedule to + unsigned_abs w))
      (subst (Contains (map (required_by_wait net schedule) waits)) (wait_same label to w labelled) (Contains-map (required_by_wait net schedule) waits (label, pos 0 -ℤ w) listed))

  pub holding : (edge : Edge) → HoldsBack (edges_of table) point edge
      → Contains (required_moments net schedule (record { lower_bounds = lower_bounds_in table point; waits = waits_in table point })) (release_moment net schedule edge)
  holding edge holds =
      let has : HasEdge table edge = listed_edge table edge holds.among in
      required_from edge.to edge.label edge.weight (subst (λ (p : PointId). HasEdge table (record { from = p; to = edge.to; label = edge.label; weight = edge.weight })) holds.begins has) holds.negative

  -- and each required moment is the release moment of a negative edge
  pub edge_for : (m : ℕ) → Contains (required_moments net schedule (record { lower_bounds = lower_bounds_in table point; waits = waits_in table point })) m
      → (edge : Edge) × HoldsBack (edges_of table) point edge × (release_moment net schedule edge ≡ m)
  edge_for m among =
      elim (Contains-append_cases (map (required_by_bound schedule) (lower_bounds_in table point)) (map (required_by_wait net schedule) (waits_in table point)) m among) [ inl one ↦ by_bound one | inr two ↦ by_wait two ]
    where
      held : (to : PointId) (label : Option LinkId) (w : ℤ) → HasEdge table (record { from = point; to = to; label = label; weight = w }) → int_lt w (pos 0) ≡ true
          → HoldsBack (edges_of table) point (record { from = point; to = to; label = label; weight = w })
      held to label w has negative = record { among = edge_listed table (record { from = point; to = to; label = label; weight = w }) has; begins = refl; negative = negative }

      by_bound : Contains (map (required_by_bound schedule) (lower_bounds_in table point)) m → (edge : Edge) × HoldsBack (edges_of table) point edge × (release_moment net schedule edge ≡ m)
      by_bound one =
          let (bound, listed, asks) = Contains-map_from (required_by_bound schedule) (lower_bounds_in table point) m one in
          let (other, there, gave) = Contains-filter_map_from (λ (p : PointId). with_moments p (weight_of table (ordinary_key point p))) (all_points table.shape) bound listed in
          let its = given other (weight_of table (ordinary_key point other)) bound gave in
          let same : moment_in schedule other + unsigned_abs its.weight ≡ m = ap (λ n. moment_in schedule other + n) (sym (turned its.weight)) ∙ ap (required_by_bound schedule) its.is ∙ asks in
          (record { from = point; to = other; label = None; weight = its.weight }, held other None its.weight its.held its.negative, same)

      by_wait : Contains (map (required_by_wait net schedule) (waits_in table point)) m → (edge : Edge) × HoldsBack (edges_of table) point edge × (release_moment net schedule edge ≡ m)
      by_wait two =
          let (wait, listed, asks) = Contains-map_from (required_by_wait net schedule) (waits_in table point) m two in
          let (e, there, gave) = Contains-filter_map_from (λ (e : ℕ × PointId). let l : LinkId = record { 0 = e.0 } in with_moments l (weight_of table (labelled_key point e.1 l))) (enumerate_from 0 table.shape.activations) wait listed in
          let label : LinkId = record { 0 = e.0 } in
          let its = given label (weight_of table (labelled_key point e.1 label)) wait gave in
          let same : min (completion_in net schedule label) (moment_in schedule e.1 + unsigned_abs its.weight) ≡ m =
          sym (wait_same label e.1 its.weight (numbered_is table.shape.activations e there)) ∙ ap (required_by_wait net schedule) its.is ∙ asks in
          (record { from = point; to = e.1; label = Some label; weight = its.weight }, held e.1 (Some label) its.weight its.held its.negative, same)

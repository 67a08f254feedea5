-- Moments so far that keep every derivable negative edge, and what these ask of a point over the lists of a forward closed table: all that any
-- derivable edge does.
use Rattle.std.proofs.Common.{◌≡◌, ℕ, ◌≤◌, ℤ, pos, true, false, List, Option, Some, None, refl, ap, sym, subst, ◌∙◌, arith}
use Rattle.std.specs.Prelude.{◌-ℤ◌, ◌≤ℤ◌, ◌<ℤ◌, Bool, slice_get, unsigned_abs}
use Rattle.std.specs.List.{Contains, list_all}
use Rattle.std.specs.Option.{option_map_or}
use Rattle.std.proofs.lemmas.Bool.{and_parts, and_from}
use Rattle.std.proofs.lemmas.Int.{ints}
use Rattle.net_model.specs.Moments.{Moments, moment_of}
use Rattle.net_model.specs.Network.{Plan, IsExecutable}
use Rattle.net_model.specs.declared.ids.LinkId.{LinkId}
use Rattle.net_model.specs.declared.ids.PointId.{PointId}
use Rattle.net_model.specs.declared.part.Edge.{Edge}
use Rattle.net_model.specs.declared.part.Link.{Link}
use Rattle.closure_model.specs.Derivable.{IsDerivable}
use Rattle.closure_model.specs.Tables.{Graph, HasEdge, edges_of}
use Rattle.closure_model.proofs.TableLemmas.{listed_edge}
use Rattle.closure_laws.specs.Forward.{IsDispatchedForward, IsCovered, stands, goes_by}
use Rattle.closure_laws.proofs.CoverLemmas.{law_derivable_are_covered}
use Rattle.closure_laws.proofs.ForwardLemmas.{law_forward_tables_are_forward_lists}
use Rattle.dispatch_net.specs.declared.dispatch.Conditions.{Conditions}
use Rattle.dispatch_net.specs.Dispatchable.{dispatchable, conditions_at}
use Rattle.dispatch_net.specs.Laws.{AreExact}
use Rattle.dispatch_net.proofs.ExactLemmas.{law_lists_are_exact}
use Rattle.dispatch_net.proofs.SlimLists.{list_passes, passes_each}
use Rattle.execution_model.specs.Execution.{has_gone_by, meets_bound, meets_wait_for, meets_wait, meets}
use Rattle.execution_model.specs.Laws.{setting_of}
use Rattle.execution_model.proofs.GraphLemmas.{law_forward_tables_are_graphs}
use Rattle.execution_model.proofs.PacedLemmas.{Keeps, gone_later, wait_for_later}
use Rattle.execution_model.proofs.PlaceLemmas.{from_gone_by}
use Rattle.execution_model.proofs.WholeLemmas.{turned_below, below_too}

-- ---- weights
no_longer : (v w : ℤ) → w ≤ℤ v → v <ℤ pos 0 → unsigned_abs v ≤ unsigned_abs w
no_longer v w below negative = grind (arith, ints)

turned_size : (w : ℤ) → unsigned_abs (pos 0 -ℤ w) ≡ unsigned_abs w
turned_size w = grind (arith, ints)

turned_back : (w : ℤ) → w ≡ pos 0 -ℤ (pos 0 -ℤ w)
turned_back w = grind (arith, ints)

turned_above : (w : ℤ) → w <ℤ pos 0 → pos 0 <ℤ (pos 0 -ℤ w)
turned_above w negative = grind (arith, ints)

-- ---- what an edge asks
-- a negative edge to a point, of this label and weight, lets the point in which it begins come at t: as a lower bound or a wait is met
abbrev pub lets_come_by : Plan → Moments → (t : ℕ) → (to : PointId) → ℤ → Option LinkId → Bool
lets_come_by net moments t to weight None = has_gone_by moments t to weight
lets_come_by net moments t to weight (Some label) = option_map_or (meets_wait_for moments t weight) (slice_get net.links label.0) false

abbrev pub lets_come : Plan → Moments → (t : ℕ) → Edge → Bool
lets_come net moments t edge = lets_come_by net moments t edge.to edge.weight edge.label

-- later, with more moments known, an edge that asks for no more lets it come too
module _ (net : Plan) (before after : Moments) (keeps : Keeps before after) (t u : ℕ) (later : t ≤ u) (w v : ℤ) (no_more : unsigned_abs v ≤ unsigned_abs w) where
  pub still_lets_come : (to : PointId) (label : Option LinkId) → lets_come_by net before t to w label ≡ true → lets_come_by net after u to v label ≡ true
  still_lets_come to None gone = gone_later before after keeps t u later w v no_more to gone
  still_lets_come to (Some label) met = by (slice_get net.links label.0) met
    where
      by : (o : Option Link) → option_map_or (meets_wait_for before t w) o false ≡ true → option_map_or (meets_wait_for after u v) o false ≡ true
      by None met = met
      by (Some link) met = wait_for_later before after keeps t u later w v no_more link met

keeps_itself : (moments : Moments) → Keeps moments moments
keeps_itself moments point m is = is

-- so does one to the same point, of the same label, that is negative and of no lesser weight
lets_come_as : (net : Plan) (moments : Moments) (t u : ℕ) (one other : Edge) → lets_come net moments t one ≡ true → t ≤ u → one.to ≡ other.to → one.label ≡ other.label → one.weight ≤ℤ other.weight
    → other.weight <ℤ pos 0
    → lets_come net moments u other ≡ true
lets_come_as net moments t u one other met later to label below negative =
    (λ i. lets_come_by net moments u (sym to i) other.weight (sym label i))
    ∙ still_lets_come net moments moments (keeps_itself moments) t u later one.weight other.weight (no_longer other.weight one.weight below negative) one.to one.label met

turned_lets_come : (net : Plan) (moments : Moments) (t : ℕ) (to : PointId) (label : Option LinkId) (w : ℤ) → lets_come_by net moments t to (pos 0 -ℤ w) label ≡ true
    → lets_come_by net moments t to w label ≡ true
turned_lets_come net moments t to label w =
    still_lets_come net moments moments (keeps_itself moments) t t (omega arith) (pos 0 -ℤ w) w (let same = turned_size w in omega (arith, same)) to label

-- ---- moments that keep the derivable edges
-- a point that has come did so when each derivable negative edge from it let it come
abbrev pub AreKept : Plan → Moments → Type 0
AreKept net moments =
    (point : PointId) (m : ℕ) → moment_of moments point ≡ Some m → (edge : Edge) → IsDerivable net edge → edge.from ≡ point → edge.weight <ℤ pos 0 → lets_come net moments m edge ≡ true

module _ (net : Plan) (moments : Moments) (kept : AreKept net moments) (edges : List Edge) (derivable : (edge : Edge) → Contains edges edge → IsDerivable net edge) where
  -- so do the edges that derivable edges cover
  kept_covered : (edge : Edge) → IsCovered edges edge → (m : ℕ) → moment_of moments edge.from ≡ Some m → edge.weight <ℤ pos 0 → lets_come net moments m edge ≡ true
  kept_covered edge (stands _ there) m come negative =
      lets_come_as net moments m m there.entry edge
      (kept edge.from m come there.entry (derivable there.entry there.among) there.from (below_too there.entry.weight edge.weight there.at_most negative)) (omega arith) there.to there.label
      there.at_most negative
  kept_covered edge (goes_by first next _ among plain below begins meets ends labels least rest) m come negative =
      let first_met : lets_come net moments m first ≡ true = kept edge.from m come first (derivable first among) begins below in
      let (y, y_is, y_gone) = from_gone_by moments m first.to first.weight (sym (ap (lets_come_by net moments m first.to first.weight) plain) ∙ first_met) in
      let next_come : moment_of moments next.from ≡ Some y = ap (moment_of moments) (sym meets) ∙ y_is in
      lets_come_as net moments y m next edge (kept_covered next rest y next_come (below_too next.weight edge.weight least negative)) (omega (arith, y_gone)) ends labels least negative

-- ---- a point whose lower bounds and waits by a forward closed table are met
module _ (net : Plan) (table : Graph) (order : List PointId) (by : IsDispatchedForward net table order) (point : PointId) (executable : IsExecutable net point) where
  abbrev conditions : Conditions
  conditions = conditions_at (dispatchable net table) point

  exact : AreExact table point conditions
  exact = (law_lists_are_exact net table point by.forward.for_network (law_forward_tables_are_graphs net table by.instant.sound by.forward) executable.0).0 executable

  module _ (moments : Moments) (kept : AreKept net moments) (t : ℕ) where
    module _ (met : meets (setting_of net table) moments t conditions ≡ true) where
      bounds_met : list_all (meets_bound moments t) conditions.lower_bounds ≡ true
      bounds_met = (and_parts (list_all (meets_bound moments t) conditions.lower_bounds) (list_all (meets_wait (setting_of net table) moments t) conditions.waits) met).0

      waits_met : list_all (meets_wait (setting_of net table) moments t) conditions.waits ≡ true
      waits_met = (and_parts (list_all (meets_bound moments t) conditions.lower_bounds) (list_all (meets_wait (setting_of net table) moments t) conditions.waits) met).1

      -- its negative edges let it come
      edge_lets_come : (to : PointId) (label : Option LinkId) (w : ℤ) → w <ℤ pos 0 → HasEdge table (record { from = point; to = to; label = label; weight = w }) → lets_come_by net moments t to w label ≡ true
      edge_lets_come to None w negative has =
          let turned : HasEdge table (record { from = point; to = to; label = None; weight = pos 0 -ℤ (pos 0 -ℤ w) }) =
          subst (λ (v : ℤ). HasEdge table (record { from = point; to = to; label = None; weight = v })) (turned_back w) has in
          let among : Contains conditions.lower_bounds (to, pos 0 -ℤ w) = (exact.bounds to (pos 0 -ℤ w)).1 (turned_above w negative, turned) in
          turned_lets_come net moments t to None w (passes_each (meets_bound moments t) conditions.lower_bounds (to, pos 0 -ℤ w) bounds_met among)
      edge_lets_come to (Some label) w negative has =
          let turned : HasEdge table (record { from = point; to = to; label = Some label; weight = pos 0 -ℤ (pos 0 -ℤ w) }) =
          subst (λ (v : ℤ). HasEdge table (record { from = point; to = to; label = Some label; weight = v })) (turned_back w) has in
          let among : Contains conditions.waits (label, pos 0 -ℤ w) = (exact.waits label (pos 0 -ℤ w)).1 (turned_above w negative, (to, turned)) in
          turned_lets_come net moments t to (Some label) w (passes_each (meets_wait (setting_of net table) moments t) conditions.waits (label, pos 0 -ℤ w) waits_met among)

      entry_lets_come : (edge : Edge) → Contains (edges_of table) edge → edge.from ≡ point → edge.weight <ℤ pos 0 → lets_come net moments t edge ≡ true
      entry_lets_come edge among begins negative =
          edge_lets_come edge.to edge.label edge.weight negative
          (subst (λ (p : PointId). HasEdge table (record { from = p; to = edge.to; label = edge.label; weight = edge.weight })) begins (listed_edge table edge among))

      -- and so does every edge that they cover
      covered_lets_come : (edge : Edge) → IsCovered (edges_of table) edge → edge.from ≡ point → edge.weight <ℤ pos 0 → lets_come net moments t edge ≡ true
      covered_lets_come edge (stands _ there) begins negative =
          lets_come_as net moments t t there.entry edge
          (entry_lets_come there.entry there.among (there.from ∙ begins) (below_too there.entry.weight edge.weight there.at_most negative)) (omega arith) there.to there.label there.at_most negative
      covered_lets_come edge (goes_by first next _ among plain below starts meets ends labels least rest) begins negative =
          let first_met : lets_come net moments t first ≡ true = entry_lets_come first among (starts ∙ begins) below in
          let (y, y_is, y_gone) = from_gone_by moments t first.to first.weight (sym (ap (lets_come_by net moments t first.to first.weight) plain) ∙ first_met) in
          let next_come : moment_of moments next.from ≡ Some y = ap (moment_of moments) (sym meets) ∙ y_is in
          lets_come_as net moments y t next edge
          (kept_covered net moments kept (edges_of table) (λ e there. by.forward.derivable e (listed_edge table e there)) next rest y next_come (below_too next.weight edge.weight least negative))
          (omega (arith, y_gone)) ends labels least negative

      -- so every derivable negative edge lets it come
      pub derivable_lets_come : (edge : Edge) → IsDerivable net edge → edge.from ≡ point → edge.weight <ℤ pos 0 → lets_come net moments t edge ≡ true
      derivable_lets_come edge derivable =
          covered_lets_come edge
          (law_derivable_are_covered net (edges_of table) edge by.instant.sound (law_forward_tables_are_forward_lists net table by.instant.sound by.forward) derivable)

    -- if derivable edges let it come, its lower bounds and waits are met
    pub met_if_let_come : ((edge : Edge) → IsDerivable net edge → edge.from ≡ point → edge.weight <ℤ pos 0 → lets_come net moments t edge ≡ true)
        → meets (setting_of net table) moments t conditions ≡ true
    met_if_let_come each =
        and_from (list_all (meets_bound moments t) conditions.lower_bounds) (list_all (meets_wait (setting_of net table) moments t) conditions.waits)
        (list_passes (meets_bound moments t) conditions.lower_bounds bound_met) (list_passes (meets_wait (setting_of net table) moments t) conditions.waits wait_met)
      where
        bound_met : (bound : PointId × ℤ) → Contains conditions.lower_bounds bound → meets_bound moments t bound ≡ true
        bound_met bound among =
            let (above, has) = (exact.bounds bound.0 bound.1).0 among in
            let edge : Edge = record { from = point; to = bound.0; label = None; weight = pos 0 -ℤ bound.1 } in
            turned_lets_come net moments t bound.0 None bound.1 (each edge (by.forward.derivable edge has) refl (turned_below bound.1 above))

        wait_met : (wait : LinkId × ℤ) → Contains conditions.waits wait → meets_wait (setting_of net table) moments t wait ≡ true
        wait_met wait among =
            let (above, found) = (exact.waits wait.0 wait.1).0 among in
            let (to, has) = found in
            let edge : Edge = record { from = point; to = to; label = Some wait.0; weight = pos 0 -ℤ wait.1 } in
            turned_lets_come net moments t to (Some wait.0) wait.1 (each edge (by.forward.derivable edge has) refl (turned_below wait.1 above))

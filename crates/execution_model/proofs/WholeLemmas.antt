-- If every contingent point has completed and no moment brings an act, every point has come: by the order of the table, from first to last.
use Rattle.std.proofs.Common.{◌≡◌, ◌⊎◌, ℕ, zero, suc, ◌+◌, ◌<◌, ◌≤◌, ℤ, pos, Bool, true, false, List, [], ◌∷◌, length, get_or, Option, Some, None, is_some, refl, ap, sym, subst, ◌∙◌, inl, inr, arith}
use Rattle.std.specs.Prelude.{◌&&◌, ◌||◌, ◌-ℤ◌, ◌≤ℤ◌, ◌<ℤ◌, nat_le, int_lt, slice_get, unsigned_abs, IsSome}
use Rattle.std.specs.Int.{int_max}
use Rattle.std.specs.List.{All, Contains, list_all}
use Rattle.std.specs.Option.{option_map, option_map_or, option_and_then}
use Rattle.std.proofs.lemmas.Int.{ints, int_max_is}
use Rattle.std.proofs.lemmas.Bool.{cases_lt, le-leb, true≢false}
use Rattle.std.proofs.lemmas.Option.{none-some, same_Some, slice_get-map, slice_get_within, get_or_from_slice_get}
use Rattle.std.proofs.lemmas.List.{get_or_default}
use Rattle.std.proofs.lemmas.List.Sums.{list_all-from_AllPass}
use Rattle.std.proofs.lemmas.List.Elements.{All-head, All-tail, All-weaker, All-contains_itself}
use Rattle.net_model.specs.Network.{Plan, IsPlan, IsLink, IsPoint, IsContingent, IsExecutable}
use Rattle.net_model.specs.Edges.{IsLinkOf}
use Rattle.net_model.specs.Rules.{removal}
use Rattle.net_model.specs.ForwardRules as forward
use Rattle.net_model.specs.declared.ids.PointId.{PointId}
use Rattle.net_model.specs.declared.ids.LinkId.{LinkId}
use Rattle.net_model.specs.declared.part.Edge.{Edge}
use Rattle.net_model.specs.declared.part.Link.{Link}
use Rattle.closure_model.specs.Keys.{Shape}
use Rattle.closure_model.specs.Orders.{goes}
use Rattle.closure_model.specs.Tables.{Graph, IsGraph, HasEdge, HasAtMost}
use Rattle.closure_model.proofs.TableLemmas.{edge_listed, at_most_gives, at_most_from}
use Rattle.closure_model.proofs.Weights.{lt_true, le_refl}
use Rattle.closure_model.proofs.Consequences.{ends_there}
use Rattle.strategy_model.proofs.KindLemmas.{Ending, kind}
use Rattle.dispatch_net.specs.Dispatchable.{MayDispatch, dispatchable, conditions_at}
use Rattle.dispatch_net.specs.declared.dispatch.Conditions.{Conditions}
use Rattle.dispatch_net.specs.Laws.{AreExact}
use Rattle.dispatch_net.proofs.ExactLemmas.{law_lists_are_exact}
use Rattle.dispatch_net.proofs.ExecutionLemmas.{point_count, dispatchable_length}
use Rattle.net_model.specs.Moments.{Moments, moment_of}
use Rattle.execution_model.specs.Execution.{has_come, has_gone_by, meets_bound, meets_wait_for, meets_wait, meets, is_due, acts_at}
use Rattle.execution_model.specs.Laws.{setting_of, NoActsLeftIsWhole}
use Rattle.execution_model.proofs.LinkLemmas.{executable_has_none}
use Rattle.execution_model.proofs.MomentLemmas.{all_come, due_from, no_acts_none_due}

-- ---- lower bounds of points that have come
module _ (moments : Moments) where
  -- from some moment on, the lower bounds are met
  record AreMet (bounds : List (PointId × ℤ)) : Type 0 where
    from : ℕ
    met : (t : ℕ) → from ≤ t → list_all (meets_bound moments t) bounds ≡ true

  are_met : (bounds : List (PointId × ℤ)) → All (λ (bound : PointId × ℤ). IsSome (moment_of moments bound.0)) bounds → AreMet bounds
  are_met [] come = record { from = 0; met = λ t late. refl }
  are_met (bound ∷ others) come =
      by (moment_of moments bound.0) refl (All-head (λ (b : PointId × ℤ). IsSome (moment_of moments b.0)) bound others come)
      (are_met others (All-tail (λ (b : PointId × ℤ). IsSome (moment_of moments b.0)) bound others come))
    where
      by : (o : Option ℕ) → moment_of moments bound.0 ≡ o → IsSome o → AreMet others → AreMet (bound ∷ others)
      by None none some rest = absurd (true≢false (sym some))
      by (Some m) came some rest = record { from = m + unsigned_abs bound.1 + rest.from; met = met }
        where
          met : (t : ℕ) → m + unsigned_abs bound.1 + rest.from ≤ t → list_all (meets_bound moments t) (bound ∷ others) ≡ true
          met t late =
              let gone : has_gone_by moments t bound.0 bound.1 ≡ true =
              ap (λ (o : Option ℕ). option_map_or (λ moment. nat_le (moment + unsigned_abs bound.1) t) o false) came ∙ le-leb (m + unsigned_abs bound.1) t (omega (arith, late)) in
              ap (λ (b : Bool). b && list_all (meets_bound moments t) others) gone ∙ rest.met t (omega (arith, late))

-- ---- the edges of a table that may dispatch a network
pub turned_below : (n : ℤ) → pos 0 <ℤ n → (pos 0 -ℤ n) <ℤ pos 0
turned_below n above = grind (arith, ints)

removed_below : (n low : ℤ) → pos 0 <ℤ n → pos 1 ≤ℤ low → int_max (pos 0 -ℤ n) (pos 0 -ℤ low) <ℤ pos 0
removed_below n low above positive = grind (arith, ints, int_max_is)

pub below_too : (w v : ℤ) → w ≤ℤ v → v <ℤ pos 0 → w <ℤ pos 0
below_too w v less below = grind (arith, ints)

module _ (net : Plan) (table : Graph) (order : List PointId) (plan : IsPlan net) (sound : IsGraph table) (may : MayDispatch net table order) where
  -- a negative ordinary edge leads from one point to the other
  goes_by : (from to : PointId) (v : ℤ) → v <ℤ pos 0 → HasAtMost table (record { from = from; to = to; label = None; weight = v }) → goes table from to ≡ true
  goes_by from to v below most =
      let (w, is, less) = at_most_gives table (record { from = from; to = to; label = None; weight = v }) most in
      ap (λ (o : Option ℤ). option_map_or (λ weight. int_lt weight (pos 0)) o false) is ∙ lt_true w (pos 0) (below_too w v less below)

  -- a lower bound is after its point in the order
  goes_to_bound : (from to : PointId) (n : ℤ) → pos 0 <ℤ n → HasEdge table (record { from = from; to = to; label = None; weight = pos 0 -ℤ n }) → goes table from to ≡ true
  goes_to_bound from to n above has =
      goes_by from to (pos 0 -ℤ n) (turned_below n above) (at_most_from table (record { from = from; to = to; label = None; weight = pos 0 -ℤ n }) (pos 0 -ℤ n) has (le_refl (pos 0 -ℤ n)))

  -- a labelled edge ends in the activation point of its link
  activation_of : (from to : PointId) (label : LinkId) (w : ℤ) → HasEdge table (record { from = from; to = to; label = Some label; weight = w })
      → (link : Link) × IsLinkOf net label link × (to ≡ link.from)
  activation_of from to label w has = by (slice_get net.links label.0) refl
    where
      labelled : slice_get table.shape.activations label.0 ≡ Some to
      labelled = (sound.keys (record { from = from; to = to; label = Some label; weight = w }) has).labelled

      read : slice_get table.shape.activations label.0 ≡ option_map (λ (link : Link). link.from) (slice_get net.links label.0)
      read = ap (λ (s : Shape). slice_get s.activations label.0) may.for_network ∙ slice_get-map (λ (link : Link). link.from) net.links label.0

      by : (o : Option Link) → slice_get net.links label.0 ≡ o → (link : Link) × IsLinkOf net label link × (to ≡ link.from)
      by None none = absurd (none-some to (sym (read ∙ ap (option_map (λ (link : Link). link.from)) none) ∙ labelled))
      by (Some link) declared = (link, declared, same_Some to link.from (sym labelled ∙ read ∙ ap (option_map (λ (link : Link). link.from)) declared))

  -- a wait is after the activation point of its link: by removal there is an ordinary edge, and it is negative
  goes_to_activation : (from to : PointId) (label : LinkId) (n : ℤ) → pos 0 <ℤ n → HasEdge table (record { from = from; to = to; label = Some label; weight = pos 0 -ℤ n })
      → goes table from to ≡ true
  unfolding removal
  goes_to_activation from to label n above has =
      let (link, declared, begins) = activation_of from to label (pos 0 -ℤ n) has in
      let premise : Edge = record { from = from; to = to; label = Some label; weight = pos 0 -ℤ n } in
      let v : ℤ = int_max (pos 0 -ℤ n) (pos 0 -ℤ link.low) in
      let edge : Edge = record { from = from; to = to; label = None; weight = v } in
      let made : removal net premise ≡ Some edge =
      ap (option_and_then (λ (l : Link). let e : Edge = record { from = from; to = to; label = None; weight = int_max (pos 0 -ℤ n) (pos 0 -ℤ l.low) } in Some e)) declared in
      let here : IsLink net link = subst (IsLink net) (get_or_from_slice_get net.links label.0 link link declared) (plan.links_sound label.0 link (slice_get_within net.links label.0 link declared)) in
      goes_by from to v (removed_below n link.low above here.positive) (may.closed edge (forward.by_removal premise (edge_listed table premise has) made))

-- ---- executable points, one after the other
-- a network that is dispatched by a table, with every contingent point completed, and no act from a moment on
record IsStill (net : Plan) (table : Graph) (order : List PointId) (moments : Moments) (from : ℕ) : Type 0 where
  plan : IsPlan net
  sound : IsGraph table
  may : MayDispatch net table order
  contingent : (point : PointId) → IsContingent net point → IsSome (moment_of moments point)
  still : (t : ℕ) → from ≤ t → acts_at (setting_of net table) moments t ≡ []

module _ (net : Plan) (table : Graph) (order : List PointId) (moments : Moments) (from : ℕ) (is : IsStill net table order moments from) where
  open is use {plan, sound, may, contingent, still}

  -- a point has come if those have that stand before it by a negative edge
  comes_after : (point : PointId) → IsExecutable net point → ((other : PointId) → other.0 < table.shape.points → goes table point other ≡ true → IsSome (moment_of moments other))
      → IsSome (moment_of moments point)
  comes_after point executable earlier = by (moment_of moments point) refl
    where
      conditions : Conditions
      conditions = conditions_at (dispatchable net table) point

      exact : AreExact table point conditions
      exact = (law_lists_are_exact net table point may.for_network sound executable.0).0 executable

      bound_come : (bound : PointId × ℤ) → Contains conditions.lower_bounds bound → IsSome (moment_of moments bound.0)
      bound_come bound listed =
          let (above, has) = (exact.bounds bound.0 bound.1).0 listed in
          earlier bound.0 (sound.keys (record { from = point; to = bound.0; label = None; weight = pos 0 -ℤ bound.1 }) has).to_point
          (goes_to_bound net table order plan sound may point bound.0 bound.1 above has)

      bounds_met : AreMet moments conditions.lower_bounds
      bounds_met =
          are_met moments conditions.lower_bounds
          (All-weaker (Contains conditions.lower_bounds) (λ (b : PointId × ℤ). IsSome (moment_of moments b.0)) bound_come conditions.lower_bounds (All-contains_itself conditions.lower_bounds))

      wait_met : (t : ℕ) (wait : LinkId × ℤ) → Contains conditions.waits wait → meets_wait (setting_of net table) moments t wait ≡ true
      wait_met t wait listed =
          let (above, found) = (exact.waits wait.0 wait.1).0 listed in
          let (to, has) = found in
          let (link, declared, begins) = activation_of net table order plan sound may point to wait.0 (pos 0 -ℤ wait.1) has in
          let inside : to.0 < table.shape.points = (sound.keys (record { from = point; to = to; label = Some wait.0; weight = pos 0 -ℤ wait.1 }) has).to_point in
          let active : has_come moments link.from ≡ true =
          subst (λ (p : PointId). IsSome (moment_of moments p)) begins (earlier to inside (goes_to_activation net table order plan sound may point to wait.0 wait.1 above has)) in
          let completed : has_come moments link.to ≡ true = contingent link.to (ap is_some (ends_there net plan wait.0 link link.to declared refl)) in
          ap (λ (o : Option Link). option_map_or (meets_wait_for moments t wait.1) o false) declared
          ∙ ap (λ (b : Bool). b && (has_come moments link.to || has_gone_by moments t link.from wait.1)) active
          ∙ ap (λ (b : Bool). b || has_gone_by moments t link.from wait.1) completed

      waits_met : (t : ℕ) → list_all (meets_wait (setting_of net table) moments t) conditions.waits ≡ true
      waits_met t =
          list_all-from_AllPass (meets_wait (setting_of net table) moments t) conditions.waits
          (All-weaker (Contains conditions.waits) (λ (w : LinkId × ℤ). meets_wait (setting_of net table) moments t w ≡ true) (wait_met t) conditions.waits (All-contains_itself conditions.waits))

      by : (o : Option ℕ) → moment_of moments point ≡ o → IsSome (moment_of moments point)
      by (Some m) come = ap is_some come
      by None new =
          let t : ℕ = from + bounds_met.from in
          let met : meets (setting_of net table) moments t conditions ≡ true =
          ap (λ (b : Bool). b && list_all (meets_wait (setting_of net table) moments t) conditions.waits) (bounds_met.met t (omega arith)) ∙ waits_met t in
          let due : is_due (setting_of net table) moments t point ≡ true =
          due_from (setting_of net table) moments t point (executable_has_none net (setting_of net table) refl point executable) new met in
          let inside : point.0 < length (dispatchable net table) = let long = dispatchable_length net table may.for_network in let within : point.0 < length net.points = executable.0 in omega arith in
          absurd (true≢false (sym due ∙ no_acts_none_due (setting_of net table) moments t (still t (omega arith)) point inside))

  come_by : (n : ℕ) (point : PointId) (k : ℕ) → k < n → k < length order → get_or order k point ≡ point → IsSome (moment_of moments point)
  come_by zero point k low inside at = absurd (omega arith)
  come_by (suc n) point k low inside at = by (λ other j less within there. come_by n other j less within there) (kind net point is_point)
    where
      is_point : IsPoint net point
      is_point =
          let begins : (get_or order k point).0 < table.shape.points = may.ordered.points k point inside in
          let here : point.0 < table.shape.points = subst (λ (p : PointId). p.0 < table.shape.points) at begins in
          let count = point_count net table may.for_network in
          omega arith

      by : ((other : PointId) (j : ℕ) → j < n → j < length order → get_or order j other ≡ other → IsSome (moment_of moments other)) → IsExecutable net point ⊎ Ending net point
          → IsSome (moment_of moments point)
      by rest (inr ending) = contingent point (ap is_some (ends_there net plan ending.name ending.link point ending.declared (sym ending.ends)))
      by rest (inl executable) = comes_after point executable earlier
        where
          earlier : (other : PointId) → other.0 < table.shape.points → goes table point other ≡ true → IsSome (moment_of moments other)
          earlier other ends went =
              let (j, within, there) = may.ordered.whole other ends in
              elim (cases_lt j k) [
                | inl less ↦ rest other j (omega (arith, less, low)) within there
                | inr not_less ↦
                    (let stays : goes table (get_or order k point) (get_or order j point) ≡ false = may.ordered.descends k j point not_less within in
                    let one : get_or order j point ≡ other = get_or_default order j point other within ∙ there in
                    let same : goes table point other ≡ false = (λ i. goes table (sym at i) (sym one i)) ∙ stays in
                    absurd (true≢false (sym went ∙ same)))
              ]

pub law_no_acts_left_is_whole : NoActsLeftIsWhole
law_no_acts_left_is_whole net table order moments from instant sound may long contingent still =
    all_come moments (λ point inside.
    let count = point_count net table may.for_network in
    let (k, low, at) = may.ordered.whole point (omega arith) in
    come_by net table order moments from (record { plan = instant.sound; sound = sound; may = may; contingent = contingent; still = still }) (suc k) point k (omega arith) low at)

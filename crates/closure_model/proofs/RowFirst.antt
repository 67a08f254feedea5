-- The row as the table has it: what holds between two settlings holds before the first.
use Rattle.std.proofs.Common.{◌≡◌, ℕ, zero, suc, ℤ, true, false, List, [], ◌∷◌, map, Some, None, refl, ap, sym, subst, ◌∙◌}
use Rattle.std.specs.Prelude.{slice_get}
use Rattle.std.specs.Option.{option_map}
use Rattle.std.specs.List.{Contains, AllByRecursion}
use Rattle.std.proofs.lemmas.Option.{slice_get-map}
use Rattle.net_model.specs.Network.{Plan, IsPlan}
use Rattle.net_model.specs.declared.ids.PointId.{PointId}
use Rattle.net_model.specs.declared.part.Edge.{Edge}
use Rattle.closure_model.specs.Keys.{Key, key_of, row_keys}
use Rattle.closure_model.specs.Tables.{Graph, HasEdge, weight_of, IsGraph, IsFor}
use Rattle.closure_model.specs.ReferenceRow.{edge_in, IsInRow, of_table, first_slots}
use Rattle.closure_model.specs.declared.rows.Slot.{Slot}
use Rattle.closure_model.specs.declared.rows.Why.{Why}
use Rattle.closure_model.proofs.Weights.{le_refl}
use Rattle.closure_model.proofs.Slots.{some_of_map, key_in, IsMet}
use Rattle.closure_model.proofs.KeyLists.{row_keys_owned, row_keys_whole}
use Rattle.closure_model.proofs.BaseLemmas.{slice_get-contained}
use Rattle.closure_model.proofs.SettledSlots.{IsPartly}

module _ (net : Plan) (table : Graph) (to : PointId) (plan : IsPlan net) (fits : IsFor net table) (sound : IsGraph table) where
  -- ---- the row as the table has it
  abbrev pub slot_from : Key → Slot
  slot_from key = record { from = key.from; label = key.label; weight = weight_of table key; why = None; settled = false }

  owned : (k : ℕ) (key : Key) → slice_get (row_keys table.shape to) k ≡ Some key → key.to ≡ to
  owned k key at = at_place (row_keys table.shape to) (row_keys_owned table.shape to) k at
    where
      at_place : (keys : List Key) → AllByRecursion (λ (key : Key). key.to ≡ to) keys → (k : ℕ) → slice_get keys k ≡ Some key → key.to ≡ to
      at_place [] all k at = absurd cc
      at_place (x ∷ xs) all zero at = let same : x ≡ key = cc in subst (λ (key : Key). key.to ≡ to) same all.0
      at_place (x ∷ xs) all (suc k) at = at_place xs all.1 k at

  first_keys : map (key_in to) (map slot_from (row_keys table.shape to)) ≡ row_keys table.shape to
  first_keys = keys (row_keys table.shape to) (row_keys_owned table.shape to)
    where
      keys : (list : List Key) → AllByRecursion (λ (key : Key). key.to ≡ to) list → map (key_in to) (map slot_from list) ≡ list
      keys [] all = refl
      keys (x ∷ xs) all = let rest = keys xs all.1 in let here : to ≡ x.to = sym all.0 in λ i. record { to = here i; from = x.from; label = x.label } ∷ rest i

  -- a slot as the table has it, and its key
  pub record IsFirstSlot (slot : Slot) : Type 0 where
    pub key : Key
    pub ends : key.to ≡ to
    pub is : slot_from key ≡ slot

  pub first_slot : (place : ℕ) (slot : Slot) → slice_get (first_slots table to) place ≡ Some slot → IsFirstSlot slot
  first_slot place slot here =
      let (key, at, is) = some_of_map slot_from (slice_get (row_keys table.shape to) place) slot (sym (slice_get-map slot_from (row_keys table.shape to) place) ∙ here) in
      record { key = key; ends = owned place key at; is = is }

  key_of_first : (slot : Slot) (first : IsFirstSlot slot) → key_in to slot ≡ first.key
  key_of_first slot first = ap (key_in to) (sym first.is) ∙ (let ends = sym first.ends in λ i. record { to = ends i; from = first.key.from; label = first.key.label })

  weight_of_first : (slot : Slot) (first : IsFirstSlot slot) → slot.weight ≡ weight_of table (key_in to slot)
  weight_of_first slot first = ap (λ (s : Slot). s.weight) (sym first.is) ∙ ap (weight_of table) (sym (key_of_first slot first))

  first_derivable : (place : ℕ) (slot : Slot) (weight : ℤ) → slice_get (first_slots table to) place ≡ Some slot → slot.weight ≡ Some weight → IsInRow net table to (edge_in to slot weight)
  first_derivable place slot weight here has = of_table (edge_in to slot weight) (sym (weight_of_first slot (first_slot place slot here)) ∙ has) refl

  first_met : (edge : Edge) → HasEdge table edge → edge.to ≡ to → IsMet to (first_slots table to) edge
  first_met edge has ends =
      let inside : Contains (row_keys table.shape to) (key_of edge) = subst (λ (p : PointId). Contains (row_keys table.shape p) (key_of edge)) ends (row_keys_whole table.shape (key_of edge) (sound.keys edge has)) in
      let (place, at) = slice_get-contained (row_keys table.shape to) (key_of edge) inside in
      record {
        place = place;
        slot = slot_from (key_of edge);
        weight = edge.weight;
        here = slice_get-map slot_from (row_keys table.shape to) place ∙ ap (option_map slot_from) at;
        of_key = λ i. record { to = sym ends i; from = edge.from; label = edge.label };
        has = has;
        less = le_refl edge.weight;
      }

  pub first_partly : IsPartly net table to plan fits sound (first_slots table to)
  first_partly = record {
    row = record {
      keys = first_keys;
      derivable = first_derivable;
      table_met = first_met;
      unimproved = λ place slot here none. weight_of_first slot (first_slot place slot here);
      improvements = λ place slot why here some. absurd (never_improved slot (first_slot place slot here) why some);
    };
    has = λ place slot here is. absurd (never_settled slot (first_slot place slot here) is);
    ordered = λ place other one two weight more one_here two_here is one_has is_not two_has. absurd (never_settled one (first_slot place one one_here) is);
    closed = λ place slot weight here is has made inside. absurd (never_settled slot (first_slot place slot here) is);
  }
    where
      never_improved : (slot : Slot) → IsFirstSlot slot → (why : Why) → slot.why ≡ Some why → ⊥
      never_improved slot first why some = let none : None ≡ slot.why = ap (λ (s : Slot). s.why) first.is in absurd cc

      never_settled : (slot : Slot) → IsFirstSlot slot → slot.settled ≡ true → ⊥
      never_settled slot first is = let not : false ≡ slot.settled = ap (λ (s : Slot). s.settled) first.is in absurd cc

-- What the calls of the cells require and ensure, by what their steps show.
use Rattle.std.proofs.Common.{◌≡◌, ◌≢◌, ℕ, ◌+◌, ◌*◌, ◌<◌, ◌≤◌, ℤ, pos, ◌-ℤ◌, ◌+ℤ◌, ◌≤ℤ◌, ◌<ℤ◌, ◌⊎◌, true, length, get_or, Option, Some, None, refl, ap, sym, subst, ◌∙◌, inl, inr, arith}
use Rattle.std.specs.Prelude.{slice_get, nat_lt, int_lt, IfSome, IsSomeAnd}
use Rattle.std.specs.List.{All}
use Rattle.std.specs.Option.{option_map, option_map_or}
use Rattle.std.proofs.lemmas.Bool.{cases_eq, cases_lt, lt-ltb, le-ltb}
use Rattle.std.proofs.lemmas.Int.{ints}
use Rattle.std.proofs.lemmas.Option.{slice_get-map, slice_get-get_or, slice_get_within}
use Rattle.std.proofs.lemmas.List.{length-map}
use Rattle.net_model.specs.Limits.{IsWeight}
use Rattle.net_model.specs.Network.{Plan, IsPlan}
use Rattle.net_model.specs.declared.ids.LinkId.{LinkId}
use Rattle.net_model.specs.declared.ids.PointId.{PointId}
use Rattle.net_model.specs.declared.part.Edge.{Edge}
use Rattle.net_model.specs.declared.part.Link.{Link}
use Rattle.closure_model.specs.Derivable.{IsDerivable, IsDerivableFor}
use Rattle.closure_model.specs.Keys.{Key, IsKey, IsLabelAt, shape_of, key_of, edge_of, labelled_key}
use Rattle.closure_model.specs.Tables.{weight_of, no_edges}
use Rattle.closure_model.proofs.DerivableEdges.{link_at}
use Rattle.closure_model.proofs.Weights.{lt_true, lt_false}
use Rattle.network_closure.proofs.PartialClosureLemmas as partial_closure
use Rattle.cell_table.specs.Places.{absent_cell, weight_offset, held, word_place_of, row_number}
use Rattle.cell_table.specs.Shared.{CellSeatSeen, Loads, Lowers}
use Rattle.cell_table.specs.Steps.{IsFoundWeight, StepFound, loaded, dropped}
use Rattle.cell_table.specs.Views.{View, looked, relaxed}
use Rattle.cell_table.specs.declared.view.About.{About}
use Rattle.cell_table.proofs.PlaceLemmas.{one_key, held_is, held_present}

-- ---- derivable edges
pub derivable_key : (net : Plan) → IsPlan net → (edge : Edge) → IsDerivable net edge → IsKey (shape_of net) (key_of edge)
derivable_key net plan edge derivable = partial_closure.derivable_key net plan edge derivable (no_edges (shape_of net)) refl

pub to_small : (net : Plan) (key : Key) → IsPlan net → IsKey (shape_of net) key → key.to.0 < 4000
to_small net key plan is = let few = plan.few_points in let less = is.to_point in omega (arith, few, less)

pub from_small : (net : Plan) (key : Key) → IsPlan net → IsKey (shape_of net) key → key.from.0 < 4000
from_small net key plan is = let few = plan.few_points in let less = is.from_point in omega (arith, few, less)

-- a word that was found is not above that of a key without a weight
pub found_small : (view : View) (key : Key) (word : ℕ) → IsPlan view.about.net.value → IsFoundWeight view key word → word ≤ absent_cell
found_small view key word plan found = by (held word) refl
  where
    small : (weight : ℤ) → IsWeight weight → weight ≡ pos word -ℤ pos weight_offset → word ≤ absent_cell
    small weight within is = grind (arith, ints)

    none_present : (w : ℤ) → Some w ≡ None → ⊥
    none_present w e = cc

    by : (given : Option ℤ) → held word ≡ given → word ≤ absent_cell
    by None is = here (cases_eq word absent_cell)
      where
        here : (word ≡ absent_cell) ⊎ (word ≢ absent_cell) → word ≤ absent_cell
        here (inl same) = omega arith
        here (inr other) = absurd (none_present (pos word -ℤ pos weight_offset) (sym (held_present word other) ∙ is))
    by (Some weight) is =
        small weight (partial_closure.derivable_weight view.about.net.value plan (edge_of key weight) (found.was.derivable (edge_of key weight) (sym found.is ∙ is))) (held_is word weight is).1

-- what was found is derivable, and at most what the seat has noted of the key
module _ (view : View) (key : Key) (word : ℕ) (found : IsFoundWeight view key word) (result : Option ℤ) (given : result ≡ held word) where
  found_derivable : IfSome result (IsDerivableFor view.about.net.value key)
  found_derivable = by result refl
    where
      by : (r : Option ℤ) → result ≡ r → IfSome r (IsDerivableFor view.about.net.value key)
      by None is = tt
      by (Some weight) is = found.was.derivable (edge_of key weight) (sym found.is ∙ (sym given ∙ is))

  found_noted : All (λ (note : Edge). key_of note ≡ key → IsSomeAnd result (λ weight. weight ≤ℤ note.weight)) view.notes
  found_noted k d lt same =
      let note : Edge = get_or view.notes k d in
      subst (λ (o : Option ℤ). IsSomeAnd o (λ weight. weight ≤ℤ note.weight)) (ap (weight_of found.past.table) same ∙ sym (given ∙ found.is)) (found.notes k d lt)

module _ (about : About) (seat : CellSeatSeen) (about_is : seat.view.about ≡ about) where
  abbrev place : Key → ℕ
  place key = word_place_of (shape_of about.net.value) key

  -- what was found is of the key whose word it is
  module _ (after_of : View → Key → View) (key : Key) (is : IsKey (shape_of about.net.value) key) (at_word : ℕ) (at : at_word ≡ place key) (word : ℕ) (after : View)
      (reported : StepFound after_of at_word seat.view word after) where
    same_key : reported.key ≡ key
    same_key =
        one_key (shape_of about.net.value) reported.key key (subst (λ (a : About). IsKey (shape_of a.net.value) reported.key) about_is reported.there) is
        (sym (ap (λ (a : About). word_place_of (shape_of a.net.value) reported.key) about_is) ∙ (reported.at ∙ at))

    pub step_found : IsFoundWeight seat.view key word
    step_found = subst (λ (k : Key). IsFoundWeight seat.view k word) same_key reported.found

    pub step_after : after ≡ after_of seat.view key
    step_after = reported.is ∙ ap (after_of seat.view) same_key

  pub small_load : IsPlan about.net.value → (key : Key) → IsKey (shape_of about.net.value) key → (at_word : ℕ) → at_word ≡ place key → (word : ℕ) (after : View)
      → loaded at_word 0 0 seat.view word after → word ≤ absent_cell
  small_load plan key is at_word at word after reported =
      found_small seat.view key word (subst (λ (a : About). IsPlan a.net.value) (sym about_is) plan) (step_found (λ view key. looked view key word) key is at_word at word after reported)

  pub load_ends : (key : Key) → IsKey (shape_of about.net.value) key → (at_word : ℕ) → at_word ≡ place key → (word : ℕ) (new : CellSeatSeen) → new.table ≡ seat.table
      → loaded at_word 0 0 seat.view word new.view → (result : Option ℤ) → result ≡ held word → Loads seat new key result
  load_ends key is at_word at word new table reported result given =
      let found = step_found (λ view key. looked view key word) key is at_word at word new.view reported in
      let after = step_after (λ view key. looked view key word) key is at_word at word new.view reported in record {
        word = word;
        found = found;
        given = given;
        derivable = found_derivable seat.view key word found result given;
        noted = found_noted seat.view key word found result given;
        after_is = λ i. record { table = table i; view = after i };
      }

  above : (code word : ℕ) (weight : ℤ) → code < absent_cell → weight ≡ pos code -ℤ pos weight_offset → (given : Option ℤ) → held word ≡ given → nat_lt code word ≡ option_map_or (λ w. int_lt weight w) given true
  above code word weight present coded None is = by (cases_eq word absent_cell)
    where
      none_present : (w : ℤ) → Some w ≡ None → ⊥
      none_present w e = cc

      by : (word ≡ absent_cell) ⊎ (word ≢ absent_cell) → nat_lt code word ≡ true
      by (inl same) = lt-ltb code word (omega arith)
      by (inr other) = absurd (none_present (pos word -ℤ pos weight_offset) (sym (held_present word other) ∙ is))
  above code word weight present coded (Some w) is = by (cases_lt code word)
    where
      same : w ≡ pos word -ℤ pos weight_offset
      same = (held_is word w is).1

      lighter : code < word → weight <ℤ w
      lighter less = grind (arith, ints, same, coded)

      heavier : word ≤ code → w ≤ℤ weight
      heavier more = grind (arith, ints, same, coded)

      by : (code < word) ⊎ (word ≤ code) → nat_lt code word ≡ int_lt weight w
      by (inl less) = lt-ltb code word less ∙ sym (lt_true weight w (lighter less))
      by (inr more) = le-ltb code word more ∙ sym (lt_false weight w (heavier more))

  pub relax_ends : (edge : Edge) → IsKey (shape_of about.net.value) (key_of edge) → (code : ℕ) → code < absent_cell → edge.weight ≡ pos code -ℤ pos weight_offset → (at_word : ℕ) → at_word ≡ place (key_of edge)
      → (word : ℕ) (new : CellSeatSeen) → new.table ≡ seat.table → dropped at_word code 0 seat.view word new.view → Lowers seat new edge (nat_lt code word)
  relax_ends edge is code present coded at_word at word new table reported =
      let then : View → Key → View = λ view key. relaxed view key word (pos code -ℤ pos weight_offset) in
      let after = step_after then (key_of edge) is at_word at word new.view reported in record {
        word = word;
        found = step_found then (key_of edge) is at_word at word new.view reported;
        given = above code word edge.weight present coded (held word) refl;
        after_is = (λ i. record { table = table i; view = after i }) ∙ (λ i. record { table = seat.table; view = relaxed seat.view (key_of edge) word (sym coded i) });
      }

-- a code of a weight
pub code_small : (code : ℕ) (weight : ℤ) → IsWeight weight → pos code ≡ weight +ℤ pos weight_offset → code < absent_cell
code_small code weight within is = grind (arith, ints)

pub code_of : (code : ℕ) (weight : ℤ) → pos code ≡ weight +ℤ pos weight_offset → weight ≡ pos code -ℤ pos weight_offset
code_of code weight is = grind (arith, ints)

-- ---- rows and labelled keys
pub row_small : (net : Plan) (key : Key) → IsPlan net → IsKey (shape_of net) key → row_number (length net.points) key.to key.label < 4000
row_small net key plan is = by key.label is.labelled
  where
    by : (label : Option LinkId) → IsLabelAt (shape_of net) key.to label → row_number (length net.points) key.to label < 4000
    by None known = to_small net key plan is
    by (Some label) known =
        let less = slice_get_within (shape_of net).activations label.0 key.to known in let same = length-map net.links (λ (l : Link). l.from) in
        let few = plan.few_points in let few_links = plan.few_links in omega (arith, less, same, few, few_links)

pub upper_to : (net : Plan) (link : LinkId) → link.0 < length net.links → (to : PointId) × (slice_get (shape_of net).activations link.0 ≡ Some to)
upper_to net link less =
    let at = slice_get-get_or net.links link.0 (record { from = record { 0 = 0 }; low = pos 0; high = pos 0; to = record { 0 = 0 } }) less in
    ((get_or net.links link.0 (record { from = record { 0 = 0 }; low = pos 0; high = pos 0; to = record { 0 = 0 } })).from, slice_get-map (λ (l : Link). l.from) net.links link.0 ∙ ap (option_map (λ (l : Link). l.from)) at)

pub upper_key : (net : Plan) → IsPlan net → (from to : PointId) (link : LinkId) → from.0 < length net.points → slice_get (shape_of net).activations link.0 ≡ Some to → IsKey (shape_of net) (labelled_key from to link)
upper_key net plan from to link less begins = record { to_point = to_less; from_point = less; labelled = begins }
  where
    to_less : to.0 < length net.points
    to_less = of_link (slice_get net.links link.0) refl
      where
        same_point : (a b : PointId) → Some a ≡ Some b → a ≡ b
        same_point a b e = cc

        nothing_there : (a : PointId) → None ≡ Some a → ⊥
        nothing_there a e = cc

        of_link : (o : Option Link) → slice_get net.links link.0 ≡ o → to.0 < length net.points
        of_link None is = absurd (nothing_there to (sym (slice_get-map (λ (l : Link). l.from) net.links link.0 ∙ ap (option_map (λ (l : Link). l.from)) is) ∙ begins))
        of_link (Some one) is =
            let sound = link_at net plan link one is in
            let same = same_point one.from to (sym (slice_get-map (λ (l : Link). l.from) net.links link.0 ∙ ap (option_map (λ (l : Link). l.from)) is) ∙ begins) in
            subst (λ (p : PointId). p.0 < length net.points) same sound.from_point

pub upper_place : (net : Plan) (from to : PointId) (link : LinkId) (points : ℕ) → points ≡ length net.points → (place : ℕ) → place ≡ (points + link.0) * length net.points + from.0 + 1
    → place ≡ word_place_of (shape_of net) (labelled_key from to link)
upper_place net from to link points same place is = is ∙ ap (λ n. (n + link.0) * length net.points + from.0 + 1) same

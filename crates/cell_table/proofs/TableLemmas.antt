-- The steps of the cells keep the rule, and what they show.
use Rattle.std.proofs.Common.{◌≡◌, ℕ, ◌<◌, pos, ◌-ℤ◌, List, [], ◌∷◌, get_or, set, min, refl, ap, sym, subst, ◌∙◌}
use mathlib.Core.Option.{some}
use Rattle.std.proofs.lemmas.List.Elements.{All-nil, All-push}
use lib.ListN.{get_elem?}
use Rattle.net_model.specs.declared.part.Edge.{Edge}
use Rattle.closure_model.specs.Derivable.{IsDerivable}
use Rattle.closure_model.specs.Keys.{Key, IsKey, shape_of, key_of, edge_of}
use Rattle.closure_model.specs.Tables.{Graph, weight_of, HasAtMost, lowered}
use Rattle.closure_model.proofs.GroundedEdges.{lowered_other}
use Rattle.closure_model.proofs.TableLemmas.{lowered-at_most, lowered-has, at_most_below}
use Rattle.shared_seats.specs.NotedViews.{AreKnown, count_to_split, split_from, split_off, joined_with}
use Rattle.shared_seats.specs.Steps.{MayStep, MaySplit, MayJoin}
use Rattle.shared_seats.specs.declared.standing.Standing.{Standing}
use Rattle.shared_seats.specs.declared.standing.Standing.TheVariants.{Live}
use Rattle.shared_seats.proofs.NotedLemmas.{known_at, split_known, join_known, step_known}
use Rattle.cell_table.specs.CellRule.{IsPastOfCells, IsShown}
use Rattle.cell_table.specs.Places.{absent_cell, weight_offset, held, word_place_of}
use Rattle.cell_table.specs.Steps.{IsFoundWeight, loaded, dropped}
use Rattle.cell_table.specs.Views.{View, looked, relaxed, edges_held}
use Rattle.cell_table.specs.declared.view.About.{About}
use Rattle.cell_table.proofs.RuleLemmas.{finds, shown_after, reading, noted, relaxed_past, relaxed_past_was, lesser}

module _ (about : About) where
  abbrev place : Key → ℕ
  place key = word_place_of (shape_of about.net.value) key

  -- ---- a step at the word of a key
  module _ (words : List ℕ) (seats : List (Standing View)) (shown : IsShown about words seats) (seat : ℕ) (view : View) (at : get_elem? seats seat ≡ some (Live view)) where
    found_now : view.about ≡ about → (key : Key) → IsKey (shape_of about.net.value) key → IsFoundWeight view key (get_or words (place key) 0)
    found_now here key is = record {
      past = shown.past;
      was = subst (λ (a : About). IsPastOfCells a shown.past) (sym here) shown.was;
      notes = (known_at (HasAtMost shown.past.table) about seats shown.known seat view at).notes;
      is = finds about words seats shown key is;
    }

    pub shown_loaded : (key : Key) → IsKey (shape_of about.net.value) key
        → IsShown about (set words (place key) (get_or words (place key) 0)) (set seats seat (Live (looked view key (get_or words (place key) 0))))
    shown_loaded key is =
        let word : ℕ = get_or words (place key) 0 in
        let now : Graph = shown.past.table in
        let finding = finds about words seats shown key is in
        let (later, read) = reading about shown.past shown.was seat key (held word) (sym finding) in
        let after : List (Standing View) = set seats seat (Live (looked view key word)) in
        let known : AreKnown (HasAtMost now) about after =
        step_known (HasAtMost now) about seats shown.known seat view at (HasAtMost now) (λ note has. has) (looked view key word) refl (edges_held key (held word)) refl
        (noted about shown.past shown.was seat key now (held word) (sym finding)) in
        shown_after about words seats shown key is later read.was word (finding ∙ ap (λ (t : Graph). weight_of t key) (sym read.same))
        (λ other apart. ap (λ (t : Graph). weight_of t other) read.same) after (subst (λ (t : Graph). AreKnown (HasAtMost t) about after) (sym read.same) known)

    module _ (edge : Edge) (derivable : IsDerivable about.net.value edge) (is : IsKey (shape_of about.net.value) (key_of edge))
        (code : ℕ) (present : code < absent_cell) (coded : edge.weight ≡ pos code -ℤ pos weight_offset) where
      abbrev relaxes : ℕ → View
      relaxes word = relaxed view (key_of edge) word (pos code -ℤ pos weight_offset)

      note_is : edge_of (key_of edge) (pos code -ℤ pos weight_offset) ≡ edge
      note_is = λ i. record { from = edge.from; to = edge.to; label = edge.label; weight = sym coded i }

      pub shown_relaxed : IsShown about (set words (place (key_of edge)) (min (get_or words (place (key_of edge)) 0) code)) (set seats seat (Live (relaxes (get_or words (place (key_of edge)) 0))))
      shown_relaxed =
          let key : Key = key_of edge in
          let word : ℕ = get_or words (place key) 0 in
          let note : Edge = edge_of key (pos code -ℤ pos weight_offset) in
          let now : Graph = lowered shown.past.table edge in
          let less = lowered-at_most shown.past.table edge in
          let noted_now : HasAtMost now note = subst (HasAtMost now) (sym note_is) (lowered-has shown.past.table edge) in
          let known : AreKnown (HasAtMost now) about (set seats seat (Live (relaxes word))) =
          step_known (HasAtMost shown.past.table) about seats shown.known seat view at (HasAtMost now) (λ other has. at_most_below now shown.past.table other less has) (relaxes word) refl (note ∷ [])
          refl (All-push (HasAtMost now) [] note (All-nil (HasAtMost now)) noted_now) in
          shown_after about words seats shown key is (relaxed_past about shown.past shown.was seat edge derivable) (relaxed_past_was about shown.past shown.was seat edge derivable) (min word code)
          (lesser shown.past.table edge word code present coded (finds about words seats shown key is)) (λ other apart. lowered_other shown.past.table edge other (λ e. apart (sym e)))
          (set seats seat (Live (relaxes word))) known

  -- ---- a load
  module _ (view : View) (here : view.about ≡ about) (key : Key) (is : IsKey (shape_of about.net.value) key) where
    load_at : MayStep (IsShown about) count_to_split (place key) (λ word. word) view (loaded (place key) 0 0 view)
    load_at words seats seat shown at small = (
      looked view key (get_or words (place key) 0),
      shown_loaded words seats shown seat view at key is,
      refl,
      record {
        key = key;
        there = subst (λ (a : About). IsKey (shape_of a.net.value) key) (sym here) is;
        at = ap (λ (a : About). word_place_of (shape_of a.net.value) key) here;
        found = found_now words seats shown seat view at here key is;
        is = refl;
      },
    )

    pub loads : (told : About) → told ≡ about → (word : ℕ) → word ≡ place key → MayStep (IsShown told) count_to_split word (λ n. n) view (loaded word 0 0 view)
    loads told same word at =
        subst (λ (p : About × ℕ). MayStep (IsShown p.0) count_to_split p.1 (λ n. n) view (loaded p.1 0 0 view)) (λ i. (sym same i, sym at i)) load_at

  -- ---- a relaxation
  module _ (view : View) (here : view.about ≡ about) (edge : Edge) (derivable : IsDerivable about.net.value edge) (is : IsKey (shape_of about.net.value) (key_of edge))
      (code : ℕ) (present : code < absent_cell) (coded : edge.weight ≡ pos code -ℤ pos weight_offset) where
    relax_at : MayStep (IsShown about) count_to_split (place (key_of edge)) (λ word. min word code) view (dropped (place (key_of edge)) code 0 view)
    relax_at words seats seat shown at small = (
      relaxes words seats shown seat view at edge derivable is code present coded (get_or words (place (key_of edge)) 0),
      shown_relaxed words seats shown seat view at edge derivable is code present coded,
      refl,
      record {
        key = key_of edge;
        there = subst (λ (a : About). IsKey (shape_of a.net.value) (key_of edge)) (sym here) is;
        at = ap (λ (a : About). word_place_of (shape_of a.net.value) (key_of edge)) here;
        found = found_now words seats shown seat view at here (key_of edge) is;
        is = refl;
      },
    )

    pub drops : (told : About) → told ≡ about → (word : ℕ) → word ≡ place (key_of edge) → MayStep (IsShown told) count_to_split word (λ n. min n code) view (dropped word code 0 view)
    drops told same word at =
        subst (λ (p : About × ℕ). MayStep (IsShown p.0) count_to_split p.1 (λ n. min n code) view (dropped p.1 code 0 view)) (λ i. (sym same i, sym at i)) relax_at

  -- ---- seats are split and joined
  same_words : (words : List ℕ) (seats after : List (Standing View)) (shown : IsShown about words seats) → AreKnown (HasAtMost shown.past.table) about after → IsShown about words after
  same_words words seats after shown known = record { plan = shown.plan; past = shown.past; was = shown.was; shows = shown.shows; zero = shown.zero; sized = shown.sized; known = known }

  pub splits : (view : View) → MaySplit (IsShown about) view (split_from view) (split_off view)
  splits view words seats seat shown at = same_words words seats _ shown (split_known (HasAtMost shown.past.table) about seats shown.known seat view at)

  pub joins : (view joining : View) → MayJoin (IsShown about) view joining (joined_with view joining)
  joins view joining words seats seat other shown at there apart =
      same_words words seats _ shown (join_known (HasAtMost shown.past.table) about seats shown.known seat view at other joining there)

-- Each entry is stored at the place of its key.
use Rattle.std.proofs.Common.{rules, ◌≡◌, ◌<◌, ◌+◌, ◌*◌, ◌^◌, ◌∙◌, ℕ, ℤ, Some, w32, List, length, get_or, ap, sym, subst, arith, w64, to_z, of_z}
use Rattle.std.specs.Prelude.{slice_set}
use Rattle.std.proofs.lemmas.Option.{slice_get_within}
use Rattle.net_model.specs.declared.ids.LinkId.{LinkId}
use Rattle.closure_model.specs.Keys.{row_keys}
use Rattle.back_propagation.specs.SlotPlaces.{place_in_slots, width_of}
use Rattle.back_propagation.specs.SlimSlots.{StandsFor, StandForKeys}
use Rattle.back_propagation.proofs.SlimSteps.{nearest_stands}
use Rattle.back_propagation.proofs.FirstSteps.{no_entry, column_under, word_under, stand_none, stand_more, IsStoredTo, labels_among, places_under, entry_place, entry_under, stored_none, stored_more, stored_all}
use Rattle.back_propagation.proofs.RelaxSteps.{entry_held}
use Rattle.back_propagation.proofs.RowPlaces.{length-row_keys}
use Rattle.back_propagation.proofs.slots.first_weights.Goals as goal

pub overflow_mul-places : goal.overflow_mul-places
overflow_mul-places c =
    let under = places_under c.args.table.now c.args.target (length c.args.labels.now + 1) c.entries-entries.ensures.sound (ap (λ (ls : List LinkId). length ls + 1) c.requires.labels) in
    let small : c.args.points * (length c.args.labels.now + 1) < 2 ^ 64 = subst (λ (n : ℕ). n * (length c.args.labels.now + 1) < 2 ^ 64) (sym c.requires.points) under in
    search rules

pub loop-entry-init : goal.loop-entry-init
loop-entry-init c =
    let many = (λ i. c.requires.points i * (length (c.requires.labels i) + 1)) ∙ sym (length-row_keys c.args.table.now.shape c.args.target) in (
      stored_none c.args.table.now c.args.target c.entries-entries.result.now c.in_ok-weights.weights.items (c.args.points * (length c.args.labels.now + 1)) (c.in_ok-weights.ensures.items_if_clones_equal (λ y same. same)) many,
      stand_none c.args.table.now c.args.target c.in_ok-words.words.items (c.args.points * (length c.args.labels.now + 1)) (c.in_ok-words.ensures.items_if_clones_equal (λ y same. same)) many,
    )

pub column_of-column-requires : goal.column_of-column-requires
column_of-column-requires c =
    labels_among c.args.table.now c.args.target c.args.labels.now (get_or c.entries-entries.result.now c.loop-entry.entry-index no_entry) c.requires.labels c.entries-entries.ensures.sound
    (entry_held c.args.table.now c.args.target c.entries-entries.result.now c.loop-entry.entry-index no_entry c.entries-entries.ensures.row c.loop-entry-test.true)

pub place_of-place-requires : goal.place_of-place-requires
place_of-place-requires c =
    entry_under c.args.table.now c.args.target c.args.labels.now (get_or c.entries-entries.result.now c.loop-entry.entry-index no_entry) c.column_of-column.result c.requires.labels c.entries-entries.ensures.sound
    (entry_held c.args.table.now c.args.target c.entries-entries.result.now c.loop-entry.entry-index no_entry c.entries-entries.ensures.row c.loop-entry-test.true) c.column_of-column.ensures

pub index_mut-requires : goal.index_mut-requires
index_mut-requires c =
    let at = entry_place c.args.table.now c.args.target c.args.labels.now (get_or c.entries-entries.result.now c.loop-entry.entry-index no_entry) c.column_of-column.result c.requires.labels c.entries-entries.ensures.sound
    (entry_held c.args.table.now c.args.target c.entries-entries.result.now c.loop-entry.entry-index no_entry c.entries-entries.ensures.row c.loop-entry-test.true) c.column_of-column.ensures in
    let inside = slice_get_within (row_keys c.args.table.now.shape c.args.target) _ _ at in
    omega (arith, inside, c.loop-entry.invariant.0.long, c.place_of-place.ensures, c.loop-entry.weights.ok.0)

pub loop-entry-preserved : goal.loop-entry-preserved
loop-entry-preserved c =
    let entry = get_or c.entries-entries.result.now c.loop-entry.entry-index no_entry in
    let held = λ (k : ℕ) (below : k < length c.entries-entries.result.now). entry_held c.args.table.now c.args.target c.entries-entries.result.now k no_entry c.entries-entries.ensures.row below in
    let at = entry_place c.args.table.now c.args.target c.args.labels.now (get_or c.entries-entries.result.now c.loop-entry.entry-index no_entry) c.column_of-column.result c.requires.labels c.entries-entries.ensures.sound
    (held c.loop-entry.entry-index c.loop-entry-test.true) c.column_of-column.ensures in
    let kept : to_z w64 (of_z w64 (get_or c.entries-entries.result.now c.loop-entry.entry-index no_entry).weight) ≡ (get_or c.entries-entries.result.now c.loop-entry.entry-index no_entry).weight = search rules in
    let stored = (
    subst (λ (w : ℤ). IsStoredTo c.args.table.now c.args.target c.entries-entries.result.now (slice_set c.loop-entry.weights.items c.place_of-place.result w) (c.loop-entry.entry-index + 1)) (sym kept)
    (subst (λ (place : ℕ). IsStoredTo c.args.table.now c.args.target c.entries-entries.result.now (slice_set c.loop-entry.weights.items place (get_or c.entries-entries.result.now c.loop-entry.entry-index no_entry).weight)
    (c.loop-entry.entry-index + 1)) (sym c.place_of-place.ensures)
    (stored_more c.args.table.now c.args.target c.entries-entries.result.now held c.loop-entry.weights.items c.loop-entry.entry-index c.loop-entry-test.true c.loop-entry.invariant.0 _ at))) in
    let narrow = column_under c.args.table.now c.args.target c.args.labels.now (get_or c.entries-entries.result.now c.loop-entry.entry-index no_entry) c.column_of-column.result c.requires.labels c.column_of-column.ensures in
    let stands : StandsFor c.nearest_word.result (Some (get_or c.entries-entries.result.now c.loop-entry.entry-index no_entry).weight) =
    subst (λ (w : ℤ). StandsFor c.nearest_word.result (Some w)) kept (nearest_stands _ _ c.nearest_word.ensures) in
    let word : to_z w32 (of_z w32 c.nearest_word.result) ≡ c.nearest_word.result = search rules in
    let place : c.word_place-word_place.result ≡ c.column_of-column.result * c.args.table.now.shape.points + (get_or c.entries-entries.result.now c.loop-entry.entry-index no_entry).from.0 = c.word_place-word_place.ensures
    ∙ ap (λ (n : ℕ). c.column_of-column.result * n + (get_or c.entries-entries.result.now c.loop-entry.entry-index no_entry).from.0) c.requires.points in
    let wide : length c.args.labels.now + 1 ≡ width_of c.args.table.now.shape c.args.target = ap (λ (ls : List LinkId). length ls + 1) c.requires.labels in (
      stored,
      subst (λ (n : ℕ). StandForKeys c.args.table.now c.args.target (slice_set c.loop-entry.words.items n (to_z w32 (of_z w32 c.nearest_word.result)))) (sym place)
          (subst (λ (w : ℤ). StandForKeys c.args.table.now c.args.target (slice_set c.loop-entry.words.items (c.column_of-column.result * c.args.table.now.shape.points +
          (get_or c.entries-entries.result.now c.loop-entry.entry-index no_entry).from.0) w)) (sym word)
          (stand_more c.args.table.now c.args.target c.loop-entry.words.items (get_or c.entries-entries.result.now c.loop-entry.entry-index no_entry) c.column_of-column.result
          (place_in_slots (length c.args.labels.now + 1) (get_or c.entries-entries.result.now c.loop-entry.entry-index no_entry).from c.column_of-column.result) c.nearest_word.result narrow
          (ap (λ (n : ℕ). (get_or c.entries-entries.result.now c.loop-entry.entry-index no_entry).from.0 * n + c.column_of-column.result) wide) at (held c.loop-entry.entry-index c.loop-entry-test.true) stands c.loop-entry.invariant.1)),
    )

pub returns-clause-weights : goal.returns-clause-weights
returns-clause-weights c =
    stored_all c.args.table.now c.args.target c.entries-entries.result.now (λ (k : ℕ) (below : k < length c.entries-entries.result.now). entry_held c.args.table.now c.args.target c.entries-entries.result.now k no_entry
    c.entries-entries.ensures.row below)
    c.loop-entry.weights.items c.loop-entry.entry-index c.entries-entries.ensures.row c.loop-entry-test.false c.loop-entry.invariant.0

pub word_place-word_place-requires : goal.word_place-word_place-requires
word_place-word_place-requires c =
    let under = word_under c.args.table.now c.args.target c.args.labels.now (get_or c.entries-entries.result.now c.loop-entry.entry-index no_entry) c.column_of-column.result c.requires.labels c.entries-entries.ensures.sound
    (entry_held c.args.table.now c.args.target c.entries-entries.result.now c.loop-entry.entry-index no_entry c.entries-entries.ensures.row c.loop-entry-test.true) c.column_of-column.ensures in
    let most = places_under c.args.table.now c.args.target (length c.args.labels.now + 1) c.entries-entries.ensures.sound (ap (λ (ls : List LinkId). length ls + 1) c.requires.labels) in
    subst (λ (n : ℕ). c.column_of-column.result * n + (get_or c.entries-entries.result.now c.loop-entry.entry-index no_entry).from.0 < 2 ^ 64) (sym c.requires.points) (omega (arith, under, most))

pub index_mut-requires-in-loop-entry : goal.index_mut-requires-in-loop-entry
index_mut-requires-in-loop-entry c =
    let under = word_under c.args.table.now c.args.target c.args.labels.now (get_or c.entries-entries.result.now c.loop-entry.entry-index no_entry) c.column_of-column.result c.requires.labels c.entries-entries.ensures.sound
    (entry_held c.args.table.now c.args.target c.entries-entries.result.now c.loop-entry.entry-index no_entry c.entries-entries.ensures.row c.loop-entry-test.true) c.column_of-column.ensures in
    let place : c.word_place-word_place.result ≡ c.column_of-column.result * c.args.table.now.shape.points + (get_or c.entries-entries.result.now c.loop-entry.entry-index no_entry).from.0 = c.word_place-word_place.ensures
    ∙ ap (λ (n : ℕ). c.column_of-column.result * n + (get_or c.entries-entries.result.now c.loop-entry.entry-index no_entry).from.0) c.requires.points in
    let wide : length c.args.labels.now + 1 ≡ width_of c.args.table.now.shape c.args.target = ap (λ (ls : List LinkId). length ls + 1) c.requires.labels in
    let all : length (row_keys c.args.table.now.shape c.args.target) ≡ c.args.table.now.shape.points * (length c.args.labels.now + 1) = length-row_keys c.args.table.now.shape c.args.target
    ∙ ap (λ (n : ℕ). c.args.table.now.shape.points * n) (sym wide) in
    omega (arith, under, place, all, c.loop-entry.invariant.1.0, c.loop-entry.words.ok.0)

pub returns-clause-words : goal.returns-clause-words
returns-clause-words c = c.loop-entry.invariant.1

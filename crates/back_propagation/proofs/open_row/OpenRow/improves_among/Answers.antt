-- If no word improves, each entry is saturated.
use Rattle.std.proofs.Common.{rules, ◌≡◌, ◌<◌, ◌+◌, ◌-◌, ◌^◌, pos, None, Some, length, get_or, arith}
use Rattle.std.specs.Prelude.{slice_get}
use Rattle.std.proofs.lemmas.Option.{slice_get-get_or}
use Rattle.std.proofs.lemmas.List.Elements.{All-get_or, All-from_get_or}
use Rattle.net_model.proofs.NetworkLemmas.{greatest-le}
use Rattle.closure_model.specs.Keys.{edge_of}
use Rattle.labelled_graph.specs.Entries.{edge_into}
use Rattle.labelled_graph.specs.Words.{AllFitWords}
use Rattle.labelled_graph.specs.declared.entry.Entry.{Entry}
use Rattle.back_propagation.specs.Blocks.{IsHeld, IsSaturatedIn}
use Rattle.back_propagation.proofs.BlockSteps.{column_place, words_of_column, words_meet}
use Rattle.back_propagation.proofs.open_row.OpenRow.improves_among.Goals as goal

abbrev no_entry : Entry
no_entry = record { from = record { 0 = 0 }; label = None; weight = pos 0 }

pub words-requires : goal.words-requires
words-requires c = column_place c.args.basis.net.now c.args.basis.table.now c.args.edge.now.to c.args.self.now.slots c.args.self.now.width c.requires.row.slots c.args.edge.now c.args.column c.requires.row.of_row

pub improves_before-requires-clause-begins : goal.improves_before-requires-clause-begins
improves_before-requires-clause-begins c = c.requires.row.of_row.key.from_point

pub improves_before-requires-clause-weight : goal.improves_before-requires-clause-weight
improves_before-requires-clause-weight c =
    let within = c.requires.row.of_row.within in
    let small = greatest-le c.args.basis.net.now c.requires.row.slots.plan in
    omega (arith, within, small)

pub overflow_add-end : goal.overflow_add-end
overflow_add-end c =
    let some = c.requires.some in
    let held = All-get_or (IsHeld c.args.basis.table.now c.args.edge.now) c.args.entries.now (length c.args.entries.now - 1) no_entry (omega (arith, some)) c.requires.entries in
    let inside = (c.requires.row.slots.sound.keys (edge_into c.args.edge.now.from (get_or c.args.entries.now (length c.args.entries.now - 1) no_entry)) held).from_point in
    let few = c.requires.row.slots.sound.few_points in
    let small : (get_or c.args.entries.now (length c.args.entries.now - 1) no_entry).from.0 + 1 < 2 ^ 32 = omega (arith, inside, few) in
    search rules

pub returns : goal.returns
returns c = λ none.
    let fit : AllFitWords c.args.basis.table.now = λ key weight has. (let within = c.requires.row.slots.within (edge_of key weight) has in let small = greatest-le c.args.basis.net.now c.requires.row.slots.plan in
    omega (arith, within, small)) in
    All-from_get_or (IsSaturatedIn c.args.self.now.slots c.args.self.now.width c.args.edge.now c.args.column) c.args.entries.now no_entry
    (λ i below.
    (let held = All-get_or (IsHeld c.args.basis.table.now c.args.edge.now) c.args.entries.now i no_entry below c.requires.entries in
    let here : slice_get c.args.entries.now i ≡ Some (get_or c.args.entries.now i no_entry) = slice_get-get_or c.args.entries.now i no_entry below in
    let inside = (c.requires.row.slots.sound.keys (edge_into c.args.edge.now.from (get_or c.args.entries.now i no_entry)) held).from_point in
    let low = c.requires.ascend 0 i (get_or c.args.entries.now 0 no_entry) (get_or c.args.entries.now i no_entry) (omega arith) (slice_get-get_or c.args.entries.now 0 no_entry c.requires.some) here in
    let some = c.requires.some in
    let high = c.requires.ascend i (length c.args.entries.now - 1) (get_or c.args.entries.now i no_entry) (get_or c.args.entries.now (length c.args.entries.now - 1) no_entry) (omega (arith, below)) here
    (slice_get-get_or c.args.entries.now (length c.args.entries.now - 1) no_entry (omega (arith, some))) in
    words_meet c.args.basis.table.now c.args.self.now.slots c.args.self.now.width c.args.edge.now c.args.column (get_or c.words.result.now (get_or c.args.entries.now i no_entry).from.0 (pos 0)) (get_or c.args.entries.now i no_entry)
    (λ slot at. words_of_column c.args.basis.net.now c.args.basis.table.now c.args.edge.now.to c.args.self.now.slots c.args.self.now.width c.requires.row.slots c.args.edge.now c.args.column c.requires.row.of_row c.words.result.now
    c.words.ensures (get_or c.args.entries.now i no_entry).from slot inside at)
    held (c.improves_before.ensures fit none (get_or c.args.entries.now i no_entry).from low (omega (arith, high)))))

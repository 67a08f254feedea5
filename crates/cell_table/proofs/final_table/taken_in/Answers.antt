use Rattle.std.proofs.Common.{rules, ◌≡◌, ◌+◌, length, sym, subst, ◌∙◌}
use Rattle.std.specs.Mem.Slots.{slots_items, slots_len}
use Rattle.closure_model.specs.Keys.{Shape}
use Rattle.cell_table.specs.FinalTables.{AreOfShape}
use Rattle.cell_table.proofs.TakeLemmas.{can_at, taken_more, all_taken, none_taken, word_is}
use Rattle.cell_table.proofs.final_table.taken_in.Goals as goal

pub loop-place-init : goal.loop-place-init
loop-place-init c = none_taken c.args.table (slots_items c.args.words.now.words)

pub take_at-requires-clause-shape : goal.take_at-requires-clause-shape
take_at-requires-clause-shape c = subst (λ (s : Shape). AreOfShape s c.args.points c.args.ends.now) (sym c.loop-place.invariant.shape_is) c.requires.shape

pub take_at-requires-clause-can : goal.take_at-requires-clause-can
take_at-requires-clause-can c =
    can_at c.args.table (slots_items c.args.words.now.words) c.loop-place.place c.loop-place.table c.loop-place.invariant c.word-word.result
    (word_is (slots_items c.args.words.now.words) (c.loop-place.place + 1) c.word-word.result c.word-word.ensures) c.requires.can

pub loop-place-preserved : goal.loop-place-preserved
loop-place-preserved c =
    taken_more c.args.table (slots_items c.args.words.now.words) c.loop-place.place c.loop-place.table c.loop-place.invariant c.word-word.result
    (word_is (slots_items c.args.words.now.words) (c.loop-place.place + 1) c.word-word.result c.word-word.ensures) c.take_at.new.table c.in_ok-take_at.ensures

pub returns : goal.returns
returns c =
    let size : length (slots_items c.args.words.now.words) ≡ slots_len c.args.words.now.words = search rules in
    let count : c.loop-place.place + 1 ≡ length (slots_items c.args.words.now.words) = search (rules, size) in
    all_taken c.args.table (slots_items c.args.words.now.words) c.loop-place.place c.loop-place.table (count ∙ c.requires.can.sized) c.loop-place.invariant

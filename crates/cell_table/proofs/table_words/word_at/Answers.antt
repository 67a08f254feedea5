use Rattle.std.proofs.Common.{◌/◌, ◌%◌, ap, sym, ◌∙◌}
use Rattle.cell_table.specs.Places.{row_number}
use Rattle.cell_table.proofs.FillLemmas.{row_at, from_at}
use Rattle.cell_table.proofs.table_words.word_at.Goals as goal

pub returns : goal.returns
returns c key sound at =
    let points = c.args.table.now.shape.points in
    let row = row_at points (row_number points key.to key.label) key.from.0 c.args.place sound.from_point at in
    let from = from_at points (row_number points key.to key.label) key.from.0 c.args.place sound.from_point at in
    c.word_of.ensures
    ∙ c.weight_at-weight.ensures.weight key sound
    (ap (λ n. row_number n key.to key.label) c.requires.points ∙ (row ∙ ap (λ n. c.args.place / n) (sym c.requires.points)))
    (from ∙ ap (λ n. c.args.place % n) (sym c.requires.points))

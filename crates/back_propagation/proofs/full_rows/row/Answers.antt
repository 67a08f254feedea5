-- The row begins as the table has it, and what improves is the reference row, which is least.
use Rattle.std.proofs.Common.{◌≡◌, ap, sym, ◌∙◌, subst, length}
use Rattle.std.specs.List.{All}
use Rattle.closure_model.specs.Keys.{Shape, labels_at}
use Rattle.closure_model.specs.ReferenceRow.{IsRowOf, IsWithin}
use Rattle.closure_model.specs.declared.rows.Made.{Made}
use Rattle.closure_model.proofs.RowLaw.{law_rows_are_least}
use Rattle.closure_model.proofs.RowRun.{row_within}
use Rattle.back_propagation.proofs.RowPlaces.{links_from_labels}
use Rattle.back_propagation.proofs.SettleSteps.{start_row}
use Rattle.back_propagation.proofs.full_rows.row.Goals as goal

pub first-requires-clause-labels : goal.first-requires-clause-labels
first-requires-clause-labels c =
    c.in_ok-labels.ensures ∙ (links_from_labels c.args.net.now c.args.target ∙ ap (λ (s : Shape). labels_at s c.args.target) (sym c.requires.fits))

pub settle_all-requires : goal.settle_all-requires
settle_all-requires c =
    let labels : c.in_ok-labels.labels.items ≡ labels_at c.args.table.now.shape c.args.target = c.in_ok-labels.ensures
    ∙ (links_from_labels c.args.net.now c.args.target ∙ ap (λ (s : Shape). labels_at s c.args.target) (sym c.requires.fits)) in
    record {
      slots =
          start_row c.args.net.now c.args.table.now c.args.target c.in_ok-slots.slots c.len-width.result c.points.ensures.sound c.requires.fits c.sound.ensures c.requires.within c.in_ok-slots.ensures
          (c.len-width.ensures ∙ (c.in_ok-labels.labels.ok.0 ∙ ap length labels));
      first = c.in_ok-slots.ensures;
      queue = c.in_ok-queue.ensures;
    }

pub returns-clause-least : goal.returns-clause-least
returns-clause-least c =
    subst (IsRowOf c.args.net.now c.args.table.now c.args.target) (sym c.in_ok-made.ensures)
    (law_rows_are_least c.args.net.now c.args.table.now c.args.target c.points.ensures.sound c.requires.fits c.sound.ensures)

pub returns-clause-within : goal.returns-clause-within
returns-clause-within c =
    subst (All (λ (one : Made). IsWithin c.args.net.now one.edge.weight)) (sym c.in_ok-made.ensures)
    (row_within c.args.net.now c.args.table.now c.args.target c.points.ensures.sound c.requires.fits c.sound.ensures c.requires.within)

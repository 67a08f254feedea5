-- The row begins as the table has it, and what improves is the reference row, which is least.
use Rattle.std.proofs.Common.{ap, sym, ◌∙◌, subst}
use Rattle.std.specs.List.{All}
use Rattle.closure_model.specs.Keys.{Shape}
use Rattle.closure_model.specs.ReferenceRow.{IsRowOf, IsWithin}
use Rattle.closure_model.specs.declared.rows.Made.{Made}
use Rattle.closure_model.proofs.RowLaw.{law_rows_are_least}
use Rattle.closure_model.proofs.RowRun.{row_within}
use Rattle.back_propagation.proofs.delta_rows.row_after.Goals as goal

pub made_from_seeds-requires : goal.made_from_seeds-requires
made_from_seeds-requires c = record {
  plan = c.sound-2.ensures;
  fits = c.requires.fits;
  sound = c.sound.ensures;
  target = c.requires.target;
  within = c.requires.within;
  delta = record { count = c.requires.count ∙ sym (ap (λ (s : Shape). s.points) c.requires.fits); edges = c.requires.delta };
  met = c.requires.met;
}

pub returns-clause-least : goal.returns-clause-least
returns-clause-least c =
    subst (IsRowOf c.args.net.now c.args.table.now c.args.target) (sym c.in_ok-made.ensures)
    (law_rows_are_least c.args.net.now c.args.table.now c.args.target c.sound-2.ensures c.requires.fits c.sound.ensures)

pub returns-clause-within : goal.returns-clause-within
returns-clause-within c =
    subst (All (λ (one : Made). IsWithin c.args.net.now one.edge.weight)) (sym c.in_ok-made.ensures)
    (row_within c.args.net.now c.args.table.now c.args.target c.sound-2.ensures c.requires.fits c.sound.ensures c.requires.within)

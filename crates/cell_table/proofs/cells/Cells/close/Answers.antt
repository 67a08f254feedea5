use Rattle.std.proofs.Common.{ap, subst, ◌∙◌}
use Rattle.std.specs.Mem.Slots.{slots_items}
use Rattle.cell_table.proofs.CloseLemmas.{left_can, left_is, ok_then}
use Rattle.cell_table.proofs.TakeLemmas.{shape_ends}
use Rattle.cell_table.specs.TableWords.{IsLeftOf}
use Rattle.cell_table.specs.FinalTables.{TakesCellWords}
use Rattle.cell_table.specs.Shared.{CellsSeen}
use Rattle.cell_table.specs.declared.view.About.{About}
use Rattle.cell_table.proofs.cells.Cells.close.Goals as goal

pub taken_in-taken-requires-clause-can : goal.taken_in-taken-requires-clause-can
taken_in-taken-requires-clause-can c =
    let last = c.close-closed.ensures.last in left_can c.self.inside.words.key c.self.inside.first (slots_items c.close-closed.result.words) last.seats last.rule c.self.invariant.fits

pub taken_in-taken-requires-clause-shape : goal.taken_in-taken-requires-clause-shape
taken_in-taken-requires-clause-shape c =
    shape_ends c.self.inside.words.key.net.value c.self.invariant.plan c.self.inside.first c.self.invariant.fits c.self.inside.points c.self.invariant.points_are c.as_slice.result.now
    (c.as_slice.ensures.value ∙ c.self.invariant.ends_are)

pub returns : goal.returns
returns c =
    let last = c.close-closed.ensures.last in
    let about = c.self.inside.words.key in
    let words = slots_items c.close-closed.result.words in
    ok_then (TakesCellWords c.self.inside.first words) (IsLeftOf c.args.self.about c.args.seat.view)
    (λ table taken.
    subst (λ (a : About). IsLeftOf a c.args.seat.view table) (ap (λ (s : CellsSeen). s.about) c.self.view_is)
    (left_is about c.self.inside.first words last.seats last.rule c.self.invariant.fits c.self.invariant.derivable c.self.invariant.first_is last.seat c.args.seat.view last.at table taken))
    c.taken_in-taken.result c.taken_in-taken.ensures

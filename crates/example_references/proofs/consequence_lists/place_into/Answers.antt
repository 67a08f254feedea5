use Rattle.std.proofs.Common.{◌==◌, sym}
use Rattle.net_model.specs.declared.part.Link.{Link}
use Rattle.example_references.proofs.RowFacts.{placed_at, placed_nowhere}
use Rattle.example_references.proofs.consequence_lists.place_into.Goals as goal

pub returns-then-eq-clause-place : goal.returns-then-eq-clause-place
returns-then-eq-clause-place c =
    placed_at (λ (l : Link). l.to.0 == c.args.point.0) c.args.links.now c.loop-place.place _ c.loop-place-test.true (λ j less. c.loop-place.invariant j _ less) (sym c.if-eq.ensures)

pub returns-clause-place : goal.returns-clause-place
returns-clause-place c = placed_nowhere (λ (l : Link). l.to.0 == c.args.point.0) c.args.links.now c.loop-place.place c.loop-place-test.false (λ j d less. c.loop-place.invariant j d less)

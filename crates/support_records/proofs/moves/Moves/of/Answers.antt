use Rattle.support_records.proofs.MovesLemmas.{are_moves}
use Rattle.support_records.proofs.moves.Moves.of.Goals as goal

pub returns : goal.returns
returns c =
    are_moves c.args.old.now c.args.edit.now c.args.new.now (record { points = c.in_ok-points.points; bounds = c.in_ok-bounds.bounds; links = c.in_ok-links.links })
    c.in_ok-points.ensures.old c.in_ok-points.ensures.new c.in_ok-bounds.ensures c.in_ok-links.ensures

use Rattle.std.proofs.Common.{◌∙◌, sym, subst}
use Rattle.tournament_queue.specs.First.{IsFirstDue}
use Rattle.loop_finder.proofs.PlacementLemmas.{first_found, none_found}
use Rattle.loop_finder.proofs.placement.Placement.lowest_free.Goals as goal

pub returns-in_err-point : goal.returns-in_err-point
returns-in_err-point c = λ graph are.
    c.from_residual.ensures
    ∙ sym (none_found graph c.args.self.now.placed.order.items c.args.self.now.left.items c.args.self.now.free are (subst (IsFirstDue c.args.self.now.free) c.in_err-point.was c.first.ensures))

pub returns : goal.returns
returns c = λ graph are.
    sym (first_found graph c.args.self.now.placed.order.items c.args.self.now.left.items c.args.self.now.free are c.in_ok-point.field-0-0 c.in_ok-point.point (subst (IsFirstDue c.args.self.now.free) c.in_ok-point.was c.first.ensures))

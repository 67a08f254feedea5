use Rattle.std.proofs.Common.{◌≡◌, ◌<◌, IfSome, sym, subst}
use Rattle.net_model.specs.declared.part.Edge.{Edge}
use Rattle.closure_model.specs.Keys.{Shape}
use Rattle.closure_model.specs.Tables.{HasEdge, HasAtMost}
use Rattle.network_closure.specs.Saturation.{SaturatesAfter, IsUnsaturated}
use Rattle.network_closure.proofs.PartialClosureLemmas.{derivable_is}
use Rattle.network_closure.proofs.ConsequenceLemmas.{saturates_none_from, saturates_one_from, match_met}
use Rattle.network_closure.proofs.unsaturated_edges.unsaturated_after.Goals as goal

pub ordinary-requires-clause-to_point : goal.ordinary-requires-clause-to_point
ordinary-requires-clause-to_point c = subst (λ (s : Shape). c.args.edge.now.from.0 < s.points) (sym c.requires.partial_closure.fits) (derivable_is c.args.net.now c.requires.partial_closure.plan c.args.edge.now c.requires.edge).from_point

pub returns-in-None : goal.returns-in-None
returns-in-None c = saturates_none_from c.args.table.now c.args.from c.args.edge.now c.in-None.ensures

pub returns-in-Some : goal.returns-in-Some
returns-in-Some c =
    match_met (IfSome c.after.result (HasAtMost c.args.table.now)) ((first : Edge) → HasEdge c.args.table.now first → first.from ≡ c.args.from → SaturatesAfter c.args.table.now first c.args.edge.now)
    (IsUnsaturated c.args.net.now c.args.table.now) c.unsaturated_given.result
    (saturates_one_from c.args.net.now c.args.table.now c.args.from c.args.edge.now c.in-Some.first c.after.result c.in-Some.ensures c.after.ensures) c.unsaturated_given.ensures

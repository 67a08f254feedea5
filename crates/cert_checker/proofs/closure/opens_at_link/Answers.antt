use Rattle.std.proofs.Common.{sym, subst}
use Rattle.net_model.specs.declared.part.Edge.{Edge}
use Rattle.cert_checker.specs.Least.{IsSmallEdge}
use Rattle.cert_checker.proofs.OpensLemmas.{moved_small}
use Rattle.cert_checker.proofs.closure.opens_at_link.Goals as goal

pub lacks-requires : goal.lacks-requires
lacks-requires c = subst (λ (edge : Edge). IsSmallEdge c.args.table.now.net edge) (sym c.moved.ensures) (moved_small c.args.table.now.net c.args.second.now c.requires.sound c.args.link.now c.requires.link)

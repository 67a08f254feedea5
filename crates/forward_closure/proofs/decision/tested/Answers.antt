use Rattle.forward_closure.proofs.DecisionLemmas.{forward_decides}
use Rattle.forward_closure.proofs.decision.tested.Goals as goal

pub returns-then-branch : goal.returns-then-branch
returns-then-branch g c =
    let found = c.requires.found in
    forward_decides c.law_ordered_forward_tables_are_controllable.ensures c.args.net.now c.args.found (record {
      instant = c.requires.instant;
      forward = record {
        for_network = found.partial_closure.fits;
        derivable = found.partial_closure.derivable;
        closed = c.in_ok-is_forward_closed.ensures c.if-branch.true;
      };
      ordered = found.ordered;
    })

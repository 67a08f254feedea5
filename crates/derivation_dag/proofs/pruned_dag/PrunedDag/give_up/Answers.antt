use Rattle.std.proofs.Common.{sym, subst}
use Rattle.derivation_dag.specs.Pruned.{AreNumbered}
use Rattle.derivation_dag.proofs.FoundLemmas.{numbered_kept}
use Rattle.derivation_dag.proofs.pruned_dag.PrunedDag.give_up.Goals as goal

pub invariant_of-self : goal.invariant_of-self
invariant_of-self c =
    let (kept, last, size, turn, is) = c.retain.ensures.filtered in
    record {
      each = subst (AreNumbered c.self.inside.whole.nodes) (sym is) (numbered_kept c.self.inside.whole.nodes kept c.self.inside.held.items c.self.invariant.each);
      counted = c.self.invariant.counted;
      newest = c.self.invariant.newest;
    }

use Rattle.std.proofs.Common.{sym, subst}
use Rattle.verdicts.specs.Decisions.{IsOrderedClosure}
use Rattle.verdicts.specs.Verdict.{IsRefutedBy}
use Rattle.verdicts.proofs.VerdictLemmas.{verdict_refutes}
use Rattle.check_command.proofs.engine.refutation_by_cells.Goals as goal

pub returns : goal.returns
returns g c =
    subst (IsRefutedBy c.args.net) (sym c.refutation.ensures) (verdict_refutes IsOrderedClosure c.args.net c.in_ok-verdict.verdict c.in_ok-verdict.ensures)

use Rattle.std.proofs.Common.{sym, subst}
use Rattle.plan_format.specs.PlanReading.{PlanProgress, IsPrefix}
use Rattle.plan_format.proofs.FaultLemmas.{ends_too_soon}
use Rattle.plan_format.proofs.reader.PlanReader.missing.Goals as goal

pub returns-clause-fault : goal.returns-clause-fault
returns-clause-fault c = λ before has.
    rw c.missing.ensures (ends_too_soon before _ (subst (λ (read : PlanProgress). IsPrefix before read) (sym c.self.view_is) has))

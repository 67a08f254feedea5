-- The laws of relaxed plans hold of each defined run.
use Rattle.std.proofs.Common.{◌≡◌, ℕ, List, subst}
use Rattle.command_contracts.specs.declared.status.Status.{Status}
use Rattle.stnu_run.specs.DefinedRuns.{DefinedRun}
use Rattle.stnu_run.specs.RelaxedDeadlines.{RelaxedDeadlinesAreNoGreater}
use Rattle.stnu_run.specs.RelaxedPlans.{RelaxedPlansStayControllable}
use Rattle.stnu_run.specs.RelaxedRuns.{HoldsOfRelaxed}
use Rattle.stnu_run.specs.RunClaims.{HoldsOfDefinedRuns}

pub holds_of_relaxed : RelaxedPlansStayControllable → RelaxedDeadlinesAreNoGreater → HoldsOfDefinedRuns HoldsOfRelaxed
holds_of_relaxed plans deadlines words input put status defines = record {
  verdict = λ program asked flags other_flags other other_put more other_status named said run begins first.
      plans flags other_flags input other put other_put more status other_status
      (record { program = program; asked = asked; said = said; defined = subst (λ (ws : List (List ℕ)). DefinedRun ws input put status) named defines }) run begins first;
  deadline = λ program asked said other_said other other_put other_status named say run from to begins most tightest decided.
      deadlines said other_said input other put other_put status other_status
      (record { program = program; asked = asked; say = say; defined = subst (λ (ws : List (List ℕ)). DefinedRun ws input put status) named defines }) run from to begins most tightest
      decided;
}

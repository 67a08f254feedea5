use Rattle.run_command.proofs.RunEndLemmas.{run_ends}
use Rattle.run_command.proofs.plan_execution.RunSpecified.ends_by_its_causes.Goals as goal

pub returns : goal.returns
returns c = λ form holds input put end runs. run_ends form input put end (holds input put end runs)

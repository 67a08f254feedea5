use Rattle.run_command.proofs.RunWordLemmas.{workers_decide_no_run}
use Rattle.run_command.proofs.plan_execution.RunRequest.workers_decide_nothing.Goals as goal

pub returns : goal.returns
returns c = workers_decide_no_run

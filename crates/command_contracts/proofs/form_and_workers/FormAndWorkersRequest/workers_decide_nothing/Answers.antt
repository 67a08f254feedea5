use Rattle.command_contracts.proofs.FormWordLemmas.{workers_decide_no_form}
use Rattle.command_contracts.proofs.form_and_workers.FormAndWorkersRequest.workers_decide_nothing.Goals as goal

pub returns : goal.returns
returns c = workers_decide_no_form

use Rattle.play_command.proofs.ForgeWordLemmas.{workers_decide_no_forging}
use Rattle.play_command.proofs.forged_network.ForgeRequest.workers_decide_nothing.Goals as goal

pub returns : goal.returns
returns c = workers_decide_no_forging

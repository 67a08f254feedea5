use Rattle.check_command.proofs.CheckLemmas.{check_keeps}
use Rattle.check_command.proofs.check_question.CheckSpecified.keeps_its_promise.Goals as goal

pub returns : goal.returns
returns c = check_keeps

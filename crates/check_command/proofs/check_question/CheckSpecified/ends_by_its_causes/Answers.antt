use Rattle.check_command.specs.CheckPromise.{PutsVerdict}
use Rattle.check_command.specs.CheckAnswers.{checked_plan}
use Rattle.command_contracts.proofs.CauseLemmas.{text_ends}
use Rattle.check_command.proofs.CheckEndLemmas.{verdict_answers}
use Rattle.check_command.proofs.check_question.CheckSpecified.ends_by_its_causes.Goals as goal

pub returns : goal.returns
returns c = λ flags holds input put end runs. text_ends (checked_plan flags) (λ net number. PutsVerdict flags net) (verdict_answers flags) input put end (holds input put end runs).checks

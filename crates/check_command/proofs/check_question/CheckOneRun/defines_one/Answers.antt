use Rattle.common_answers.specs.Faults.{refusing}
use Rattle.net_model.specs.Network.{Plan}
use Rattle.check_command.specs.CheckPromise.{CheckPromise}
use Rattle.check_command.specs.CheckAnswers.{check_answers, check_reader, check_start, checked_plan}
use Rattle.command_contracts.specs.Causes.{text_causes}
use Rattle.command_contracts.specs.Programs.{or_nothing}
use Rattle.check_command.specs.declared.check_question.CheckFlags.{CheckFlags}
use Rattle.check_command.proofs.CheckOnceLemmas.{check_answers_once}
use Rattle.command_contracts.proofs.ProgramLemmas.{answers_once_defines_one}
use Rattle.check_command.proofs.check_question.CheckOneRun.defines_one.Goals as goal

pub returns : goal.returns
returns c = record {
  each = λ flags. answers_once_defines_one (λ (query : CheckFlags) (net : Plan) number. check_answers query net) check_reader refusing (check_start flags) (or_nothing (text_causes (checked_plan flags)) (CheckPromise flags))
      (λ query net number. check_answers_once query net);
}

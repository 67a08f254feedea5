use Rattle.std.proofs.Common.{inl}
use Rattle.command_engine.proofs.AnswersOnceLemmas.{wants_before_answer}
use Rattle.common_answers.specs.Faults.{refusing}
use Rattle.net_model.specs.Network.{Plan}
use Rattle.check_command.specs.CheckAnswers.{check_answers, check_reader, check_start}
use Rattle.check_command.specs.declared.check_question.CheckFlags.{CheckFlags}
use Rattle.check_command.proofs.check_question.CheckSpecified.keeps_it_without_memory.Goals as goal

pub returns : goal.returns
returns c = λ flags input untaken put pieces breaks.
    inl (wants_before_answer (λ (query : CheckFlags) (net : Plan) number. check_answers query net) check_reader refusing flags (check_start flags).text input untaken put pieces breaks)

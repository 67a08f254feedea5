use Rattle.strong_command.proofs.KeepLemmas.{put_strongly}
use Rattle.strong_command.proofs.strong_question.StrongQuestionPlanQuestion.puts_the_answer.Goals as goal

pub returns : goal.returns
returns c = λ query net number put end plan answered. put_strongly c.law_strong_is_controllable.ensures net put end plan answered

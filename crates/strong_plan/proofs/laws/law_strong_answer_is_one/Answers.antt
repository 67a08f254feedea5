use Rattle.strong_plan.proofs.OneAnswerLemmas.{law_strong_answer_is_one}
use Rattle.strong_plan.proofs.laws.law_strong_answer_is_one.Goals as goal

pub returns : goal.returns
returns c = law_strong_answer_is_one

use Rattle.input_texts.proofs.PlanLemmas.{parts_by}
use Rattle.input_texts.proofs.plan_text.PlanTextInGrammar.reads_by_grammar.Goals as goal

pub returns : goal.returns
returns c = λ past. parts_by past

use Rattle.stnu_run.proofs.SameAnswerLemmas.{shown_plan_has_same_answers}
use Rattle.stnu_run.proofs.across_laws.law_shown_plans_have_the_same_answers.Goals as goal

pub returns : goal.returns
returns c = shown_plan_has_same_answers c.keeps_its_promise.ensures c.law_check_is_read_exactly.ensures c.law_strong_is_read_exactly.ensures c.law_play_is_read_exactly.ensures c.law_show_is_read_exactly.ensures

use Rattle.stnu_run.proofs.PlayedDayLemmas.{played_day_is_acted}
use Rattle.stnu_run.proofs.across_laws.law_played_days_are_acted.Goals as goal

pub returns : goal.returns
returns c = played_day_is_acted c.keeps_its_promise.ensures c.keeps_its_promise-2.ensures c.law_at_most_one_earliest.ensures c.law_play_is_read_exactly.ensures c.law_run_is_read_exactly.ensures

use Rattle.earliest_times.proofs.FirstLoopLemmas.{law_first_loop_is_one}
use Rattle.earliest_times.proofs.laws.law_first_loop_is_one.Goals as goal

pub returns : goal.returns
returns c = law_first_loop_is_one

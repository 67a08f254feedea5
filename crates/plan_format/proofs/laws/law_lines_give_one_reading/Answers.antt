use Rattle.plan_format.proofs.OneReadingLemmas.{one_reading}
use Rattle.plan_format.proofs.laws.law_lines_give_one_reading.Goals as goal

pub returns : goal.returns
returns c = one_reading

use Rattle.event_stream.proofs.ReadLineLemmas.{one_reading}
use Rattle.event_stream.proofs.laws.law_lines_have_one_reading.Goals as goal

pub returns : goal.returns
returns c = λ net line. one_reading net line

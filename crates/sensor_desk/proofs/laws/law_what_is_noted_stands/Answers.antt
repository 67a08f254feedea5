use Rattle.sensor_desk.proofs.HistoryLemmas as history
use Rattle.sensor_desk.proofs.laws.law_what_is_noted_stands.Goals as goal

pub returns : goal.returns
returns c = history.law_what_is_noted_stands

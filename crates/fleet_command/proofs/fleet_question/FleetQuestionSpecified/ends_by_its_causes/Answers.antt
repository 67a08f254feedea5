use Rattle.fleet_command.proofs.FleetLemmas.{fleet_ends}
use Rattle.fleet_command.proofs.fleet_question.FleetQuestionSpecified.ends_by_its_causes.Goals as goal

pub returns : goal.returns
returns c = λ query holds input put end runs. fleet_ends input put end (holds input put end runs)

use Rattle.fleet_command.proofs.FleetLemmas.{fleet_keeps}
use Rattle.fleet_command.proofs.fleet_question.FleetQuestionSpecified.keeps_its_promise.Goals as goal

pub returns : goal.returns
returns c = λ query. fleet_keeps (record {
  reading = c.law_lines_have_one_reading.ensures;
  taken = c.law_faithful_streams_are_taken.ensures;
  done = c.law_done_where_none_is_open.ensures;
  ends = c.law_ends_are_earliest.ensures;
  acts = c.law_acts_are_earliest.ensures;
  last = c.law_last_acts_are_earliest.ensures;
  streams = c.law_streams_are_shown.ensures;
  shown = c.law_acts_are_shown.ensures;
}) query

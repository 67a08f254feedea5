use Rattle.run_command.proofs.RunLemmas.{run_keeps}
use Rattle.run_command.proofs.plan_execution.RunSpecified.keeps_its_promise.Goals as goal

pub returns : goal.returns
returns c = λ form. run_keeps form (record {
  reading = c.law_lines_have_one_reading.ensures;
  taken = c.law_faithful_streams_are_taken.ensures;
  done = c.law_done_where_none_is_open.ensures;
  ends = c.law_ends_are_earliest.ensures;
  acts = c.law_acts_are_earliest.ensures;
  last = c.law_last_acts_are_earliest.ensures;
  streams = c.law_streams_are_shown.ensures;
  shown = c.law_acts_are_shown.ensures;
})

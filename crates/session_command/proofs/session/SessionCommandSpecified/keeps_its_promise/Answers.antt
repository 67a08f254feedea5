use Rattle.session_command.proofs.SessionLemmas.{session_keeps}
use Rattle.session_command.proofs.session.SessionCommandSpecified.keeps_its_promise.Goals as goal

pub returns : goal.returns
returns c = λ form. session_keeps form (record {
  opens = c.law_sessions_open_in_one_way.ensures;
  follows = c.law_edits_are_followed_in_one_way.ensures;
}) c.law_lines_have_one_reading.ensures (record {
  reading = c.law_lines_have_one_reading-2.ensures;
  taken = c.law_faithful_streams_are_taken.ensures;
  done = c.law_done_where_none_is_open.ensures;
  ends = c.law_ends_are_earliest.ensures;
  acts = c.law_acts_are_earliest.ensures;
  last = c.law_last_acts_are_earliest.ensures;
  streams = c.law_streams_are_shown.ensures;
  shown = c.law_acts_are_shown.ensures;
})

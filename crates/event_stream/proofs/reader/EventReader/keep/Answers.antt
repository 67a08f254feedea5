use Rattle.event_stream.proofs.NameLemmas.{at_end}
use Rattle.event_stream.proofs.reader.EventReader.keep.Goals as goal

pub returns : goal.returns
returns c = at_end _ _ _ _ c.loop-word.invariant.points c.in_default.ensures

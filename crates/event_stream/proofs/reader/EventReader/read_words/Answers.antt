use Rattle.event_stream.proofs.CountLemmas.{capacity_after}
use Rattle.event_stream.proofs.reader.EventReader.read_words.Goals as goal

pub read_at-requires : goal.read_at-requires
read_at-requires c = capacity_after c.args.line.now c.in-Some.first.now _ c.in-Some.ensures.0 c.requires

use Rattle.std.proofs.Common.{sym, ◌∙◌}
use Rattle.desk_feeding.specs.Feedings.{reads}
use Rattle.desk_feeding.proofs.feeders.stands_at.Goals as goal

pub returns-in-Some-clause-reads : goal.returns-in-Some-clause-reads
returns-in-Some-clause-reads c = reads c.in-Some.link c.read.result (sym c.open_link.ensures ∙ c.in-Some.is) c.read.ensures.reads c.is_at.ensures

use Rattle.situation_player.specs.ForgedParts.{next_parts}
use Rattle.situation_player.specs.declared.tasks.Task.{Task}
use Rattle.situation_player.proofs.PartLemmas.{one_more, none_left}
use Rattle.situation_player.proofs.parts.push_nexts.Goals as goal

-- the task read past the end of a list
abbrev none : Task
none = record { low = 0; high = 0; slack = 0; early = 0; late = 0 }

pub loop-k-preserved : goal.loop-k-preserved
loop-k-preserved c =
    one_more next_parts c.args.tasks.now c.loop-k.k none c.args.parts.now.items c.loop-k.parts.items c.push_next.new.parts.items c.loop-k-test.true
    c.in_ok-push_next.ensures c.loop-k.invariant

pub returns : goal.returns
returns c = none_left next_parts c.args.tasks.now c.loop-k.k c.args.parts.now.items c.loop-k.parts.items c.loop-k-test.false c.loop-k.invariant

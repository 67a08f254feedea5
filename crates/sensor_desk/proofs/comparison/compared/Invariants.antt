use Rattle.std.specs.Mem.Slots.{slots_items}
use Rattle.sensor_desk.proofs.ComparisonLemmas.{AgreeBelow}
use Rattle.sensor_desk.proofs.comparison.compared.Given as goal

abbrev pub invariant-loop-number : goal.invariant-loop-number
invariant-loop-number l = AgreeBelow l.net l.executor.moments (slots_items l.words.words) l.number

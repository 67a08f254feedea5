use Rattle.std.proofs.Common.{◌<◌, ℕ, get_or}
use Rattle.forward_closure.specs.ForwardTest.{SaturatesForward}
use Rattle.forward_closure.specs.Sources.{edge_from}
use Rattle.forward_closure.specs.declared.source.Source.{Source}
use Rattle.forward_closure.proofs.forward_test.saturates_sources.Given as goal

abbrev pub invariant-loop-source : goal.invariant-loop-source
invariant-loop-source l = (k : ℕ) → k < l.source-index → (d : Source) → SaturatesForward l.net l.table (edge_from (get_or l.sources k d) l.to l.label)

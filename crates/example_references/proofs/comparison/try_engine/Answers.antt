use Rattle.std.proofs.Common.{rules, ap, ◌∙◌}
use Rattle.closure_model.specs.Tables.{Graph}
use Rattle.closure_model.proofs.RoundClosure.{standing_fits}
use Rattle.example_references.proofs.comparison.try_engine.Goals as goal

-- what stands on a network after rounds has a table for it
pub try_closing-requires : goal.try_closing-requires
try_closing-requires g c = (search rules, ap (λ (t : Graph). t.shape) c.table.ensures ∙ standing_fits c.args.net.now c.sound.ensures c.propagate.new.store c.in_ok-outcome.ensures.stands)

use Rattle.std.proofs.Common.{◌*◌}
use Rattle.derivation_dag.proofs.NumberLemmas.{none_counted}
use Rattle.derivation_dag.proofs.numbers.Numbers.of.Goals as goal

pub returns : goal.returns
returns c = none_counted (record { ordinary = c.in_ok-of.field-0; others = c.new.result }) (c.args.points * c.args.points) c.in_ok-of.ensures c.new.ensures.empty

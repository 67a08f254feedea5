use Rattle.std.proofs.Common.{sym, refl}
use Rattle.closure_model.specs.Keys.{key_of}
use Rattle.derivation_dag.proofs.PlaceLemmas.{others_stay}
use Rattle.derivation_dag.proofs.numbers.Numbers.put.Goals as goal

pub returns-in-Some-clause-others : goal.returns-in-Some-clause-others
returns-in-Some-clause-others c =
    others_stay c.args.self.now (record { ordinary = c.set.new.self; others = c.args.self.now.others }) (key_of c.args.edge.now) c.in-Some.place c.args.counted
    (sym c.in-Some.ensures.place) c.set.ensures refl

use Rattle.std.proofs.Common.{◌≡◌, ◌++◌, drop}
use Rattle.net_model.specs.ShownForm.{shown_durations, shown_situation}
use Rattle.net_model.proofs.network.Network.shown_situation.Given as goal

abbrev pub invariant-loop-k : goal.invariant-loop-k
invariant-loop-k l = l.shown.items ++ shown_durations l.self (drop l.k l.self.links) (drop l.k l.situation) ≡ shown_situation l.self l.situation

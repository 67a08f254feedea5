use Rattle.std.proofs.Common.{subst}
use Rattle.live_executor.specs.Sound.{ExecutesTheSame}
use Rattle.live_executor.proofs.SameLemmas.{executes_the_same}
use Rattle.live_executor.proofs.dispatched_network.Dispatched.executes_the_same.Goals as goal

pub returns : goal.returns
returns c =
    let kept = c.self.inside in
    subst ExecutesTheSame c.self.view_is (executes_the_same kept.dispatch kept.points kept.wakes c.self.invariant.kept)

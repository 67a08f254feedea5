use Rattle.std.proofs.Common.{subst}
use Rattle.live_executor.specs.Sound.{KeptNetwork, ComesToItsEnd}
use Rattle.live_executor.proofs.EndLemmas.{comes_to_its_end}
use Rattle.live_executor.proofs.dispatched_network.Dispatched.comes_to_its_end.Goals as goal

pub returns : goal.returns
returns c =
    let kept = c.self.inside in
    subst (λ (n : KeptNetwork). ComesToItsEnd n.setting) c.self.view_is (comes_to_its_end c.law_no_acts_left_is_whole.ensures kept.dispatch kept.points kept.wakes c.self.invariant.kept)

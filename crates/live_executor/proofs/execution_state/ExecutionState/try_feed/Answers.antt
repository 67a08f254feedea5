use Rattle.live_executor.specs.Sound.{made_setting}
use Rattle.live_executor.proofs.MomentLemmas.{goes_after}
use Rattle.live_executor.proofs.execution_state.ExecutionState.try_feed.Goals as goal

pub returns : goal.returns
returns c =
    let network = c.args.dispatched.now in
    let advanced = c.in_default.ensures in
    record {
      tried = advanced.tried;
      goes_on = goes_after (made_setting network) c.args.self.now.moments c.args.from c.args.moment c.args.listed.now c.advance.new.self c.requires.range c.requires.goes_on.before network
          c.requires.listed.within advanced.tried advanced.stands;
      back = tt;
    }

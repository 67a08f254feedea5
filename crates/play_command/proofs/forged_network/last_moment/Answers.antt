use Rattle.forward_executor.proofs.DispatchLemmas.{closure_dispatches}
use Rattle.play_command.proofs.forged_network.last_moment.Goals as goal

pub played-requires-clause-dispatch : goal.played-requires-clause-dispatch
played-requires-clause-dispatch c = closure_dispatches c.args.net.now c.args.dispatch (record { sound = c.sound.ensures; no_delay = c.requires.no_delay }) c.requires.dispatches

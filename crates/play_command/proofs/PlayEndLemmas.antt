-- What `play` puts for a network ends a run by an answer.
use Rattle.std.proofs.Common.{inl, inr, ℕ, List}
use Rattle.net_model.specs.Network.{Plan}
use Rattle.command_engine.specs.declared.endings.End.{End}
use Rattle.command_engine.specs.declared.endings.End.TheVariants as ends
use Rattle.command_contracts.specs.Causes.{IsAnswer}
use Rattle.play_command.specs.PlayPromise.{PutsPlay}
use Rattle.play_command.specs.declared.plan_day.PlayWords.{PlayWords}
use Rattle.command_contracts.proofs.CauseLemmas.{answers_as}

pub played_answers : (words : PlayWords) (net : Plan) (number : ℕ) (put : List ℕ) (end : End) → PutsPlay words net put end → IsAnswer end
played_answers words net number put end (inl (controllable, times)) = answers_as end ends.Done times.done tt
played_answers words net number put end (inr (never, (cert, accepted, puts))) = answers_as end ends.Refused puts.1 tt

-- What `check` puts for a network ends a run by an answer.
use Rattle.std.proofs.Common.{inl, inr, ℕ, Bool, true, false, List}
use Rattle.net_model.specs.Network.{Plan}
use Rattle.command_engine.specs.declared.endings.End.{End}
use Rattle.command_engine.specs.declared.endings.End.TheVariants as ends
use Rattle.command_contracts.specs.Causes.{IsAnswer}
use Rattle.check_command.specs.CheckPromise.{PutsVerdict}
use Rattle.check_command.specs.CheckAnswers.{PutsYes}
use Rattle.check_command.specs.declared.check_question.CheckFlags.{CheckFlags}
use Rattle.command_contracts.proofs.CauseLemmas.{answers_as}

yes_answers : (proof : Bool) (net : Plan) (put : List ℕ) (end : End) → PutsYes proof net put end → IsAnswer end
yes_answers false net put end puts = answers_as end ends.Done puts.1 tt
yes_answers true net put end (cert, proves, puts) = answers_as end ends.Done puts.1 tt

pub verdict_answers : (flags : CheckFlags) (net : Plan) (number : ℕ) (put : List ℕ) (end : End) → PutsVerdict flags net put end → IsAnswer end
verdict_answers flags net number put end (inl (controllable, puts)) = yes_answers flags.proof net put end puts
verdict_answers flags net number put end (inr (never, (cert, accepted, puts))) = answers_as end ends.Refused puts.1 tt

-- What `play` promises of what it puts for an input.
use Rattle.std.specs.Prelude.{◌≡◌, ℕ, List, ◌++◌}
use Rattle.texts.specs.Lines.{lines}
use Rattle.net_model.specs.Network.{Plan}
use Rattle.strategy_model.specs.Control.{IsControllable, IsEarliest}
use Rattle.strategy_model.specs.Situations.{Satisfies}
use Rattle.command_engine.specs.Inputs.{AnswersText}
use Rattle.command_engine.specs.declared.endings.End.{End}
use Rattle.common_answers.specs.Faults.{refusing}
use Rattle.command_contracts.specs.PlanQuestions.{plan_program}
use Rattle.input_texts.specs.PlanInput.{plan_in}
use Rattle.play_command.specs.PlayCommand.{PutsTimes, play_answers, times_text}
use Rattle.command_contracts.specs.Programs.{Program}
use Rattle.common_answers.specs.VerdictLines.{controllable_line, refuted_line}
use Rattle.command_contracts.specs.PutVerdicts.{PutsDecided}
use Rattle.play_command.specs.PlayedSituation.{situation_of}
use Rattle.play_command.specs.declared.plan_day.PlayWords.{PlayWords}
use Rattle.play_command.specs.declared.which_situation.WhichSituation.{WhichSituation}

-- the verdict of a network is put, and if it is controllable the requested day
abbrev pub PutsPlay : PlayWords → Plan → List ℕ → End → Type 0
PutsPlay words net put end = PutsDecided net (PutsTimes words.which net put end) put end

-- These are the lines of the earliest schedule of a situation: a strategy that controls the network plays it there, no such strategy plays
-- any point sooner, and it keeps every bound.
pub record AreEarliestTimes (which : WhichSituation) (net : Plan) (text : List ℕ) : Type 0 where
  pub schedule : List ℕ
  pub earliest : IsEarliest net (situation_of which net) schedule
  pub satisfies : Satisfies net schedule
  pub is : text ≡ times_text net schedule

-- What `play` promises, of a plan of the form that its words say. `plays`: it puts the verdict of the network that the input declares, and the requested day of
-- it, or the first refusal of the input. `controllable`, `times`: if it puts first that a network is controllable, the network that the input declares is, and
-- what it puts after that are the moments of its points in the earliest schedule of that situation. `refutes`: if it puts that a network is not controllable,
-- the network that the input declares is not.
pub record PlayPromise (words : PlayWords) (input put : List ℕ) (end : End) : Type 0 where
  pub plays : AnswersText (plan_in words.form) refusing (PutsPlay words) input put end
  pub controllable : (more : List ℕ) → put ≡ controllable_line ++ more → (net : Plan) (rest : List (List ℕ))
      → (plan_in words.form).declares (lines input) net rest → IsControllable net
  pub times : (more : List ℕ) → put ≡ controllable_line ++ more → (net : Plan) (rest : List (List ℕ)) → (plan_in words.form).declares (lines input) net rest
      → AreEarliestTimes words.which net more
  pub refutes : (more : List ℕ) → put ≡ refuted_line ++ more → (net : Plan) (rest : List (List ℕ)) → (plan_in words.form).declares (lines input) net rest
      → ¬ IsControllable net

-- the program of `play`
abbrev pub play_program : PlayWords → Program
play_program = plan_program (λ words. words.form) (λ words net number. play_answers words net) PlayPromise

-- What the laws of the program say of one run: that its certificates are accepted, that it is the only one, and that options change nothing of it.
use Rattle.std.specs.Prelude.{◌≡◌, ℕ, List, ◌∷◌, ◌++◌, codes, length}
use Rattle.plan_port.specs.Talk.{Seen}
use Rattle.command_engine.specs.Serves.{WhereBothShown}
use Rattle.command_engine.specs.Single.{IsPrefix}
use Rattle.input_texts.specs.declared.plan_input.PlanForm.{PlanForm}
use Rattle.command_contracts.specs.ExactBytes.{BytesAreExact}
use Rattle.command_contracts.specs.Statuses.{StatusHasCause}
use Rattle.command_contracts.specs.WorkerCounts.{SpellsWorkers}
use Rattle.command_contracts.specs.declared.status.Status.{Status}
use Rattle.check_command.specs.CheckAnswers.{check_syntax}
use Rattle.check_command.specs.EngineLaw.{IsBeyondCells, cells_line}
use Rattle.check_command.specs.Engines.{SpellsEngine}
use Rattle.check_command.specs.Words.{SayCheckFlags}
use Rattle.check_command.specs.declared.check_question.CheckFlags.{CheckFlags}
use Rattle.check_command.specs.declared.engine.Engine.TheVariants.{Rounds, Cells}
use Rattle.run_command.specs.OrderedTexts.{IsOrderedInput}
use Rattle.run_command.specs.RunCommand.{run_syntax, with_feeders, without_feeders}
use Rattle.run_command.specs.Words.{SayRun, SpellsFeeders}
use Rattle.stnu_run.specs.DeadlineCertificates.{DeadlinePutsAccepted}
use Rattle.stnu_run.specs.DefinedRuns.{DefinedRun, program_of}
use Rattle.stnu_run.specs.PrintedCertificates.{PrintsAccepted}
use Rattle.stnu_run.specs.RunClaims.{HoldsOfRun}
use Rattle.stnu_run.specs.SessionCertificates.{SessionPutsAccepted}
use Rattle.stnu_run.specs.Table.{AreInTable}

-- ---- what is put as a certificate is accepted by `judge`
-- `verdicts`: what `check` and `strong` put; `sessions`: what a session puts for `proof`; `deadlines`: what `deadline` puts
pub record PutsAccepted (words : List (List ℕ)) (input put : List ℕ) (status : Status) : Type 0 where
  pub verdicts : PrintsAccepted words input put status
  pub sessions : SessionPutsAccepted words input put status
  pub deadlines : DeadlinePutsAccepted words input put status

-- ---- the run is the only one
-- no other bytes, and no other status, are defined for the words and the input
abbrev pub IsOnlyRun : (words : List (List ℕ)) (input put : List ℕ) → Status → Type 0
IsOnlyRun words input put status =
    (other : List ℕ) (also : Status) → DefinedRun words input other also → (put ≡ other) × (status ≡ also)

-- Over a port that shows its bytes. `whole`: a run in which no call failed, and for which there was memory, put the only bytes that are defined.
-- `without_memory`: if there was none, it put a prefix of all that is defined.
pub record IsOnlyDefined (words : List (List ℕ)) (status : Status) (before after : Seen) : Type 0 where
  pub whole : HoldsOfRun IsOnlyRun words status before after
  pub without_memory : status.0 ≡ 8 → WhereBothShown before after (λ was is input untaken. (put : List ℕ) → is.put ≡ was.put ++ put
      → (all : List ℕ) (ending : Status) → DefinedRun words input all ending → IsPrefix put all)

abbrev pub RunsAreOnlyDefined : Type 0
RunsAreOnlyDefined =
    (words : List (List ℕ)) (status : Status) (before after : Seen) → StatusHasCause (program_of words) status before after
    → BytesAreExact (program_of words) status before after → IsOnlyDefined words status before after

-- ---- options that change nothing
-- With another number of workers, or, if the words are in the table, with none, the same is defined; so it is of `run` with another number of feeders.
-- `ordered`: what `run` puts with feeders is defined without them for the input with the points of each line in order.
pub record CountsChangeNothing (words : List (List ℕ)) (input put : List ℕ) (status : Status) : Type 0 where
  pub workers : (program command : List ℕ) (prefix spelled others back : List (List ℕ)) (count number : ℕ)
      → words ≡ program ∷ command ∷ (prefix ++ (spelled ++ back)) → SpellsWorkers count spelled → SpellsWorkers number others
      → DefinedRun (program ∷ command ∷ (prefix ++ (others ++ back))) input put status
  pub no_workers : (program command : List ℕ) (prefix spelled back : List (List ℕ)) (count : ℕ)
      → words ≡ program ∷ command ∷ (prefix ++ (spelled ++ back)) → SpellsWorkers count spelled → AreInTable words
      → DefinedRun (program ∷ command ∷ (prefix ++ back)) input put status
  pub feeders : (program : List ℕ) (prefix spelled others back : List (List ℕ)) (count number : ℕ)
      → words ≡ program ∷ codes "run" ∷ (prefix ++ (spelled ++ back)) → SpellsFeeders count spelled → SpellsFeeders number others
      → DefinedRun (program ∷ codes "run" ∷ (prefix ++ (others ++ back))) input put status
  pub ordered : (program other : List ℕ) (asked plain : List (List ℕ)) (form : PlanForm) → words ≡ program ∷ codes "run" ∷ asked
      → SayRun run_syntax (with_feeders form) asked → SayRun run_syntax (without_feeders form) plain
      → (points_in_order : List ℕ) → IsOrderedInput form input points_in_order → DefinedRun (other ∷ codes "run" ∷ plain) points_in_order put status

-- What `check` put with the engine of cells is defined with the engine of rounds, unless the input declares a network with more keys than cells hold: then just
-- the line of that limit was put, with status 4. What it put with the engine of rounds is defined without an engine.
pub record EngineChangesTheLimitAlone (words : List (List ℕ)) (input put : List ℕ) (status : Status) : Type 0 where
  pub cells : (program : List ℕ) (prefix spelled others back : List (List ℕ)) (flags : CheckFlags)
      → words ≡ program ∷ codes "check" ∷ (prefix ++ (spelled ++ back)) → SpellsEngine Cells spelled → SpellsEngine Rounds others
      → SayCheckFlags check_syntax flags (prefix ++ (spelled ++ back)) → ¬ IsBeyondCells flags.form input
      → DefinedRun (program ∷ codes "check" ∷ (prefix ++ (others ++ back))) input put status
  pub beyond : (program : List ℕ) (prefix spelled back : List (List ℕ)) (flags : CheckFlags)
      → words ≡ program ∷ codes "check" ∷ (prefix ++ (spelled ++ back)) → SpellsEngine Cells spelled
      → SayCheckFlags check_syntax flags (prefix ++ (spelled ++ back)) → (many : IsBeyondCells flags.form input)
      → (put ≡ cells_line flags.form.notation (length many.within.used)) × (status ≡ record { 0 = 4 })
  pub rounds : (program : List ℕ) (prefix spelled back : List (List ℕ)) (flags : CheckFlags)
      → words ≡ program ∷ codes "check" ∷ (prefix ++ (spelled ++ back)) → SpellsEngine Rounds spelled
      → SayCheckFlags check_syntax flags (prefix ++ (spelled ++ back)) → DefinedRun (program ∷ codes "check" ∷ (prefix ++ back)) input put status

-- both
pub record OptionsChangeNothing (words : List (List ℕ)) (input put : List ℕ) (status : Status) : Type 0 where
  pub counts : CountsChangeNothing words input put status
  pub engine : EngineChangesTheLimitAlone words input put status

-- What the engine changes of what `check` defines: the limit of cells alone.
use Rattle.std.specs.Prelude.{◌≡◌, ◌↔◌, ℕ, ◌<◌, List, [], ◌∷◌, ◌++◌, codes, length}
use Rattle.std.specs.Fmt.{decimal}
use Rattle.texts.specs.Lines.{input_lines}
use Rattle.texts.specs.PrintedLines.{printed_line}
use Rattle.net_model.specs.Network.{Plan}
use Rattle.cell_table.specs.Limits.{key_count, most_keys}
use Rattle.command_words.specs.Syntax.{Text}
use Rattle.command_engine.specs.Inputs.{DeclaresWithinLimits}
use Rattle.command_contracts.specs.Programs.{DefineSame, Defines, Program}
use Rattle.command_contracts.specs.Requests.{program_by}
use Rattle.command_contracts.specs.declared.status.Status.{Status}
use Rattle.input_texts.specs.PlanInput.{plan_in}
use Rattle.input_texts.specs.declared.plan_input.Notation.{Notation}
use Rattle.input_texts.specs.declared.plan_input.PlanForm.{PlanForm}
use Rattle.check_command.specs.CheckPromise.{check_program}
use Rattle.check_command.specs.CheckAnswers.{check_request, check_syntax}
use Rattle.check_command.specs.Engines.{SpellsEngine, reported_line}
use Rattle.check_command.specs.Words.{SayCheckFlags}
use Rattle.check_command.specs.declared.check_question.CheckFlags.{CheckFlags}
use Rattle.check_command.specs.declared.engine.Engine.TheVariants.{Rounds, Cells}

-- the program of the words after `check`
abbrev pub check_of : List Text → Program
check_of words = program_by check_syntax check_request check_program words

-- an input declares, as a plan of this form and by lines that come, a network that has more keys than cells hold
pub record IsBeyondCells (form : PlanForm) (input : List ℕ) : Type 0 where
  pub net : Plan
  pub within : DeclaresWithinLimits (plan_in form) (input_lines input) net
  pub many : most_keys < key_count net

-- the line `error limit LINE cells`, of a plan that ends in the line of this number
abbrev pub cells_line : Notation → (number : ℕ) → List ℕ
cells_line notation number = printed_line (codes "error" ∷ codes "limit" ∷ decimal (reported_line notation number) ∷ codes "cells" ∷ [])

-- Of plans of this form one program defines what another does, but for the limit of cells. `same`: for an input that declares no network beyond it, the same
-- bytes and status. `refused`: for one that does, just the line of the limit is put, with status 4.
pub record IsSameButForCells (form : PlanForm) (one other : Program) : Type 0 where
  pub same : (input : List ℕ) → ¬ IsBeyondCells form input → (put : List ℕ) (status : Status) → Defines one input put status ↔ Defines other input put status
  pub refused : (input : List ℕ) (beyond : IsBeyondCells form input) (put : List ℕ) (status : Status)
      → Defines one input put status ↔ ((put ≡ cells_line form.notation (length beyond.within.used)) × (status ≡ record { 0 = 4 }))

-- Words after `check` that differ in the engine alone, in either spelling, and wherever it stands. `cells`: those with the engine of cells define what those
-- with the engine of rounds do, but for the limit of cells. `taken`: these are words of `check` exactly if those are. `rounds`: words with the engine of rounds
-- define what they define without it.
pub record ChangesTheLimitAlone (of : List Text → Program) : Type 0 where
  pub cells : (prefix spelled others back : List Text) → SpellsEngine Cells spelled → SpellsEngine Rounds others
      → (flags : CheckFlags) → SayCheckFlags check_syntax flags (prefix ++ (spelled ++ back))
      → IsSameButForCells flags.form (of (prefix ++ (spelled ++ back))) (of (prefix ++ (others ++ back)))
  pub taken : (prefix spelled others back : List Text) → SpellsEngine Cells spelled → SpellsEngine Rounds others
      → ((flags : CheckFlags) × SayCheckFlags check_syntax flags (prefix ++ (spelled ++ back))) ↔
      ((flags : CheckFlags) × SayCheckFlags check_syntax flags (prefix ++ (others ++ back)))
  pub rounds : (prefix spelled back : List Text) → SpellsEngine Rounds spelled
      → (flags : CheckFlags) → SayCheckFlags check_syntax flags (prefix ++ (spelled ++ back))
      → DefineSame (of (prefix ++ (spelled ++ back))) (of (prefix ++ back))

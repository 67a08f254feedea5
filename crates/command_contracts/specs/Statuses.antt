-- The exit status of a run, and its cause: the words, the first refusal of the input, or a failed call.
use Rattle.std.specs.Prelude.{◌≡◌, ◌⊎◌, ℕ, List, ◌++◌}
use Rattle.plan_port.specs.Talk.{Seen}
use Rattle.command_engine.specs.Endings.{end_number}
use Rattle.command_engine.specs.Serves.{WhereBothShown}
use Rattle.command_engine.specs.declared.endings.End.{End}
use Rattle.command_engine.specs.declared.endings.End.TheVariants.{Fault, Limit, EventRefused}
use Rattle.event_phase.specs.ExecutionPromise.{PutsLast}
use Rattle.command_contracts.specs.Programs.{Program, serves, prints, Defines, HasCauses}
use Rattle.command_contracts.specs.declared.status.Status.{Status}

-- the program is the refusal of words: the words of which it is the program are those of no command
abbrev pub IsRefusal : Program → Type 0
IsRefusal program = (input : List ℕ) × (put : List ℕ) × Defines program input put (record { 0 = 2 })

-- this is the first refusal of an input, by which a run ends so, and which this line reports
abbrev pub IsRefused : Program → (input : List ℕ) → End → (line : List ℕ) → Type 0
IsRefused (serves machine start promise) input end line = promise.causes.refused input end line
IsRefused (prints answers) input end line = ⊥

-- an input is in the grammar and within the limits, and no part or event of it is refused
abbrev pub HasWholeInput : Program → (input : List ℕ) → Type 0
HasWholeInput (serves machine start promise) input = promise.causes.whole input
HasWholeInput (prints answers) input = Unit {0}

-- an input has a first refusal by which a run ends so, and its line is put last
abbrev pub PrintsRefusal : Program → (input : List ℕ) → End → (put : List ℕ) → Type 0
PrintsRefusal program input end put = (line : List ℕ) × IsRefused program input end line × PutsLast line put

-- The exit status of a run in which no call failed, and for which there was memory, by its input. `defined`: it and the bytes are those that the program
-- defines. `fault`: at 3 the first refusal of the input is a fault of its format, its document or its plan; `limit`: at 4 a quantity or number beyond its
-- limit; `event`: at 7 an event, or `done` with an open point; each is reported by the line that is put last. `refused`: if the input has a first refusal, the
-- status is the one of that. `whole`: if the words are those of a command and the input is whole, it is 0 or 1.
pub record HasCauseInInput (program : Program) (status : Status) (input put : List ℕ) : Type 0 where
  pub defined : Defines program input put status
  pub fault : status.0 ≡ 3 → PrintsRefusal program input Fault put
  pub limit : status.0 ≡ 4 → PrintsRefusal program input Limit put
  pub event : status.0 ≡ 7 → PrintsRefusal program input EventRefused put
  pub refused : (end : End) (line : List ℕ) → IsRefused program input end line → status.0 ≡ end_number end
  pub whole : ¬ IsRefusal program → HasWholeInput program input → (status.0 ≡ 0) ⊎ (status.0 ≡ 1)

-- The exit status of a run has its cause. `calls`: 5 and 6 come only if a take, or a put, failed, the last one. `words`: 2 comes only if the words are those of
-- no command; `no_words`: if they are, it is 2, or the refusal was not put. `input`: if the port shows its bytes, at every status but 5, 6 and 8, the status
-- has its cause in the input.
pub record StatusHasCause (program : Program) (status : Status) (before after : Seen) : Type 0 where
  pub calls : HasCauses program status before after
  pub words : status.0 ≡ 2 → IsRefusal program
  pub no_words : IsRefusal program → (status.0 ≡ 2) ⊎ ((status.0 ≡ 6) ⊎ (status.0 ≡ 8))
  pub input : WhereBothShown before after (λ was is input untaken. (put : List ℕ) → is.put ≡ was.put ++ put
      → ¬ (status.0 ≡ 5) → ¬ (status.0 ≡ 6) → ¬ (status.0 ≡ 8) → HasCauseInInput program status input put)

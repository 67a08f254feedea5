-- The bytes that the program puts, exactly, by the exit status.
use Rattle.std.specs.Prelude.{◌≡◌, ◌⊎◌, ℕ, List, [], ◌++◌}
use Rattle.plan_port.specs.Talk.{Seen}
use Rattle.command_engine.specs.Breaks.{WithinReply, read_fault_line}
use Rattle.command_engine.specs.Bytes.{AnswersFirst}
use Rattle.command_engine.specs.Runs.{Answered}
use Rattle.command_engine.specs.Serves.{WhereBothShown}
use Rattle.command_engine.specs.Single.{IsPrefix}
use Rattle.command_contracts.specs.Programs.{Program, serves, prints, Defines, HasOneReply}
use Rattle.command_contracts.specs.declared.status.Status.{Status}
use Rattle.command_contracts.specs.declared.no_input.NoInputEnd.{NoInputEnd}

-- the whole lines of these first bytes of an input are answered so, and the bytes after them decide nothing
abbrev pub AnswersWholeLines : Program → (taken said : List ℕ) → Type 0
AnswersWholeLines (serves machine start promise) taken said = Answered machine start taken said
AnswersWholeLines (prints answers) taken said = ⊥

-- these bytes are the answers to the first lines of an input, and a part of the reply to what comes then, or nothing of that; or, without an input, a prefix of
-- the answer
abbrev pub BeginsReplies : Program → (input put : List ℕ) → Type 0
BeginsReplies (serves machine start promise) input put = AnswersFirst machine start input put ⊎ WithinReply machine start input put
BeginsReplies (prints answers) input put = (put ≡ []) ⊎ ((all : List ℕ) × (end : NoInputEnd) × answers all end × IsPrefix put all)

-- A prefix of what a program puts for an input. `replies`: how far it goes. `defined`: if the program has one reply to each line, it is a prefix of all bytes
-- that the program defines.
pub record IsPrefixOfDefined (program : Program) (input put : List ℕ) : Type 0 where
  pub replies : BeginsReplies program input put
  pub defined : HasOneReply program → (all : List ℕ) (status : Status) → Defines program input all status → IsPrefix put all

-- What is to be put if a take failed: the answers to the whole lines taken, which are a prefix of what the program puts for the input, and then the line `error
-- read`. Of the input `untaken` was never taken.
pub record IsToPutAfterTake (program : Program) (input untaken wanted : List ℕ) : Type 0 where
  pub taken : List ℕ
  pub said : List ℕ
  pub all_taken : input ≡ taken ++ untaken
  pub answered : AnswersWholeLines program taken said
  pub prefix : IsPrefixOfDefined program input said
  pub all : wanted ≡ said ++ read_fault_line

-- What a run put for an input, by its exit status. `defined`: if no call failed and memory was not refused, the bytes and the status are those that the program
-- defines. `failed_take`: at 5 just this was put. `failed_put`: at 6 a prefix of what the program defines was put, or of what is to be put if a take failed
-- before. `no_memory`: at 8 a prefix of what the program defines.
pub record PutsExactly (program : Program) (status : Status) (input untaken put : List ℕ) : Type 0 where
  pub defined : ¬ (status.0 ≡ 5) → ¬ (status.0 ≡ 6) → ¬ (status.0 ≡ 8) → Defines program input put status
  pub failed_take : status.0 ≡ 5 → IsToPutAfterTake program input untaken put
  pub failed_put : status.0 ≡ 6 → IsPrefixOfDefined program input put
      ⊎ ((wanted : List ℕ) × IsToPutAfterTake program input untaken wanted × IsPrefix put wanted)
  pub no_memory : status.0 ≡ 8 → IsPrefixOfDefined program input put

-- if the port shows its talk and what is left, exactly this was put
abbrev pub BytesAreExact : Program → Status → (before after : Seen) → Type 0
BytesAreExact program status before after =
    WhereBothShown before after (λ was is input untaken. (put : List ℕ) → is.put ≡ was.put ++ put → PutsExactly program status input untaken put)

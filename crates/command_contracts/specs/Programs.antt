-- What the program does, as data: a command that it serves, with what the command promises, or an answer that it puts without an
-- input.
use Rattle.std.specs.Prelude.{◌≡◌, ◌⊎◌, ◌↔◌, ℕ, Bool, true, false, List, [], ◌++◌}
use Rattle.plan_port.specs.Talk.{Seen, raised}
use Rattle.plan_port.specs.WrittenBytes.{Writes}
use Rattle.plan_port.specs.declared.written_bytes.Written.{Written}
use Rattle.plan_port.specs.declared.written_bytes.Written.TheVariants.{All, Part}
use Rattle.command_engine.specs.Endings.{end_number, status_number}
use Rattle.command_engine.specs.Machine.{Machine}
use Rattle.command_engine.specs.Runs.{Runs}
use Rattle.command_engine.specs.Serves.{Serves, WhereBothShown}
use Rattle.command_engine.specs.Single.{IsSingle}
use Rattle.command_engine.specs.declared.endings.End.{End}
use Rattle.command_engine.specs.declared.endings.Status.{Status as Ending}
use Rattle.command_contracts.specs.Causes.{Causes, EndsByCause}
use Rattle.command_contracts.specs.declared.status.Status.{Status}
use Rattle.command_contracts.specs.declared.no_input.NoInputEnd.{NoInputEnd}
use Rattle.command_contracts.specs.declared.no_input.NoInputEnd.TheVariants.{Printed, Refuted, WordsRefused}

-- What a command promises, in the subject's words. `ended`: of an input, the bytes put for it, and how the command ended the run. `without_memory`: of an input
-- and the bytes put for it, if some were and then the run ended for want of memory. `causes`: what in an input a run ends by.
pub record Promise : Type 1 where
  pub ended : (input put : List ℕ) → End → Type 0
  pub without_memory : (input put : List ℕ) → Type 0
  pub causes : Causes

-- by these causes this promise of runs that the command ends, and that nothing was put if a run ended for want of memory
abbrev pub or_nothing : Causes → ((input put : List ℕ) → End → Type 0) → Promise
or_nothing causes promised = record { ended = promised; without_memory = λ input put. ⊥; causes = causes }

-- a command that is served from a state, and what it promises of what it puts for an input; or what is answered without an input, and how
-- the run ends then
pub data Program : Type 1 where
  serves : {C : Type 0} → Machine C → C → Promise → Program
  prints : (List ℕ → NoInputEnd → Type 0) → Program

-- one program if this is so, else another
infixr 5 when◌run◌else◌
abbrev pub when◌run◌else◌ : Bool → Program → Program → Program
when true run one else other = one
when false run one else other = other

-- the exit status of a command without an input
abbrev pub no_input_number : NoInputEnd → ℕ
no_input_number Printed = 0
no_input_number Refuted = 1
no_input_number WordsRefused = 2

-- the bytes and the exit status that a program defines for an input: those of a run of its command, or its answer and status
abbrev pub Defines : Program → (input put : List ℕ) → Status → Type 0
Defines (serves machine start promise) input put status = (end : End) × (status ≡ record { 0 = end_number end }) × Runs machine start input put end
Defines (prints answers) input put status = (end : NoInputEnd) × (status ≡ record { 0 = no_input_number end }) × answers put end

-- to each line, and if none comes, the command of the program has at most one reply
abbrev pub HasOneReply : Program → Type 0
HasOneReply (serves machine start promise) = IsSingle machine
HasOneReply (prints answers) = Unit {0}

-- for an input a program defines at most one pair of bytes and exit status: there is at most one reply to each line (not required of every command)
pub record DefinesOne (program : Program) : Type 0 where
  pub one : (input a b : List ℕ) (x y : Status) → Defines program input a x → Defines program input b y → (a ≡ b) × (x ≡ y)
  pub single : HasOneReply program

-- whatever the request, its program defines at most one pair for an input
pub record EachDefinesOne {A : Type 0} (program : A → Program) : Type 0 where
  pub each : (query : A) → DefinesOne (program query)

-- without an input a program defines at most one answer; of one that is served this says nothing
abbrev pub PrintsOne : Program → Type 0
PrintsOne (serves machine start promise) = Unit {0}
PrintsOne (prints answers) = DefinesOne (prints answers)

-- two programs define the same
pub record DefineSame (program other : Program) : Type 0 where
  pub same : (input put : List ℕ) (status : Status) → Defines program input put status ↔ Defines other input put status

-- if no run of a program ends with 2, another defines the same
pub record DefineSameWhereTaken (program other : Program) : Type 0 where
  pub same : ((input put : List ℕ) (status : Status) → Defines program input put status → ¬ (status.0 ≡ 2)) → DefineSame program other

-- the exit status after an answer was put, or a part of it
abbrev pub written_number : NoInputEnd → Written → ℕ
written_number end All = no_input_number end
written_number end (Part count) = 6

-- an answer was put, or a part of it, and nothing was taken
pub record PrintsAnswer (answers : List ℕ → NoInputEnd → Type 0) (status : Status) (before after : Seen) : Type 0 where
  pub put : List ℕ
  pub end : NoInputEnd
  pub answered : answers put end
  pub written : Written
  pub is : status ≡ record { 0 = written_number end written }
  pub writes : Writes before after written put

-- there was no memory, and nothing was taken or put
abbrev pub HasNoMemory : Status → (before after : Seen) → Type 0
HasNoMemory status before after = (status ≡ record { 0 = 8 }) × (after ≡ before)

-- The program ran over a port and ended with this exit status: its command was served, or its answer was put, or there was no memory for
-- that.
abbrev pub ServesProgram : Program → Status → (before after : Seen) → Type 0
ServesProgram (serves machine start promise) status before after =
    (ending : Ending) × (status ≡ record { 0 = status_number ending }) × Serves machine start ending before after
ServesProgram (prints answers) status before after = PrintsAnswer answers status before after ⊎ HasNoMemory status before after

-- each run of the program's command keeps what the command promises
abbrev pub PromiseHolds : Program → Type 0
PromiseHolds (serves machine start promise) = (input put : List ℕ) (end : End) → Runs machine start input put end → promise.ended input put end
PromiseHolds (prints answers) = Unit {0}

-- each run of the program's command ends by the causes in its input
abbrev pub RunsEndByCause : Program → Type 0
RunsEndByCause (serves machine start promise) = (input put : List ℕ) (end : End) → Runs machine start input put end → EndsByCause promise.causes input put end
RunsEndByCause (prints answers) = Unit {0}

-- Over a port that shows its bytes, a run that its command ended keeps the command's promise.
abbrev pub KeepsPromise : Program → Status → (before after : Seen) → Type 0
KeepsPromise (serves machine start promise) status before after =
    (end : End) → status ≡ record { 0 = end_number end }
    → WhereBothShown before after (λ was is input untaken. (put : List ℕ) → is.put ≡ was.put ++ put → promise.ended input put end)
KeepsPromise (prints answers) status before after = Unit {0}

-- Over a port that shows its bytes, if a run ended for want of memory nothing was put, or what was put is as the command promises for that. Without an input
-- nothing was taken or put then.
abbrev pub KeepsWithoutMemory : Program → Status → (before after : Seen) → Type 0
KeepsWithoutMemory (serves machine start promise) status before after =
    status.0 ≡ 8 → WhereBothShown before after (λ was is input untaken. (put : List ℕ) → is.put ≡ was.put ++ put
    → (put ≡ []) ⊎ promise.without_memory input put)
KeepsWithoutMemory (prints answers) status before after = status.0 ≡ 8 → after ≡ before

-- the exit statuses of a program that are not for failed calls or want of memory
abbrev pub MayEndWith : Program → ℕ → Type 0
MayEndWith (serves machine start promise) number = (end : End) × (number ≡ end_number end)
MayEndWith (prints answers) number = (end : NoInputEnd) × (number ≡ no_input_number end)

-- The causes of the exit statuses that any port shows. `read`: 5 exactly if a take failed and no put did; `write`: 6 exactly if a put failed; each is counted
-- once. `memory`: at 8 no call failed. `others`: at every other status no call failed, and it is one of the program's own.
pub record HasCauses (program : Program) (status : Status) (before after : Seen) : Type 0 where
  pub read : status.0 ≡ 5 → (after.read_faults ≡ raised before.read_faults) × (after.write_faults ≡ before.write_faults)
  pub write : status.0 ≡ 6 → after.write_faults ≡ raised before.write_faults
  pub memory : status.0 ≡ 8 → (after.read_faults ≡ before.read_faults) × (after.write_faults ≡ before.write_faults)
  pub others : ¬ (status.0 ≡ 5) → ¬ (status.0 ≡ 6) → ¬ (status.0 ≡ 8) → (after.read_faults ≡ before.read_faults) × (after.write_faults ≡ before.write_faults)
      × MayEndWith program status.0

-- The program ran over a port and ended with this exit status, in four parts. `served`: what was taken and put, and when, is what the program defines. `kept`:
-- what its command promises is kept. `causes`: the status has its cause. `memory`: if it ended for want of memory, nothing was put, or what its command
-- promises for that.
pub record RunsAs (program : Program) (status : Status) (before after : Seen) : Type 0 where
  pub served : ServesProgram program status before after
  pub kept : KeepsPromise program status before after
  pub causes : HasCauses program status before after
  pub memory : KeepsWithoutMemory program status before after

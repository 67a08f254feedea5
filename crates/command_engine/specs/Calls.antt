-- The failed calls of a run: after one no call comes but the put of the line that reports it.
use Rattle.std.specs.Prelude.{◌≡◌, ◌⊎◌, ℕ, List, ◌++◌, length, Some}
use Rattle.plan_port.specs.Talk.{Talk, Seen, WhereShown, raised, place_in_talk}
use Rattle.command_engine.specs.Breaks.{IsProperPrefix, read_fault_line}
use Rattle.command_engine.specs.declared.endings.Status.{Status}
use Rattle.command_engine.specs.declared.endings.Status.TheVariants.{Ended, ReadFault, WriteFault, NoMemory}

-- no take failed
pub record NoTakeFailed (before after : Seen) : Type 0 where
  pub count : after.read_faults ≡ before.read_faults
  pub place : WhereShown before.talk after.talk (λ was is. is.failed_take ≡ was.failed_take)

-- no put failed
pub record NoPutFailed (before after : Seen) : Type 0 where
  pub count : after.write_faults ≡ before.write_faults
  pub place : WhereShown before.talk after.talk (λ was is. is.failed_put ≡ was.failed_put)

-- when a take last failed, all had been taken, and all put but these bytes
abbrev pub EndsAfterTake : Talk → List ℕ → Type 0
EndsAfterTake talk bytes =
    (put : List ℕ) × (talk.put ≡ put ++ bytes) × (talk.failed_take ≡ Some (record { taken = length talk.taken; put = length put }))

-- one take failed; nothing was taken after it, and just these bytes were put
pub record LastTakeFailed (before after : Seen) (bytes : List ℕ) : Type 0 where
  pub count : after.read_faults ≡ raised before.read_faults
  pub place : WhereShown before.talk after.talk (λ was is. EndsAfterTake is bytes)

-- one put failed; nothing was taken or put after it
pub record LastPutFailed (before after : Seen) : Type 0 where
  pub count : after.write_faults ≡ raised before.write_faults
  pub place : WhereShown before.talk after.talk (λ was is. is.failed_put ≡ Some (place_in_talk is))

-- the failed calls of a run, by its status
abbrev pub Calls : Status → (before after : Seen) → Type 0
Calls (Ended end) before after = NoTakeFailed before after × NoPutFailed before after
Calls ReadFault before after = LastTakeFailed before after read_fault_line × NoPutFailed before after
Calls WriteFault before after =
    (NoTakeFailed before after ⊎ ((last : List ℕ) × IsProperPrefix last read_fault_line × LastTakeFailed before after last))
    × LastPutFailed before after
Calls NoMemory before after = NoTakeFailed before after × NoPutFailed before after

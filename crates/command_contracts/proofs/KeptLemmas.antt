-- A run of a program keeps what its command promises, if each run of the command does.
use Rattle.std.proofs.Common.{◌≡◌, ◌⊎◌, ℕ, ◌==◌, List, [], ◌++◌, Option, Some, None, refl, sym, ap, ◌∙◌, subst, if◌then◌else◌}
use Rattle.std.proofs.lemmas.List.{append_cancel_left}
use Rattle.plan_port.specs.Talk.{Piece, Seen, Talk, WhereShown}
use Rattle.command_engine.specs.Breaks.{BreaksForMemory}
use Rattle.command_engine.specs.Endings.{status_number}
use Rattle.command_engine.specs.Machine.{Machine}
use Rattle.command_engine.specs.Runs.{Runs}
use Rattle.command_engine.specs.Serves.{Puts, PutsFor, Serves}
use Rattle.command_engine.specs.declared.endings.End.{End}
use Rattle.command_engine.specs.declared.endings.End.TheVariants.{Done, Refused, Fault, Limit, EventRefused}
use Rattle.command_engine.specs.declared.endings.Status.{Status as Ending}
use Rattle.command_engine.specs.declared.endings.Status.TheVariants.{Ended, ReadFault, WriteFault, NoMemory}
use Rattle.command_contracts.specs.Programs.{Program, Promise, serves, prints, ServesProgram, PromiseHolds, KeepsPromise, KeepsWithoutMemory}
use Rattle.command_contracts.specs.declared.status.Status.{Status}

-- what follows from what is shown holds if it is shown
reported : {A : Type 0} (old new : Option A) (P Q : A → A → Type 0) → ((was is : A) → P was is → Q was is) → WhereShown old new P → WhereShown old new Q
reported old None P Q follows is = tt
reported None (Some after) P Q follows is = absurd is
reported (Some before) (Some after) P Q follows is = follows before after is

-- the ending of a number
ending_of : ℕ → Ending
ending_of number =
    if number == 0 then Ended Done
    else (if number == 1 then Ended Refused
    else (if number == 3 then Ended Fault
    else (if number == 4 then Ended Limit
    else (if number == 7 then Ended EventRefused
    else (if number == 5 then ReadFault
    else (if number == 6 then WriteFault
    else NoMemory))))))

numbered : (ending : Ending) → ending_of (status_number ending) ≡ ending
unfolding ending_of
numbered (Ended Done) = refl
numbered (Ended Refused) = refl
numbered (Ended Fault) = refl
numbered (Ended Limit) = refl
numbered (Ended EventRefused) = refl
numbered ReadFault = refl
numbered WriteFault = refl
numbered NoMemory = refl

-- endings of one number are one
pub ending_one : (ending other : Ending) → status_number ending ≡ status_number other → ending ≡ other
ending_one ending other same = sym (numbered ending) ∙ (ap ending_of same ∙ numbered other)

-- what was put is what a run puts
puts_run : {C : Type 0} (machine : Machine C) (start : C) (end : End) (ending : Ending) (was is : Talk) (input untaken put : List ℕ) → ending ≡ Ended end → Puts machine start ending was is input untaken → is.put ≡ was.put ++ put
    → Runs machine start input put end
puts_run machine start end ending was is input untaken put same puts all =
    let one : puts.put ≡ put = append_cancel_left was.put puts.put put (sym puts.all ∙ all) in
    let runs : PutsFor machine start (Ended end) input untaken puts.put puts.pieces = subst (λ (e : Ending). PutsFor machine start e input untaken puts.put puts.pieces) same puts.puts in
    subst (λ (p : List ℕ). Runs machine start input p end) one runs

-- a command that was served from its start was served as its program
pub served_from : {C : Type 0} (machine : Machine C) (start at : C) (promise : Promise) (ending : Ending) (status : Status) (before after : Seen) → status ≡ record { 0 = status_number ending } → at ≡ start
    → Serves machine at ending before after → ServesProgram (serves machine start promise) status before after
served_from {C} machine start at promise ending status before after number same ran =
    (ending, number, subst (λ (s : C). Serves machine s ending before after) same ran)

pub kept : (program : Program) (status : Status) (before after : Seen) → PromiseHolds program → ServesProgram program status before after → KeepsPromise program status before after
kept (serves {C} machine start promise) status before after holds (ending, number, ran) = λ end is.
    let same : ending ≡ Ended end = ending_one ending (Ended end) (ap (λ (s : Status). s.0) (sym number ∙ is)) in
    reported before.talk after.talk _ _ (λ was is inner.
    reported before.left after.left _ _ (λ input untaken puts put all.
    holds input put end (puts_run machine start end ending was is input untaken put same puts all)) inner) ran.puts
kept (prints answers) status before after holds ran = tt

-- each run that breaks off for want of memory has put what the command promises for that
abbrev pub KeepsWhereBroken : {C : Type 0} → Machine C → C → Promise → Type 0
KeepsWhereBroken machine start promise =
    (input untaken put : List ℕ) (pieces : List Piece) → BreaksForMemory machine start input untaken put pieces → (put ≡ []) ⊎ promise.without_memory input put

-- if a run ended for want of memory, what was put is what the command promises for that
pub kept_without_memory : {C : Type 0} (machine : Machine C) (start at : C) (promise : Promise) (ending : Ending) (status : Status) (before after : Seen)
    → status ≡ record { 0 = status_number ending } → at ≡ start
    → KeepsWhereBroken machine start promise
    → Serves machine at ending before after → KeepsWithoutMemory (serves machine start promise) status before after
kept_without_memory {C} machine start at promise ending status before after number same law ran = λ is.
    let so : ending ≡ NoMemory = ending_one ending NoMemory (ap (λ (s : Status). s.0) (sym number) ∙ is) in
    let served : Serves machine start NoMemory before after = subst (λ (e : Ending). Serves machine start e before after) so (subst (λ (s : C). Serves machine s ending before after) same ran) in
    reported before.talk after.talk _ _ (λ was is inner.
    reported before.left after.left _ _ (λ input untaken puts put all.
    let one : puts.put ≡ put = append_cancel_left was.put puts.put put (sym puts.all ∙ all) in
    subst (λ (p : List ℕ). (p ≡ []) ⊎ promise.without_memory input p) one (law input untaken puts.put puts.pieces puts.puts)) inner) served.puts

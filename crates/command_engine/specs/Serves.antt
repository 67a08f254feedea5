-- A command that is run over a port: what is put, when, and how the run ends.
use Rattle.std.specs.Prelude.{◌≡◌, ℕ, List, ◌++◌}
use Rattle.std.specs.Option.{is_some}
use Rattle.plan_port.specs.Talk.{Piece, Talk, Seen, WhereShown}
use Rattle.command_engine.specs.Machine.{Machine}
use Rattle.command_engine.specs.Runs.{Runs}
use Rattle.command_engine.specs.Breaks.{BreaksAtTake, BreaksAtPut, BreaksForMemory}
use Rattle.command_engine.specs.Prompt.{IsPrompt}
use Rattle.command_engine.specs.Calls.{Calls}
use Rattle.command_engine.specs.declared.endings.Status.{Status}
use Rattle.command_engine.specs.declared.endings.Status.TheVariants.{Ended, ReadFault, WriteFault, NoMemory}

-- if talk and bytes left are shown afterwards, they were shown before, and are so related
abbrev pub WhereBothShown : (before after : Seen) → (Talk → Talk → List ℕ → List ℕ → Type 0) → Type 0
WhereBothShown before after Related =
    WhereShown before.talk after.talk (λ was is. WhereShown before.left after.left (λ input untaken. Related was is input untaken))

module _ {C : Type 0} (machine : Machine C) (start : C) where
  -- the bytes put for an input, of which these pieces were taken and `untaken` was not, by the status
  abbrev pub PutsFor : Status → (input untaken put : List ℕ) → List Piece → Type 0
  PutsFor (Ended end) input untaken put pieces = Runs machine start input put end
  PutsFor ReadFault input untaken put pieces = BreaksAtTake machine start input untaken put
  PutsFor WriteFault input untaken put pieces = BreaksAtPut machine start input untaken put
  PutsFor NoMemory input untaken put pieces = BreaksForMemory machine start input untaken put pieces

  -- what a run took and put
  pub record Puts (status : Status) (was is : Talk) (input untaken : List ℕ) : Type 0 where
    pub pieces : List Piece
    pub put : List ℕ
    pub taken : is.taken ≡ was.taken ++ pieces
    pub all : is.put ≡ was.put ++ put
    pub puts : PutsFor status input untaken put pieces

  -- A run of the command over a port ended with this status. `calls`: what failed, and that no failed call was passed over. `prompt`: each line was answered
  -- before more was taken. `puts`: what was put. `shown`: the port shows what is left as before.
  pub record Serves (status : Status) (before after : Seen) : Type 0 where
    pub calls : Calls status before after
    pub prompt : WhereShown before.talk after.talk (λ was is. IsPrompt machine start was is)
    pub puts : WhereBothShown before after (λ was is input untaken. Puts status was is input untaken)
    pub shown : is_some after.left ≡ is_some before.left

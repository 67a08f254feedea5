-- The bytes that a run puts, by how it ended: all of them, or a prefix of what is to be put.
use Rattle.std.specs.Prelude.{◌≡◌, ◌⊎◌, ℕ, List, ◌++◌}
use Rattle.texts.specs.Lines.{InputLine, input_lines}
use Rattle.plan_port.specs.Talk.{Seen}
use Rattle.command_engine.specs.Breaks.{WithinReply, read_fault_line}
use Rattle.command_engine.specs.Machine.{Machine}
use Rattle.command_engine.specs.Runs.{Here, begins, Answers, Answered, Runs}
use Rattle.command_engine.specs.Serves.{WhereBothShown}
use Rattle.command_engine.specs.Single.{IsPrefix, IsSingle}
use Rattle.command_engine.specs.declared.endings.End.{End}
use Rattle.command_engine.specs.declared.endings.Status.{Status}
use Rattle.command_engine.specs.declared.endings.Status.TheVariants.{Ended, ReadFault, WriteFault, NoMemory}

module _ {C : Type 0} (machine : Machine C) (start : C) where
  -- the first lines of the input were answered, and nothing more was put
  pub record AnswersFirst (input put : List ℕ) : Type 0 where
    pub first : List InputLine
    pub rest : List InputLine
    pub there : Here C
    pub divided : input_lines input ≡ first ++ rest
    pub answers : Answers machine (begins start) first put there

  -- A prefix of what a run puts for the input. `replies`: it is the answers to the first lines of the input, and a part of the reply to what comes then, or
  -- nothing of that. `whole`: it is a prefix of all that a run which ends puts.
  pub record IsPrefixOfRun (input put : List ℕ) : Type 0 where
    pub replies : AnswersFirst input put ⊎ WithinReply machine start input put
    pub whole : IsSingle machine → (all : List ℕ) (end : End) → Runs machine start input all end → IsPrefix put all

  -- What is to be put if a take failed: the answers to the whole lines taken, which are a prefix of what a run puts, and then the line `error read`. Of the
  -- input `untaken` was never taken.
  pub record IsToPutAfterTake (input untaken wanted : List ℕ) : Type 0 where
    pub taken : List ℕ
    pub said : List ℕ
    pub all_taken : input ≡ taken ++ untaken
    pub answered : Answered machine start taken said
    pub prefix : IsPrefixOfRun input said
    pub all : wanted ≡ said ++ read_fault_line

  -- what was put, by how the run ended: at a failed put a prefix of what a run puts, or of what is to be put if a take failed before
  abbrev pub PutsExactly : Status → (input untaken put : List ℕ) → Type 0
  PutsExactly (Ended end) input untaken put = Runs machine start input put end
  PutsExactly ReadFault input untaken put = IsToPutAfterTake input untaken put
  PutsExactly WriteFault input untaken put = IsPrefixOfRun input put ⊎ ((wanted : List ℕ) × IsToPutAfterTake input untaken wanted × IsPrefix put wanted)
  PutsExactly NoMemory input untaken put = IsPrefixOfRun input put

  -- if the port shows its talk and what is left, exactly this was put
  abbrev pub BytesAreExact : Status → (before after : Seen) → Type 0
  BytesAreExact status before after =
      WhereBothShown before after (λ was is input untaken. (put : List ℕ) → is.put ≡ was.put ++ put → PutsExactly status input untaken put)

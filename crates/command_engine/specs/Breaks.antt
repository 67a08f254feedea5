-- What was put by a run that a failed call, or want of memory, breaks off.
use Rattle.std.specs.Prelude.{◌≡◌, ◌⊎◌, ℕ, ◌<◌, List, [], ◌∷◌, ◌++◌, length, map, codes}
use Rattle.texts.specs.Lines.{InputLine, input_lines, whole_lines, whole_line}
use Rattle.texts.specs.Limits.{most_line}
use Rattle.plan_port.specs.Lines.{Comes}
use Rattle.plan_port.specs.Talk.{Piece}
use Rattle.command_engine.specs.Machine.{Machine}
use Rattle.command_engine.specs.Runs.{Here, begins, coming_at, Replies, Answers, Answered}
use Rattle.command_engine.specs.Prompt.{bytes_of}
use Rattle.command_engine.specs.declared.machines.Flow.{Flow}

-- the line that reports a failed take
abbrev pub read_fault_line : List ℕ
read_fault_line = codes "error read" ++ 10 ∷ []

-- a prefix of some bytes, and not all of them
abbrev pub IsProperPrefix : List ℕ → List ℕ → Type 0
IsProperPrefix prefix whole = (more : List ℕ) × (whole ≡ prefix ++ more) × (0 < length more)

module _ {C : Type 0} (machine : Machine C) (start : C) where
  -- A take failed: the whole lines of the bytes taken were answered, the bytes after them decide nothing, and this was put last.
  -- Of the input `untaken` was never taken.
  pub record AfterReadFault (input untaken put last : List ℕ) : Type 0 where
    pub taken : List ℕ
    pub said : List ℕ
    pub all_taken : input ≡ taken ++ untaken
    pub answered : Answered machine start taken said
    pub all : put ≡ said ++ last

  -- The first lines of the input were answered, and a part of the reply to what comes then was put.
  pub record WithinReply (input put : List ℕ) : Type 0 where
    pub first : List InputLine
    pub rest : List InputLine
    pub said : List ℕ
    pub there : Here C
    pub answer : List ℕ
    pub flow : Flow C
    pub last : List ℕ
    pub divided : input_lines input ≡ first ++ rest
    pub answers : Answers machine (begins start) first said there
    pub replies : Replies machine there rest answer flow
    pub part : IsProperPrefix last answer
    pub all : put ≡ said ++ last

  -- Memory was wanted at a line that comes, or inside one of more than 65,536 bytes, be it too long as a whole: those before it were
  -- answered, and the state there may want memory. Of the pieces of bytes that were taken, each was taken before that line was whole.
  pub record WantsMemory (input put : List ℕ) (pieces : List Piece) : Type 0 where
    pub first : List InputLine
    pub line : InputLine
    pub rest : List InputLine
    pub there : Here C
    pub divided : input_lines input ≡ first ++ line ∷ rest
    pub answers : Answers machine (begins start) first put there
    pub comes : (coming_at machine there line ≡ Comes) ⊎ (most_line < length line.text)
    pub may_want : machine.may_want there.state
    pub not_whole : (seen later : List Piece) (piece : Piece) → pieces ≡ seen ++ piece ∷ later
        → (more : List InputLine) × (first ≡ map whole_line (whole_lines (bytes_of seen)) ++ more)

  -- a take failed before the next line was decided
  abbrev pub BreaksAtTake : (input untaken put : List ℕ) → Type 0
  BreaksAtTake input untaken put = AfterReadFault input untaken put read_fault_line

  -- a put failed: a part of what was to be put next was put
  abbrev pub BreaksAtPut : (input untaken put : List ℕ) → Type 0
  BreaksAtPut input untaken put =
      WithinReply input put ⊎ ((last : List ℕ) × IsProperPrefix last read_fault_line × AfterReadFault input untaken put last)

  -- there was no memory at a line, or none to begin with, when nothing had been taken
  abbrev pub BreaksForMemory : (input untaken put : List ℕ) → List Piece → Type 0
  BreaksForMemory input untaken put pieces = WantsMemory input put pieces ⊎ ((pieces ≡ []) × (put ≡ []))

-- What one of many says to its own lines is what a run of its command puts for these lines as a whole input, numbered from 1.
use Rattle.std.specs.Prelude.{◌≡◌, ◌⊎◌, ℕ, List, ◌∷◌, ◌++◌, map, Some, slice_get}
use Rattle.std.specs.List.{flat_map}
use Rattle.texts.specs.Limits.{most_line}
use Rattle.texts.specs.Lines.{InputLine, whole_line}
use Rattle.texts.specs.Words.{words, are_passed_over}
use Rattle.command_engine.specs.Machine.{Machine}
use Rattle.command_engine.specs.Runs.{Here, Answers, Run}
use Rattle.command_engine.specs.declared.endings.End.{End}
use Rattle.multiplexed_commands.specs.Alone.{MemberState, Runs, Idle, idle_said}
use Rattle.multiplexed_commands.specs.Merged.{Around, Member, AreMembers, merged_machine}
use Rattle.multiplexed_commands.specs.NamedLines.{named, of_name}
use Rattle.multiplexed_commands.specs.Projection.{own_lines}

-- what is said to lines after the end
abbrev pub idles : List (List ℕ) → List ℕ
idles lines = flat_map (λ line. idle_said (are_passed_over (words line))) lines

-- lines of their own, as those of an input
abbrev pub as_input : List (List ℕ) → List InputLine
as_input lines = map whole_line lines

-- one that begins: it has this name, and none of its lines came
abbrev pub IsInitialMember : {C : Type 0} → List (Member C) → ℕ → List ℕ → C → Type 0
IsInitialMember members place name start = slice_get members place ≡ Some (record { name = name; count = 0; stands = Runs start })

abbrev pub MemberStandsAt : {C : Type 0} → List (Member C) → ℕ → MemberState C → Type 0
MemberStandsAt {C} members place stands = (member : Member C) × (slice_get members place ≡ Some member) × (member.stands ≡ stands)

-- a command whose lines have at most 65,536 bytes
abbrev pub HasFixedLines : {C : Type 0} → Machine C → Type 0
HasFixedLines {C} inner = (state : C) → inner.longest state ≡ most_line

module _ {C : Type 0} (inner : Machine C) where
  -- the lines are answered, and the run goes on
  abbrev pub GoesAlone : Here C → List (List ℕ) → List ℕ → MemberState C → Type 0
  GoesAlone here lines said last = (there : Here C) × Answers inner here (as_input lines) said there × (last ≡ Runs there.state)

  -- a run over the lines ends, and to those after its last line it is said that it has
  pub record EndsAlone (here : Here C) (lines : List (List ℕ)) (said : List ℕ) (last : MemberState C) : Type 0 where
    pub put : List ℕ
    pub end : End
    pub run : Run inner here (as_input lines) put end
    pub line : List ℕ
    pub others : List (List ℕ)
    pub rest : run.rest ≡ as_input (line ∷ others)
    pub all : said ≡ put ++ idles others
    pub idle : last ≡ Idle

  -- alone, it says this to its lines: what a run of its command puts for them as a whole input, and after the end of that run what is said
  -- to lines after the end
  abbrev pub IsAlone : Here C → List (List ℕ) → List ℕ → MemberState C → Type 0
  IsAlone here lines said last = GoesAlone here lines said last ⊎ EndsAlone here lines said last

  -- Of what many put for lines of an input, from their beginnings on, what begins with the name of one is what a run of its command
  -- alone puts for its own lines among them, each line after its name.
  abbrev pub RunAlone : Around → (List (Member C) → ℕ) → Type 0
  RunAlone around spare_capacity =
      (here there : Here (List (Member C))) (lines : List InputLine) (put : List ℕ)
      → AreMembers here.number here.state → Answers (merged_machine inner around spare_capacity) here lines put there
      → (place : ℕ) (name : List ℕ) (start : C) → IsInitialMember here.state place name start
      → (said : List ℕ) × (of_name name put ≡ named name said)
      × ((last : MemberState C) × MemberStandsAt there.state place last
      × IsAlone (record { state = start; number = 0; spare_capacity = here.spare_capacity }) (own_lines name lines) said last)

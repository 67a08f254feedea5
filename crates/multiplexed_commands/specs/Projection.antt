-- What is put for lines of many, and what each says alone to its own lines among them. This project's own choice.
use Rattle.std.specs.Prelude.{◌≡◌, ℕ, ◌+◌, List, [], ◌∷◌, length, Some, slice_get, if◌then◌else◌}
use Rattle.texts.specs.Lines.{InputLine}
use Rattle.command_engine.specs.Machine.{Machine}
use Rattle.command_engine.specs.Runs.{Here, Answers}
use Rattle.multiplexed_commands.specs.Alone.{SaysTo}
use Rattle.multiplexed_commands.specs.Merged.{Around, Member, AreMembers, merged_machine}
use Rattle.multiplexed_commands.specs.NamedLines.{after_first, is_of, named, of_name, IsOfWholeLines}

-- the lines of a name among these, each without it
abbrev pub own_lines : List ℕ → List InputLine → List (List ℕ)
own_lines name [] = []
own_lines name (line ∷ lines) =
    if is_of name line.text then after_first line.text ∷ own_lines name lines else own_lines name lines

-- what a command says ends with a line end
abbrev pub SaysWholeLines : {C : Type 0} → Machine C → Type 0
SaysWholeLines {C} inner =
    (state : C) (number : ℕ) (line said : List ℕ) (flow : _) → inner.takes state number line said flow → IsOfWholeLines said

module _ {C : Type 0} (inner : Machine C) where
  -- Of what was put for these lines, what begins with the name of one is what it says alone to its own lines among them, each line after its
  -- name; and it stands as it does alone.
  pub record IsProjected (member : Member C) (lines : List InputLine) (put : List ℕ) (last : Member C) : Type 0 where
    pub said : List ℕ
    pub alone : SaysTo inner member.stands member.count (own_lines member.name lines) said last.stands
    pub of_it : of_name member.name put ≡ named member.name said
    pub name : last.name ≡ member.name
    pub count : last.count ≡ member.count + length (own_lines member.name lines)

  -- after lines that were answered, so it is with each of them
  pub record AreProjected (number : ℕ) (members : List (Member C)) (lines : List InputLine) (put : List ℕ)
      (after : List (Member C)) : Type 0 where
    pub members_still : AreMembers (number + length lines) after
    pub whole : IsOfWholeLines put
    pub each : (place : ℕ) (member : Member C) → slice_get members place ≡ Some member
        → (last : Member C) × (slice_get after place ≡ Some last) × IsProjected member lines put last

  -- of what was put, what begins with the name of one command is what it says alone, however many there are and whatever lines were answered
  abbrev pub Projects : Around → (List (Member C) → ℕ) → Type 0
  Projects around spare_capacity =
      (here there : Here (List (Member C))) (lines : List InputLine) (put : List ℕ)
      → AreMembers here.number here.state → Answers (merged_machine inner around spare_capacity) here lines put there
      → AreProjected here.number here.state lines put there.state

-- Commands of one kind side by side, each under a name, as one command: a line belongs to the one that it names first. This project's own
-- choice.
use Rattle.std.specs.Prelude.{◌≡◌, ◌≢◌, ◌⊎◌, ℕ, ◌+◌, ◌<◌, ◌≤◌, min, Bool, true, false, List, [], ◌∷◌, Some, codes, slice_set, slice_get}
use Rattle.std.specs.Str.{bytes_eq}
use Rattle.texts.specs.Limits.{most_line}
use Rattle.texts.specs.Words.{words, is_remark}
use Rattle.command_engine.specs.Machine.{Machine}
use Rattle.command_engine.specs.declared.endings.End.{End}
use Rattle.command_engine.specs.declared.endings.End.TheVariants.{Done, Fault}
use Rattle.command_engine.specs.declared.machines.Flow.{Flow}
use Rattle.command_engine.specs.declared.machines.Flow.TheVariants.{Continue, Finish}
use Rattle.command_engine.specs.declared.machines.Stop.{Stop}
use Rattle.multiplexed_commands.specs.Alone.{MemberState, SaysLineAlone}
use Rattle.multiplexed_commands.specs.NamedLines.{named, after_first, IsNaming}

-- one of the commands that stand side by side: its name, how many of its lines came, and how it stands
pub record Member (C : Type 0) : Type 0 where
  pub name : List ℕ
  pub count : ℕ
  pub stands : MemberState C

-- the number of a line among its own, which is no greater than that among all
abbrev pub own_number : ℕ → ℕ → ℕ
own_number count number = min (count + 1) number

-- after a line of its own
abbrev pub after_own : {C : Type 0} → Member C → (number : ℕ) → MemberState C → Member C
after_own member number stands = record member { count = own_number member.count number; stands = stands }

-- after so many lines: their names are names, and different, and no more lines came of one than of all
pub record AreMembers {C : Type 0} (number : ℕ) (members : List (Member C)) : Type 0 where
  pub counted : (place : ℕ) (member : Member C) → slice_get members place ≡ Some member → member.count ≤ number
  pub names : (place : ℕ) (member : Member C) → slice_get members place ≡ Some member → IsNaming member.name
  pub different : (place other : ℕ) (member one : Member C) → slice_get members place ≡ Some member → slice_get members other ≡ Some one
      → member.name ≡ one.name → place ≡ other

-- no one has this name
abbrev pub HasNone : {C : Type 0} → List (Member C) → List ℕ → Type 0
HasNone {C} members name = (place : ℕ) (member : Member C) → slice_get members place ≡ Some member → member.name ≢ name

-- What stands around them: the answer to a line that names none of them, by its number, and the answer if no line comes.
pub record Around : Type 0 where
  pub unknown : ℕ → List ℕ
  pub stopped : ℕ → Stop → List ℕ
  pub end : Stop → End

-- whether a line closes them all: its only word is `end`
abbrev pub closes : List (List ℕ) → Bool
closes [] = false
closes (first ∷ []) = bytes_eq first (codes "end")
closes (first ∷ second ∷ others) = false

module _ {C : Type 0} (inner : Machine C) (around : Around) where
  -- the first of this name says this to its line, and no other changes
  pub record IsAnswered (members : List (Member C)) (number : ℕ) (name line answer : List ℕ)
      (flow : Flow (List (Member C))) : Type 0 where
    pub place : ℕ
    pub member : Member C
    pub said : List ℕ
    pub stands : MemberState C
    pub here : slice_get members place ≡ Some member
    pub is : member.name ≡ name
    pub first : (other : ℕ) (one : Member C) → other < place → slice_get members other ≡ Some one → one.name ≢ name
    pub says : SaysLineAlone inner member.stands (own_number member.count number) (after_first line) said stands
    pub put : answer ≡ named name said
    pub goes : flow ≡ Continue (slice_set members place (after_own member number stands))

  -- none has it, and so the run ends
  abbrev pub IsUnknown : List (Member C) → ℕ → List ℕ → List ℕ → Flow (List (Member C)) → Type 0
  IsUnknown members number name answer flow = HasNone members name × (answer ≡ around.unknown number) × (flow ≡ Finish Fault)

  abbrev pub Passes : List (Member C) → List ℕ → Flow (List (Member C)) → Type 0
  Passes members answer flow = (answer ≡ []) × (flow ≡ Continue members)

  -- a line by its first word
  abbrev pub TakesNamed : (remark end : Bool) → List (Member C) → ℕ → List ℕ → List ℕ → List ℕ → Flow (List (Member C)) → Type 0
  TakesNamed true end members number name line answer flow = Passes members answer flow
  TakesNamed false true members number name line answer flow = (answer ≡ []) × (flow ≡ Finish Done)
  TakesNamed false false members number name line answer flow =
      IsAnswered members number name line answer flow ⊎ IsUnknown members number name answer flow

  abbrev pub TakesWords : List (List ℕ) → List (Member C) → ℕ → List ℕ → List ℕ → Flow (List (Member C)) → Type 0
  TakesWords [] members number line answer flow = Passes members answer flow
  TakesWords (first ∷ others) members number line answer flow =
      TakesNamed (is_remark first) (closes (first ∷ others)) members number first line answer flow

  -- Commands side by side as one command, which wants no memory; `spare_capacity`: how many bytes an answer takes at most. A line without
  -- words, or a remark, is passed over; `end` as the only word ends all; any other line belongs to the first command whose name is its
  -- first word, and if none has it the run ends.
  abbrev pub merged_machine : (List (Member C) → ℕ) → Machine (List (Member C))
  merged_machine spare_capacity = record {
    longest = λ members. most_line;
    takes = λ members number line answer flow. TakesWords (words line) members number line answer flow;
    stops = λ members number stop answer end. (answer ≡ around.stopped number stop) × (end ≡ around.end stop);
    may_want = λ members. ⊥;
    spare_capacity = spare_capacity;
  }

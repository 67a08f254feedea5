-- The grammar of lines of events, and the first fault of a line.
use Rattle.std.specs.Prelude.{◌≡◌, ◌≢◌, ◌⊎◌, ℕ, ◌<◌, ◌≤◌, true, false, List, [], ◌∷◌, None, Some, IsTrue, codes}
use Rattle.std.specs.List.{All}
use Rattle.std.specs.Fmt.{decimal}
use Rattle.texts.specs.Words.{words, are_passed_over}
use Rattle.net_model.specs.Names.{is_name}
use Rattle.net_model.specs.Numbers.{spells_natural, value_of}
use Rattle.net_model.specs.Network.{Plan, IsPoint, point_named}
use Rattle.net_model.specs.declared.ids.PointId.{PointId}
use Rattle.net_model.specs.declared.format.FormatKind.{FormatKind}
use Rattle.net_model.specs.declared.format.FormatKind.TheVariants.{UnknownWord, WordCount, BadName, BadNumber, NumberLimit, UnknownName}
use Rattle.net_model.specs.Limits.{most_moment}
use Rattle.event_stream.specs.declared.event.Event.{Event}
use Rattle.event_stream.specs.declared.event.Event.TheVariants.{Blank, At, Done}

-- what a line of events states: nothing, that points were completed at a moment, in the order in which they are named, or that no more will
-- be
pub data EventLine : Type 0 where
  blank : EventLine
  completed : (moment : ℕ) (points : List PointId) → EventLine
  done : EventLine

-- a word is the name of a point of the network
abbrev pub NamesPoint : Plan → List ℕ → PointId → Type 0
NamesPoint net word point = IsTrue (is_name word) × (point_named net word ≡ Some point)

-- the words are the names of the points, one for each and in their order
abbrev pub NamePoints : Plan → List (List ℕ) → List PointId → Type 0
NamePoints net [] [] = Unit {0}
NamePoints net [] (point ∷ points) = ⊥
NamePoints net (word ∷ words) [] = ⊥
NamePoints net (word ∷ words) (point ∷ points) = NamesPoint net word point × NamePoints net words points

-- the words of a line that states completions: `at`, the moment, and the names of the points
pub record IsAtLine (net : Plan) (moment : ℕ) (points : List PointId) (words : List (List ℕ)) : Type 0 where
  pub names : List (List ℕ)
  pub spelled : words ≡ codes "at" ∷ decimal moment ∷ names
  pub within : moment ≤ most_moment
  pub named : NamePoints net names points

-- what the words of a line are that states this
abbrev pub AreWordsOfEventLine : Plan → EventLine → List (List ℕ) → Type 0
AreWordsOfEventLine net blank words = are_passed_over words ≡ true
AreWordsOfEventLine net (completed moment points) words = IsAtLine net moment points words
AreWordsOfEventLine net done words = words ≡ codes "done" ∷ []

-- a line that states this
abbrev pub IsEventLine : Plan → EventLine → List ℕ → Type 0
IsEventLine net stated line = AreWordsOfEventLine net stated (words line)

-- a word that is a moment
abbrev pub FitsMoment : List ℕ → Type 0
FitsMoment word = IsTrue (spells_natural word) × (value_of word ≤ most_moment)

-- a word in the place of a moment that is none, and why
abbrev pub MisfitsMoment : List ℕ → FormatKind → Type 0
MisfitsMoment word kind =
    ((spells_natural word ≡ false) × (kind ≡ BadNumber))
    ⊎ (IsTrue (spells_natural word) × (most_moment < value_of word) × (kind ≡ NumberLimit))

-- a word in the place of a point that is not the name of one, and why
abbrev pub MisfitsPoint : Plan → List ℕ → FormatKind → Type 0
MisfitsPoint net word kind =
    ((is_name word ≡ false) × (kind ≡ BadName))
    ⊎ (IsTrue (is_name word) × (point_named net word ≡ None) × (kind ≡ UnknownName))

-- why the first word, from the left, that is not the name of a point is not
abbrev pub FirstMisfitsPoint : Plan → List (List ℕ) → FormatKind → Type 0
FirstMisfitsPoint net [] kind = ⊥
FirstMisfitsPoint net (word ∷ others) kind =
    MisfitsPoint net word kind ⊎ ((point : PointId) × NamesPoint net word point × FirstMisfitsPoint net others kind)

-- the first fault of what follows `at`: there is no moment, else the first word that is not what its place requires
abbrev pub IsFaultAfterAt : Plan → List (List ℕ) → FormatKind → Type 0
IsFaultAfterAt net [] kind = kind ≡ WordCount
IsFaultAfterAt net (moment ∷ names) kind = MisfitsMoment moment kind ⊎ (FitsMoment moment × FirstMisfitsPoint net names kind)

-- the first word of a line, if there is one, is another
abbrev pub BeginsOtherwise : List ℕ → List (List ℕ) → Type 0
BeginsOtherwise word line = (others : List (List ℕ)) → line ≢ word ∷ others

-- The first fault of the words of a line: they are not passed over and have neither of the two words first; or they begin with `at` and what follows has a
-- fault; or there is more than `done`.
pub data IsEventFaultOfWords (net : Plan) (words : List (List ℕ)) (kind : FormatKind) : Type 0 where
  unknown_word : are_passed_over words ≡ false → BeginsOtherwise (codes "at") words → BeginsOtherwise (codes "done") words → kind ≡ UnknownWord
      → IsEventFaultOfWords net words kind
  after_at : (others : List (List ℕ)) → words ≡ codes "at" ∷ others → IsFaultAfterAt net others kind → IsEventFaultOfWords net words kind
  after_done : (next : List ℕ) (others : List (List ℕ)) → words ≡ codes "done" ∷ next ∷ others → kind ≡ WordCount → IsEventFaultOfWords net words kind

-- the first fault of a line
abbrev pub IsEventFault : Plan → List ℕ → FormatKind → Type 0
IsEventFault net line kind = IsEventFaultOfWords net (words line) kind

-- the event of what a line states
abbrev pub event_of : EventLine → Event
event_of blank = Blank
event_of (completed moment points) = At moment
event_of done = Done

-- what a line states, by its event and the completions that are kept after it
abbrev pub said : Event → List PointId → EventLine
said Blank points = blank
said (At moment) points = completed moment points
said Done points = done

-- the completions that are kept after a line that states this, by those before it
abbrev pub kept : EventLine → List PointId → List PointId
kept blank before = before
kept (completed moment points) before = points
kept done before = before

-- if a line stated completions, each of those that are kept is a point of the network
abbrev pub HasPoints : Plan → Event → List PointId → Type 0
HasPoints net Blank points = Unit {0}
HasPoints net (At moment) points = All (IsPoint net) points
HasPoints net Done points = Unit {0}

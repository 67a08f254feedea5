-- What is read of a line of events, by its words.
use Rattle.std.specs.Prelude.{◌≡◌, ℕ, List, [], ◌∷◌, Option, None, Some, Result, Ok, Err, codes, if◌then◌else◌}
use Rattle.std.specs.Str.{bytes_eq}
use Rattle.texts.specs.Words.{is_remark}
use Rattle.net_model.specs.Numbers.{name_of, natural_of}
use Rattle.net_model.specs.WordReading.{◌>>=◌}
use Rattle.net_model.specs.Network.{Plan, point_named}
use Rattle.net_model.specs.declared.ids.PointId.{PointId}
use Rattle.net_model.specs.declared.format.FormatKind.{FormatKind}
use Rattle.net_model.specs.declared.format.FormatKind.TheVariants.{UnknownWord, WordCount, UnknownName}
use Rattle.net_model.specs.Limits.{most_moment}
use Rattle.event_stream.specs.EventText.{EventLine, blank, completed, done, event_of, kept}
use Rattle.event_stream.specs.declared.event.Event.{Event}

-- a point that must be one of the network
abbrev pub known : Option PointId → Result PointId FormatKind
known None = Err UnknownName
known (Some point) = Ok point

-- a word in the place of a point
abbrev pub point_of : Plan → List ℕ → Result PointId FormatKind
point_of net word = do
  name ← name_of word
  known (point_named net name)

-- words in the places of points
abbrev pub points_by_names : Plan → List (List ℕ) → Result (List PointId) FormatKind
points_by_names net [] = Ok []
points_by_names net (word ∷ others) = do
  point ← point_of net word
  points ← points_by_names net others
  Ok (point ∷ points)

-- MOMENT NAME NAME .., after `at`
abbrev pub completions_line : Plan → List (List ℕ) → Result EventLine FormatKind
completions_line net [] = Err WordCount
completions_line net (word ∷ names) = do
  moment ← natural_of most_moment word
  points ← points_by_names net names
  Ok (completed moment points)

-- nothing, after `done`
abbrev pub done_line : List (List ℕ) → Result EventLine FormatKind
done_line [] = Ok done
done_line (next ∷ others) = Err WordCount

-- a line by its first word
abbrev pub event_line_by_word : Plan → List ℕ → List (List ℕ) → Result EventLine FormatKind
event_line_by_word net first others =
    if bytes_eq first (codes "at") then completions_line net others
    else (if bytes_eq first (codes "done") then done_line others
    else Err UnknownWord)

-- a line of events
unfoldable pub event_line : Plan → List (List ℕ) → Result EventLine FormatKind
event_line net [] = Ok blank
event_line net (first ∷ others) = if is_remark first then Ok blank else event_line_by_word net first others

-- the answer to a line, and the completions that are kept after it
abbrev pub AnswersEventLine : Result EventLine FormatKind → List PointId → Result Event FormatKind → List PointId → Type 0
AnswersEventLine (Ok stated) before answer after = (answer ≡ Ok (event_of stated)) × (after ≡ kept stated before)
AnswersEventLine (Err kind) before answer after = (answer ≡ Err kind) × (after ≡ before)

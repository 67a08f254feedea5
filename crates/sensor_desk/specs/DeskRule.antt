-- The rule of a desk, which every step of any seat keeps: its words say what stands after some history, and what each live seat has noted stands. This
-- project's own choice.
use Rattle.std.specs.Prelude.{◌≡◌, ℕ, List, length, Some}
use Rattle.std.specs.List.{All}
use Rattle.shared_seats.specs.NotedViews.{AreKnown}
use Rattle.shared_seats.specs.declared.standing.Standing.{Standing}
use Rattle.sensor_desk.specs.DeskHistory.{DeskHistory, DeskStep, Entries, moment_at}
use Rattle.sensor_desk.specs.Views.{View}
use Rattle.sensor_desk.specs.Words.{words_of_entries}
use Rattle.sensor_desk.specs.declared.view.About.{About}
use Rattle.sensor_desk.specs.declared.view.Note.{Note}

-- what a seat has noted of a link stands
abbrev pub NoteStands : Entries → Note → Type 0
NoteStands entries note = moment_at entries note.link ≡ Some note.moment

-- what is known of the past of a desk: it is a history, in which each note of a view stands
pub record IsPastOfDesk (view : View) (entries : Entries) : Type 0 where
  pub steps : List DeskStep
  pub history : DeskHistory (length view.about.net.value.links) steps entries
  pub notes : All (NoteStands entries) view.notes

-- what the words and the seats are is reached by a history: the words say what stands after it, and what each live seat knows is so, that each
-- of its notes stands
pub record IsReachedBy (about : About) (words : List ℕ) (seats : List (Standing View)) : Type 0 where
  pub steps : List DeskStep
  pub entries : Entries
  pub history : DeskHistory (length about.net.value.links) steps entries
  pub words_are : words ≡ words_of_entries entries
  pub known : AreKnown (NoteStands entries) about seats

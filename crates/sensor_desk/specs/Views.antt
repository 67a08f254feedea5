-- What the steps of a desk make of what its seats know. This project's own choice.
use Rattle.std.specs.Prelude.{ℕ, ◌-◌, List, [], ◌∷◌, ◌++◌, Option, Some, None}
use Rattle.shared_seats.specs.NotedViews.{bare_view}
use Rattle.shared_seats.specs.declared.noted.Noted.{Noted}
use Rattle.net_model.specs.declared.ids.LinkId.{LinkId}
use Rattle.sensor_desk.specs.DeskHistory.{moment_standing_after}
use Rattle.sensor_desk.specs.Words.{held}
use Rattle.sensor_desk.specs.declared.view.About.{About}
use Rattle.sensor_desk.specs.declared.view.Look.{Look}
use Rattle.sensor_desk.specs.declared.view.Note.{Note}

-- what a seat knows of its desk
abbrev pub View : Type 0
View = Noted About Note Look

-- the first seat
abbrev pub first_view : About → View
first_view about = bare_view about (about.seats - 1)

-- the note of a link, if a moment stands for it
abbrev pub notes_of : LinkId → Option ℕ → List Note
notes_of link None = []
notes_of link (Some moment) = record { link = link; moment = moment } ∷ []

-- a seat after it looked at a word
abbrev pub looked : View → LinkId → ℕ → View
looked view link word = record view { looks = view.looks ++ record { link = link; word = word } ∷ [] }

-- a seat after a step at which it found a word of a link and noted what stands for it
abbrev pub noted : View → LinkId → ℕ → Option ℕ → View
noted view link word stands = record (looked view link word) { notes = view.notes ++ notes_of link stands }

-- a seat after a post of a moment for a link, when the link had this word
abbrev pub posted : View → LinkId → ℕ → ℕ → View
posted view link word moment = noted view link word (moment_standing_after (held word) (Some moment))

-- a seat after a read of a link that had this word
abbrev pub read : View → LinkId → ℕ → View
read view link word = noted view link word (held word)

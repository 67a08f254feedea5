-- The words of a desk: word 0 is 0, and each link has the word after its number. This project's own choice.
use Rattle.std.specs.Prelude.{ℕ, suc, ◌+◌, ◌-◌, ◌==◌, List, ◌∷◌, map, Option, Some, None, if◌then◌else◌}
use Rattle.net_model.specs.declared.ids.LinkId.{LinkId}
use Rattle.sensor_desk.specs.DeskHistory.{Entries}

-- the word of what stands for a link
abbrev pub moment_word : Option ℕ → ℕ
moment_word None = 0
moment_word (Some moment) = moment + 1

-- what a word says
abbrev pub held : ℕ → Option ℕ
held word = if word == 0 then None else Some (word - 1)

abbrev pub words_of_entries : Entries → List ℕ
words_of_entries entries = 0 ∷ map moment_word entries

-- where the word of a link is
abbrev pub place_of_word : LinkId → ℕ
place_of_word link = suc link.0

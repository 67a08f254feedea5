-- Where the word of a key is, and what a word holds. This project's own choice.
use Rattle.std.specs.Prelude.{ℕ, ◌+◌, ◌*◌, ◌==◌, ℤ, pos, ◌-ℤ◌, length, Option, Some, None, if◌then◌else◌}
use Rattle.net_model.specs.declared.ids.LinkId.{LinkId}
use Rattle.net_model.specs.declared.ids.PointId.{PointId}
use Rattle.closure_model.specs.Keys.{Key, Shape}

-- the word of a key without a weight: 2^41
abbrev pub absent_cell : ℕ
absent_cell = 2199023255552

-- what is added to a weight to make its word: 2^40
abbrev pub weight_offset : ℕ
weight_offset = 1099511627776

-- what a word holds: nothing if it is the word of a key without a weight, else by how much it is above 2^40
abbrev pub held : ℕ → Option ℤ
held word = if word == absent_cell then None else Some (pos word -ℤ pos weight_offset)

-- the row of a key: a row for each point in which ordinary edges end, and one for each label
abbrev pub row_number : ℕ → PointId → Option LinkId → ℕ
row_number points to None = to.0
row_number points to (Some label) = points + label.0

-- the place of the word of a key; word 0 is that of no key
abbrev pub word_place_of : Shape → Key → ℕ
word_place_of shape key = row_number shape.points key.to key.label * shape.points + key.from.0 + 1

-- how many words there are
abbrev pub word_count : Shape → ℕ
word_count shape = (shape.points + length shape.activations) * shape.points + 1

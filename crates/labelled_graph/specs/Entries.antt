-- The entries of a row of a table, and the edges that they stand for.
use Rattle.std.specs.Prelude.{ℕ, Bool, Option, is_none}
use Rattle.std.specs.Option.{option_map}
use Rattle.net_model.specs.declared.ids.PointId.{PointId}
use Rattle.net_model.specs.declared.ids.LinkId.{LinkId}
use Rattle.net_model.specs.declared.part.Edge.{Edge}
use Rattle.closure_model.specs.Keys.{Key, key_of}
use Rattle.labelled_graph.specs.declared.entry.Entry.{Entry}

-- the label of a number
abbrev pub wide_label : Option ℕ → Option LinkId
wide_label label = option_map (λ k. record { 0 = k }) label

-- the edge of an entry in the row of a point: it ends there
abbrev pub edge_into : PointId → Entry → Edge
edge_into to entry = record { from = entry.from; to = to; label = wide_label entry.label; weight = entry.weight }

-- the edge of an entry has no label
abbrev pub is_ordinary : Entry → Bool
is_ordinary entry = is_none entry.label

-- the key of an entry in the row of a point
abbrev pub key_into : PointId → Entry → Key
key_into to entry = key_of (edge_into to entry)

-- the key of a target, a source and a label
abbrev pub key_with : (to from : PointId) → Option LinkId → Key
key_with to from label = record { to = to; from = from; label = label }

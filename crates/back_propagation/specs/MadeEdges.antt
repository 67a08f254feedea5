-- How the improved edges of the row of a target are stored: short, if what is left out follows from the target and the edge, or whole.
use Rattle.std.specs.Prelude.{◌<◌, ℕ, ℤ, pos, List, length, map, Option, None}
use Rattle.std.specs.List.{All, slice_index_or}
use Rattle.net_model.specs.declared.ids.LinkId.{LinkId}
use Rattle.net_model.specs.declared.ids.PointId.{PointId}
use Rattle.net_model.specs.declared.part.Edge.{Edge}
use Rattle.closure_model.specs.declared.rows.Made.{Made}
use Rattle.closure_model.specs.declared.rows.Why.{Why}
use Rattle.closure_model.specs.declared.rows.Why.TheVariants as by
use Rattle.labelled_graph.specs.Entries.{wide_label}
use Rattle.back_propagation.specs.declared.made_edges.Held.{Held}
use Rattle.back_propagation.specs.declared.made_edges.Held.TheVariants.{Short, Whole}
use Rattle.back_propagation.specs.declared.made_edges.ShortMade.{ShortMade}
use Rattle.back_propagation.specs.declared.made_edges.ShortWhy.{ShortWhy}
use Rattle.back_propagation.specs.declared.made_edges.ShortWhy.TheVariants.{No, Up, Low, Cross, Drop}
use Rattle.back_propagation.specs.declared.made_edges.MadeEdges.TheInside.{Inside}

-- an edge by its parts
abbrev pub edge_of : PointId → PointId → Option LinkId → ℤ → Edge
edge_of from to label weight = record { from = from; to = to; label = label; weight = weight }

-- how an edge got its weight: a first premise begins where it begins, and the other or the only one ends where it ends
abbrev pub why_of : Edge → ShortWhy → Why
why_of edge (No first between second) = by.No (edge_of edge.from between None first) (edge_of between edge.to None second)
why_of edge (Up first between second) = by.Up (edge_of edge.from between None first) (edge_of between edge.to edge.label second)
why_of edge (Low link from weight) = by.Low link (edge_of from edge.to None weight)
why_of edge (Cross link from weight) = by.Cross link (edge_of from edge.to edge.label weight)
why_of edge (Drop label weight) = by.Drop (edge_of edge.from edge.to label weight)

-- what is stored short stands for an edge into the target
abbrev pub made_of : PointId → ShortMade → Made
made_of target short =
    let edge = edge_of short.from target (wide_label short.label) short.weight in record { edge = edge; why = why_of edge short.how }

-- what is read if there is nothing
abbrev pub no_made : Made
no_made = let edge = edge_of (record { 0 = 0 }) (record { 0 = 0 }) None (pos 0) in record { edge = edge; why = by.Drop edge }

-- the edge that is stored, with its rule and its premises
abbrev pub held_made : PointId → List Made → Held → Made
held_made target whole (Short short) = made_of target short
held_made target whole (Whole place) = slice_index_or whole place no_made

-- an edge that is stored whole has its place among so many
abbrev pub IsHeld : ℕ → Held → Type 0
IsHeld count (Short short) = Unit {0}
IsHeld count (Whole place) = place < count

-- the edges that are stored
abbrev pub made_edges : Inside → List Made
made_edges made = map (held_made made.target made.whole.items) made.held.items

-- those that are stored whole are there
abbrev pub AreHeld : Inside → Type 0
AreHeld made = All (IsHeld (length made.whole.items)) made.held.items

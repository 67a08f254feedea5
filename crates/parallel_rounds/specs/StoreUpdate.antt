-- How the edges that improve in a round come into a store.
use Rattle.std.specs.Prelude.{◌≤◌, List, [], ◌∷◌, length, map, take, drop, Option, None}
use Rattle.std.specs.List.{flat_map}
use Rattle.net_model.specs.Network.{Plan}
use Rattle.closure_model.specs.Derivations.{Support}
use Rattle.closure_model.specs.ReferenceRound.{node_for}
use Rattle.closure_model.specs.declared.derivation.Node.{Node}
use Rattle.closure_model.specs.declared.derivation.NodeId.{NodeId}
use Rattle.closure_model.specs.declared.rows.Made.{Made}
use Rattle.closure_model.specs.declared.rows.Why.{Why}
use Rattle.closure_model.specs.declared.rows.Why.TheVariants.{No, Up, Low, Cross, Drop}
use Rattle.derivation_dag.specs.Rows.{CanTakeRow, with_row}
use Rattle.back_propagation.specs.declared.full_rows.NewRow.{NewRow}

-- the node that the first premise has, if the rule takes two
abbrev pub first_for : List Node → Why → Option NodeId
first_for nodes (No first second) = node_for nodes first
first_for nodes (Up first second) = node_for nodes first
first_for nodes (Low link second) = None
first_for nodes (Cross link second) = None
first_for nodes (Drop premise) = None

-- the nodes that the first premises of edges have
abbrev pub firsts_for : List Node → List Made → List (Option NodeId)
firsts_for nodes made = map (λ (one : Made). first_for nodes one.why) made

-- all edges that improved, row by row
abbrev pub made_in : List NewRow → List Made
made_in rows = flat_map (λ (row : NewRow). row.made) rows

-- what supports the table when the edges of all rows have their nodes, if the nodes of their first premises are given
abbrev pub with_rows : Support → List NewRow → List (Option NodeId) → Support
with_rows support [] firsts = support
with_rows support (row ∷ rows) firsts = with_rows (with_row support row.made (take (length row.made) firsts)) rows (drop (length row.made) firsts)

-- a store can take the edges of a row, and then those of the others
pub record CanTakeNext (net : Plan) (support : Support) (row : NewRow) (firsts : List (Option NodeId)) : Type 0 where
  pub given : length row.made ≤ length firsts
  pub can : CanTakeRow net support row.target row.made (take (length row.made) firsts)

-- a store can take the edges of all these rows, one row after another
abbrev pub CanTakeRows : Plan → Support → List NewRow → List (Option NodeId) → Type 0
CanTakeRows net support [] firsts = Unit {0}
CanTakeRows net support (row ∷ rows) firsts = CanTakeNext net support row firsts
    × CanTakeRows net (with_row support row.made (take (length row.made) firsts)) rows (drop (length row.made) firsts)

-- The reference round: the rows of all targets against one table, and what it adds to the list and the table that support them.
-- Morris and Muscettola 2005, in this project's form; the order of making is not theirs.
use Rattle.std.specs.Prelude.{◌==◌, ◌&&◌, ℕ, ℤ, Bool, List, fold, Option, Some, None, if◌then◌else◌}
use Rattle.std.specs.Option.{option_map, option_map_or, option_and_then}
use Rattle.std.specs.List.{flat_map}
use Rattle.net_model.specs.Network.{Plan}
use Rattle.net_model.specs.declared.part.Edge.{Edge}
use Rattle.closure_model.specs.Derivations.{Support, with_node}
use Rattle.closure_model.specs.Keys.{all_points}
use Rattle.closure_model.specs.Least.{first_least}
use Rattle.closure_model.specs.ReferenceRow.{reference_row, same_label}
use Rattle.closure_model.specs.Tables.{Graph}
use Rattle.closure_model.specs.declared.derivation.Node.{Node}
use Rattle.closure_model.specs.declared.derivation.NodeId.{NodeId}
use Rattle.closure_model.specs.declared.derivation.Rule.{Rule}
use Rattle.closure_model.specs.declared.derivation.Rule.TheVariants as by_rule
use Rattle.closure_model.specs.declared.rows.Made.{Made}
use Rattle.closure_model.specs.declared.rows.Why.{Why}
use Rattle.closure_model.specs.declared.rows.Why.TheVariants.{No, Up, Low, Cross, Drop}

-- two edges are of one key
abbrev pub is_same_key : Edge → Edge → Bool
is_same_key one other = one.to.0 == other.to.0 && (one.from.0 == other.from.0 && same_label one.label other.label)

-- the weight of a node of the key of an edge
abbrev pub weight_for : Edge → Node → Option ℤ
weight_for edge node = if is_same_key edge node.edge then Some node.edge.weight else None

-- the node of the key of an edge: the first of least weight among its nodes
abbrev pub node_for : List Node → Edge → Option NodeId
node_for nodes edge = option_map (λ (first : ℕ × ℤ). record { 0 = first.0 }) (first_least (weight_for edge) nodes)

-- the rule of a new node: its premise in the row is the node that the key now has, an edge before it the node that its key had
-- before the round
abbrev pub rule_for : (before now : List Node) → Why → Option Rule
rule_for before now (No first second) = option_and_then (λ one. option_map (by_rule.No one) (node_for now second)) (node_for before first)
rule_for before now (Up first second) = option_and_then (λ one. option_map (by_rule.Up one) (node_for now second)) (node_for before first)
rule_for before now (Low link second) = option_map (by_rule.Low link) (node_for now second)
rule_for before now (Cross link second) = option_map (by_rule.Cross link) (node_for now second)
rule_for before now (Drop premise) = option_map by_rule.Drop (node_for now premise)

-- what supports the table when one more edge that improved has its node and has come into the table; the nodes before the round are those
-- of a list
abbrev pub with_one : (before : List Node) → Support → Made → Support
with_one before support made = option_map_or (λ rule. with_node support (record { rule = rule; edge = made.edge }))
    (rule_for before support.nodes made.why) support

-- the edges that improve in a round: all rows are against the same table; target by target in order, and in each row in the order of
-- settling
abbrev pub round_made : Plan → Graph → List Made
round_made net table = flat_map (reference_row net table) (all_points table.shape)

-- the list and the table after a round: each key that improved has a new node, and the table its new weight
abbrev pub after_round : Plan → Support → Support
after_round net support = fold (with_one support.nodes) support (round_made net support.table)

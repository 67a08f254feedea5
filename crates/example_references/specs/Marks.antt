-- What is kept of a derivation list, by marks: a node is marked if it is not kept, and the number of a kept one is how many of those before it are.
use Rattle.std.specs.Prelude.{Bool, true, false, List, [], ◌∷◌, ◌++◌, slice_get, take, not, Option, Some, None, if◌then◌else◌}
use Rattle.std.specs.List.{slice_index_or, count_by}
use Rattle.std.specs.Option.{option_map, option_and_then, option_map_or}
use Rattle.net_model.specs.Network.{activation}
use Rattle.net_model.specs.declared.ids.LinkId.{LinkId}
use Rattle.net_model.specs.declared.part.Link.{Link}
use Rattle.closure_model.specs.declared.derivation.Node.{Node}
use Rattle.closure_model.specs.declared.derivation.NodeId.{NodeId}
use Rattle.closure_model.specs.declared.derivation.Rule.{Rule}
use Rattle.closure_model.specs.declared.derivation.Rule.TheVariants as by_rule
use Rattle.edit_laws.specs.KeptLists.{Renumbering, moved_edge}
use Rattle.edit_laws.specs.EditNumbers.{renumbering, point_in, is_new_bound, is_new_link}
use Rattle.example_references.specs.declared.edited_network.Edited.{Edited}

-- the numbers after an edit
abbrev pub numbers : Edited → Renumbering
numbers edited = renumbering edited.before.now edited.edit.now edited.after.now

-- the number of the old link that ends in the point of the same name as one of the new network, if it is not taken away
abbrev pub link_before_edit : Edited → Link → Option LinkId
link_before_edit edited link = option_and_then (λ point. option_and_then (numbers edited).links (activation edited.before.now point))
    (point_in edited.after.now edited.before.now link.to)

-- a base node of the new network is that of a new bound or of a new link
abbrev pub is_new_base : Edited → Rule → Bool
is_new_base edited (by_rule.Bound name) = option_map_or (is_new_bound edited.before.now edited.edit.now edited.after.now)
    (slice_get edited.after.now.bounds name.0) false
is_new_base edited (by_rule.Link name) = option_map_or (is_new_link edited.before.now edited.edit.now edited.after.now)
    (slice_get edited.after.now.links name.0) false
is_new_base edited (by_rule.No first second) = false
is_new_base edited (by_rule.Up first second) = false
is_new_base edited (by_rule.Low name second) = false
is_new_base edited (by_rule.Cross name second) = false
is_new_base edited (by_rule.Drop premise) = false

-- a node so far is marked; one that has not come counts as marked
abbrev pub mark_at : List Bool → NodeId → Bool
mark_at marks id = slice_index_or marks id.0 true

-- how many of the first nodes are kept
abbrev pub kept_before : List Bool → NodeId → NodeId
kept_before marks id = record { 0 = count_by (λ (mark : Bool). not mark) (take id.0 marks) }

-- the number of a node among the kept ones, if it is kept
abbrev pub kept_place : List Bool → NodeId → Option NodeId
kept_place marks id = if mark_at marks id then None else Some (kept_before marks id)

-- a rule with its new numbers, if it has them
abbrev pub rule_after : Renumbering → List Bool → Rule → Option Rule
rule_after moves marks (by_rule.Bound name) = option_map by_rule.Bound (moves.bounds name)
rule_after moves marks (by_rule.Link name) = option_map by_rule.Link (moves.links name)
rule_after moves marks (by_rule.No first second) = option_and_then (λ one. option_map (by_rule.No one) (kept_place marks second)) (kept_place marks first)
rule_after moves marks (by_rule.Up first second) = option_and_then (λ one. option_map (by_rule.Up one) (kept_place marks second)) (kept_place marks first)
rule_after moves marks (by_rule.Low name second) = option_and_then (λ link. option_map (by_rule.Low link) (kept_place marks second)) (moves.links name)
rule_after moves marks (by_rule.Cross name second) = option_and_then (λ link. option_map (by_rule.Cross link) (kept_place marks second)) (moves.links name)
rule_after moves marks (by_rule.Drop premise) = option_map by_rule.Drop (kept_place marks premise)

-- a node with its new numbers, if its rule has them
abbrev pub node_after : Renumbering → List Bool → Node → Option Node
node_after moves marks node = option_map (λ rule. record { rule = rule; edge = moved_edge moves node.edge }) (rule_after moves marks node.rule)

-- a list with the item that there is, if there is one
abbrev pub with_some : {X : Type 0} → List X → Option X → List X
with_some xs (Some x) = xs ++ x ∷ []
with_some xs None = xs

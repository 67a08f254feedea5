-- A node as a line states the edge of the node, by the names of the network.
use Rattle.std.proofs.Common.{◌≡◌, ℕ, List, Option, Some, None, refl, ap, sym, ◌∙◌}
use Rattle.std.specs.Option.{option_map}
use Rattle.net_model.proofs.RuleLemmas.{no_case_gives, upper_case_gives, lower_case_gives, cross_case_gives, removal_gives}
use Rattle.net_model.specs.Network.{Plan}
use Rattle.net_model.specs.declared.ids.LinkId.{LinkId}
use Rattle.net_model.specs.declared.part.Edge.{Edge}
use Rattle.closure_model.proofs.DerivedNodes.{Made, made_bound, made_link, made_no, made_up, made_low, made_cross, made_drop}
use Rattle.closure_model.specs.declared.derivation.Node.{Node}
use Rattle.closure_model.specs.declared.derivation.NodeId.{NodeId}
use Rattle.closure_model.specs.declared.derivation.Rule.{Rule}
use Rattle.cert_format.specs.Kind.{has_label}
use Rattle.cert_format.specs.declared.line.CertLine.{CertLine}
use Rattle.cert_checker.specs.Lines.{label_of, label_by}
use Rattle.net_model.specs.NetworkParts.{point_name}
use Rattle.refutation_certificates.specs.Certificates.{link_name, label_name, kind_of, only_if, rule_line_of_node}

-- a line states an edge, by the names of the network
pub record Says (net : Plan) (line : CertLine) (edge : Edge) : Type 0 where
  pub from : line.from ≡ point_name net.points edge.from
  pub to : line.to ≡ point_name net.points edge.to
  pub label : label_of line ≡ option_map (link_name net) edge.label
  pub weight : line.weight ≡ edge.weight

module _ (net : Plan) where
  no_label : (label : Option LinkId) → label ≡ None → None ≡ option_map (link_name net) label
  no_label label is = sym (ap (option_map (link_name net)) is)

  own_label : (label : Option LinkId) (name : LinkId) → label ≡ Some name → Some (link_name net name) ≡ option_map (link_name net) label
  own_label label name is = sym (ap (option_map (link_name net)) is)

  named_label : (label : Option LinkId) (name : LinkId) → label ≡ Some name → Some (label_name net label) ≡ option_map (link_name net) label
  named_label label name is = ap (λ (o : Option LinkId). Some (label_name net o)) is ∙ own_label label name is

  pub kind_says : (nodes : List Node) (lines : List NodeId) (limit : ℕ) (edge : Edge) (rule : Rule) → Made net nodes limit edge rule
      → label_by (kind_of net lines rule) (only_if (has_label (kind_of net lines rule)) (label_name net edge.label)) ≡ option_map (link_name net) edge.label
  kind_says nodes lines limit edge rule (made_bound name bound here is) = no_label edge.label (sym (ap (λ (e : Edge). e.label) is))
  kind_says nodes lines limit edge rule (made_link name link here is) = own_label edge.label name (sym (ap (λ (e : Edge). e.label) is))
  kind_says nodes lines limit edge rule (made_no first second one two from_one from_two gave) =
      let gives = no_case_gives one two edge gave in no_label edge.label (sym (ap (λ (e : Edge). e.label) gives.is))
  kind_says nodes lines limit edge rule (made_up first second one two from_one from_two gave) =
      let gives = upper_case_gives one two edge gave in named_label edge.label gives.label (sym (ap (λ (e : Edge). e.label) gives.is) ∙ gives.second_labelled)
  kind_says nodes lines limit edge rule (made_low name second two from_two gave) =
      let gives = lower_case_gives net name two edge gave in no_label edge.label (sym (ap (λ (e : Edge). e.label) gives.is) ∙ gives.second_ordinary)
  kind_says nodes lines limit edge rule (made_cross name second two from_two gave) =
      let gives = cross_case_gives net name two edge gave in named_label edge.label gives.label (sym (ap (λ (e : Edge). e.label) gives.is) ∙ gives.second_labelled)
  kind_says nodes lines limit edge rule (made_drop premise one from_one gave) =
      let gives = removal_gives net one edge gave in no_label edge.label (sym (ap (λ (e : Edge). e.label) gives.is))

  pub says : (nodes : List Node) (lines : List NodeId) (limit : ℕ) (node : Node) → Made net nodes limit node.edge node.rule → Says net (rule_line_of_node net lines node) node.edge
  says nodes lines limit node from_premises = record {
    from = refl;
    to = refl;
    label = kind_says nodes lines limit node.edge node.rule from_premises;
    weight = refl;
  }

-- The certificate that refutes a network, made from nodes of a derivation list and a walk: each node is a rule line with the names
-- of the network, and its premises are named by the numbers of their lines.
use Rattle.std.specs.Prelude.{◌≡◌, ℕ, Bool, true, false, List, [], Option, Some, None, is_some, if◌then◌else◌, slice_get, refl}
use Rattle.std.specs.List.{filter_map}
use Rattle.std.specs.Option.{option_map, option_map_or}
use Rattle.net_model.specs.Network.{Plan}
use Rattle.net_model.specs.NetworkParts.{point_name}
use Rattle.net_model.specs.declared.ids.PointId.{PointId}
use Rattle.net_model.specs.declared.ids.LinkId.{LinkId}
use Rattle.net_model.specs.declared.ids.BoundId.{BoundId}
use Rattle.net_model.specs.declared.part.Bound.{Bound}
use Rattle.net_model.specs.declared.part.Link.{Link}
use Rattle.closure_model.specs.Derivations.{node_at}
use Rattle.closure_model.specs.ReferenceRounds.{line_of, IsRefutationBy}
use Rattle.closure_model.specs.declared.derivation.Node.{Node}
use Rattle.closure_model.specs.declared.derivation.NodeId.{NodeId}
use Rattle.closure_model.specs.declared.derivation.Rule.{Rule}
use Rattle.closure_model.specs.declared.derivation.Rule.TheVariants as by_rule
use Rattle.cert_format.specs.Kind.{has_label}
use Rattle.cert_format.specs.declared.certificate.Certificate.{Certificate}
use Rattle.cert_format.specs.declared.certificate.Certificate.TheVariants.{Refutation}
use Rattle.cert_format.specs.declared.kind.LineKind.{LineKind}
use Rattle.cert_format.specs.declared.kind.LineKind.TheVariants as kind
use Rattle.cert_format.specs.declared.line.CertLine.{CertLine}

-- the name of a bound
abbrev pub bound_name : Plan → BoundId → List ℕ
bound_name net name = option_map_or (λ (bound : Bound). bound.name) (slice_get net.bounds name.0) []

-- the name of a link: that of its contingent point
abbrev pub link_name : Plan → LinkId → List ℕ
link_name net name = option_map_or (λ (link : Link). point_name net.points link.to) (slice_get net.links name.0) []

-- what the line of a rule names: a bound or a link by its name, and premises by the numbers of their lines
abbrev pub kind_of : Plan → List NodeId → Rule → LineKind
kind_of net lines (by_rule.Bound name) = kind.Bound (bound_name net name)
kind_of net lines (by_rule.Link name) = kind.Link (link_name net name)
kind_of net lines (by_rule.No first second) = kind.No (line_of lines first) (line_of lines second)
kind_of net lines (by_rule.Up first second) = kind.Up (line_of lines first) (line_of lines second)
kind_of net lines (by_rule.Low name second) = kind.Low (link_name net name) (line_of lines second)
kind_of net lines (by_rule.Cross name second) = kind.Cross (link_name net name) (line_of lines second)
kind_of net lines (by_rule.Drop premise) = kind.Drop (line_of lines premise)

-- an item that is there exactly if it is wanted
abbrev pub only_if : {A : Type 0} → Bool → A → Option A
only_if wanted item = if wanted then Some item else None

-- it is there exactly then
pub is_there : {A : Type 0} (wanted : Bool) (item : A) → is_some (only_if wanted item) ≡ wanted
is_there true item = refl
is_there false item = refl

-- the name of the label of an edge
abbrev pub label_name : Plan → Option LinkId → List ℕ
label_name net label = option_map_or (link_name net) label []

-- a node as a rule line: its edge by the names of its ends, its weight, what its rule uses, and, if a line of its kind names a label, this
-- by the contingent point of the link
abbrev pub rule_line_of_node : Plan → List NodeId → Node → CertLine
rule_line_of_node net lines node =
    let kind = kind_of net lines node.rule in
    let name = label_name net node.edge.label in
    record {
      kind = kind;
      from = point_name net.points node.edge.from;
      to = point_name net.points node.edge.to;
      label = only_if (has_label kind) name;
      weight = node.edge.weight;
      labelled = is_there (has_label kind) name;
    }

-- some of the lines' nodes as rule lines, in their order
abbrev pub lines_among : Plan → List Node → (lines ids : List NodeId) → List CertLine
lines_among net nodes lines ids = filter_map (λ id. option_map (rule_line_of_node net lines) (node_at nodes id)) ids

-- nodes as rule lines, in their order
abbrev pub lines_by : Plan → List Node → List NodeId → List CertLine
lines_by net nodes lines = lines_among net nodes lines lines

-- the certificate with nodes of a list as its rule lines, and with a walk
abbrev pub certificate_of_nodes : Plan → List Node → List NodeId → List ℕ → Certificate
certificate_of_nodes net nodes lines walk = Refutation (lines_by net nodes lines) walk

-- a certificate is the one by the refutation by a cycle, of which nodes are lines and which gives the walk
pub record IsCertificateBy (net : Plan) (nodes : List Node) (cycle : List PointId) (certificate : Certificate) : Type 0 where
  pub lines : List NodeId
  pub walk : List ℕ
  pub refutation : IsRefutationBy nodes cycle lines walk
  pub is : certificate ≡ certificate_of_nodes net nodes lines walk

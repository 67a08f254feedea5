-- What the lines of a refutation state, and when it is true.
use Rattle.std.specs.Prelude.{◌≡◌, ℕ, ◌-◌, List, [], Option, Some, None, take}
use Rattle.std.specs.List.{All}
use Rattle.net_model.specs.Network.{Plan, point_named, link_named as link_id}
use Rattle.net_model.specs.declared.ids.LinkId.{LinkId}
use Rattle.net_model.specs.declared.part.Edge.{Edge}
use Rattle.strategy_model.specs.Control.{Controls}
use Rattle.strategy_model.specs.Edges.{HoldsOf}
use Rattle.strategy_model.specs.ShownLaws.{HoldsAsShown}
use Rattle.net_model.specs.ShownForm.{shown_form}
use Rattle.strategy_model.specs.declared.tree.Tree.{Tree}
use Rattle.cert_format.specs.declared.certificate.Certificate.{Certificate}
use Rattle.cert_format.specs.declared.certificate.Certificate.TheVariants.{Refutation, TableProof}
use Rattle.cert_format.specs.declared.line.CertLine.{CertLine}
use Rattle.cert_checker.specs.Lines.{label_of}
use Rattle.cert_checker.specs.declared.judgement.Judgement.{Judgement}
use Rattle.cert_checker.specs.declared.judgement.Judgement.TheVariants.{Accepted, Refused}

-- a label is no link if it is absent, else the link that ends in the point of its name
abbrev pub IsLabel : Plan → Option (List ℕ) → Option LinkId → Type 0
IsLabel net None label = label ≡ None
IsLabel net (Some name) label = (id : LinkId) × (link_id net name ≡ Some id) × (label ≡ Some id)

-- the edge that a line states, its names resolved
pub record States (net : Plan) (line : CertLine) (edge : Edge) : Type 0 where
  pub from : point_named net line.from ≡ Some edge.from
  pub to : point_named net line.to ≡ Some edge.to
  pub label : IsLabel net (label_of line) edge.label
  pub weight : edge.weight ≡ line.weight

-- a line states an edge that is true of a strategy
abbrev pub IsTrueOf : Plan → Tree → CertLine → Type 0
IsTrueOf net strategy line = (edge : Edge) × States net line edge × HoldsOf net strategy edge

-- lines that are true of every strategy that controls the network
pub record AreTrueLines (net : Plan) (lines : List CertLine) : Type 0 where
  pub of_each : (strategy : Tree) → Controls strategy net → All (IsTrueOf net strategy) lines

-- a line states an edge that holds of what is shown, by a strategy
abbrev pub IsTrueAsShown : Plan → Tree → CertLine → Type 0
IsTrueAsShown net strategy line = (edge : Edge) × States (shown_form net) line edge × HoldsAsShown net strategy edge

-- lines that are true, of what is shown, of every strategy that controls the network
pub record AreTrueAsShown (net : Plan) (lines : List CertLine) : Type 0 where
  pub of_each : (strategy : Tree) → Controls strategy net → All (IsTrueAsShown net strategy) lines

-- the rule lines that passed, of a refutation: all if the certificate is accepted, else those before the line that is refused
abbrev pub passed_lines : Certificate → Judgement → List CertLine
passed_lines (Refutation lines walk) (Accepted claim) = lines
passed_lines (TableProof order entries) judgement = []
passed_lines (Refutation lines walk) (Refused line why) = take (line - 1) lines

-- The certificates that refute a network are accepted, and can be printed.
use Rattle.std.proofs.Common.{◌≡◌, ℕ, ◌<◌, ◌≤◌, unsigned_abs, ◌⊎◌, inl, inr, List, [], ◌∷◌, get_or, Option, Some, None, Ok, refl, ap, ◌∙◌, subst, arith}
use Rattle.std.specs.Option.{option_map}
use Rattle.std.specs.List.{AllZip, Contains}
use Rattle.std.proofs.lemmas.Option.{slice_get-get_or, same_Some}
use Rattle.net_model.specs.Limits.{most_size}
use Rattle.net_model.specs.Network.{Plan}
use Rattle.closure_model.proofs.Lists.{Contains-cases, Contains-none}
use Rattle.closure_model.specs.Derivations.{node_at, IsNodeOf}
use Rattle.closure_model.specs.Keys.{Key}
use Rattle.closure_model.specs.ReferenceRounds.{cycle_keys}
use Rattle.closure_model.specs.declared.derivation.Node.{Node}
use Rattle.closure_model.specs.declared.derivation.NodeId.{NodeId}
use Rattle.cert_format.specs.CertificateWords.{HasWrittenWeight}
use Rattle.cert_format.specs.declared.line.CertLine.{CertLine}
use Rattle.cert_checker.specs.Judgement.{judged, lines_pass, refutation_passes}
use Rattle.cert_checker.specs.Walk.{walk_passes}
use Rattle.cert_checker.specs.declared.judgement.Claim.TheVariants.{NotControllable}
use Rattle.refutation_certificates.specs.Certificates.{rule_line_of_node, lines_by}
use Rattle.refutation_certificates.specs.Laws.{RefutationsAreAccepted, RefutationsHaveWeights}
use Rattle.refutation_certificates.proofs.Places.{made_from}
use Rattle.refutation_certificates.proofs.RulesPass.{goes_on}
use Rattle.refutation_certificates.proofs.LinesPass.{node_within, lines_ok}
use Rattle.refutation_certificates.proofs.WalkPasses.{negative_cycle, whole_walk}

-- the steps of a refutation are nodes
pub steps_are_nodes : (nodes : List Node) (keys : List Key) (steps : List NodeId) → AllZip (IsNodeOf nodes) keys steps → (id : NodeId) → Contains steps id → (node : Node) × (node_at nodes id ≡ Some node)
steps_are_nodes nodes keys [] zip id inside = absurd (Contains-none id inside)
steps_are_nodes nodes [] (step ∷ steps) zip id inside = absurd zip
steps_are_nodes nodes (key ∷ keys) (step ∷ steps) (one, more) id inside = by (steps_are_nodes nodes keys steps more id) (Contains-cases step steps id inside)
  where
    by : (Contains steps id → (node : Node) × (node_at nodes id ≡ Some node)) → (step ≡ id) ⊎ Contains steps id → (node : Node) × (node_at nodes id ≡ Some node)
    by others (inl same) = (one.node, subst (λ (i : NodeId). node_at nodes i ≡ Some one.node) same one.here)
    by others (inr there) = others there

both_pass : (net : Plan) (lines : List CertLine) (walk : List ℕ) → lines_pass net [] lines ≡ Ok tt → walk_passes lines walk ≡ Ok tt → refutation_passes net lines walk ≡ Ok tt
unfolding refutation_passes
both_pass net lines walk rules closed = goes_on (lines_pass net [] lines) _ tt (Ok tt) rules closed

pub law_refutations_are_accepted : RefutationsAreAccepted
law_refutations_are_accepted net support [] lines walk plan stands whole refutation = let some : 0 < 0 = whole.some in absurd (omega arith)
law_refutations_are_accepted net support (first ∷ points) lines walk plan stands whole refutation =
    let are_nodes = steps_are_nodes support.nodes (cycle_keys (first ∷ points)) refutation.steps refutation.of_cycle in
    let rules = lines_ok net plan support.nodes stands.derived refutation.steps lines refutation.under are_nodes in
    let closed = whole_walk net plan support stands refutation.steps lines refutation.under are_nodes first points refutation.of_cycle (negative_cycle support.table (first ∷ points) whole) in
    let numbered : walk_passes (lines_by net support.nodes lines) walk ≡ Ok tt = ap (walk_passes (lines_by net support.nodes lines)) refutation.numbered ∙ closed in
    ap (judged NotControllable) (both_pass net (lines_by net support.nodes lines) walk rules numbered)

node_line : (net : Plan) (lines : List NodeId) (o : Option Node) (line : CertLine) → option_map (rule_line_of_node net lines) o ≡ Some line → (node : Node) × (o ≡ Some node) × (rule_line_of_node net lines node ≡ line)
node_line net lines None line is = absurd cc
node_line net lines (Some node) line is = (node, refl, same_Some (rule_line_of_node net lines node) line is)

pub law_refutations_have_weights : RefutationsHaveWeights
law_refutations_have_weights net support lines walk plan stands k d inside =
    let all : List CertLine = lines_by net support.nodes lines in
    let (id, among, made) = made_from (λ (i : NodeId). option_map (rule_line_of_node net lines) (node_at support.nodes i)) lines k (get_or all k d) (slice_get-get_or all k d inside) in
    let (node, here, same) = node_line net lines (node_at support.nodes id) (get_or all k d) made in
    let within : unsigned_abs node.edge.weight ≤ most_size = node_within net plan support.nodes stands.derived id node here in
    let line_within : HasWrittenWeight (rule_line_of_node net lines node) = omega arith in
    subst HasWrittenWeight same line_within

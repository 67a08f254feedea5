-- Nodes that are held of a list, as lines.
use Rattle.std.proofs.Common.{◌≡◌, ℕ, ◌+◌, ◌<◌, List, [], ◌∷◌, ◌++◌, take, length, get_or, Option, Some, ap, sym, ◌∙◌, subst, arith}
use Rattle.std.specs.Prelude.{IsSomeAnd}
use Rattle.std.proofs.lemmas.List.{get_or-map, length-map}
use Rattle.net_model.specs.Network.{Plan}
use Rattle.closure_model.specs.Derivations.{node_at}
use Rattle.closure_model.specs.declared.derivation.Node.{Node}
use Rattle.closure_model.specs.declared.derivation.NodeId.{NodeId}
use Rattle.derivation_dag.specs.Pruned.{AreNumbered, numbers_in}
use Rattle.derivation_dag.specs.declared.pruned_dag.Numbered.{Numbered}
use Rattle.cert_format.specs.declared.line.CertLine.{CertLine}
use Rattle.refutation_certificates.specs.Certificates.{lines_among, rule_line_of_node}
use Rattle.refutation_certificates.proofs.LineNumbers.{lines_more}
use Rattle.refutation_certificates.specs.RuleLines.{CanBeLine, CanBeLines}

module _ (whole : List Node) (lines : List NodeId) (held : List Numbered) (are : lines ≡ numbers_in held) (numbered : AreNumbered whole held) where
  pub held_within : (i : ℕ) → i < length held → i < length lines
  held_within i inside = let size : length lines ≡ length held = ap length are ∙ length-map held (λ (one : Numbered). one.id) in omega (arith, size)

  pub held_line : (i : ℕ) (d : Numbered) (e : NodeId) → i < length held → node_at whole (get_or lines i e) ≡ Some (get_or held i d).node
  held_line i d e inside = ap (λ (ids : List NodeId). node_at whole (get_or ids i e)) are ∙ (ap (node_at whole) (get_or-map (λ (one : Numbered). one.id) held i d e inside) ∙ numbered i d inside)

  pub held_can : (net : Plan) → CanBeLines net whole lines → (i : ℕ) (d : Numbered) → i < length held → CanBeLine net lines (get_or held i d).node
  held_can net can i d inside =
      let none : NodeId = record { 0 = 0 } in
      subst (λ (o : Option Node). IsSomeAnd o (CanBeLine net lines)) (held_line i d none inside) (can.each i none (held_within i inside))

  pub held_more : (net : Plan) (before after : List CertLine) (i : ℕ) (d : Numbered) → i < length held → before ≡ lines_among net whole lines (take i lines) → after ≡ before ++ rule_line_of_node net lines (get_or held i d).node ∷ []
      → after ≡ lines_among net whole lines (take (i + 1) lines)
  held_more net before after i d inside was is =
      let none : NodeId = record { 0 = 0 } in
      is ∙ (ap (λ (made : List CertLine). made ++ rule_line_of_node net lines (get_or held i d).node ∷ []) was ∙ sym (lines_more net whole lines lines i none (get_or held i d).node (held_within i inside) (held_line i d none inside)))

-- The nodes of a refutation can be made into lines, and its cycle has weights.
use Rattle.std.proofs.Common.{◌≡◌, ℕ, ◌<◌, true, List, [], ◌∷◌, length, map, get_or, Option, Some, None, is_some, refl, ap, sym, ◌∙◌, subst}
use Rattle.std.specs.Prelude.{IfSome, IsSome, IsSomeAnd}
use Rattle.std.specs.List.{All, AllByRecursion, AllZip, Contains}
use Rattle.std.proofs.lemmas.List.Elements.{Contains-get_or}
use Rattle.std.proofs.lemmas.Option.{slice_get_within}
use Rattle.net_model.proofs.RuleLemmas.{upper_case_gives, lower_case_gives, cross_case_gives}
use Rattle.net_model.specs.Network.{Plan, IsPlan}
use Rattle.net_model.specs.Edges.{IsEdge, IsLabelled}
use Rattle.net_model.specs.declared.ids.LinkId.{LinkId}
use Rattle.net_model.specs.declared.ids.PointId.{PointId}
use Rattle.net_model.specs.declared.part.Edge.{Edge}
use Rattle.closure_model.proofs.Lists.{each-from_contains}
use Rattle.closure_model.proofs.DerivedNodes.{Made, made_bound, made_link, made_no, made_up, made_low, made_cross, made_drop, made_at}
use Rattle.closure_model.specs.Derivations.{Support, StandsOn, node_at, IsDerivationList, AreAncestors, itself, premises_of, item_of, IsNodeOf}
use Rattle.closure_model.specs.Keys.{Key}
use Rattle.closure_model.specs.Orders.{IsCycle}
use Rattle.closure_model.specs.ReferenceRounds.{cycle_keys, line_of}
use Rattle.closure_model.specs.Tables.{Graph, weight_of}
use Rattle.closure_model.specs.declared.derivation.Node.{Node}
use Rattle.closure_model.specs.declared.derivation.NodeId.{NodeId}
use Rattle.closure_model.specs.declared.derivation.Rule.{Rule}
use Rattle.cert_format.specs.Kind.{has_label}
use Rattle.cert_format.specs.CertificateWords.{HasWeights}
use Rattle.cert_format.specs.declared.certificate.Certificate.{Certificate}
use Rattle.cert_format.specs.declared.certificate.Certificate.TheVariants.{Refutation}
use Rattle.cert_format.specs.declared.line.CertLine.{CertLine}
use Rattle.cert_checker.specs.Judgement.{judgement_of}
use Rattle.cert_checker.specs.declared.judgement.Judgement.TheVariants.{Accepted}
use Rattle.cert_checker.specs.declared.judgement.Claim.TheVariants.{NotControllable}
use Rattle.refutation_certificates.specs.Certificates.{kind_of, lines_by, IsCertificateBy}
use Rattle.refutation_certificates.specs.RuleLines.{IsItemOf, CanBeLine, CanBeLines, HasWeight}
use Rattle.refutation_certificates.proofs.LinesPass.{node_edge, line_is_node, premise_is_line}
use Rattle.refutation_certificates.proofs.LawProofs.{steps_are_nodes, law_refutations_are_accepted, law_refutations_have_weights}
use Rattle.refutation_certificates.proofs.WalkPasses.{IsNegativeKey, negative_cycle}

there_is : {X : Type 0} (o : Option X) (x : X) → o ≡ Some x → IsSome o
there_is o x is = ap is_some is

label_within : (net : Plan) (edge : Edge) (label : Option LinkId) → IsLabelled net edge label → IfSome label (λ (name : LinkId). name.0 < length net.links)
label_within net edge None labelled = tt
label_within net edge (Some name) labelled = slice_get_within net.links name.0 labelled.0 labelled.1

module _ (net : Plan) (nodes : List Node) (lines : List NodeId) (limit : ℕ) (edge : Edge) where
  item_within : (rule : Rule) → Made net nodes limit edge rule → IfSome (item_of rule) (IsItemOf net)
  item_within rule (made_bound name bound here is) = slice_get_within net.bounds name.0 bound here
  item_within rule (made_link name link here is) = slice_get_within net.links name.0 link here
  item_within rule (made_no first second one two from_one from_two gave) = tt
  item_within rule (made_up first second one two from_one from_two gave) = tt
  item_within rule (made_low name second two from_two gave) = let gives = lower_case_gives net name two edge gave in slice_get_within net.links name.0 gives.link gives.declared
  item_within rule (made_cross name second two from_two gave) = let gives = cross_case_gives net name two edge gave in slice_get_within net.links name.0 gives.link gives.declared
  item_within rule (made_drop premise one from_one gave) = tt

  has_its_label : (rule : Rule) → Made net nodes limit edge rule → has_label (kind_of net lines rule) ≡ true → IsSome edge.label
  has_its_label rule (made_bound name bound here is) wanted = absurd cc
  has_its_label rule (made_link name link here is) wanted = absurd cc
  has_its_label rule (made_no first second one two from_one from_two gave) wanted = absurd cc
  has_its_label rule (made_up first second one two from_one from_two gave) wanted =
      let gives = upper_case_gives one two edge gave in there_is edge.label gives.label (sym (ap (λ (e : Edge). e.label) gives.is) ∙ gives.second_labelled)
  has_its_label rule (made_low name second two from_two gave) wanted = absurd cc
  has_its_label rule (made_cross name second two from_two gave) wanted =
      let gives = cross_case_gives net name two edge gave in there_is edge.label gives.label (sym (ap (λ (e : Edge). e.label) gives.is) ∙ gives.second_labelled)
  has_its_label rule (made_drop premise one from_one gave) wanted = absurd cc

module _ (net : Plan) (plan : IsPlan net) (nodes : List Node) (list : IsDerivationList net nodes) (tops lines : List NodeId) (all_under : AreAncestors nodes tops lines) (tops_are_nodes : (id : NodeId) → Contains tops id
    → (node : Node) × (node_at nodes id ≡ Some node)) where
  can_be : (id : NodeId) (node : Node) → Contains lines id → node_at nodes id ≡ Some node → CanBeLine net lines node
  can_be id node inside here =
      let sound : IsEdge net node.edge = node_edge net plan nodes list id node here in
      let from_premises = made_at net nodes list id node here in
      record {
        from = sound.from_point;
        to = sound.to_point;
        item = item_within net nodes lines id.0 node.edge node.rule from_premises;
        premises = each-from_contains (Contains lines) (premises_of node.rule) (λ premise among. premise_is_line net plan nodes list tops lines all_under tops_are_nodes id premise node inside here among);
        label = label_within net node.edge node.edge.label sound.labelled;
        labelled = has_its_label net nodes lines id.0 node.edge node.rule from_premises;
      }

  pub can_be_lines : CanBeLines net nodes lines
  can_be_lines = record {
    in_order = all_under.in_order;
    each = λ k d inside.
        let among : Contains lines (get_or lines k d) = Contains-get_or lines k d inside in
        let (node, here) = line_is_node net plan nodes list tops lines all_under tops_are_nodes (get_or lines k d) among in
        subst (λ (o : Option Node). IsSomeAnd o (CanBeLine net lines)) (sym here) (can_be (get_or lines k d) node among here);
  }

-- the keys of a cycle have weights
keys_have : (table : Graph) (keys : List Key) → AllByRecursion (IsNegativeKey table) keys → AllByRecursion (HasWeight table) keys
keys_have table [] all = tt
keys_have table (key ∷ keys) (one, more) = (there_is (weight_of table key) one.weight one.here, keys_have table keys more)

pub cycle_has_weights : (table : Graph) (cycle : List PointId) → IsCycle table cycle → AllByRecursion (HasWeight table) (cycle_keys cycle)
cycle_has_weights table cycle whole = keys_have table (cycle_keys cycle) (negative_cycle table cycle whole)

-- ---- what the steps of `refutation` give, if slices are the lists
module _ (net : Plan) (plan : IsPlan net) (support : Support) (stands : StandsOn net support) (cycle : List PointId) (dag : List Node) (is_list : dag ≡ support.nodes)
    (steps : List NodeId) (of_cycle : AllZip (IsNodeOf support.nodes) (cycle_keys cycle) steps) (given : List NodeId) (is_given : given ≡ steps) where
  pub steps_inside : All (λ (id : NodeId). id.0 < length dag) given
  steps_inside k d inside =
      let (node, here) = steps_are_nodes support.nodes (cycle_keys cycle) steps of_cycle (get_or given k d) (subst (λ (ids : List NodeId). Contains ids (get_or given k d)) is_given (Contains-get_or given k d inside)) in
      slice_get_within dag (get_or given k d).0 node (subst (λ (ns : List Node). node_at ns (get_or given k d) ≡ Some node) (sym is_list) here)

  module _ (ids : List NodeId) (ancestors : AreAncestors dag given ids) where
    all_under : AreAncestors support.nodes steps ids
    all_under = subst (λ (ns : List Node). AreAncestors ns steps ids) is_list (subst (λ (tops : List NodeId). AreAncestors dag tops ids) is_given ancestors)

    pub ids_can_be : (lines : List NodeId) → lines ≡ ids → CanBeLines net dag lines
    ids_can_be lines is_ids =
        subst (CanBeLines net dag) (sym is_ids) (subst (λ (ns : List Node). CanBeLines net ns ids) (sym is_list)
        (can_be_lines net plan support.nodes stands.derived steps ids all_under (steps_are_nodes support.nodes (cycle_keys cycle) steps of_cycle)))

    pub steps_among : (lines tops : List NodeId) → lines ≡ ids → tops ≡ steps → All (Contains lines) tops
    steps_among lines tops is_ids is_steps k d inside =
        let among : Contains steps (get_or tops k d) = subst (λ (xs : List NodeId). Contains xs (get_or tops k d)) is_steps (Contains-get_or tops k d inside) in
        subst (λ (xs : List NodeId). Contains xs (get_or tops k d)) (sym is_ids) (all_under.whole (get_or tops k d) (get_or tops k d) among (itself (get_or tops k d) refl))

    pub certificate_made : (lines numbers tops : List NodeId) (made new_lines : List CertLine) (walk new_walk : List ℕ) → lines ≡ ids → numbers ≡ ids → tops ≡ steps → made ≡ lines_by net dag lines → walk ≡ map (line_of numbers) tops
        → new_lines ≡ made → new_walk ≡ walk → IsCertificateBy net support.nodes cycle (Refutation new_lines new_walk)
    certificate_made lines numbers tops made new_lines walk new_walk is_ids is_numbers is_tops is_made is_walk is_new is_new_walk = record {
      lines = ids;
      walk = walk;
      refutation = record {
        steps = steps;
        of_cycle = of_cycle;
        under = all_under;
        numbered = is_walk ∙ (ap (λ (xs : List NodeId). map (line_of xs) tops) is_numbers ∙ ap (map (line_of ids)) is_tops);
      };
      is = ap (λ (ls : List CertLine). Refutation ls new_walk) (is_new ∙ (is_made ∙ (ap (λ (ns : List Node). lines_by net ns lines) is_list ∙ ap (lines_by net support.nodes) is_ids)))
          ∙ ap (Refutation (lines_by net support.nodes ids)) is_new_walk;
    }

module _ (net : Plan) (plan : IsPlan net) (support : Support) (stands : StandsOn net support) (cycle : List PointId) (certificate : Certificate) (made : IsCertificateBy net support.nodes cycle certificate) where
  pub made_accepted : IsCycle support.table cycle → judgement_of net certificate ≡ Accepted NotControllable
  made_accepted whole = ap (judgement_of net) made.is ∙ law_refutations_are_accepted net support cycle made.lines made.walk plan stands whole made.refutation

  pub made_weights : HasWeights certificate
  made_weights = subst HasWeights (sym made.is) (law_refutations_have_weights net support made.lines made.walk plan stands)

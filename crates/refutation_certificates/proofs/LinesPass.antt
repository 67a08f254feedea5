-- Each line of a refutation passes by the lines before it.
use Rattle.std.proofs.Common.{◌≡◌, ℕ, suc, ◌<◌, ◌≤◌, ◌⊎◌, inl, inr, ◌&&◌, true, List, [], ◌∷◌, ◌++◌, take, append_assoc, append-nil, Option, Some, None, is_some, Ok, refl, ap, sym, ◌∙◌, subst, arith, unsigned_abs, ℤ}
use Rattle.std.specs.Prelude.{slice_get}
use Rattle.std.specs.Option.{option_map}
use Rattle.std.specs.List.{Contains}
use Rattle.std.proofs.Math.Numerals.{add-one}
use Rattle.std.proofs.lemmas.List.Elements.{All-contains}
use Rattle.std.proofs.lemmas.Option.{same_Some}
use Rattle.std.proofs.lemmas.Bool.Decides.{nat_tests}
use Rattle.net_model.proofs.NetworkLemmas.{greatest-le}
use Rattle.net_model.proofs.RuleLemmas.{no_case_gives, upper_case_gives, lower_case_gives, cross_case_gives, removal_gives}
use Rattle.net_model.specs.Limits.{most_size}
use Rattle.net_model.specs.Network.{Plan, IsPlan, point_named, greatest}
use Rattle.net_model.specs.Edges.{IsEdge, IsLabelled}
use Rattle.net_model.specs.declared.ids.LinkId.{LinkId}
use Rattle.net_model.specs.declared.part.Edge.{Edge}
use Rattle.net_model.specs.declared.part.Link.{Link}
use Rattle.closure_model.proofs.DerivableEdges.{derivable_edge, derivable_within}
use Rattle.closure_model.proofs.Lists.{Contains-head, Contains-tail, Contains-cases, Contains-none}
use Rattle.closure_model.proofs.DerivedNodes.{Made, made_bound, made_link, made_no, made_up, made_low, made_cross, made_drop, made_at, node_derivable}
use Rattle.closure_model.proofs.Nodes.{IsPremise, listed_at}
use Rattle.closure_model.specs.Derivations.{node_at, IsDerivationList, IsUnder, itself, under, AreAncestors, premises_of}
use Rattle.closure_model.specs.ReferenceRounds.{line_of}
use Rattle.closure_model.specs.declared.derivation.Node.{Node}
use Rattle.closure_model.specs.declared.derivation.NodeId.{NodeId}
use Rattle.closure_model.specs.declared.derivation.Rule.{Rule}
use Rattle.closure_model.specs.declared.derivation.Rule.TheVariants as by_rule
use Rattle.derivation_dag.proofs.MarkLemmas.{under_trans}
use Rattle.cert_format.specs.declared.kind.LineKind.{LineKind}
use Rattle.cert_format.specs.declared.line.CertLine.{CertLine}
use Rattle.cert_format.specs.JudgementForms.{unless}
use Rattle.cert_checker.specs.Lines.{line_at, link_named, item_known, label_known, names_known, in_range, rule_passes, line_passes}
use Rattle.cert_checker.specs.Judgement.{lines_pass}
use Rattle.cert_checker.specs.declared.judgement.CertFault.TheVariants.{UnknownItem, WeightRange}
use Rattle.cert_checker.proofs.LineLoop as loop
use Rattle.net_model.specs.NetworkParts.{point_name}
use Rattle.refutation_certificates.specs.Certificates.{link_name, label_name, kind_of, rule_line_of_node, lines_by}
use Rattle.refutation_certificates.proofs.Places.{before, made_at_from, place_of, place_there, stands_before}
use Rattle.refutation_certificates.proofs.Places as places
use Rattle.refutation_certificates.proofs.ItemNames.{named_point, bound_known, link_known}
use Rattle.refutation_certificates.proofs.StatedEdges.{Says, says}
use Rattle.refutation_certificates.proofs.RulesPass.{goes_on, unless_is, both, bound_ok, link_ok, no_ok, up_ok, low_ok, cross_ok, drop_ok}

-- lines of which each passes by those before it
pub all_pass : (net : Plan) (lines earlier : List CertLine) → ((k : ℕ) (line : CertLine) → slice_get lines k ≡ Some line → line_passes net (earlier ++ take k lines) line ≡ Ok tt) → lines_pass net earlier lines ≡ Ok tt
all_pass net [] earlier each = refl
all_pass net (line ∷ lines) earlier each =
    let first : line_passes net earlier line ≡ Ok tt = subst (λ prefix. line_passes net prefix line ≡ Ok tt) (append-nil earlier) (each 0 line refl) in
    loop.goes_on net earlier line lines first ∙ all_pass net lines (earlier ++ line ∷ []) (λ k other here. subst (λ prefix. line_passes net prefix other ≡ Ok tt) (sym (append_assoc earlier (line ∷ []) (take k lines)))
    (each (suc k) other here))

-- what a line requires besides its names and its weight
pub record Passes (net : Plan) (earlier : List CertLine) (line : CertLine) (kind : LineKind) : Type 0 where
  pub item : item_known net kind ≡ true
  pub label : label_known net line.label ≡ true
  pub rule : rule_passes net earlier line kind ≡ Ok tt

pub line_ok : (net : Plan) (earlier : List CertLine) (line : CertLine) → is_some (point_named net line.from) ≡ true → is_some (point_named net line.to) ≡ true → in_range line.weight ≡ true → Passes net earlier line line.kind
    → line_passes net earlier line ≡ Ok tt
unfolding line_passes names_known
line_ok net earlier line from to weight passes =
    let names : names_known net line ≡ true = both (is_some (point_named net line.from) && is_some (point_named net line.to) && item_known net line.kind) (label_known net line.label)
    (both (is_some (point_named net line.from) && is_some (point_named net line.to)) (item_known net line.kind)
    (both (is_some (point_named net line.from)) (is_some (point_named net line.to)) from to) passes.item) passes.label in
    goes_on (unless (names_known net line) UnknownItem) _ tt (Ok tt) (unless_is (names_known net line) UnknownItem names)
    (goes_on (unless (in_range line.weight) WeightRange) _ tt (Ok tt) (unless_is (in_range line.weight) WeightRange weight) passes.rule)

within_range : (weight : ℤ) (most : ℕ) → unsigned_abs weight ≤ most → most ≤ most_size → in_range weight ≡ true
within_range weight most one two = grind (arith, nat_tests)

module _ (net : Plan) (plan : IsPlan net) (nodes : List Node) (list : IsDerivationList net nodes) where
  pub node_edge : (id : NodeId) (node : Node) → node_at nodes id ≡ Some node → IsEdge net node.edge
  node_edge id node here = derivable_edge net plan node.edge (node_derivable net nodes list id node here)

  pub node_within : (id : NodeId) (node : Node) → node_at nodes id ≡ Some node → unsigned_abs node.edge.weight ≤ most_size
  node_within id node here =
      let within : unsigned_abs node.edge.weight ≤ greatest net = derivable_within net plan node.edge (node_derivable net nodes list id node here) in
      let most : greatest net ≤ most_size = greatest-le net plan in
      omega arith

  -- a premise of a node is a node
  is_node : (limit : ℕ) (id : NodeId) (edge : Edge) → IsPremise nodes limit id edge → (premise : NodeId) → id ≡ premise → (node : Node) × (node_at nodes premise ≡ Some node)
  is_node limit id edge read premise same = (read.node, subst (λ (i : NodeId). node_at nodes i ≡ Some read.node) same read.here)

  one_premise : (limit : ℕ) (id : NodeId) (edge : Edge) (premise : NodeId) → IsPremise nodes limit id edge → Contains (id ∷ []) premise → (node : Node) × (node_at nodes premise ≡ Some node)
  one_premise limit id edge premise read among = by (Contains-cases id [] premise among)
    where
      by : (id ≡ premise) ⊎ Contains [] premise → (node : Node) × (node_at nodes premise ≡ Some node)
      by (inl same) = is_node limit id edge read premise same
      by (inr none) = absurd (Contains-none premise none)

  two_premises : (limit : ℕ) (id other : NodeId) (edge second : Edge) (premise : NodeId) → IsPremise nodes limit id edge → IsPremise nodes limit other second → Contains (id ∷ other ∷ []) premise
      → (node : Node) × (node_at nodes premise ≡ Some node)
  two_premises limit id other edge second premise read read_other among = by (Contains-cases id (other ∷ []) premise among)
    where
      by : (id ≡ premise) ⊎ Contains (other ∷ []) premise → (node : Node) × (node_at nodes premise ≡ Some node)
      by (inl same) = is_node limit id edge read premise same
      by (inr there) = one_premise limit other second premise read_other there

  premise_is_node : (limit : ℕ) (edge : Edge) (rule : Rule) (premise : NodeId) → Made net nodes limit edge rule → Contains (premises_of rule) premise → (node : Node) × (node_at nodes premise ≡ Some node)
  premise_is_node limit edge rule premise (made_bound name bound here is) among = absurd (Contains-none premise among)
  premise_is_node limit edge rule premise (made_link name link here is) among = absurd (Contains-none premise among)
  premise_is_node limit edge rule premise (made_no first second one two from_one from_two gave) among =
      two_premises limit first second one two premise from_one from_two among
  premise_is_node limit edge rule premise (made_up first second one two from_one from_two gave) among =
      two_premises limit first second one two premise from_one from_two among
  premise_is_node limit edge rule premise (made_low name second two from_two gave) among = one_premise limit second two premise from_two among
  premise_is_node limit edge rule premise (made_cross name second two from_two gave) among = one_premise limit second two premise from_two among
  premise_is_node limit edge rule premise (made_drop first one from_one gave) among = one_premise limit first one premise from_one among

  -- what stands under a node is a node
  pub under_is_node : (below id : NodeId) (node : Node) → node_at nodes id ≡ Some node → IsUnder nodes below id → (other : Node) × (node_at nodes below ≡ Some other)
  under_is_node below id node here (itself i same) = (node, subst (λ (n : NodeId). node_at nodes n ≡ Some node) same here)
  under_is_node below id node here (under i premise top there among rest) =
      let next = premise_is_node id.0 top.edge top.rule premise (made_at net nodes list id top there) among in
      under_is_node below premise next.0 next.1 rest

  module _ (tops lines : List NodeId) (all_under : AreAncestors nodes tops lines) (tops_are_nodes : (id : NodeId) → Contains tops id → (node : Node) × (node_at nodes id ≡ Some node)) where
    -- each line is a node
    pub line_is_node : (id : NodeId) → Contains lines id → (node : Node) × (node_at nodes id ≡ Some node)
    line_is_node id inside =
        let (top, among, below) = under_of id inside in
        let first = tops_are_nodes top among in
        under_is_node id top first.0 first.1 below
      where
        under_of : (id : NodeId) → Contains lines id → (top : NodeId) × Contains tops top × IsUnder nodes id top
        under_of id inside = All-contains (λ (below : NodeId). (top : NodeId) × Contains tops top × IsUnder nodes below top) lines id all_under.under inside

    -- the premises of a line are lines
    pub premise_is_line : (id premise : NodeId) (node : Node) → Contains lines id → node_at nodes id ≡ Some node → Contains (premises_of node.rule) premise → Contains lines premise
    premise_is_line id premise node inside here among =
        let (top, among_tops, below) = All-contains (λ (low : NodeId). (t : NodeId) × Contains tops t × IsUnder nodes low t) lines id all_under.under inside in
        all_under.whole top premise among_tops (under_trans nodes premise id top (under id premise node here among (itself premise refl)) below)

    line_made : (id : NodeId) → Contains lines id → (line : CertLine) × (option_map (rule_line_of_node net lines) (node_at nodes id) ≡ Some line)
    line_made id inside = let (node, here) = line_is_node id inside in (rule_line_of_node net lines node, ap (option_map (rule_line_of_node net lines)) here)

    -- the line of a node among the lines
    pub line_of_node : (id : NodeId) (node : Node) → Contains lines id → node_at nodes id ≡ Some node → slice_get (lines_by net nodes lines) (place_of lines id) ≡ Some (rule_line_of_node net lines node)
    line_of_node id node inside here =
        places.made_at (λ (i : NodeId). option_map (rule_line_of_node net lines) (node_at nodes i)) lines line_made (place_of lines id) id (rule_line_of_node net lines node) (place_there lines id inside)
        (ap (option_map (rule_line_of_node net lines)) here)

    -- and by the number of the line
    pub numbered_line : (id : NodeId) (node : Node) → Contains lines id → node_at nodes id ≡ Some node → line_at (lines_by net nodes lines) (line_of lines id) ≡ Some (rule_line_of_node net lines node)
    numbered_line id node inside here =
        ap (line_at (lines_by net nodes lines)) (add-one (place_of lines id)) ∙ line_of_node id node inside here

    -- a premise by the lines before a line
    premise_line : (k limit : ℕ) (id premise : NodeId) (edge : Edge) (read : IsPremise nodes limit premise edge) → limit ≡ id.0 → slice_get lines k ≡ Some id → Contains lines premise
        → line_at (take k (lines_by net nodes lines)) (line_of lines premise) ≡ Some (rule_line_of_node net lines read.node)
    premise_line k limit id premise edge read same at inside =
        let j : ℕ = place_of lines premise in
        let below : premise.0 < id.0 = let earlier : premise.0 < limit = read.earlier in omega arith in
        let first : j < k = stands_before lines j k premise id all_under.in_order (place_there lines premise inside) at below in
        ap (line_at (take k (lines_by net nodes lines))) (add-one j) ∙ before k (lines_by net nodes lines) j (rule_line_of_node net lines read.node) (line_of_node premise read.node inside read.here) first

    premise_says : (limit : ℕ) (premise : NodeId) (edge : Edge) (read : IsPremise nodes limit premise edge) → Says net (rule_line_of_node net lines read.node) edge
    premise_says limit premise edge read =
        subst (Says net (rule_line_of_node net lines read.node)) read.is (says net nodes lines premise.0 read.node (made_at net nodes list premise read.node read.here))

    premise_edge : (limit : ℕ) (premise : NodeId) (edge : Edge) → IsPremise nodes limit premise edge → IsEdge net edge
    premise_edge limit premise edge read = subst (IsEdge net) read.is (node_edge premise read.node read.here)

    -- a label that is known
    named_label : (edge : Edge) (label : LinkId) → IsEdge net edge → edge.label ≡ Some label → label_known net (Some (label_name net edge.label)) ≡ true
    named_label edge label sound is =
        let declared = subst (IsLabelled net edge) is sound.labelled in
        ap (λ o. is_some (link_named net (label_name net o))) is ∙ ap is_some (link_known net plan label declared.0 declared.1).1

    link_is_known : (name : LinkId) (link : Link) → slice_get net.links name.0 ≡ Some link → is_some (link_named net (link_name net name)) ≡ true
    link_is_known name link here = ap is_some (link_known net plan name link here).1

    -- the line of a node passes
    module _ (k : ℕ) (id : NodeId) (at : slice_get lines k ≡ Some id) where
      is_line : (premise : NodeId) (node : Node) → node_at nodes id ≡ Some node → Contains (premises_of node.rule) premise → Contains lines premise
      is_line premise node here among = premise_is_line id premise node (listed_at lines k id at) here among

      line_passes_by : (rule : Rule) (edge : Edge) → Made net nodes id.0 edge rule → ((premise : NodeId) → Contains (premises_of rule) premise → Contains lines premise) → IsEdge net edge
          → Says net (rule_line_of_node net lines (record { rule = rule; edge = edge })) edge
          → Passes net (take k (lines_by net nodes lines)) (rule_line_of_node net lines (record { rule = rule; edge = edge })) (kind_of net lines rule)
      line_passes_by rule edge (made_bound name bound here is) inside sound states = record {
        item = ap is_some (bound_known net plan name bound here).0;
        label = refl;
        rule = bound_ok net plan (rule_line_of_node net lines (record { rule = by_rule.Bound name; edge = edge })) edge states name bound here is;
      }
      line_passes_by rule edge (made_link name link here is) inside sound states = record {
        item = link_is_known name link here;
        label = refl;
        rule = link_ok net plan (rule_line_of_node net lines (record { rule = by_rule.Link name; edge = edge })) edge states name link here is;
      }
      line_passes_by rule edge (made_no first second one two from_one from_two gave) inside sound states = record {
        item = refl;
        label = refl;
        rule = no_ok net plan (rule_line_of_node net lines (record { rule = by_rule.No first second; edge = edge })) edge states (take k (lines_by net nodes lines)) (line_of lines first) (line_of lines second)
            (rule_line_of_node net lines from_one.node) (rule_line_of_node net lines from_two.node) one two
            (premise_line k id.0 id first one from_one refl at (inside first (Contains-head first (second ∷ []))))
            (premise_line k id.0 id second two from_two refl at (inside second (Contains-tail first (second ∷ []) second (Contains-head second [])))) (premise_says id.0 first one from_one) (premise_says id.0 second two from_two)
            (no_case_gives one two edge gave);
      }
      line_passes_by rule edge (made_up first second one two from_one from_two gave) inside sound states =
          let gives = upper_case_gives one two edge gave in
          let label : edge.label ≡ Some gives.label = sym (ap (λ (e : Edge). e.label) gives.is) ∙ gives.second_labelled in
          record {
            item = refl;
            label = named_label edge gives.label sound label;
            rule = up_ok net plan (rule_line_of_node net lines (record { rule = by_rule.Up first second; edge = edge })) edge states (take k (lines_by net nodes lines)) (line_of lines first) (line_of lines second)
                (rule_line_of_node net lines from_one.node) (rule_line_of_node net lines from_two.node) one two
                (premise_line k id.0 id first one from_one refl at (inside first (Contains-head first (second ∷ []))))
                (premise_line k id.0 id second two from_two refl at (inside second (Contains-tail first (second ∷ []) second (Contains-head second [])))) (premise_says id.0 first one from_one)
                (premise_says id.0 second two from_two) gives (ap (λ o. Some (label_name net o)) label);
          }
      line_passes_by rule edge (made_low name second two from_two gave) inside sound states =
          let gives = lower_case_gives net name two edge gave in
          record {
            item = link_is_known name gives.link gives.declared;
            label = refl;
            rule = low_ok net plan (rule_line_of_node net lines (record { rule = by_rule.Low name second; edge = edge })) edge states (take k (lines_by net nodes lines)) name (line_of lines second)
                (rule_line_of_node net lines from_two.node) two (premise_line k id.0 id second two from_two refl at (inside second (Contains-head second []))) (premise_says id.0 second two from_two) gives;
          }
      line_passes_by rule edge (made_cross name second two from_two gave) inside sound states =
          let gives = cross_case_gives net name two edge gave in
          let label : edge.label ≡ Some gives.label = sym (ap (λ (e : Edge). e.label) gives.is) ∙ gives.second_labelled in
          record {
            item = link_is_known name gives.link gives.declared;
            label = named_label edge gives.label sound label;
            rule = cross_ok net plan (rule_line_of_node net lines (record { rule = by_rule.Cross name second; edge = edge })) edge states (take k (lines_by net nodes lines)) name (line_of lines second)
                (rule_line_of_node net lines from_two.node) two
                (premise_line k id.0 id second two from_two refl at (inside second (Contains-head second []))) (premise_says id.0 second two from_two) gives (premise_edge id.0 second two from_two) (ap (λ o. Some (label_name net o)) label);
          }
      line_passes_by rule edge (made_drop premise one from_one gave) inside sound states = record {
        item = refl;
        label = refl;
        rule = drop_ok net plan (rule_line_of_node net lines (record { rule = by_rule.Drop premise; edge = edge })) edge states (take k (lines_by net nodes lines)) (line_of lines premise) (rule_line_of_node net lines from_one.node) one
            (premise_line k id.0 id premise one from_one refl at (inside premise (Contains-head premise []))) (premise_says id.0 premise one from_one) (removal_gives net one edge gave);
      }

      pub node_passes : (node : Node) → node_at nodes id ≡ Some node → line_passes net (take k (lines_by net nodes lines)) (rule_line_of_node net lines node) ≡ Ok tt
      node_passes node here =
          let sound : IsEdge net node.edge = node_edge id node here in
          let from_premises = made_at net nodes list id node here in
          let from : is_some (point_named net (point_name net.points node.edge.from)) ≡ true = ap is_some (named_point net plan node.edge.from sound.from_point) in
          let to : is_some (point_named net (point_name net.points node.edge.to)) ≡ true = ap is_some (named_point net plan node.edge.to sound.to_point) in
          line_ok net (take k (lines_by net nodes lines)) (rule_line_of_node net lines node) from to (within_range node.edge.weight most_size (node_within id node here) (omega arith))
          (line_passes_by node.rule node.edge from_premises (λ premise among. is_line premise node here among) sound (says net nodes lines id.0 node from_premises))

    -- all lines pass
    pub lines_ok : lines_pass net [] (lines_by net nodes lines) ≡ Ok tt
    lines_ok = all_pass net (lines_by net nodes lines) [] each
      where
        option_line : (o : Option Node) (line : CertLine) → option_map (rule_line_of_node net lines) o ≡ Some line → (node : Node) × (o ≡ Some node) × (rule_line_of_node net lines node ≡ line)
        option_line None line is = absurd cc
        option_line (Some node) line is = (node, refl, same_Some (rule_line_of_node net lines node) line is)

        each : (k : ℕ) (line : CertLine) → slice_get (lines_by net nodes lines) k ≡ Some line → line_passes net ([] ++ take k (lines_by net nodes lines)) line ≡ Ok tt
        each k line here =
            let (id, at, made) = made_at_from (λ (i : NodeId). option_map (rule_line_of_node net lines) (node_at nodes i)) lines line_made k line here in
            let (node, there, same) = option_line (node_at nodes id) line made in
            subst (λ (l : CertLine). line_passes net (take k (lines_by net nodes lines)) l ≡ Ok tt) same (node_passes k id at node there)

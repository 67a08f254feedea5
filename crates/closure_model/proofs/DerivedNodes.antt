-- A node that follows from the nodes before it, rule by rule with its premises; and what that gives: its edge is derivable, its
-- premises stand earlier, and a labelled node rests on its label.
use Rattle.std.proofs.Common.{◌++◌, length, ◌⊎◌, inl, inr, ◌≡◌, ℕ, zero, suc, ◌≤◌, ◌<◌, List, [], ◌∷◌, take, Some, None, refl, ap, sym, ◌∙◌, subst, arith}
use Rattle.std.specs.Prelude.{slice_get}
use Rattle.std.proofs.Math.Seq.{take-length}
use Rattle.std.specs.Option.{option_and_then}
use Rattle.std.specs.List.{All, Contains}
use Rattle.std.proofs.lemmas.List.Elements.{All-cons, All-nil, All-contains}
use Rattle.net_model.proofs.RuleLemmas.{no_case_gives, upper_case_gives, lower_case_gives, cross_case_gives, removal_gives, two_steps}
use Rattle.net_model.specs.Network.{Plan, IsPlan}
use Rattle.net_model.specs.Limits.{most_weight, IsWeight}
use Rattle.closure_model.proofs.DerivableEdges.{bound_at, link_at, joined_within, moved_within, without_label_within, turned_within, between_within, positive}
use Rattle.net_model.specs.Edges.{IsLinkOf}
use Rattle.net_model.specs.Rules.{bound_edge, link_edge, no_case, upper_case, lower_case, cross_case, removal}
use Rattle.net_model.specs.declared.ids.BoundId.{BoundId}
use Rattle.net_model.specs.declared.ids.LinkId.{LinkId}
use Rattle.net_model.specs.declared.part.Bound.{Bound}
use Rattle.net_model.specs.declared.part.Edge.{Edge}
use Rattle.net_model.specs.declared.part.Link.{Link}
use Rattle.closure_model.specs.Derivable as derivable
use Rattle.closure_model.specs.Derivable.{IsDerivable}
use Rattle.closure_model.specs.Derivations.{IsGiven, node_at, edge_at, given_by, IsDerivationList, premises_of, PremisesStandEarlier, item_of, IsUnder, itself, under, RestsOn}
use Rattle.closure_model.specs.declared.derivation.Item.{Item}
use Rattle.closure_model.specs.declared.derivation.Item.TheVariants as item
use Rattle.closure_model.specs.declared.derivation.Node.{Node}
use Rattle.closure_model.specs.declared.derivation.NodeId.{NodeId}
use Rattle.closure_model.specs.declared.derivation.Rule.{Rule}
use Rattle.closure_model.specs.declared.derivation.Rule.TheVariants as by_rule
use Rattle.closure_model.proofs.Lists.{Contains-head, Contains-tail}
use Rattle.closure_model.proofs.Nodes.{IsPremise, premise_read, push_cases, listed_at}
use Rattle.closure_model.proofs.Slots.{some_of_map}
use Rattle.closure_model.proofs.BaseLemmas.{within as small}

pub data Made (net : Plan) (nodes : List Node) (limit : ℕ) (edge : Edge) : Rule → Type 0 where
  made_bound : (name : BoundId) (bound : Bound) → slice_get net.bounds name.0 ≡ Some bound → bound_edge bound ≡ edge → Made net nodes limit edge (by_rule.Bound name)
  made_link : (name : LinkId) (link : Link) → IsLinkOf net name link → link_edge name link ≡ edge → Made net nodes limit edge (by_rule.Link name)
  made_no : (first second : NodeId) (one two : Edge) → IsPremise nodes limit first one → IsPremise nodes limit second two → no_case one two ≡ Some edge → Made net nodes limit edge (by_rule.No first second)
  made_up : (first second : NodeId) (one two : Edge) → IsPremise nodes limit first one → IsPremise nodes limit second two → upper_case one two ≡ Some edge → Made net nodes limit edge (by_rule.Up first second)
  made_low : (name : LinkId) (second : NodeId) (two : Edge) → IsPremise nodes limit second two → lower_case net name two ≡ Some edge → Made net nodes limit edge (by_rule.Low name second)
  made_cross : (name : LinkId) (second : NodeId) (two : Edge) → IsPremise nodes limit second two → cross_case net name two ≡ Some edge → Made net nodes limit edge (by_rule.Cross name second)
  made_drop : (premise : NodeId) (one : Edge) → IsPremise nodes limit premise one → removal net one ≡ Some edge → Made net nodes limit edge (by_rule.Drop premise)

module _ (net : Plan) (nodes : List Node) (limit : ℕ) (edge : Edge) where
  pub made : (rule : Rule) → given_by net (take limit nodes) rule ≡ Some edge → Made net nodes limit edge rule
  made (by_rule.Bound name) gave =
      let (bound, declared, is) = some_of_map bound_edge (slice_get net.bounds name.0) edge gave in made_bound name bound declared is
  made (by_rule.Link name) gave =
      let (link, declared, is) = some_of_map (link_edge name) (slice_get net.links name.0) edge gave in made_link name link declared is
  made (by_rule.No first second) gave =
      let (one, read_one, then) = two_steps (λ (e : Edge). option_and_then (no_case e) (edge_at (take limit nodes) second)) (edge_at (take limit nodes) first) edge gave in
      let (two, read_two, is) = two_steps (no_case one) (edge_at (take limit nodes) second) edge then in
      made_no first second one two (premise_read nodes limit first one read_one) (premise_read nodes limit second two read_two) is
  made (by_rule.Up first second) gave =
      let (one, read_one, then) = two_steps (λ (e : Edge). option_and_then (upper_case e) (edge_at (take limit nodes) second)) (edge_at (take limit nodes) first) edge gave in
      let (two, read_two, is) = two_steps (upper_case one) (edge_at (take limit nodes) second) edge then in
      made_up first second one two (premise_read nodes limit first one read_one) (premise_read nodes limit second two read_two) is
  made (by_rule.Low name second) gave =
      let (two, read_two, is) = two_steps (lower_case net name) (edge_at (take limit nodes) second) edge gave in
      made_low name second two (premise_read nodes limit second two read_two) is
  made (by_rule.Cross name second) gave =
      let (two, read_two, is) = two_steps (cross_case net name) (edge_at (take limit nodes) second) edge gave in
      made_cross name second two (premise_read nodes limit second two read_two) is
  made (by_rule.Drop premise) gave =
      let (one, read_one, is) = two_steps (removal net) (edge_at (take limit nodes) premise) edge gave in
      made_drop premise one (premise_read nodes limit premise one read_one) is

  -- the premises stand earlier
  pub made_earlier : (rule : Rule) → Made net nodes limit edge rule → All (λ (premise : NodeId). premise.0 < limit) (premises_of rule)
  made_earlier rule (made_bound name bound declared is) = All-nil (λ (p : NodeId). p.0 < limit)
  made_earlier rule (made_link name link declared is) = All-nil (λ (p : NodeId). p.0 < limit)
  made_earlier rule (made_no first second one two read_one read_two is) =
      All-cons (λ (p : NodeId). p.0 < limit) first (second ∷ []) read_one.earlier (All-cons (λ (p : NodeId). p.0 < limit) second [] read_two.earlier (All-nil (λ (p : NodeId). p.0 < limit)))
  made_earlier rule (made_up first second one two read_one read_two is) =
      All-cons (λ (p : NodeId). p.0 < limit) first (second ∷ []) read_one.earlier (All-cons (λ (p : NodeId). p.0 < limit) second [] read_two.earlier (All-nil (λ (p : NodeId). p.0 < limit)))
  made_earlier rule (made_low name second two read_two is) = All-cons (λ (p : NodeId). p.0 < limit) second [] read_two.earlier (All-nil (λ (p : NodeId). p.0 < limit))
  made_earlier rule (made_cross name second two read_two is) = All-cons (λ (p : NodeId). p.0 < limit) second [] read_two.earlier (All-nil (λ (p : NodeId). p.0 < limit))
  made_earlier rule (made_drop premise one read_one is) = All-cons (λ (p : NodeId). p.0 < limit) premise [] read_one.earlier (All-nil (λ (p : NodeId). p.0 < limit))

  -- the edge is derivable if those of the premises are
  made_derivable : ((id : NodeId) (node : Node) → id.0 < limit → node_at nodes id ≡ Some node → IsDerivable net node.edge) → (rule : Rule) → Made net nodes limit edge rule → IsDerivable net edge
  made_derivable before rule (made_bound name bound declared is) = derivable.by_bound name.0 bound edge declared is
  made_derivable before rule (made_link name link declared is) = derivable.by_link name link edge declared is
  made_derivable before rule (made_no first second one two read_one read_two is) =
      derivable.by_no_case one two edge (subst (IsDerivable net) read_one.is (before first read_one.node read_one.earlier read_one.here)) (subst (IsDerivable net) read_two.is (before second read_two.node read_two.earlier read_two.here)) is
  made_derivable before rule (made_up first second one two read_one read_two is) =
      derivable.by_upper_case one two edge (subst (IsDerivable net) read_one.is (before first read_one.node read_one.earlier read_one.here)) (subst (IsDerivable net) read_two.is (before second read_two.node read_two.earlier read_two.here))
      is
  made_derivable before rule (made_low name second two read_two is) =
      derivable.by_lower_case name two edge (subst (IsDerivable net) read_two.is (before second read_two.node read_two.earlier read_two.here)) is
  made_derivable before rule (made_cross name second two read_two is) =
      derivable.by_cross_case name two edge (subst (IsDerivable net) read_two.is (before second read_two.node read_two.earlier read_two.here)) is
  made_derivable before rule (made_drop premise one read_one is) =
      derivable.by_removal one edge (subst (IsDerivable net) read_one.is (before premise read_one.node read_one.earlier read_one.here)) is

-- ---- over a whole list
module _ (net : Plan) (nodes : List Node) (list : IsDerivationList net nodes) where
  pub made_at : (id : NodeId) (node : Node) → node_at nodes id ≡ Some node → Made net nodes id.0 node.edge node.rule
  made_at id node here = made net nodes id.0 node.edge node.rule (list id node here)

  pub premises_earlier : PremisesStandEarlier nodes
  premises_earlier id node here = made_earlier net nodes id.0 node.edge node.rule (made_at id node here)

  derivable_below : (limit : ℕ) (id : NodeId) (node : Node) → id.0 < limit → node_at nodes id ≡ Some node → IsDerivable net node.edge
  derivable_below zero id node below here = absurd (omega arith)
  derivable_below (suc limit) id node below here =
      made_derivable net nodes id.0 node.edge (λ premise other earlier there. derivable_below limit premise other (omega arith) there) node.rule (made_at id node here)

  pub node_derivable : (id : NodeId) (node : Node) → node_at nodes id ≡ Some node → IsDerivable net node.edge
  node_derivable id node here = derivable_below (suc id.0) id node (omega arith) here

-- ---- resting
pub rests_by : (nodes : List Node) (id premise : NodeId) (node : Node) (what : Item) → node_at nodes id ≡ Some node → Contains (premises_of node.rule) premise → RestsOn nodes premise what → RestsOn nodes id what
rests_by nodes id premise node what here among rests =
    record { below = rests.below; node = rests.node; under = under id premise node here among rests.under; here = rests.here; uses = rests.uses }

pub rests_itself : (nodes : List Node) (id : NodeId) (node : Node) (what : Item) → node_at nodes id ≡ Some node → item_of node.rule ≡ Some what → RestsOn nodes id what
rests_itself nodes id node what here uses = record { below = id; node = node; under = itself id refl; here = here; uses = uses }

pub under_earlier : (nodes : List Node) → PremisesStandEarlier nodes → (below id : NodeId) → IsUnder nodes below id → below.0 ≤ id.0
under_earlier nodes earlier below id (itself i same) = let number : id.0 ≡ below.0 = ap (λ (n : NodeId). n.0) same in omega arith
under_earlier nodes earlier below id (under i premise node here among rest) =
    let first : below.0 ≤ premise.0 = under_earlier nodes earlier below premise rest in
    let second : premise.0 < id.0 = premise_below (premises_of node.rule) among (earlier id node here) in
    omega arith
  where
    premise_below : (premises : List NodeId) → Contains premises premise → All (λ (p : NodeId). p.0 < id.0) premises → premise.0 < id.0
    premise_below premises inside all = All-contains (λ (p : NodeId). p.0 < id.0) premises premise all inside

-- ---- an edge with a label rests on the link of the label
module _ (net : Plan) (nodes : List Node) (id : NodeId) (node : Node) (name : LinkId) (here : node_at nodes id ≡ Some node) (labelled : node.edge.label ≡ Some name)
    (before : (premise : NodeId) (other : Node) → premise.0 < id.0 → node_at nodes premise ≡ Some other → other.edge.label ≡ Some name → RestsOn nodes premise (item.Link name)) where
  -- a premise with the same label
  carried : (rule : Rule) → node.rule ≡ rule → (premise : NodeId) (edge : Edge) → Contains (premises_of rule) premise → IsPremise nodes id.0 premise edge → edge.label ≡ Some name → RestsOn nodes id (item.Link name)
  carried rule same premise edge among read label =
      let member : Contains (premises_of node.rule) premise = subst (λ (r : Rule). Contains (premises_of r) premise) (sym same) among in
      let said : read.node.edge.label ≡ Some name = ap (λ (e : Edge). e.label) read.is ∙ label in
      rests_by nodes id premise node (item.Link name) here member (before premise read.node read.earlier read.here said)

  rests_on_label : (rule : Rule) → node.rule ≡ rule → Made net nodes id.0 node.edge rule → RestsOn nodes id (item.Link name)
  rests_on_label rule same (made_bound bound_name bound declared is) =
      let none : None ≡ Some name = ap (λ (e : Edge). e.label) is ∙ labelled in absurd cc
  rests_on_label rule same (made_link link_name link declared is) =
      let some : Some link_name ≡ Some name = ap (λ (e : Edge). e.label) is ∙ labelled in
      let named : link_name ≡ name = cc in
      rests_itself nodes id node (item.Link name) here (ap item_of same ∙ ap (λ (n : LinkId). Some (item.Link n)) named)
  rests_on_label rule same (made_no first second one two read_one read_two gave) =
      let gives = no_case_gives one two node.edge gave in
      let none : None ≡ Some name = ap (λ (e : Edge). e.label) gives.is ∙ labelled in absurd cc
  rests_on_label rule same (made_up first second one two read_one read_two gave) =
      let gives = upper_case_gives one two node.edge gave in
      carried rule same second two (Contains-tail first (second ∷ []) second (Contains-head second [])) read_two (ap (λ (e : Edge). e.label) gives.is ∙ labelled)
  rests_on_label rule same (made_low link_name second two read_two gave) =
      let gives = lower_case_gives net link_name two node.edge gave in
      let none : None ≡ Some name = sym gives.second_ordinary ∙ (ap (λ (e : Edge). e.label) gives.is ∙ labelled) in absurd cc
  rests_on_label rule same (made_cross link_name second two read_two gave) =
      let gives = cross_case_gives net link_name two node.edge gave in
      carried rule same second two (Contains-head second []) read_two (ap (λ (e : Edge). e.label) gives.is ∙ labelled)
  rests_on_label rule same (made_drop premise one read_one gave) =
      let gives = removal_gives net one node.edge gave in
      let none : None ≡ Some name = ap (λ (e : Edge). e.label) gives.is ∙ labelled in absurd cc

module _ (net : Plan) (nodes : List Node) (list : IsDerivationList net nodes) where
  label_below : (limit : ℕ) (id : NodeId) (node : Node) (name : LinkId) → id.0 < limit → node_at nodes id ≡ Some node → node.edge.label ≡ Some name → RestsOn nodes id (item.Link name)
  label_below zero id node name below here labelled = absurd (omega arith)
  label_below (suc limit) id node name below here labelled =
      rests_on_label net nodes id node name here labelled (λ premise other earlier there label. label_below limit premise other name (omega arith) there label) node.rule refl (made_at net nodes list id node here)

  pub labelled_rests : (id : NodeId) (node : Node) (name : LinkId) → node_at nodes id ≡ Some node → node.edge.label ≡ Some name → RestsOn nodes id (item.Link name)
  labelled_rests id node name here labelled = label_below (suc id.0) id node name (omega arith) here labelled

-- ---- a node that follows from a whole list
pub given_earlier : (net : Plan) (nodes : List Node) (node : Node) → IsGiven net nodes node → All (λ (premise : NodeId). premise.0 < length nodes) (premises_of node.rule)
given_earlier net nodes node given =
    let all : take (length nodes) nodes ≡ nodes = take-length nodes in
    made_earlier net nodes (length nodes) node.edge node.rule (made net nodes (length nodes) node.edge node.rule (subst (λ (earlier : List Node). IsGiven net earlier node) (sym all) given))

pub earlier_pushed : (nodes : List Node) (node : Node) → PremisesStandEarlier nodes → All (λ (premise : NodeId). premise.0 < length nodes) (premises_of node.rule) → PremisesStandEarlier (nodes ++ node ∷ [])
earlier_pushed nodes node earlier all id m here = by (push_cases nodes node id.0 m here)
  where
    by : (slice_get nodes id.0 ≡ Some m) ⊎ ((id.0 ≡ length nodes) × (node ≡ m)) → All (λ (premise : NodeId). premise.0 < id.0) (premises_of m.rule)
    by (inl there) = earlier id m there
    by (inr (last, is)) = subst (λ (n : ℕ). All (λ (premise : NodeId). premise.0 < n) (premises_of m.rule)) (sym last) (subst (λ (n : Node). All (λ (premise : NodeId). premise.0 < length nodes) (premises_of n.rule)) is all)

-- what a node rests on, its rule uses or one of its premises rests on
pub rests_cases : (nodes : List Node) (id : NodeId) (node : Node) (what : Item) → node_at nodes id ≡ Some node → RestsOn nodes id what
    → (item_of node.rule ≡ Some what) ⊎ ((premise : NodeId) × Contains (premises_of node.rule) premise × RestsOn nodes premise what)
rests_cases nodes id node what here rests = by rests.under
  where
    by : IsUnder nodes rests.below id → (item_of node.rule ≡ Some what) ⊎ ((premise : NodeId) × Contains (premises_of node.rule) premise × RestsOn nodes premise what)
    by (itself i same) =
        let both : Some node ≡ Some rests.node = sym here ∙ (ap (node_at nodes) same ∙ rests.here) in
        let is : node ≡ rests.node = cc in
        inl (ap (λ (n : Node). item_of n.rule) is ∙ rests.uses)
    by (under i premise other there among rest) =
        let both : Some other ≡ Some node = sym there ∙ here in
        let is : other ≡ node = cc in
        inr (premise, subst (λ (n : Node). Contains (premises_of n.rule) premise) is among, record { below = rests.below; node = rests.node; under = rest; here = rests.here; uses = rests.uses })

-- ---- a node that follows from nodes of weights within the limit has such a weight
module _ (net : Plan) (plan : IsPlan net) (nodes : List Node) (within : All (λ (n : Node). IsWeight n.edge.weight) nodes) where
  premise_within : (limit : ℕ) (id : NodeId) (edge : Edge) → IsPremise nodes limit id edge → IsWeight edge.weight
  premise_within limit id edge read =
      subst (λ (e : Edge). IsWeight e.weight) read.is (All-contains (λ (n : Node). IsWeight n.edge.weight) nodes read.node within (listed_at nodes id.0 read.node read.here))

  pub made_within : (limit : ℕ) (edge : Edge) (rule : Rule) → Made net nodes limit edge rule → IsWeight edge.weight
  made_within limit edge rule (made_bound name bound declared is) =
      let sound = bound_at net plan name.0 bound declared in
      subst (λ (e : Edge). IsWeight e.weight) is (small bound.most sound.within)
  made_within limit edge rule (made_link name link declared is) =
      let sound = link_at net plan name link declared in
      subst (λ (e : Edge). IsWeight e.weight) is (turned_within most_weight link.high (small link.high sound.within))
  made_within limit edge rule (made_no first second one two read_one read_two gave) =
      let gives = no_case_gives one two edge gave in
      subst (λ (e : Edge). IsWeight e.weight) gives.is (joined_within most_weight one.weight two.weight (premise_within limit first one read_one) (premise_within limit second two read_two) gives.negative)
  made_within limit edge rule (made_up first second one two read_one read_two gave) =
      let gives = upper_case_gives one two edge gave in
      subst (λ (e : Edge). IsWeight e.weight) gives.is (joined_within most_weight one.weight two.weight (premise_within limit first one read_one) (premise_within limit second two read_two) gives.negative)
  made_within limit edge rule (made_low name second two read_two gave) =
      let gives = lower_case_gives net name two edge gave in
      let sound = link_at net plan name gives.link gives.declared in
      subst (λ (e : Edge). IsWeight e.weight) gives.is
      (moved_within most_weight gives.link.low two.weight (between_within most_weight gives.link.low gives.link.high sound.positive sound.interval (small gives.link.high sound.within)) (premise_within limit second two read_two)
      (positive gives.link.low sound.positive) gives.negative)
  made_within limit edge rule (made_cross name second two read_two gave) =
      let gives = cross_case_gives net name two edge gave in
      let sound = link_at net plan name gives.link gives.declared in
      subst (λ (e : Edge). IsWeight e.weight) gives.is
      (moved_within most_weight gives.link.low two.weight (between_within most_weight gives.link.low gives.link.high sound.positive sound.interval (small gives.link.high sound.within)) (premise_within limit second two read_two)
      (positive gives.link.low sound.positive) gives.negative)
  made_within limit edge rule (made_drop premise one read_one gave) =
      let gives = removal_gives net one edge gave in
      let sound = link_at net plan gives.name gives.link gives.declared in
      subst (λ (e : Edge). IsWeight e.weight) gives.is
      (without_label_within most_weight gives.link.low one.weight (between_within most_weight gives.link.low gives.link.high sound.positive sound.interval (small gives.link.high sound.within)) (premise_within limit premise one read_one))

  pub given_within : (node : Node) → IsGiven net nodes node → IsWeight node.edge.weight
  given_within node given =
      let all : take (length nodes) nodes ≡ nodes = take-length nodes in
      made_within (length nodes) node.edge node.rule (made net nodes (length nodes) node.edge node.rule (subst (λ (earlier : List Node). IsGiven net earlier node) (sym all) given))

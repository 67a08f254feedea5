-- What is kept of a derivation list of the old network is one of the edited network.
use Rattle.std.proofs.Common.{◌≡◌, ℕ, suc, ◌≤◌, List, length, take, Option, Some, None, refl, ap, sym, ◌∙◌, subst}
use Rattle.std.specs.Prelude.{slice_get}
use Rattle.std.specs.Option.{option_map, option_map_or, option_and_then}
use Rattle.net_model.specs.Network.{Plan}
use Rattle.net_model.specs.Rules.{bound_edge, link_edge, no_case, upper_case, lower_case, cross_case, removal}
use Rattle.net_model.specs.declared.ids.LinkId.{LinkId}
use Rattle.net_model.specs.declared.part.Edge.{Edge}
use Rattle.net_model.specs.declared.part.Link.{Link}
use Rattle.closure_model.specs.Derivations.{edge_at, given_by, IsGiven, IsDerivationList}
use Rattle.closure_model.specs.declared.derivation.Item.TheVariants as item
use Rattle.closure_model.specs.declared.derivation.Node.{Node}
use Rattle.closure_model.specs.declared.derivation.NodeId.{NodeId}
use Rattle.closure_model.specs.declared.derivation.Rule.TheVariants as by_rule
use Rattle.closure_model.specs.declared.derivation.Rule.{Rule}
use Rattle.closure_model.proofs.DerivedNodes.{Made, made_bound, made_link, made_no, made_up, made_low, made_cross, made_drop, made_at, premises_earlier, labelled_rests}
use Rattle.closure_model.proofs.Nodes.{IsPremise}
use Rattle.closure_model.proofs.SupportLemmas.{list_pushed}
use Rattle.edit_laws.specs.KeptLists.{Renumbering, IsRenumbering, moved_link, moved_edge, Following, none_followed, placed, follow_node, place_at, moved_rule, moved_node, followed, IsKeptAt, IsKeptOrTaken}
use Rattle.edit_laws.specs.KeptListLaws.{KeptIsDerived}
use Rattle.edit_laws.proofs.KeptNodes.{KeptSoFar, made_of, none_kept, one_followed}
use Rattle.edit_laws.proofs.MovedPremises.{both_of_two, one_of_one}
use Rattle.edit_laws.proofs.MovedRules.{no_case_moved, upper_case_moved, lower_case_moved, cross_case_moved, removal_moved}
use Rattle.edit_laws.proofs.Prefixes.{over_first, over_all}

-- the edge of a link that is kept
pub link_moved : (moves : Renumbering) (name place : LinkId) (link : Link) → moves.links name ≡ Some place → moved_edge moves (link_edge name link) ≡ link_edge place (moved_link moves link)
link_moved moves name place link there = ap (λ (o : Option LinkId). record { from = moves.points link.to; to = moves.points link.from; label = Some (option_map_or (λ (p : LinkId). p) o name); weight = (link_edge name link).weight }) there

module _ (old new : Plan) (moves : Renumbering) (is : IsRenumbering old new moves) (nodes : List Node) (list : IsDerivationList old nodes) where
  module _ (n : ℕ) (node : Node) (so_far : Following) (here : slice_get nodes n ≡ Some node) (was : KeptSoFar moves nodes n so_far) where
    premise_kept : (id place : NodeId) (edge : Edge) → (read : IsPremise nodes n id edge) → place_at so_far.places id ≡ Some place → IsKeptAt moves nodes so_far.places so_far.kept id read.node place
    premise_kept id place edge read has = subst (IsKeptOrTaken moves nodes so_far.places so_far.kept id read.node) has (was.each id read.node read.earlier read.here)

    -- the edge of a premise that is kept
    premise_moved : (id place : NodeId) (edge : Edge) → IsPremise nodes n id edge → place_at so_far.places id ≡ Some place → edge_at so_far.kept place ≡ Some (moved_edge moves edge)
    premise_moved id place edge read has =
        let kept = premise_kept id place edge read has in
        let (rule, rule_is, made_is) = made_of moves read.node kept.made (moved_rule moves so_far.places read.node.rule) kept.moved in
        ap (option_map (λ (m : Node). m.edge)) kept.here ∙ (ap (λ (m : Node). Some m.edge) (sym made_is) ∙ ap (λ (e : Edge). Some (moved_edge moves e)) read.is)

    -- its label is not taken away
    label_kept : (id place : NodeId) (edge : Edge) → IsPremise nodes n id edge → place_at so_far.places id ≡ Some place → (label : LinkId) → edge.label ≡ Some label → (number : LinkId) × (moves.links label ≡ Some number)
    label_kept id place edge read has label labelled = by (moves.links label) refl
      where
        by : (o : Option LinkId) → moves.links label ≡ o → (number : LinkId) × (moves.links label ≡ Some number)
        by (Some number) there = (number, there)
        by None none =
            let kept = premise_kept id place edge read has in
            let said : read.node.edge.label ≡ Some label = ap (λ (e : Edge). e.label) read.is ∙ labelled in
            absurd (kept.free (item.Link label, none, labelled_rests old nodes list id read.node label read.here said))

    pub given_moved : (rule made : Rule) → Made old nodes n node.edge rule → moved_rule moves so_far.places rule ≡ Some made → given_by new so_far.kept made ≡ Some (moved_edge moves node.edge)
    given_moved rule made (made_bound name bound declared gave) some =
        let (place, there, same) = one_of_one by_rule.Bound (moves.bounds name) made some in
        subst (λ (r : Rule). given_by new so_far.kept r ≡ Some (moved_edge moves node.edge)) same
        (ap (option_map bound_edge) (is.bounds name place bound there declared) ∙ ap (λ (e : Edge). Some (moved_edge moves e)) gave)
    given_moved rule made (made_link name link declared gave) some =
        let (place, there, same) = one_of_one by_rule.Link (moves.links name) made some in
        let label : moved_edge moves (link_edge name link) ≡ link_edge place (moved_link moves link) = link_moved moves name place link there in
        subst (λ (r : Rule). given_by new so_far.kept r ≡ Some (moved_edge moves node.edge)) same
        (ap (option_map (link_edge place)) (is.links name place link there declared) ∙ (ap Some (sym label) ∙ ap (λ (e : Edge). Some (moved_edge moves e)) gave))
    given_moved rule made (made_no first second one two read_one read_two gave) some =
        let (p, q, first_is, second_is, same) = both_of_two by_rule.No (place_at so_far.places first) (place_at so_far.places second) made some in
        let edge_one : edge_at so_far.kept p ≡ Some (moved_edge moves one) = premise_moved first p one read_one first_is in
        let edge_two : edge_at so_far.kept q ≡ Some (moved_edge moves two) = premise_moved second q two read_two second_is in
        subst (λ (r : Rule). given_by new so_far.kept r ≡ Some (moved_edge moves node.edge)) same
        (ap (option_and_then (λ (e : Edge). option_and_then (no_case e) (edge_at so_far.kept q))) edge_one
        ∙ (ap (option_and_then (no_case (moved_edge moves one))) edge_two ∙ no_case_moved old new moves is one two node.edge gave))
    given_moved rule made (made_up first second one two read_one read_two gave) some =
        let (p, q, first_is, second_is, same) = both_of_two by_rule.Up (place_at so_far.places first) (place_at so_far.places second) made some in
        let edge_one : edge_at so_far.kept p ≡ Some (moved_edge moves one) = premise_moved first p one read_one first_is in
        let edge_two : edge_at so_far.kept q ≡ Some (moved_edge moves two) = premise_moved second q two read_two second_is in
        subst (λ (r : Rule). given_by new so_far.kept r ≡ Some (moved_edge moves node.edge)) same
        (ap (option_and_then (λ (e : Edge). option_and_then (upper_case e) (edge_at so_far.kept q))) edge_one
        ∙ (ap (option_and_then (upper_case (moved_edge moves one))) edge_two ∙ upper_case_moved old new moves is one two node.edge gave))
    given_moved rule made (made_low name second two read_two gave) some =
        let (place, q, there, second_is, same) = both_of_two by_rule.Low (moves.links name) (place_at so_far.places second) made some in
        subst (λ (r : Rule). given_by new so_far.kept r ≡ Some (moved_edge moves node.edge)) same
        (ap (option_and_then (lower_case new place)) (premise_moved second q two read_two second_is) ∙ lower_case_moved old new moves is name place two node.edge there gave)
    given_moved rule made (made_cross name second two read_two gave) some =
        let (place, q, there, second_is, same) = both_of_two by_rule.Cross (moves.links name) (place_at so_far.places second) made some in
        subst (λ (r : Rule). given_by new so_far.kept r ≡ Some (moved_edge moves node.edge)) same
        (ap (option_and_then (cross_case new place)) (premise_moved second q two read_two second_is)
        ∙ cross_case_moved old new moves is name place two node.edge there (label_kept second q two read_two second_is) gave)
    given_moved rule made (made_drop premise one read_one gave) some =
        let (p, premise_is, same) = one_of_one by_rule.Drop (place_at so_far.places premise) made some in
        subst (λ (r : Rule). given_by new so_far.kept r ≡ Some (moved_edge moves node.edge)) same
        (ap (option_and_then (removal new)) (premise_moved premise p one read_one premise_is)
        ∙ removal_moved old new moves is one node.edge (label_kept premise p one read_one premise_is) gave)

    -- a node that is kept follows from the kept ones before it
    pub given_new : (made : Node) → moved_node moves so_far.places node ≡ Some made → IsGiven new so_far.kept made
    given_new made some =
        let (rule, rule_is, made_is) = made_of moves node made (moved_rule moves so_far.places node.rule) some in
        subst (IsGiven new so_far.kept) made_is (given_moved node.rule rule (made_at old nodes list (record { 0 = n }) node here) rule_is)

  -- the kept nodes so far are a derivation list of the edited network
  pub record DerivedSoFar (n : ℕ) (so_far : Following) : Type 0 where
    pub kept : KeptSoFar moves nodes n so_far
    pub derived : IsDerivationList new so_far.kept

  one_derived : (n : ℕ) (node : Node) (so_far : Following) → slice_get nodes n ≡ Some node → DerivedSoFar n so_far → DerivedSoFar (suc n) (follow_node moves so_far node)
  one_derived n node so_far here was = record {
    kept = one_followed moves nodes (premises_earlier old nodes list) n node so_far here was.kept;
    derived = by (moved_node moves so_far.places node) refl;
  }
    where
      by : (o : Option Node) → moved_node moves so_far.places node ≡ o → IsDerivationList new (placed so_far o).kept
      by None none = was.derived
      by (Some made) some = list_pushed new so_far.kept made was.derived (given_new n node so_far here was.kept made some)

  none_derived : DerivedSoFar 0 none_followed
  none_derived = record { kept = none_kept moves nodes (premises_earlier old nodes list); derived = λ id node here. absurd cc }

  -- after the first nodes, and after all
  pub first_derived : (n : ℕ) → n ≤ length nodes → DerivedSoFar n (followed moves (take n nodes))
  first_derived n within = over_first (follow_node moves) none_followed nodes DerivedSoFar none_derived one_derived n within

  pub all_derived : DerivedSoFar (length nodes) (followed moves nodes)
  all_derived = over_all (follow_node moves) none_followed nodes DerivedSoFar none_derived one_derived

pub law_kept_is_derived : KeptIsDerived
law_kept_is_derived old new moves nodes is list = (all_derived old new moves is nodes list).derived

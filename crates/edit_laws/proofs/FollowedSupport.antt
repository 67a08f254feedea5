-- What has followed an edit stands on the edited network.
use Rattle.std.proofs.Common.{◌≡◌, ℕ, ◌<◌, ◌⊎◌, inl, inr, List, [], ◌∷◌, ◌++◌, length, map, Option, Some, None, refl, ap, sym, ◌∙◌, subst, append_assoc, append-nil}
use Rattle.std.specs.Prelude.{slice_get}
use Rattle.std.specs.List.{All, Contains, enumerate_from}
use Rattle.std.proofs.lemmas.List.Elements.{All-contains, All-contains_itself, All-weaker, All-head, All-tail, Contains-append_left, Contains-append_right, Contains-append_cases}
use Rattle.std.proofs.lemmas.Option.{slice_get_within}
use Rattle.net_model.specs.Network.{Plan}
use Rattle.closure_model.specs.Derivations.{item_of, premises_of, IsGiven, IsDerivationList, RestsOn, base_nodes, bound_node, link_node, Support, StandsOn}
use Rattle.closure_model.specs.declared.derivation.Node.{Node}
use Rattle.closure_model.specs.declared.derivation.NodeId.{NodeId}
use Rattle.closure_model.proofs.Lists.{Contains-none, Contains-map_from}
use Rattle.closure_model.proofs.DerivedNodes.{rests_cases}
use Rattle.closure_model.proofs.Nodes.{listed_at}
use Rattle.closure_model.proofs.SupportLemmas.{base_given, list_pushed}
use Rattle.closure_model.proofs.BaseLemmas.{slice_get-contained}
use Rattle.edit_laws.specs.KeptLists.{Renumbering, IsRenumbering, RestsOnTaken, moved_rule, moved_node, place_at, followed, IsKeptOrTaken, IsMovedBase, AreNewBase, followed_support}
use Rattle.edit_laws.specs.KeptListLaws.{FollowedStands}
use Rattle.edit_laws.proofs.KeptNodes.{made_of}
use Rattle.edit_laws.proofs.KeptDerived.{DerivedSoFar, all_derived}
use Rattle.edit_laws.proofs.MovedPremises.{item_kept}

-- base nodes after a derivation list
pub base_pushed : (net : Plan) (nodes news : List Node) → IsDerivationList net nodes → All (Contains (base_nodes net)) news → IsDerivationList net (nodes ++ news)
base_pushed net nodes [] list base = subst (IsDerivationList net) (sym (append-nil nodes)) list
base_pushed net nodes (node ∷ news) list base =
    let first : IsGiven net nodes node = base_given net nodes node (All-head (Contains (base_nodes net)) node news base) in
    subst (IsDerivationList net) (append_assoc nodes (node ∷ []) news)
    (base_pushed net (nodes ++ node ∷ []) news (list_pushed net nodes node list first) (All-tail (Contains (base_nodes net)) node news base))

-- a base node has no premises
no_premises : (net : Plan) (node : Node) → Contains (base_nodes net) node → premises_of node.rule ≡ []
no_premises net node inside = by (Contains-append_cases (map bound_node (enumerate_from 0 net.bounds)) (map link_node (enumerate_from 0 net.links)) node inside)
  where
    by : Contains (map bound_node (enumerate_from 0 net.bounds)) node ⊎ Contains (map link_node (enumerate_from 0 net.links)) node → premises_of node.rule ≡ []
    by (inl there) = let (e, held, is) = Contains-map_from bound_node (enumerate_from 0 net.bounds) node there in ap (λ (n : Node). premises_of n.rule) (sym is)
    by (inr there) = let (e, held, is) = Contains-map_from link_node (enumerate_from 0 net.links) node there in ap (λ (n : Node). premises_of n.rule) (sym is)

-- a rule without premises has the same new numbers whatever the places are
unplaced : (moves : Renumbering) (places : List (Option NodeId)) (net : Plan) (node : Node) → Contains (base_nodes net) node → moved_node moves places node ≡ moved_node moves [] node
unplaced moves places net node inside = by (Contains-append_cases (map bound_node (enumerate_from 0 net.bounds)) (map link_node (enumerate_from 0 net.links)) node inside)
  where
    by : Contains (map bound_node (enumerate_from 0 net.bounds)) node ⊎ Contains (map link_node (enumerate_from 0 net.links)) node → moved_node moves places node ≡ moved_node moves [] node
    by (inl there) = let (e, held, is) = Contains-map_from bound_node (enumerate_from 0 net.bounds) node there in subst (λ (n : Node). moved_node moves places n ≡ moved_node moves [] n) is refl
    by (inr there) = let (e, held, is) = Contains-map_from link_node (enumerate_from 0 net.links) node there in subst (λ (n : Node). moved_node moves places n ≡ moved_node moves [] n) is refl

module _ (old new : Plan) (moves : Renumbering) (news : List Node) (support : Support) (is : IsRenumbering old new moves) (base : AreNewBase old new moves news) (stands : StandsOn old support) where
  all : DerivedSoFar old new moves is support.nodes stands.derived (length support.nodes) (followed moves support.nodes)
  all = all_derived old new moves is support.nodes stands.derived

  -- the base node of a bound or a link that is not taken away is kept
  moved_base_kept : (node : Node) → IsMovedBase old new moves node → Contains (followed moves support.nodes).kept node
  moved_base_kept node (what, based, moved) = by (place_at (followed moves support.nodes).places (record { 0 = at.0 })) (all.kept.each (record { 0 = at.0 }) what inside at.1)
    where
      at : (k : ℕ) × (slice_get support.nodes k ≡ Some what)
      at = slice_get-contained support.nodes what (All-contains (Contains support.nodes) (base_nodes old) what stands.based based)

      inside : at.0 < length support.nodes
      inside = slice_get_within support.nodes at.0 what at.1

      free : RestsOnTaken moves support.nodes (record { 0 = at.0 }) → ⊥
      free (item, taken, rests) = from (rests_cases support.nodes (record { 0 = at.0 }) what item at.1 rests)
        where
          from : (item_of what.rule ≡ Some item) ⊎ ((premise : NodeId) × Contains (premises_of what.rule) premise × RestsOn support.nodes premise item) → ⊥
          from (inl uses) = let (rule, some, made_is) = made_of moves what node (moved_rule moves [] what.rule) moved in item_kept moves [] what.rule rule some item uses taken
          from (inr (premise, among, under)) = Contains-none premise (subst (λ (ps : List NodeId). Contains ps premise) (no_premises old what based) among)

      by : (o : Option NodeId) → IsKeptOrTaken moves support.nodes (followed moves support.nodes).places (followed moves support.nodes).kept (record { 0 = at.0 }) what o → Contains (followed moves support.nodes).kept node
      by None rests = absurd (free rests)
      by (Some place) kept =
          let both : Some kept.made ≡ Some node = sym kept.moved ∙ (unplaced moves (followed moves support.nodes).places old what based ∙ moved) in
          let one : kept.made ≡ node = cc in
          subst (Contains (followed moves support.nodes).kept) one (listed_at (followed moves support.nodes).kept place.0 kept.made kept.here)

  based_again : (node : Node) → Contains (base_nodes new) node → Contains ((followed moves support.nodes).kept ++ news) node
  based_again node inside = by (base.whole node inside)
    where
      by : Contains news node ⊎ IsMovedBase old new moves node → Contains ((followed moves support.nodes).kept ++ news) node
      by (inl not_taken) = Contains-append_right (followed moves support.nodes).kept news node not_taken
      by (inr moved) = Contains-append_left (followed moves support.nodes).kept news node (moved_base_kept node moved)

  pub stands_again : StandsOn new (followed_support new moves news support)
  stands_again = record {
    derived = base_pushed new (followed moves support.nodes).kept news all.derived base.of_base;
    based = All-weaker (Contains (base_nodes new)) (Contains ((followed moves support.nodes).kept ++ news)) based_again (base_nodes new) (All-contains_itself (base_nodes new));
    table = refl;
  }

pub law_followed_stands : FollowedStands
law_followed_stands old new moves news support is base stands = stands_again old new moves news support is base stands

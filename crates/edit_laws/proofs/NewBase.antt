-- The base nodes of what is new are, with those that are kept, all base nodes of the new network.
use Rattle.std.proofs.Common.{◌≡◌, ℕ, Bool, true, false, ◌⊎◌, inl, inr, List, [], map, Option, Some, None, is_none, refl, ap, sym, ◌∙◌, subst, zero-add}
use Rattle.std.specs.Prelude.{slice_get}
use Rattle.std.specs.Option.{option_map, option_and_then}
use Rattle.std.specs.List.{Contains, enumerate_from}
use Rattle.std.proofs.lemmas.List.Elements.{All-weaker, All-contains_itself, Contains-append_left, Contains-append_right, Contains-append_cases}
use Rattle.net_model.specs.Network.{Plan, IsPlan, point_named, bound_named, activation}
use Rattle.net_model.specs.declared.edit.Edit.{Edit}
use Rattle.net_model.specs.declared.ids.BoundId.{BoundId}
use Rattle.net_model.specs.declared.ids.LinkId.{LinkId}
use Rattle.net_model.specs.declared.ids.PointId.{PointId}
use Rattle.net_model.specs.declared.part.Bound.{Bound}
use Rattle.net_model.specs.declared.part.Edge.{Edge}
use Rattle.net_model.specs.declared.part.Link.{Link}
use Rattle.net_model.proofs.RuleLemmas.{two_steps}
use Rattle.closure_model.specs.Derivations.{base_nodes, bound_node, link_node}
use Rattle.closure_model.specs.declared.derivation.Node.{Node}
use Rattle.closure_model.specs.declared.derivation.Rule.TheVariants as by_rule
use Rattle.closure_model.proofs.ReachedTables.{numbered_at}
use Rattle.closure_model.proofs.Lists.{Contains-filter_from, Contains-map, Contains-map_from, Contains-filter}
use Rattle.closure_model.proofs.BaseLemmas.{numbered_contained}
use Rattle.edit_laws.specs.KeptLists.{Renumbering, IsRenumbering, moved_node, moved_bound, moved_link, IsMovedBase, AreNewBase}
use Rattle.edit_laws.specs.KeptListLaws.{NewBaseIsWhole}
use Rattle.edit_laws.specs.EditNumbers.{new_bounds, new_links, point_in, renumbering, is_new_bound, is_new_link, new_base_nodes}
use Rattle.edit_laws.proofs.ByNames.{bound_found, bound_placed, link_found, link_placed, named_at, at_named, point_moved, law_names_renumber}
use Rattle.edit_laws.proofs.KeptNodes.{with_rule}
use Rattle.edit_laws.proofs.KeptDerived.{link_moved}

-- ---- lists
numbered_here : {X : Type 0} (xs : List X) (k : ℕ) (x : X) → slice_get xs k ≡ Some x → Contains (enumerate_from 0 xs) (k, x)
numbered_here xs k x here = subst (λ (n : ℕ). Contains (enumerate_from 0 xs) (n, x)) (zero-add k) (numbered_contained 0 xs k x here)

some_unless : {A : Type 0} (o : Option A) → is_none o ≡ false → (x : A) × (o ≡ Some x)
some_unless None is = absurd cc
some_unless (Some x) is = (x, refl)

-- the node of a link that has an edge
abbrev by_link : LinkId → Edge → Node
by_link id edge = record { rule = by_rule.Link id; edge = edge }

module _ (moves : Renumbering) where
  -- the base nodes of a bound and of a link that are not taken away, with their new numbers
  bound_node_moved : (id place : BoundId) (bound : Bound) → moves.bounds id ≡ Some place → moved_node moves [] (bound_node (id.0, bound)) ≡ Some (bound_node (place.0, moved_bound moves bound))
  bound_node_moved id place bound held = ap (λ (o : Option BoundId). option_map (with_rule moves (bound_node (id.0, bound))) (option_map by_rule.Bound o)) held

  link_node_moved : (id place : LinkId) (link : Link) → moves.links id ≡ Some place → moved_node moves [] (link_node (id.0, link)) ≡ Some (link_node (place.0, moved_link moves link))
  link_node_moved id place link held =
      ap (λ (o : Option LinkId). option_map (with_rule moves (link_node (id.0, link))) (option_map by_rule.Link o)) held
      ∙ ap (λ (edge : Edge). Some (by_link place edge)) (link_moved moves id place link held)

module _ (old : Plan) (edit : Edit) (new : Plan) (before : IsPlan old) (after : IsPlan new) where
  abbrev moves : Renumbering
  moves = renumbering old edit new

  renumbers : IsRenumbering old new moves
  renumbers = law_names_renumber old edit new before after

  -- a bound of the new network is new, or that of a bound of the old one
  bound_cases : (e : ℕ × Bound) → Contains (enumerate_from 0 new.bounds) e → Contains (new_base_nodes old edit new) (bound_node e) ⊎ IsMovedBase old new moves (bound_node e)
  bound_cases e inside = by (is_new_bound old edit new e.1) refl
    where
      by : (b : Bool) → is_new_bound old edit new e.1 ≡ b → Contains (new_base_nodes old edit new) (bound_node e) ⊎ IsMovedBase old new moves (bound_node e)
      by true is =
          inl (Contains-append_left (map bound_node (new_bounds old edit new)) (map link_node (new_links old edit new)) (bound_node e)
          (Contains-map bound_node (new_bounds old edit new) e (Contains-filter (λ (f : ℕ × Bound). is_new_bound old edit new f.1) (enumerate_from 0 new.bounds) e inside is)))
      by false is =
          let (place, found) = some_unless (option_and_then moves.bounds (bound_named old e.1.name)) is in
          let (id, named, held) = two_steps moves.bounds (bound_named old e.1.name) place found in
          let (bound, here, name) = bound_found old before e.1.name id named in
          let stands = renumbers.bounds id place bound held here in
          let this : BoundId = record { 0 = e.0 } in
          let at : slice_get new.bounds e.0 ≡ Some e.1 = numbered_at new.bounds e inside in
          let places : Some place ≡ Some this = sym (bound_placed new after e.1.name place (moved_bound moves bound) stands name) ∙ bound_placed new after e.1.name this e.1 at refl in
          let one : place ≡ this = cc in
          let bounds : Some (moved_bound moves bound) ≡ Some e.1 = sym stands ∙ (ap (λ (p : BoundId). slice_get new.bounds p.0) one ∙ at) in
          let same : moved_bound moves bound ≡ e.1 = cc in
          inr (
            bound_node (id.0, bound),
            Contains-append_left (map bound_node (enumerate_from 0 old.bounds)) (map link_node (enumerate_from 0 old.links)) (bound_node (id.0, bound))
                (Contains-map bound_node (enumerate_from 0 old.bounds) (id.0, bound) (numbered_here old.bounds id.0 bound here)),
            bound_node_moved moves id place bound held ∙ λ i. Some (bound_node ((one i).0, same i)),
          )

  -- a link of the new network is new, or that of a link of the old one
  link_cases : (e : ℕ × Link) → Contains (enumerate_from 0 new.links) e → Contains (new_base_nodes old edit new) (link_node e) ⊎ IsMovedBase old new moves (link_node e)
  link_cases e inside = by (is_new_link old edit new e.1) refl
    where
      by : (b : Bool) → is_new_link old edit new e.1 ≡ b → Contains (new_base_nodes old edit new) (link_node e) ⊎ IsMovedBase old new moves (link_node e)
      by true is =
          inl (Contains-append_right (map bound_node (new_bounds old edit new)) (map link_node (new_links old edit new)) (link_node e)
          (Contains-map link_node (new_links old edit new) e (Contains-filter (λ (f : ℕ × Link). is_new_link old edit new f.1) (enumerate_from 0 new.links) e inside is)))
      by false is =
          let (place, found) = some_unless (option_and_then (λ (p : PointId). option_and_then moves.links (activation old p)) (point_in new old e.1.to)) is in
          let (point, back, more) = two_steps (λ (p : PointId). option_and_then moves.links (activation old p)) (point_in new old e.1.to) place found in
          let (id, ends, held) = two_steps moves.links (activation old point) place more in
          let (link, here, to) = link_found old before point id ends in
          let (name, name_at, named) = two_steps (point_named old) (slice_get new.points e.1.to.0) point back in
          let forth : point_in old new point ≡ Some e.1.to = ap (option_and_then (point_named new)) (named_at old before name point named) ∙ at_named new after name e.1.to name_at in
          let ends_there : moves.points link.to ≡ e.1.to = point_moved old edit new link.to e.1.to (ap (point_in old new) to ∙ forth) in
          let stands = renumbers.links id place link held here in
          let this : LinkId = record { 0 = e.0 } in
          let at : slice_get new.links e.0 ≡ Some e.1 = numbered_at new.links e inside in
          let places : Some place ≡ Some this = sym (link_placed new after e.1.to place (moved_link moves link) stands ends_there) ∙ link_placed new after e.1.to this e.1 at refl in
          let one : place ≡ this = cc in
          let links : Some (moved_link moves link) ≡ Some e.1 = sym stands ∙ (ap (λ (p : LinkId). slice_get new.links p.0) one ∙ at) in
          let same : moved_link moves link ≡ e.1 = cc in
          inr (
            link_node (id.0, link),
            Contains-append_right (map bound_node (enumerate_from 0 old.bounds)) (map link_node (enumerate_from 0 old.links)) (link_node (id.0, link))
                (Contains-map link_node (enumerate_from 0 old.links) (id.0, link) (numbered_here old.links id.0 link here)),
            link_node_moved moves id place link held ∙ λ i. Some (link_node ((one i).0, same i)),
          )

  whole : (node : Node) → Contains (base_nodes new) node → Contains (new_base_nodes old edit new) node ⊎ IsMovedBase old new moves node
  whole node inside = by (Contains-append_cases (map bound_node (enumerate_from 0 new.bounds)) (map link_node (enumerate_from 0 new.links)) node inside)
    where
      by : Contains (map bound_node (enumerate_from 0 new.bounds)) node ⊎ Contains (map link_node (enumerate_from 0 new.links)) node → Contains (new_base_nodes old edit new) node ⊎ IsMovedBase old new moves node
      by (inl there) =
          let (e, held, is) = Contains-map_from bound_node (enumerate_from 0 new.bounds) node there in
          subst (λ (n : Node). Contains (new_base_nodes old edit new) n ⊎ IsMovedBase old new moves n) is (bound_cases e held)
      by (inr there) =
          let (e, held, is) = Contains-map_from link_node (enumerate_from 0 new.links) node there in
          subst (λ (n : Node). Contains (new_base_nodes old edit new) n ⊎ IsMovedBase old new moves n) is (link_cases e held)

  among : (node : Node) → Contains (new_base_nodes old edit new) node → Contains (base_nodes new) node
  among node inside =
      by (Contains-append_cases (map bound_node (new_bounds old edit new)) (map link_node (new_links old edit new)) node inside)
    where
      by : Contains (map bound_node (new_bounds old edit new)) node ⊎ Contains (map link_node (new_links old edit new)) node → Contains (base_nodes new) node
      by (inl there) =
          let (e, held, is) = Contains-map_from bound_node (new_bounds old edit new) node there in
          Contains-append_left (map bound_node (enumerate_from 0 new.bounds)) (map link_node (enumerate_from 0 new.links)) node
          (subst (Contains (map bound_node (enumerate_from 0 new.bounds))) is (Contains-map bound_node (enumerate_from 0 new.bounds) e
          (Contains-filter_from (λ (e : ℕ × Bound). is_new_bound old edit new e.1) (enumerate_from 0 new.bounds) e held)))
      by (inr there) =
          let (e, held, is) = Contains-map_from link_node (new_links old edit new) node there in
          Contains-append_right (map bound_node (enumerate_from 0 new.bounds)) (map link_node (enumerate_from 0 new.links)) node
          (subst (Contains (map link_node (enumerate_from 0 new.links))) is (Contains-map link_node (enumerate_from 0 new.links) e (Contains-filter_from (λ (e : ℕ × Link). is_new_link old edit new e.1) (enumerate_from 0 new.links) e held)))

  pub law_new_base_is_whole : AreNewBase old new moves (new_base_nodes old edit new)
  law_new_base_is_whole = record {
    of_base = All-weaker (Contains (new_base_nodes old edit new)) (Contains (base_nodes new)) among (new_base_nodes old edit new) (All-contains_itself (new_base_nodes old edit new));
    whole = whole;
  }

pub new_base_is_whole_all : NewBaseIsWhole
new_base_is_whole_all old edit new before after = law_new_base_is_whole old edit new before after

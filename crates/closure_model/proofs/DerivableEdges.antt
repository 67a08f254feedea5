-- What follows from derivable edges is derivable; derivable edges are edges of the network, of weights that are bounded.
use Rattle.std.proofs.Common.{◌≡◌, ℕ, zero, suc, ◌≤◌, ◌<◌, get_or, ℤ, pos, ◌≤ℤ◌, ◌<ℤ◌, ◌+ℤ◌, ◌-ℤ◌, max, List, [], ◌∷◌, length, Option, Some, None, refl, ap, ◌∙◌, subst, arith, fold}
use Rattle.std.specs.Prelude.{slice_get, unsigned_abs}
use Rattle.std.specs.Int.{int_max}
use Rattle.std.specs.List.{Contains}
use Rattle.std.proofs.lemmas.Int.{ints, int_max_is}
use Rattle.std.proofs.lemmas.Option.{slice_get_within, get_or_from_slice_get}
use Rattle.net_model.proofs.RuleLemmas.{no_case_gives, upper_case_gives, lower_case_gives, cross_case_gives, removal_gives}
use Rattle.net_model.specs.Network.{Plan, IsPlan, IsBound, IsLink, greatest}
use Rattle.net_model.specs.Edges.{IsLinkOf, IsLabelled, IsEdge}
use Rattle.net_model.specs.Rules.{Follows}
use Rattle.net_model.specs.Rules as rules_of
use Rattle.net_model.specs.declared.ids.LinkId.{LinkId}
use Rattle.net_model.specs.declared.part.Bound.{Bound}
use Rattle.net_model.specs.declared.part.Edge.{Edge}
use Rattle.net_model.specs.declared.part.Link.{Link}
use Rattle.closure_model.specs.Derivable.{IsDerivable, by_bound, by_link, by_no_case, by_upper_case, by_lower_case, by_cross_case, by_removal}

-- ---- what follows from derivable edges is derivable
pub follows_derivable : (net : Plan) (earlier : List Edge) → ((e : Edge) → Contains earlier e → IsDerivable net e) → (edge : Edge) → Follows net earlier edge → IsDerivable net edge
follows_derivable net earlier all edge (rules_of.by_bound place bound declared is) = by_bound place bound edge declared is
follows_derivable net earlier all edge (rules_of.by_link name link declared is) = by_link name link edge declared is
follows_derivable net earlier all edge (rules_of.by_no_case first second one two gave) = by_no_case first second edge (all first one) (all second two) gave
follows_derivable net earlier all edge (rules_of.by_upper_case first second one two gave) = by_upper_case first second edge (all first one) (all second two) gave
follows_derivable net earlier all edge (rules_of.by_lower_case name second one gave) = by_lower_case name second edge (all second one) gave
follows_derivable net earlier all edge (rules_of.by_cross_case name second one gave) = by_cross_case name second edge (all second one) gave
follows_derivable net earlier all edge (rules_of.by_removal premise one gave) = by_removal premise edge (all premise one) gave

-- ---- derivable edges are edges of the network
-- the list's item at a place
pub bound_at : (net : Plan) → IsPlan net → (place : ℕ) (bound : Bound) → slice_get net.bounds place ≡ Some bound → IsBound net bound
bound_at net plan place bound declared =
    subst (IsBound net) (get_or_from_slice_get net.bounds place bound bound declared) (plan.bounds_sound place bound (slice_get_within net.bounds place bound declared))

pub link_at : (net : Plan) → IsPlan net → (name : LinkId) (link : Link) → IsLinkOf net name link → IsLink net link
link_at net plan name link declared =
    subst (IsLink net) (get_or_from_slice_get net.links name.0 link link declared) (plan.links_sound name.0 link (slice_get_within net.links name.0 link declared))

-- the label of an edge that ends where another does
same_label : (net : Plan) (edge premise : Edge) (label : Option LinkId) → edge.to ≡ premise.to → IsLabelled net premise label → IsLabelled net edge label
same_label net edge premise None to labelled = tt
same_label net edge premise (Some label) to labelled = (labelled.0, labelled.1, to ∙ labelled.2)

module _ (net : Plan) (plan : IsPlan net) where
  pub derivable_edge : (edge : Edge) → IsDerivable net edge → IsEdge net edge
  derivable_edge edge (by_bound place bound e declared is) =
      let sound : IsBound net bound = bound_at net plan place bound declared in
      subst (IsEdge net) is (record { from_point = sound.from_point; to_point = sound.to_point; labelled = tt })
  derivable_edge edge (by_link name link e declared is) =
      let sound : IsLink net link = link_at net plan name link declared in
      subst (IsEdge net) is (record { from_point = sound.to_point; to_point = sound.from_point; labelled = (link, declared, refl) })
  derivable_edge edge (by_no_case first second e one two gave) =
      let gives = no_case_gives first second edge gave in
      subst (IsEdge net) gives.is (record { from_point = (derivable_edge first one).from_point; to_point = (derivable_edge second two).to_point; labelled = tt })
  derivable_edge edge (by_upper_case first second e one two gave) =
      let gives = upper_case_gives first second edge gave in
      let last : IsEdge net second = derivable_edge second two in
      subst (IsEdge net) gives.is (record { from_point = (derivable_edge first one).from_point; to_point = last.to_point; labelled = last.labelled })
  derivable_edge edge (by_lower_case name second e one gave) =
      let gives = lower_case_gives net name second edge gave in
      let last : IsEdge net second = derivable_edge second one in
      let sound : IsLink net gives.link = link_at net plan name gives.link gives.declared in
      subst (IsEdge net) gives.is (record { from_point = sound.from_point; to_point = last.to_point; labelled = last.labelled })
  derivable_edge edge (by_cross_case name second e one gave) =
      let gives = cross_case_gives net name second edge gave in
      let last : IsEdge net second = derivable_edge second one in
      let sound : IsLink net gives.link = link_at net plan name gives.link gives.declared in
      subst (IsEdge net) gives.is (record { from_point = sound.from_point; to_point = last.to_point; labelled = last.labelled })
  derivable_edge edge (by_removal premise e one gave) =
      let gives = removal_gives net premise edge gave in
      let last : IsEdge net premise = derivable_edge premise one in
      subst (IsEdge net) gives.is (record { from_point = last.from_point; to_point = last.to_point; labelled = tt })

-- ---- and their weights are at most the greatest number of the network
most_of : {X : Type 0} → (X → ℕ) → List X → ℕ → ℕ
most_of f xs start = fold (λ most x. max most (f x)) start xs

start_below : {X : Type 0} (f : X → ℕ) (xs : List X) (start : ℕ) → start ≤ most_of f xs start
unfolding most_of
start_below f [] start = omega arith
start_below f (x ∷ xs) start = let rest : max start (f x) ≤ fold (λ most y. max most (f y)) (max start (f x)) xs = start_below f xs (max start (f x)) in omega arith

each_below : {X : Type 0} (f : X → ℕ) (xs : List X) (start : ℕ) (place : ℕ) (x : X) → place < length xs → get_or xs place x ≡ x → f x ≤ most_of f xs start
unfolding most_of
each_below f [] start place x inside here = absurd (omega arith)
each_below f (y ∷ ys) start zero x inside here =
    let first : y ≡ x = here in
    let rest : max start (f y) ≤ fold (λ most z. max most (f z)) (max start (f y)) ys = start_below f ys (max start (f y)) in
    let same : f y ≡ f x = ap f first in
    omega arith
each_below f (y ∷ ys) start (suc place) x inside here = each_below f ys (max start (f y)) place x (omega arith) here

pub joined_within : (most : ℕ) (v u : ℤ) → unsigned_abs v ≤ most → unsigned_abs u ≤ most → u <ℤ pos 0 → unsigned_abs (int_max v (pos 0) +ℤ u) ≤ most
joined_within most v u first second negative = grind (arith, ints, int_max_is)

pub moved_within : (most : ℕ) (x u : ℤ) → unsigned_abs x ≤ most → unsigned_abs u ≤ most → pos 0 ≤ℤ x → u <ℤ pos 0 → unsigned_abs (x +ℤ u) ≤ most
moved_within most x u shortest second positive negative = grind (arith, ints)

pub without_label_within : (most : ℕ) (x z : ℤ) → unsigned_abs x ≤ most → unsigned_abs z ≤ most → unsigned_abs (int_max z (pos 0 -ℤ x)) ≤ most
without_label_within most x z shortest premise = grind (arith, ints, int_max_is)

pub turned_within : (most : ℕ) (y : ℤ) → unsigned_abs y ≤ most → unsigned_abs (pos 0 -ℤ y) ≤ most
turned_within most y longest = grind (arith, ints)

pub between_within : (most : ℕ) (x y : ℤ) → pos 1 ≤ℤ x → x ≤ℤ y → unsigned_abs y ≤ most → unsigned_abs x ≤ most
between_within most x y one two three = grind (arith, ints)

pub positive : (x : ℤ) → pos 1 ≤ℤ x → pos 0 ≤ℤ x
positive x one = grind (arith, ints)

module _ (net : Plan) where
  pub bound_within : (place : ℕ) (bound : Bound) → slice_get net.bounds place ≡ Some bound → unsigned_abs bound.most ≤ greatest net
  unfolding most_of
  bound_within place bound declared =
      let below : unsigned_abs bound.most ≤ fold (λ most (b : Bound). max most (unsigned_abs b.most)) 0 net.bounds =
      each_below (λ (b : Bound). unsigned_abs b.most) net.bounds 0 place bound (slice_get_within net.bounds place bound declared) (get_or_from_slice_get net.bounds place bound bound declared) in
      omega arith

  pub longest_within : (name : LinkId) (link : Link) → IsLinkOf net name link → unsigned_abs link.high ≤ greatest net
  unfolding most_of
  longest_within name link declared =
      let below : unsigned_abs link.high ≤ fold (λ most (l : Link). max most (unsigned_abs l.high)) 0 net.links =
      each_below (λ (l : Link). unsigned_abs l.high) net.links 0 name.0 link (slice_get_within net.links name.0 link declared) (get_or_from_slice_get net.links name.0 link link declared) in
      omega arith

  module _ (plan : IsPlan net) where
    shortest_within : (name : LinkId) (link : Link) → IsLinkOf net name link → unsigned_abs link.low ≤ greatest net
    shortest_within name link declared =
        let sound : IsLink net link = link_at net plan name link declared in
        between_within (greatest net) link.low link.high sound.positive sound.interval (longest_within name link declared)

    pub derivable_within : (edge : Edge) → IsDerivable net edge → unsigned_abs edge.weight ≤ greatest net
    derivable_within edge (by_bound place bound e declared is) = subst (λ (d : Edge). unsigned_abs d.weight ≤ greatest net) is (bound_within place bound declared)
    derivable_within edge (by_link name link e declared is) =
        subst (λ (d : Edge). unsigned_abs d.weight ≤ greatest net) is (turned_within (greatest net) link.high (longest_within name link declared))
    derivable_within edge (by_no_case first second e one two gave) =
        let gives = no_case_gives first second edge gave in
        subst (λ (d : Edge). unsigned_abs d.weight ≤ greatest net) gives.is (joined_within (greatest net) first.weight second.weight (derivable_within first one) (derivable_within second two) gives.negative)
    derivable_within edge (by_upper_case first second e one two gave) =
        let gives = upper_case_gives first second edge gave in
        subst (λ (d : Edge). unsigned_abs d.weight ≤ greatest net) gives.is (joined_within (greatest net) first.weight second.weight (derivable_within first one) (derivable_within second two) gives.negative)
    derivable_within edge (by_lower_case name second e one gave) =
        let gives = lower_case_gives net name second edge gave in
        let sound : IsLink net gives.link = link_at net plan name gives.link gives.declared in
        subst (λ (d : Edge). unsigned_abs d.weight ≤ greatest net) gives.is (moved_within (greatest net) gives.link.low second.weight (shortest_within name gives.link gives.declared) (derivable_within second one)
        (positive gives.link.low sound.positive) gives.negative)
    derivable_within edge (by_cross_case name second e one gave) =
        let gives = cross_case_gives net name second edge gave in
        let sound : IsLink net gives.link = link_at net plan name gives.link gives.declared in
        subst (λ (d : Edge). unsigned_abs d.weight ≤ greatest net) gives.is (moved_within (greatest net) gives.link.low second.weight (shortest_within name gives.link gives.declared) (derivable_within second one)
        (positive gives.link.low sound.positive) gives.negative)
    derivable_within edge (by_removal premise e one gave) =
        let gives = removal_gives net premise edge gave in
        subst (λ (d : Edge). unsigned_abs d.weight ≤ greatest net) gives.is (without_label_within (greatest net) gives.link.low premise.weight (shortest_within gives.name gives.link gives.declared) (derivable_within premise one))

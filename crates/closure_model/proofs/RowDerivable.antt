-- What is derivable in a row: its keys, where its edges end, and what follows from one that is.
use Rattle.std.proofs.Common.{◌≡◌, ℕ, zero, suc, ◌<◌, ◌≤ℤ◌, ◌⊎◌, List, [], ◌∷◌, length, Some, None, ap, sym, subst, ◌∙◌, inl, inr, arith}
use Rattle.std.specs.Prelude.{slice_get}
use Rattle.std.specs.List.{Contains}
use Rattle.std.proofs.lemmas.List.Elements.{All-contains}
use Rattle.net_model.specs.Network.{Plan, IsPlan, IsLink}
use Rattle.net_model.specs.Edges.{IsLinkOf}
use Rattle.net_model.specs.declared.ids.LinkId.{LinkId}
use Rattle.net_model.specs.declared.ids.PointId.{PointId}
use Rattle.net_model.specs.declared.part.Edge.{Edge}
use Rattle.net_model.specs.declared.part.Link.{Link}
use Rattle.net_model.proofs.RuleLemmas.{no_case_gives, upper_case_gives, lower_case_gives, cross_case_gives, removal_gives}
use Rattle.closure_model.specs.Keys.{key_of, Shape, IsKey, IsLabelAt}
use Rattle.closure_model.specs.Tables.{Graph, IsGraph, IsFor}
use Rattle.closure_model.specs.ReferenceRow.{IsInRow, of_table, by_no_case, by_upper_case, by_lower_case, by_cross_case, by_removal}
use Rattle.closure_model.specs.declared.rows.Made.{Made}
use Rattle.closure_model.proofs.RuleSteps.{no_case_lengthens, upper_case_lengthens, lower_case_lengthens, cross_case_lengthens, removal_lengthens}
use Rattle.closure_model.proofs.Consequences.{IsConsequence, removed, moved, crossed, joined, joined_labelled}
use Rattle.closure_model.proofs.Lists.{Contains-tail}

module _ (net : Plan) (table : Graph) (to : PointId) (plan : IsPlan net) (fits : IsFor net table) (sound : IsGraph table) where
  -- ---- the links of the network
  link_is : (name : LinkId) (link : Link) → IsLinkOf net name link → IsLink net link
  link_is name link declared = All-contains (IsLink net) net.links link plan.links_sound (contained net.links name.0 link declared)
    where
      contained : (links : List Link) (k : ℕ) (l : Link) → slice_get links k ≡ Some l → Contains links l
      contained [] k l at = absurd cc
      contained (x ∷ xs) zero l at = let same : x ≡ l = cc in (0, omega arith, same)
      contained (x ∷ xs) (suc k) l at = Contains-tail x xs l (contained xs k l at)

  points_are : table.shape.points ≡ length net.points
  points_are = ap (λ (s : Shape). s.points) fits

  -- ---- what is derivable in the row
  -- its edges are of keys that there are, and end in the target
  pub record IsThere (edge : Edge) : Type 0 where
    pub key : IsKey table.shape (key_of edge)
    pub ends : edge.to ≡ to

  there_from : (premise edge : Edge) → IsThere premise → edge.from.0 < table.shape.points → edge.to ≡ premise.to → (edge.label ≡ None) ⊎ (edge.label ≡ premise.label) → IsThere edge
  there_from premise edge is begins ends label = record {
    key = record { to_point = rw ends is.key.to_point; from_point = begins; labelled = labelled label };
    ends = ends ∙ is.ends;
  }
    where
      labelled : (edge.label ≡ None) ⊎ (edge.label ≡ premise.label) → IsLabelAt table.shape edge.to edge.label
      labelled (inl none) = rw none tt
      labelled (inr same) = rw (same, ends) is.key.labelled

  link_begins : (name : LinkId) (link : Link) → IsLinkOf net name link → link.from.0 < table.shape.points
  link_begins name link declared = rw points_are (link_is name link declared).from_point

  pub in_row_there : (edge : Edge) → IsInRow net table to edge → IsThere edge
  in_row_there _ (of_table edge has ends) = record { key = sound.keys edge has; ends = ends }
  in_row_there _ (by_no_case first second edge has derived is) =
      let gives = no_case_gives first second edge is in
      let same = gives.is in
      there_from second edge (in_row_there second derived) (subst (λ (e : Edge). e.from.0 < table.shape.points) same (sound.keys first has).from_point) (ap (λ (e : Edge). e.to) (sym same)) (inl (ap (λ (e : Edge). e.label) (sym same)))
  in_row_there _ (by_upper_case first second edge has derived is) =
      let gives = upper_case_gives first second edge is in
      let same = gives.is in
      there_from second edge (in_row_there second derived) (subst (λ (e : Edge). e.from.0 < table.shape.points) same (sound.keys first has).from_point) (ap (λ (e : Edge). e.to) (sym same)) (inr (ap (λ (e : Edge). e.label) (sym same)))
  in_row_there _ (by_lower_case name second edge derived is) =
      let gives = lower_case_gives net name second edge is in
      let same = gives.is in
      there_from second edge (in_row_there second derived) (subst (λ (e : Edge). e.from.0 < table.shape.points) same (link_begins name gives.link gives.declared)) (ap (λ (e : Edge). e.to) (sym same))
      (inr (ap (λ (e : Edge). e.label) (sym same)))
  in_row_there _ (by_cross_case name second edge derived is) =
      let gives = cross_case_gives net name second edge is in
      let same = gives.is in
      there_from second edge (in_row_there second derived) (subst (λ (e : Edge). e.from.0 < table.shape.points) same (link_begins name gives.link gives.declared)) (ap (λ (e : Edge). e.to) (sym same))
      (inr (ap (λ (e : Edge). e.label) (sym same)))
  in_row_there _ (by_removal premise edge derived is) =
      let gives = removal_gives net premise edge is in
      let same = gives.is in
      let whole = in_row_there premise derived in
      there_from premise edge whole (subst (λ (e : Edge). e.from.0 < table.shape.points) same whole.key.from_point) (ap (λ (e : Edge). e.to) (sym same)) (inl (ap (λ (e : Edge). e.label) (sym same)))

  pub consequence_in_row : (premise : Edge) (made : Made) → IsInRow net table to premise → IsConsequence net table premise made → IsInRow net table to made.edge
  consequence_in_row premise made derived (removed is why) = by_removal premise made.edge derived is
  consequence_in_row premise made derived (moved name is why) = by_lower_case name premise made.edge derived is
  consequence_in_row premise made derived (crossed name is why) = by_cross_case name premise made.edge derived is
  consequence_in_row premise made derived (joined first has is why) = by_no_case first premise made.edge has derived is
  consequence_in_row premise made derived (joined_labelled first has is why) = by_upper_case first premise made.edge has derived is

  pub consequence_not_less : (premise : Edge) (made : Made) → IsConsequence net table premise made → premise.weight ≤ℤ made.edge.weight
  consequence_not_less premise made (removed is why) = (removal_lengthens net premise made.edge (removal_gives net premise made.edge is)).not_less
  consequence_not_less premise made (moved name is why) = let gives = lower_case_gives net name premise made.edge is in (lower_case_lengthens net name premise made.edge gives (link_is name gives.link gives.declared).positive).not_less
  consequence_not_less premise made (crossed name is why) = let gives = cross_case_gives net name premise made.edge is in (cross_case_lengthens net name premise made.edge gives (link_is name gives.link gives.declared).positive).not_less
  consequence_not_less premise made (joined first has is why) = (no_case_lengthens first premise made.edge (no_case_gives first premise made.edge is)).not_less
  consequence_not_less premise made (joined_labelled first has is why) = (upper_case_lengthens first premise made.edge (upper_case_gives first premise made.edge is)).not_less

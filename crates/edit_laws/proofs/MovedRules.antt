-- Rules between edges with the numbers of the edited network: what a rule gives from edges, it gives from them with the new numbers.
use Rattle.std.proofs.Common.{◌≡◌, ◌≢◌, Some, ap, ◌∙◌}
use Rattle.std.specs.Option.{option_map, option_map_or}
use Rattle.net_model.specs.Network.{Plan}
use Rattle.net_model.specs.Rules.{no_case, upper_case, lower_case, cross_case, removal}
use Rattle.net_model.specs.declared.ids.LinkId.{LinkId}
use Rattle.net_model.specs.declared.part.Edge.{Edge}
use Rattle.net_model.proofs.RuleLemmas.{no_case_gives, upper_case_gives, lower_case_gives, cross_case_gives, removal_gives}
use Rattle.net_model.proofs.AppliedRuleLemmas.{no_case_applies, upper_case_applies, lower_case_applies, cross_case_applies, removal_applies}
use Rattle.edit_laws.specs.KeptLists.{Renumbering, IsRenumbering, moved_label, moved_edge, moved_link}

module _ (old new : Plan) (moves : Renumbering) (is : IsRenumbering old new moves) where
  pub no_case_moved : (one two edge : Edge) → no_case one two ≡ Some edge → no_case (moved_edge moves one) (moved_edge moves two) ≡ Some (moved_edge moves edge)
  no_case_moved one two edge gave =
      let gives = no_case_gives one two edge gave in
      no_case_applies (moved_edge moves one) (moved_edge moves two) (ap (option_map (moved_label moves)) gives.first_ordinary) (ap (option_map (moved_label moves)) gives.second_ordinary)
      (ap moves.points gives.meeting) gives.negative
      ∙ ap (λ (e : Edge). Some (moved_edge moves e)) gives.is

  pub upper_case_moved : (one two edge : Edge) → upper_case one two ≡ Some edge → upper_case (moved_edge moves one) (moved_edge moves two) ≡ Some (moved_edge moves edge)
  upper_case_moved one two edge gave =
      let gives = upper_case_gives one two edge gave in
      upper_case_applies (moved_edge moves one) (moved_edge moves two) (moved_label moves gives.label) (ap (option_map (moved_label moves)) gives.first_ordinary)
      (ap (option_map (moved_label moves)) gives.second_labelled) (ap moves.points gives.meeting) gives.negative
      ∙ ap (λ (e : Edge). Some (moved_edge moves e)) gives.is

  pub lower_case_moved : (name place : LinkId) (two edge : Edge) → moves.links name ≡ Some place → lower_case old name two ≡ Some edge → lower_case new place (moved_edge moves two) ≡ Some (moved_edge moves edge)
  lower_case_moved name place two edge kept gave =
      let gives = lower_case_gives old name two edge gave in
      lower_case_applies new place (moved_link moves gives.link) (moved_edge moves two) (is.links name place gives.link kept gives.declared)
      (ap (option_map (moved_label moves)) gives.second_ordinary) (ap moves.points gives.begins) gives.negative
      ∙ ap (λ (e : Edge). Some (moved_edge moves e)) gives.is

  pub cross_case_moved : (name place : LinkId) (two edge : Edge) → moves.links name ≡ Some place → ((label : LinkId) → two.label ≡ Some label → (number : LinkId) × (moves.links label ≡ Some number))
      → cross_case old name two ≡ Some edge → cross_case new place (moved_edge moves two) ≡ Some (moved_edge moves edge)
  cross_case_moved name place two edge kept labels gave =
      let gives = cross_case_gives old name two edge gave in
      let (number, label_kept) = labels gives.label gives.second_labelled in
      let label_is : moved_label moves gives.label ≡ number = ap (λ o. option_map_or (λ (p : LinkId). p) o gives.label) label_kept in
      let other : number ≢ place = λ same. gives.another (is.apart gives.label name place (label_kept ∙ ap Some same) kept) in
      cross_case_applies new place (moved_link moves gives.link) (moved_edge moves two) number (is.links name place gives.link kept gives.declared)
      (ap (option_map (moved_label moves)) gives.second_labelled ∙ ap Some label_is) other (ap moves.points gives.begins) gives.negative
      ∙ ap (λ (e : Edge). Some (moved_edge moves e)) gives.is

  pub removal_moved : (one edge : Edge) → ((label : LinkId) → one.label ≡ Some label → (number : LinkId) × (moves.links label ≡ Some number))
      → removal old one ≡ Some edge → removal new (moved_edge moves one) ≡ Some (moved_edge moves edge)
  removal_moved one edge labels gave =
      let gives = removal_gives old one edge gave in
      let (number, label_kept) = labels gives.name gives.labelled in
      let label_is : moved_label moves gives.name ≡ number = ap (λ o. option_map_or (λ (p : LinkId). p) o gives.name) label_kept in
      removal_applies new (moved_edge moves one) number (moved_link moves gives.link) (is.links gives.name number gives.link label_kept gives.declared)
      (ap (option_map (moved_label moves)) gives.labelled ∙ ap Some label_is)
      ∙ ap (λ (e : Edge). Some (moved_edge moves e)) gives.is

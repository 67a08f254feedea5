-- The link that ends in a point: as it is found among the links, and by its number.
use Rattle.std.proofs.Common.{◌≡◌, ◌⊎◌, true, List, length, Option, Some, None, is_some, refl, ap, sym, subst, ◌∙◌, inl, inr}
use Rattle.std.specs.Prelude.{◌==◌, slice_get}
use Rattle.std.specs.List.{Contains}
use Rattle.std.proofs.lemmas.Bool.{eqb-true, eq-eqb, true≢false}
use Rattle.std.proofs.lemmas.List.Elements.{All-contains}
use Rattle.std.proofs.lemmas.Option.{none-some, same_Some, slice_get_read, slice_get_within, get_or_from_slice_get}
use Rattle.net_model.specs.Network.{Plan, IsPlan, IsLink, IsPoint, IsContingent, IsExecutable, activation}
use Rattle.net_model.specs.Edges.{IsLinkOf}
use Rattle.net_model.specs.declared.ids.PointId.{PointId}
use Rattle.net_model.specs.declared.ids.LinkId.{LinkId}
use Rattle.net_model.specs.declared.part.Link.{Link}
use Rattle.closure_model.proofs.OrderLemmas.{IsFound, find_some, find_none}
use Rattle.closure_model.proofs.Consequences.{ends_there}
use Rattle.strategy_model.proofs.MomentLemmas.{same_from_number}
use Rattle.strategy_model.proofs.KindLemmas.{Ending, kind_of_any, not_ending}
use Rattle.execution_model.specs.Execution.{Setting, link_to}

module _ (net : Plan) (setting : Setting) (links : setting.links ≡ net.links) where
  -- the link that is found has a number, and ends in the point
  pub link_to_is_link : (point : PointId) (link : Link) → link_to setting point ≡ Some link → (name : LinkId) × IsLinkOf net name link × (link.to ≡ point)
  link_to_is_link point link ends =
      let found : IsFound (λ (l : Link). l.to.0 == point.0) setting.links link = find_some (λ (l : Link). l.to.0 == point.0) setting.links link ends in
      let (k, inside, at) = subst (λ (all : List Link). Contains all link) links found.inside in
      (record { 0 = k }, slice_get_read net.links (length net.links) k link refl inside (sym at), same_from_number link.to point (eqb-true link.to.0 point.0 found.passes))

  -- such a link is sound
  pub link_to_is_sound : IsPlan net → (point : PointId) (link : Link) → link_to setting point ≡ Some link → IsLink net link
  link_to_is_sound plan point link ends =
      let found : IsFound (λ (l : Link). l.to.0 == point.0) setting.links link = find_some (λ (l : Link). l.to.0 == point.0) setting.links link ends in
      All-contains (IsLink net) net.links link plan.links_sound (subst (λ (all : List Link). Contains all link) links found.inside)

  -- the point of a link that is found is a point of the network
  pub link_to_is_point : IsPlan net → (point : PointId) (link : Link) → link_to setting point ≡ Some link → IsPoint net point
  link_to_is_point plan point link ends =
      let (name, declared, same) = link_to_is_link point link ends in
      subst (IsPoint net) same (link_to_is_sound plan point link ends).to_point

  -- a link of a number is found at the point in which it ends
  pub link_of_is_link_to : IsPlan net → (name : LinkId) (link : Link) (point : PointId) → IsLinkOf net name link → link.to ≡ point → link_to setting point ≡ Some link
  link_of_is_link_to plan name link point declared ends = by (link_to setting point) refl
    where
      passes : link.to.0 == point.0 ≡ true
      passes = eq-eqb link.to.0 point.0 (ap (λ (p : PointId). p.0) ends)

      inside : Contains setting.links link
      inside = subst (λ (all : List Link). Contains all link) (sym links) (name.0, slice_get_within net.links name.0 link declared, get_or_from_slice_get net.links name.0 link link declared)

      by : (o : Option Link) → link_to setting point ≡ o → link_to setting point ≡ Some link
      by None none = absurd (true≢false (sym passes ∙ find_none (λ (l : Link). l.to.0 == point.0) setting.links link none inside))
      by (Some other) some =
          let (number, stands, at) = link_to_is_link point other some in
          let named : Some number ≡ Some name = sym (ends_there net plan number other point stands (sym at)) ∙ ends_there net plan name link point declared (sym ends) in
          let same : number ≡ name = same_Some number name named in
          some ∙ (sym stands ∙ ap (λ (n : LinkId). slice_get net.links n.0) same ∙ declared)

  -- at a contingent point a link is found
  pub contingent_has_link : IsPlan net → (point : PointId) → IsContingent net point → (link : Link) × (link_to setting point ≡ Some link)
  contingent_has_link plan point contingent = by (kind_of_any net point)
    where
      by : (activation net point ≡ None) ⊎ Ending net point → (link : Link) × (link_to setting point ≡ Some link)
      by (inl none) = absurd (true≢false (sym contingent ∙ ap is_some none))
      by (inr ending) = (ending.link, link_of_is_link_to plan ending.name ending.link point ending.declared ending.ends)

  -- and if a link is found, the point is contingent
  pub link_is_contingent : IsPlan net → (point : PointId) (link : Link) → link_to setting point ≡ Some link → IsContingent net point
  link_is_contingent plan point link ends =
      let (name, declared, same) = link_to_is_link point link ends in
      ap is_some (ends_there net plan name link point declared (sym same))

  -- at an executable point none is found
  pub executable_has_none : (point : PointId) → IsExecutable net point → link_to setting point ≡ None
  executable_has_none point executable = by (link_to setting point) refl
    where
      by : (o : Option Link) → link_to setting point ≡ o → link_to setting point ≡ None
      by None none = none
      by (Some link) some =
          let (name, declared, same) = link_to_is_link point link some in
          absurd (not_ending net point executable (record { name = name; link = link; declared = declared; ends = same }))

  -- and if none is found, a point of the network is executable
  pub none_is_executable : IsPlan net → (point : PointId) → IsPoint net point → link_to setting point ≡ None → IsExecutable net point
  none_is_executable plan point within none = by (kind_of_any net point)
    where
      by : (activation net point ≡ None) ⊎ Ending net point → IsExecutable net point
      by (inl free) = (within, ap is_some free)
      by (inr ending) =
          let found : link_to setting point ≡ Some ending.link = link_of_is_link_to plan ending.name ending.link point ending.declared ending.ends in
          absurd (none-some ending.link (sym none ∙ found))

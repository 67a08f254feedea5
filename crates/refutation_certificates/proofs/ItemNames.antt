-- The names of bounds and links stand for them.
use Rattle.std.proofs.Common.{◌≡◌, ◌≢◌, ℕ, ◌<◌, ◌==◌, true, false, [], length, get_or, Option, Some, ap, sym, ◌∙◌, arith}
use Rattle.std.specs.Prelude.{slice_get}
use Rattle.std.specs.Option.{option_map, option_map_or, option_and_then}
use Rattle.std.specs.Str.{bytes_eq}
use Rattle.std.proofs.lemmas.Bool.{ne_eqb}
use Rattle.std.proofs.lemmas.Bool.Decides.{nat_tests}
use Rattle.std.proofs.lemmas.Option.{slice_get_within, get_or_from_slice_get, same_Some}
use Rattle.net_model.specs.Network.{Plan, IsPlan, IsLink, point_named, bound_named, activation, link_named as link_id}
use Rattle.net_model.specs.declared.ids.PointId.{PointId}
use Rattle.net_model.specs.declared.ids.LinkId.{LinkId}
use Rattle.net_model.specs.declared.ids.BoundId.{BoundId}
use Rattle.net_model.specs.declared.part.Bound.{Bound}
use Rattle.net_model.specs.declared.part.Link.{Link}
use Rattle.closure_model.proofs.DerivableEdges.{link_at}
use Rattle.cert_checker.specs.Lines.{link_named, bound_of}
pub use Rattle.cert_checker.proofs.PartNames.{named_point, has_name}
use Rattle.cert_checker.proofs.PartNames.{named_bound, bytes_differ}
use Rattle.net_model.specs.NetworkParts.{point_name}
use Rattle.net_model.proofs.Positions.{position_first}
use Rattle.refutation_certificates.specs.Certificates.{bound_name, link_name}

module _ (net : Plan) (plan : IsPlan net) where
  -- the name of a bound stands for it
  pub bound_known : (id : BoundId) (bound : Bound) → slice_get net.bounds id.0 ≡ Some bound → (bound_named net (bound_name net id) ≡ Some id) × (bound_of net (bound_name net id) ≡ Some bound)
  bound_known id bound here =
      let name : bound_name net id ≡ bound.name = ap (λ (o : Option Bound). option_map_or (λ (b : Bound). b.name) o []) here in
      let named : bound_named net (bound_name net id) ≡ Some id = ap (bound_named net) name ∙ named_bound net plan id bound here in
      (named, ap (option_and_then (λ (b : BoundId). slice_get net.bounds b.0)) named ∙ here)

  ends_there : (id : LinkId) (link : Link) → slice_get net.links id.0 ≡ Some link → activation net link.to ≡ Some id
  ends_there id link here =
      let at : get_or net.links id.0 link ≡ link = get_or_from_slice_get net.links id.0 link link here in
      let inside : id.0 < length net.links = slice_get_within net.links id.0 link here in
      let number : (get_or net.links id.0 link).to.0 ≡ link.to.0 = ap (λ (l : Link). l.to.0) at in
      let passes : ((get_or net.links id.0 link).to.0 == link.to.0) ≡ true = grind (arith, nat_tests) in
      let fails : (j : ℕ) → j < id.0 → ((get_or net.links j link).to.0 == link.to.0) ≡ false = λ j below. ne_eqb (get_or net.links j link).to.0 link.to.0 (λ same. plan.links_apart j id.0 link below inside (same ∙ sym number)) in
      ap (option_map (λ (k : ℕ). record { 0 = k })) (position_first (λ (l : Link). l.to.0 == link.to.0) net.links id.0 link inside passes fails)

  -- the name of a link stands for it
  pub link_known : (id : LinkId) (link : Link) → slice_get net.links id.0 ≡ Some link → (link_id net (link_name net id) ≡ Some id) × (link_named net (link_name net id) ≡ Some link)
  link_known id link here =
      let sound : IsLink net link = link_at net plan id link here in
      let name : link_name net id ≡ point_name net.points link.to = ap (λ (o : Option Link). option_map_or (λ (l : Link). point_name net.points l.to) o []) here in
      let named : point_named net (link_name net id) ≡ Some link.to = ap (point_named net) name ∙ named_point net plan link.to sound.to_point in
      let ends : activation net link.to ≡ Some id = ends_there id link here in (
        ap (option_and_then (activation net)) named ∙ ends,
        ap (option_and_then (λ (point : PointId). option_and_then (λ (l : LinkId). slice_get net.links l.0) (activation net point))) named
            ∙ (ap (option_and_then (λ (l : LinkId). slice_get net.links l.0)) ends ∙ here),
      )

  -- two links have two names
  pub links_differ : (one two : LinkId) (first second : Link) → slice_get net.links one.0 ≡ Some first → slice_get net.links two.0 ≡ Some second → one ≢ two → bytes_eq (link_name net one) (link_name net two) ≡ false
  links_differ one two first second here there apart =
      let first_known = link_known one first here in
      let second_known = link_known two second there in
      bytes_differ (link_name net one) (link_name net two) (λ same. apart (same_Some one two (sym first_known.0 ∙ (ap (link_id net) same ∙ second_known.0))))

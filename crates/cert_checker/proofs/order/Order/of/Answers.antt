use Rattle.std.proofs.Common.{◌≡◌, List, ap, sym, refl, ◌∙◌, subst}
use Rattle.std.specs.Prelude.{is_some}
use Rattle.std.specs.List.{list_all}
use Rattle.std.proofs.lemmas.Result.{err_from_is_err_and}
use Rattle.net_model.specs.declared.ids.PointId.{PointId}
use Rattle.cert_checker.specs.TestOutcomes.{RefusesItem, twice, missing}
use Rattle.cert_checker.specs.Orders.{ArePlacesOf}
use Rattle.cert_checker.specs.TableRefusals.{stands_before}
use Rattle.cert_checker.specs.Tables.{is_complete}
use Rattle.cert_checker.specs.declared.judgement.CertFault.TheVariants.{OrderBroken}
use Rattle.cert_checker.proofs.TestOutcomeLemmas.{failure_propagates}
use Rattle.cert_checker.proofs.OrderLemmas.{complete_by}
use Rattle.cert_checker.proofs.order.Order.of.Goals as goal

pub returns-in_err-places : goal.returns-in_err-places
returns-in_err-places c =
    let p = err_from_is_err_and c.from_residual.result c.from_residual.ensures.1 in
    rw (p.1, p.2) (failure_propagates c.in_err-places.field-0.0 _ _ _ _ c.in_err-places.ensures (λ refused again. twice refused
    (subst (λ (o : List PointId). RefusesItem (stands_before o) 1 OrderBroken o refused) c.as_slice.ensures.value again)))

pub returns-then-not-are_there : goal.returns-then-not-are_there
returns-then-not-are_there c =
    let net = c.args.net.now in
    let order = c.args.points.items in
    let places = c.in_ok-places.places.items in
    let are : ArePlacesOf net order places = subst (λ (o : List PointId). ArePlacesOf net o places) c.as_slice.ensures.value c.in_ok-places.ensures in
    let there : list_all is_some places ≡ is_complete net order = complete_by net order places are.count are.of_each in
    missing are.once (sym there ∙ (sym (ap (list_all is_some) c.as_slice-2.ensures.value) ∙ (sym c.are_there.ensures ∙ c.if-not-are_there.true)))

pub returns : goal.returns
returns c =
    let net = c.args.net.now in
    let order = c.args.points.items in
    let places = c.in_ok-places.places.items in
    let are : ArePlacesOf net order places = subst (λ (o : List PointId). ArePlacesOf net o places) c.as_slice.ensures.value c.in_ok-places.ensures in
    let there : list_all is_some places ≡ is_complete net order = complete_by net order places are.count are.of_each in
    (refl, record { once = are.once; complete = sym there ∙ (sym (ap (list_all is_some) c.as_slice-2.ensures.value) ∙ (sym c.are_there.ensures ∙ c.if-not-are_there.false)) })

use Rattle.std.proofs.Common.{◌≡◌, List, sym, subst}
use Rattle.std.specs.Prelude.{IfOk}
use Rattle.net_model.specs.declared.ids.PointId.{PointId}
use Rattle.closure_model.specs.Derivations.{Support}
use Rattle.closure_model.specs.Orders.{placed_points}
use Rattle.closure_model.specs.Tables.{Graph}
use Rattle.parallel_rounds.specs.Propagated.{IsPropagated}
use Rattle.refutation_certificates.specs.Certificates.{IsCertificateBy}
use Rattle.network_refutation.proofs.RoundsLemmas.{closed_well, looped_certifies_if_ok}
use Rattle.network_refutation.proofs.rounds_certificate.certify_by_whole_list.Goals as goal

pub prove-requires-clause-placed : goal.prove-requires-clause-placed
prove-requires-clause-placed g c =
    let net = c.args.net.now in
    let after = c.propagate.new.store in
    let outcome = c.in_ok-order.field-0 in
    let propagated = subst (λ (base : Support). IsPropagated net base after outcome) c.in_ok-store.ensures.base c.in_ok-order.ensures in
    let well = closed_well net after outcome propagated c.in-Closed.rounds c.in-Closed.order c.in-Closed.is in
    subst (λ (order : List PointId). order ≡ placed_points c.table.result.now) (sym c.as_slice.ensures) (subst (λ (table : Graph). c.in-Closed.order ≡ placed_points table) (sym c.table.ensures) well.2)

pub returns : goal.returns
returns g c =
    let net = c.args.net.now in
    let after = c.propagate.new.store in
    let outcome = c.in_ok-order.field-0 in
    let propagated = subst (λ (base : Support). IsPropagated net base after outcome) c.in_ok-store.ensures.base c.in_ok-order.ensures in
    let by = subst (λ (cycle : List PointId). IfOk c.refutation.result (IsCertificateBy net after.nodes cycle)) c.as_slice-in-Looped.ensures c.refutation.ensures.refutes in
    looped_certifies_if_ok net after outcome propagated c.law_standing_cycles_exclude.ensures c.sound.ensures c.requires.no_delay c.in-Looped.rounds c.in-Looped.cycle c.in-Looped.is
    c.refutation.result by c.refutation.ensures.accepted c.refutation.ensures.weights

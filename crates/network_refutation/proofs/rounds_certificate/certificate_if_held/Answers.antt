use Rattle.std.proofs.Common.{◌≡◌, List, Option, sym, subst}
use Rattle.std.specs.Prelude.{IfOk, IfSome}
use Rattle.net_model.specs.declared.ids.PointId.{PointId}
use Rattle.closure_model.specs.Orders.{placed_points}
use Rattle.closure_model.specs.Tables.{Graph}
use Rattle.cert_format.specs.declared.certificate.Certificate.{Certificate}
use Rattle.refutation_certificates.specs.Certificates.{IsCertificateBy}
use Rattle.network_refutation.proofs.RoundsLemmas.{closed_well, looped_certifies_if_held}
use Rattle.network_refutation.proofs.rounds_certificate.certificate_if_held.Goals as goal

pub prove-requires-clause-placed : goal.prove-requires-clause-placed
prove-requires-clause-placed c =
    let well = closed_well c.args.net.now c.args.store.now c.args.outcome.now c.requires.propagated c.in-Closed.rounds c.in-Closed.order c.in-Closed.is in
    subst (λ (order : List PointId). order ≡ placed_points c.table.result.now) (sym c.as_slice.ensures) (subst (λ (table : Graph). c.in-Closed.order ≡ placed_points table) (sym c.table.ensures) well.2)

pub returns-in-Looped : goal.returns-in-Looped
returns-in-Looped c =
    let made = c.refutation_if_held in
    let by = subst (λ (cycle : List PointId). IfOk made.result (λ (held : Option Certificate). IfSome held (IsCertificateBy c.args.net.now c.args.store.now.nodes cycle))) c.as_slice-in-Looped.ensures made.ensures.refutes in
    looped_certifies_if_held c.args.net.now c.args.store.now c.args.outcome.now c.requires.propagated c.law_standing_cycles_exclude.ensures c.sound.ensures c.requires.no_delay c.in-Looped.rounds c.in-Looped.cycle c.in-Looped.is
    made.result by made.ensures.accepted made.ensures.weights

use Rattle.std.proofs.Common.{List, ap, sym, subst}
use Rattle.std.specs.Prelude.{IfOk}
use Rattle.net_model.specs.Network.{Plan}
use Rattle.net_model.specs.declared.ids.PointId.{PointId}
use Rattle.strategy_model.specs.Plays.{IsInstant}
use Rattle.parallel_rounds.specs.Propagated.{ending_of}
use Rattle.refutation_certificates.specs.Certificates.{IsCertificateBy}
use Rattle.closure_certificates.specs.Certified.{Certifies}
use Rattle.plan_session.specs.Kept.{opened_of}
use Rattle.plan_session.specs.Sessions.{Opens}
use Rattle.plan_session.proofs.SessionLemmas.{opens_certifies, shown_instant}
use Rattle.plan_session.proofs.propagated.Propagated.certificate.Goals as goal

pub returns-in-Looped : goal.returns-in-Looped
returns-in-Looped g c =
    let net = c.args.network.now.net in
    let shown = c.shown-shown.result.now in
    let kept = opened_of c.args.self.now in
    let made = c.refutation in
    let opens = subst (λ (n : Plan). Opens n kept) (sym c.shown-shown.ensures) (c.requires.base c.if-self.true) in
    let instant = subst IsInstant (sym c.shown-shown.ensures) (shown_instant net c.sound.ensures) in
    let by = subst (λ (cycle : List PointId). IfOk made.result (IsCertificateBy shown kept.support.nodes cycle)) c.as_slice-in-Looped.ensures made.ensures.refutes in
    subst (λ (n : Plan). IfOk made.result (Certifies n)) c.shown-shown.ensures
    (opens_certifies shown kept c.in-Looped.cycle made.result c.law_standing_cycles_exclude.ensures instant opens (ap ending_of c.in-Looped.is) by made.ensures.accepted made.ensures.weights)

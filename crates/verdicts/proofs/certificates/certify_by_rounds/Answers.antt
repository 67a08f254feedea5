use Rattle.std.proofs.Common.{ap, subst}
use Rattle.std.specs.Prelude.{IfOk}
use Rattle.net_model.specs.Network.{Plan}
use Rattle.closure_certificates.specs.Certified.{Certifies}
use Rattle.verdicts.proofs.certificates.certify_by_rounds.Goals as goal

pub certify-requires-clause-no_delay : goal.certify-requires-clause-no_delay
certify-requires-clause-no_delay g c = λ lifetimes lives. ap (λ (net : Plan). net.delay) c.in_ok-shown.ensures

pub returns : goal.returns
returns g c = subst (λ (net : Plan). IfOk c.certify.result (Certifies net)) c.in_ok-shown.ensures c.certify.ensures

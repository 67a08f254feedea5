use Rattle.std.proofs.Common.{◌≡◌, sym, subst}
use Rattle.std.proofs.lemmas.Result.{IfOk-weaker}
use Rattle.cert_format.specs.declared.certificate.Certificate.{Certificate}
use Rattle.closure_certificates.specs.Certified.{Proves}
use Rattle.closure_certificates.specs.TableProofs.{table_proof_of}
use Rattle.network_refutation.proofs.proving.prove.Goals as goal

pub returns : goal.returns
returns c =
    let net = c.args.net.now in
    let table = c.args.table.now in
    let order = c.args.order.now in
    let controls = c.law_ordered_closures_are_controllable.ensures net table order (record { sound = c.sound.ensures; no_delay = c.requires.no_delay }) c.requires.closure c.requires.order in
    let proves = c.law_table_proofs_prove.ensures net table order c.sound.ensures controls c.requires.closure c.requires.order c.requires.placed in
    IfOk-weaker c.table_proof.result (λ (cert : Certificate). cert ≡ table_proof_of net table order) (Proves net) (λ cert is. subst (Proves net) (sym is) proves) c.table_proof.ensures.proof

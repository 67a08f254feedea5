use Rattle.std.proofs.Common.{◌≡◌, List, true, subst}
use Rattle.std.proofs.lemmas.Result.{IfOk-weaker}
use Rattle.net_model.specs.declared.ids.PointId.{PointId}
use Rattle.closure_certificates.specs.TableProofs.{table_proof_of}
use Rattle.check_command.specs.CheckAnswers.{PutsYes}
use Rattle.common_answers.specs.VerdictLines.{PutsProved}
use Rattle.verdicts.proofs.VerdictLemmas.{table_proof_proves}
use Rattle.check_command.proofs.check_question.put_proof.Goals as goal

pub returns : goal.returns
returns c =
    let net = c.args.net.now in
    let shown = c.args.shown.now in
    let closed = c.args.closed.now in
    let cert = c.in_ok-certificate.certificate in
    let put = c.put_proved.new.answer.text in
    let is = subst (λ (order : List PointId). cert ≡ table_proof_of shown closed.table order) c.as_slice.ensures c.in_ok-certificate.ensures.proof in
    let proves = table_proof_proves c.law_table_proofs_prove.ensures c.law_controllable_is_shown.ensures net shown closed cert c.sound.ensures c.requires.verdict is in
    IfOk-weaker c.put_proved.result (PutsProved cert put) (PutsYes true net put) (λ end puts. (cert, proves, puts)) c.put_proved.ensures

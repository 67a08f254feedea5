use Rattle.std.proofs.Common.{◌≡◌, List, ℕ, sym, ap, ◌∙◌}
use Rattle.std.proofs.lemmas.Result.{IfOk-weaker}
use Rattle.cert_format.specs.declared.certificate.Certificate.TheVariants.{TableProof}
use Rattle.cert_format.specs.declared.entry.Entry.{Entry}
use Rattle.cert_checker.specs.Judgement.{judgement_of}
use Rattle.cert_checker.proofs.JudgedLemmas.{judged_so}
use Rattle.cert_checker.proofs.certificate_judge.judgement_of.Goals as goal

pub returns-in-TableProof-clause-judged : goal.returns-in-TableProof-clause-judged
returns-in-TableProof-clause-judged g c =
    let net = c.args.net in
    let order = c.as_slice-in-TableProof.result.now in
    let entries = c.as_slice-in-TableProof-2.result.now in
    let same : judgement_of net (TableProof order entries) ≡ judgement_of net c.args.cert.now =
    ap (λ (o : List (List ℕ)). judgement_of net (TableProof o entries)) c.as_slice-in-TableProof.ensures
    ∙ ap (λ (es : List Entry). judgement_of net (TableProof c.in-TableProof.order es)) c.as_slice-in-TableProof-2.ensures
    ∙ ap (judgement_of net) (sym c.in-TableProof.is) in
    IfOk-weaker c.judge_table.result _ _ (λ judgement reported. judged_so net order entries judgement reported ∙ same) c.judge_table.ensures

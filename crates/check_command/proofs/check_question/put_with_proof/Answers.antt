use Rattle.std.proofs.Common.{true, inl, inr, subst}
use Rattle.std.proofs.lemmas.Result.{IfOk-weaker}
use Rattle.net_model.specs.Network.{Plan}
use Rattle.command_engine.specs.declared.endings.End.{End}
use Rattle.check_command.specs.CheckAnswers.{PutsYes, puts_verdict}
use Rattle.verdicts.specs.Decisions.{IsOrderedClosure}
use Rattle.verdicts.specs.Verdict.{IsVerdictBy}
use Rattle.common_answers.specs.VerdictLines.{PutsRefuted}
use Rattle.verdicts.specs.declared.verdict.Verdict.TheVariants.{Controllable, Refuted}
use Rattle.check_command.proofs.check_question.put_with_proof.Goals as goal

pub put_proof-requires : goal.put_proof-requires
put_proof-requires g c = record { verdict = (subst (IsVerdictBy IsOrderedClosure c.args.net) c.in-Controllable.is c.in_ok-stated.ensures).1 }

pub returns-in-Controllable : goal.returns-in-Controllable
returns-in-Controllable g c =
    let stated = c.in-Controllable.stated in
    let put = c.put_proof.new.answer.text in
    let verdict : IsVerdictBy IsOrderedClosure c.args.net (Controllable stated c.in-Controllable.shown c.in-Controllable.closed) =
    subst (IsVerdictBy IsOrderedClosure c.args.net) c.in-Controllable.is c.in_ok-stated.ensures in
    IfOk-weaker c.put_proof.result (PutsYes true stated put) (puts_verdict true c.args.net put)
    (λ (end : End) puts. subst (λ (n : Plan). puts_verdict true n put end) verdict.0 (inl (verdict.1.controllable, puts))) c.put_proof.ensures

pub returns-in-Refuted : goal.returns-in-Refuted
returns-in-Refuted g c =
    let net = c.args.net in
    let cert = c.in-Refuted.certificate in
    let put = c.put_refuted.new.answer.text in
    let verdict : IsVerdictBy IsOrderedClosure net (Refuted cert) = subst (IsVerdictBy IsOrderedClosure net) c.in-Refuted.is c.in_ok-stated.ensures in
    IfOk-weaker c.put_refuted.result (λ (end : End). PutsRefuted cert put end) (puts_verdict true net put) (λ end puts. inr (verdict.0, (cert, verdict.1, puts))) c.put_refuted.ensures

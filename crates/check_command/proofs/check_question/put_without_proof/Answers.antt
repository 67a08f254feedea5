use Rattle.std.proofs.Common.{false, inl, inr, subst}
use Rattle.std.proofs.lemmas.Result.{IfOk-weaker}
use Rattle.command_engine.specs.declared.endings.End.{End}
use Rattle.check_command.specs.CheckAnswers.{puts_verdict}
use Rattle.verdicts.specs.Verdict.{IsRefutedBy}
use Rattle.common_answers.specs.VerdictLines.{PutsControllable, PutsRefuted}
use Rattle.check_command.proofs.check_question.put_without_proof.Goals as goal

pub returns-in-None : goal.returns-in-None
returns-in-None g c =
    let put = c.put_controllable.new.answer.text in
    let controls = subst (IsRefutedBy c.args.net) c.in-None.is c.in_ok-refutation.ensures in
    IfOk-weaker c.put_controllable.result (λ (end : End). PutsControllable put end) (puts_verdict false c.args.net put) (λ end puts. inl (controls, puts)) c.put_controllable.ensures

pub returns-in-Some : goal.returns-in-Some
returns-in-Some g c =
    let cert = c.in-Some.certificate in
    let put = c.put_refuted.new.answer.text in
    let refuted = subst (IsRefutedBy c.args.net) c.in-Some.is c.in_ok-refutation.ensures in
    IfOk-weaker c.put_refuted.result (λ (end : End). PutsRefuted cert put end) (puts_verdict false c.args.net put) (λ end puts. inr (refuted.0, (cert, refuted.1, puts))) c.put_refuted.ensures

use Rattle.std.proofs.Common.{◌≡◌, ◌++◌, subst, inr}
use Rattle.std.proofs.lemmas.Result.{IfOk-weaker}
use Rattle.cert_format.specs.StrongWords.{printed_strong}
use Rattle.command_engine.specs.declared.endings.End.TheVariants as ends
use Rattle.strong_plan.specs.Answers.{IsStrongAnswer, IsStrongRefutation}
use Rattle.strong_command.specs.StrongAnswers.{PutsStrong, not_strong_line}
use Rattle.strong_command.proofs.strong_question.put_strong.Goals as goal

pub strong-requires : goal.strong-requires
strong-requires c = c.law_plan_numbers_are_shown.ensures _ c.requires.numbers

pub returns-in-Refuted : goal.returns-in-Refuted
returns-in-Refuted c =
    let net = c.args.net.now in
    let cert = c.in-Refuted.cert in
    let put = c.put_refutation.new.answer.text in
    let refutes : IsStrongRefutation net cert = subst (IsStrongAnswer net) c.in-Refuted.is c.in_ok-times.ensures.answers in
    IfOk-weaker c.put_refutation.result (λ end. (put ≡ not_strong_line ++ printed_strong cert) × (end ≡ ends.Refused)) (PutsStrong net put)
    (λ end puts. inr (record { cert = cert; refutes = refutes; is = puts.0; refused = puts.1 })) c.put_refutation.ensures

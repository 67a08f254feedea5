use Rattle.std.proofs.Common.{IfOk, inl, inr, subst}
use Rattle.std.proofs.lemmas.Result.{IfOk-weaker}
use Rattle.net_model.specs.Network.{Plan}
use Rattle.command_engine.specs.declared.endings.End.{End}
use Rattle.play_command.specs.PlayCommand.{PutsTimes, play_answers}
use Rattle.verdicts.specs.Decisions.{IsOrderedForwardTable}
use Rattle.verdicts.specs.Verdict.{IsVerdictBy}
use Rattle.common_answers.specs.VerdictLines.{PutsRefuted}
use Rattle.play_command.specs.declared.plan_day.PlayWords.{PlayWords}
use Rattle.verdicts.specs.declared.verdict.Verdict.TheVariants.{Controllable, Refuted}
use Rattle.play_command.proofs.plan_day.put_day.Goals as goal

pub put_times-requires : goal.put_times-requires
put_times-requires g c = record { verdict = (subst (IsVerdictBy IsOrderedForwardTable c.args.net) c.in-Controllable.is c.in_ok-stated.ensures).1 }

pub returns-in-Controllable : goal.returns-in-Controllable
returns-in-Controllable g c =
    let stated = c.in-Controllable.stated in
    let put = c.put_times.new.answer.text in
    let words = c.args.play.now in
    let verdict : IsVerdictBy IsOrderedForwardTable c.args.net (Controllable stated c.in-Controllable.shown c.in-Controllable.closed) = subst (IsVerdictBy IsOrderedForwardTable c.args.net) c.in-Controllable.is c.in_ok-stated.ensures in
    IfOk-weaker c.put_times.result (PutsTimes words.which stated put) (play_answers words c.args.net put)
    (λ (end : End) puts. subst (λ (n : Plan). play_answers words n put end) verdict.0 (inl (verdict.1.controllable, puts)))
    (subst (λ (w : PlayWords). IfOk c.put_times.result (PutsTimes w.which stated put)) c.play.view_is c.put_times.ensures)

pub returns-in-Refuted : goal.returns-in-Refuted
returns-in-Refuted g c =
    let net = c.args.net in
    let cert = c.in-Refuted.certificate in
    let put = c.put_refuted.new.answer.text in
    let verdict : IsVerdictBy IsOrderedForwardTable net (Refuted cert) = subst (IsVerdictBy IsOrderedForwardTable net) c.in-Refuted.is c.in_ok-stated.ensures in
    IfOk-weaker c.put_refuted.result (λ (end : End). PutsRefuted cert put end) (play_answers c.args.play.now net put) (λ end puts. inr (verdict.0, (cert, verdict.1, puts))) c.put_refuted.ensures

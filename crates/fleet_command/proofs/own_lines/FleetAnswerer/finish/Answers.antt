use Rattle.std.proofs.Common.{◌≡◌, ◌≤◌, length, sym, ◌∙◌, subst}
use Rattle.net_model.specs.Network.{Plan}
use Rattle.command_engine.specs.declared.machines.Flow.TheVariants.{Finish}
use Rattle.event_phase.specs.EventPhase.{AnswersEnd, answer_capacity, EndsAmong}
use Rattle.plan_fleet.specs.FleetPlans.{FleetPlan}
use Rattle.fleet_command.proofs.ReportedLineLemmas.{FinishedAt, at_here, finished_among, finished_at, finished_changes, finished_idle, finished_net, finished_size}
use Rattle.fleet_command.proofs.own_lines.FleetAnswerer.finish.Goals as goal

pub put_end-requires-clause-points : goal.put_end-requires-clause-points
put_end-requires-clause-points c =
    let fleet = c.args.self.now.fleet in
    let after = c.finish.new.self in
    let place = c.args.place in
    let at : FinishedAt fleet place c.in-Finished.finished after = finished_at fleet after place c.in-Finished.finished c.finish.result c.in-Finished.is c.finish.ensures in
    let net_is : c.network-net.result.now ≡ at.old.net =
    at_here (λ (p : FleetPlan). c.network-net.result.now ≡ p.net) after place at.new c.network-net.ensures.value at.there
    ∙ finished_net fleet after place c.in-Finished.finished at c.network.ensures.sound c.network-net.ensures.sound c.acts.result.now c.acts.ensures.value in
    subst (λ (n : Plan). EndsAmong n c.in-Finished.finished c.acts.result.now) (sym net_is)
    (finished_among fleet after place c.in-Finished.finished at c.network.ensures.sound c.network-net.ensures.sound c.acts.result.now c.acts.ensures.value c.acts.ensures.few)

pub returns-in-Finished-clause-changes : goal.returns-in-Finished-clause-changes
returns-in-Finished-clause-changes c =
    let fleet = c.args.self.now.fleet in
    let after = c.finish.new.self in
    let place = c.args.place in
    let at : FinishedAt fleet place c.in-Finished.finished after = finished_at fleet after place c.in-Finished.finished c.finish.result c.in-Finished.is c.finish.ensures in
    let net_is : c.network-net.result.now ≡ at.old.net =
    at_here (λ (p : FleetPlan). c.network-net.result.now ≡ p.net) after place at.new c.network-net.ensures.value at.there
    ∙ finished_net fleet after place c.in-Finished.finished at c.network.ensures.sound c.network-net.ensures.sound c.acts.result.now c.acts.ensures.value in
    let puts : AnswersEnd at.old.net c.args.number c.in-Finished.finished c.acts.result.now c.put_end.new.answer.text (Finish c.put_end.result) =
    subst (λ (n : Plan). AnswersEnd n c.args.number c.in-Finished.finished c.acts.result.now c.put_end.new.answer.text (Finish c.put_end.result)) net_is c.put_end.ensures.answers in
    finished_changes fleet after place c.in-Finished.finished at c.network.ensures.sound c.network-net.ensures.sound c.acts.result.now c.acts.ensures.value c.args.number c.put_end.new.answer.text c.put_end.result puts

pub returns-in-Finished-clause-size : goal.returns-in-Finished-clause-size
returns-in-Finished-clause-size c =
    let fleet = c.args.self.now.fleet in
    let after = c.finish.new.self in
    let place = c.args.place in
    let at : FinishedAt fleet place c.in-Finished.finished after = finished_at fleet after place c.in-Finished.finished c.finish.result c.in-Finished.is c.finish.ensures in
    let net_is : c.network-net.result.now ≡ at.old.net =
    at_here (λ (p : FleetPlan). c.network-net.result.now ≡ p.net) after place at.new c.network-net.ensures.value at.there
    ∙ finished_net fleet after place c.in-Finished.finished at c.network.ensures.sound c.network-net.ensures.sound c.acts.result.now c.acts.ensures.value in
    finished_size fleet after place c.in-Finished.finished at c.network.ensures.sound c.network-net.ensures.sound c.acts.result.now c.acts.ensures.value (length c.put_end.new.answer.text)
    (subst (λ (n : Plan). length c.put_end.new.answer.text ≤ answer_capacity n) net_is c.put_end.ensures.size)

pub returns-in-Idle-clause-changes : goal.returns-in-Idle-clause-changes
returns-in-Idle-clause-changes c =
    finished_idle c.args.self.now.fleet c.finish.new.self c.args.place c.args.number c.finish.result c.put_idle.new.said.text c.in-Idle.is c.finish.ensures c.put_idle.ensures.text

use Rattle.std.proofs.Common.{◌≡◌, ◌≤◌, List, length, sym, ◌∙◌, subst}
use Rattle.std.specs.List.{All}
use Rattle.net_model.specs.Network.{Plan, IsPoint}
use Rattle.net_model.specs.declared.ids.PointId.{PointId}
use Rattle.event_stream.specs.EventText.{completed}
use Rattle.event_phase.specs.EventPhase.{answer_capacity, FeedsAmong, PutsFed}
use Rattle.plan_fleet.specs.FleetPlans.{FleetPlan}
use Rattle.plan_fleet.specs.Fleets.{ChangesOne}
use Rattle.fleet_command.specs.FleetStands.{SaysStated}
use Rattle.fleet_command.proofs.ReportedLineLemmas.{FedAt, at_here, fed_among, fed_at, fed_changes, fed_idle, fed_net, fed_size}
use Rattle.fleet_command.proofs.own_lines.FleetAnswerer.feed.Goals as goal

pub put_fed-requires-clause-points : goal.put_fed-requires-clause-points
put_fed-requires-clause-points c =
    let fleet = c.args.self.now.fleet in
    let after = c.feed.new.self in
    let place = c.args.place in
    let listed = c.completions.result.now in
    let at : FedAt fleet place c.args.moment listed c.in-Fed.fed after = fed_at fleet after place c.args.moment listed c.in-Fed.fed c.feed.result c.in-Fed.is c.feed.ensures in
    let net_is : c.network-net.result.now ≡ at.old.net =
    at_here (λ (p : FleetPlan). c.network-net.result.now ≡ p.net) after place at.new c.network-net.ensures.value at.there
    ∙ fed_net fleet after place c.args.moment listed c.in-Fed.fed at c.network.ensures.sound c.network-net.ensures.sound c.acts.result.now c.acts.ensures.value in
    let all : All (IsPoint at.old.net) listed =
    subst (All (IsPoint at.old.net)) (sym c.completions.ensures.points) (at_here (λ (p : FleetPlan). All (IsPoint p.net) c.args.self.now.events) fleet place at.old c.requires.points at.was) in
    subst (λ (n : Plan). FeedsAmong n c.in-Fed.fed c.acts.result.now) (sym net_is)
    (fed_among fleet after place c.args.moment listed c.in-Fed.fed at c.network.ensures.sound c.network-net.ensures.sound c.acts.result.now c.acts.ensures.value c.acts.ensures.few all)

pub returns-in-Fed-clause-changes : goal.returns-in-Fed-clause-changes
returns-in-Fed-clause-changes c =
    let fleet = c.args.self.now.fleet in
    let after = c.feed.new.self in
    let place = c.args.place in
    let listed = c.completions.result.now in
    let at : FedAt fleet place c.args.moment listed c.in-Fed.fed after = fed_at fleet after place c.args.moment listed c.in-Fed.fed c.feed.result c.in-Fed.is c.feed.ensures in
    let net_is : c.network-net.result.now ≡ at.old.net =
    at_here (λ (p : FleetPlan). c.network-net.result.now ≡ p.net) after place at.new c.network-net.ensures.value at.there
    ∙ fed_net fleet after place c.args.moment listed c.in-Fed.fed at c.network.ensures.sound c.network-net.ensures.sound c.acts.result.now c.acts.ensures.value in
    let puts : PutsFed at.old.net c.args.number c.in-Fed.fed c.acts.result.now c.next_due-due.result c.put_fed.new.answer.text c.put_fed.result =
    subst (λ (n : Plan). PutsFed n c.args.number c.in-Fed.fed c.acts.result.now c.next_due-due.result c.put_fed.new.answer.text c.put_fed.result) net_is c.put_fed.ensures.answers in
    subst (λ (l : List PointId). ChangesOne fleet place (SaysStated c.args.number (completed c.args.moment l) c.put_fed.new.answer.text) after) c.completions.ensures.points
    (fed_changes fleet after place c.args.moment listed c.in-Fed.fed at c.network.ensures.sound c.network-net.ensures.sound c.acts.result.now c.acts.ensures.value c.args.number c.next_due-due.result
    c.put_fed.new.answer.text c.put_fed.result c.next_due-due.ensures puts)

pub returns-in-Fed-clause-size : goal.returns-in-Fed-clause-size
returns-in-Fed-clause-size c =
    let fleet = c.args.self.now.fleet in
    let after = c.feed.new.self in
    let place = c.args.place in
    let listed = c.completions.result.now in
    let at : FedAt fleet place c.args.moment listed c.in-Fed.fed after = fed_at fleet after place c.args.moment listed c.in-Fed.fed c.feed.result c.in-Fed.is c.feed.ensures in
    let net_is : c.network-net.result.now ≡ at.old.net =
    at_here (λ (p : FleetPlan). c.network-net.result.now ≡ p.net) after place at.new c.network-net.ensures.value at.there
    ∙ fed_net fleet after place c.args.moment listed c.in-Fed.fed at c.network.ensures.sound c.network-net.ensures.sound c.acts.result.now c.acts.ensures.value in
    fed_size fleet after place c.args.moment listed c.in-Fed.fed at c.network.ensures.sound c.network-net.ensures.sound c.acts.result.now c.acts.ensures.value (length c.put_fed.new.answer.text)
    (subst (λ (n : Plan). length c.put_fed.new.answer.text ≤ answer_capacity n) net_is c.put_fed.ensures.size)

pub returns-in-Idle-clause-changes : goal.returns-in-Idle-clause-changes
returns-in-Idle-clause-changes c =
    subst (λ (l : List PointId). ChangesOne c.args.self.now.fleet c.args.place (SaysStated c.args.number (completed c.args.moment l) c.put_idle.new.said.text) c.feed.new.self) c.completions.ensures.points
    (fed_idle c.args.self.now.fleet c.feed.new.self c.args.place c.args.moment c.args.number c.completions.result.now c.feed.result c.put_idle.new.said.text c.in-Idle.is c.feed.ensures c.put_idle.ensures.text)

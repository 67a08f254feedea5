use Rattle.std.proofs.Common.{◌∙◌, ℕ, ap, length}
use Rattle.std.proofs.lemmas.Iterator.Adapters.{YieldsList-from_vec}
use Rattle.std.proofs.lemmas.Iterator.Consumers.{YieldsList-end, YieldsList-from_enumerate, YieldsList-turn}
use Rattle.dispatch_net.specs.declared.dispatch.Conditions.{Conditions}
use Rattle.dispatch_net.proofs.PassLemmas.{own_yielded, all_yielded, conditions_pushed}
use Rattle.dispatch_net.proofs.dispatch.conditions_by.Goals as goal

pub loop-point-preserved : goal.loop-point-preserved
loop-point-preserved c =
    let net = c.args.net.now in
    let table = c.args.table.now in
    let gathered = c.in_ok-lists.lists.items in
    let done = c.loop-point.yielded in
    let one : ℕ × Conditions = (c.in-Some.point, c.in-Some.outgoing) in
    let turn = YieldsList-turn (YieldsList-from_enumerate (YieldsList-from_vec gathered (cc) (cc)) (cc)) done c.loop-point.point-iterator c.loop-point.yielded_by c.next.result c.next.new.self one c.in-Some.is c.next.ensures.steps in
    let made = own_yielded net table c.in_ok-lists.ensures.sound (length c.points.result.now) gathered c.in_ok-lists.ensures.lists (length done) one turn.0 turn.1 c.conditions_of.result (c.conditions_of.ensures table c.in_ok-lists.ensures.sound) in
    conditions_pushed net table done one c.loop-point.conditions.items c.push.new.self.items c.conditions_of.result c.loop-point.invariant c.in_ok-push.ensures.items made

pub returns-clause-whole : goal.returns-clause-whole
returns-clause-whole c =
    let gathered = c.in_ok-lists.lists.items in
    let done = c.loop-point.yielded in
    let end = YieldsList-end (YieldsList-from_enumerate (YieldsList-from_vec gathered (cc) (cc)) (cc)) done c.loop-point.point-iterator c.loop-point.yielded_by c.next.result c.next.new.self c.in-None.is c.next.ensures.steps in
    all_yielded c.args.net.now c.args.table.now gathered done c.loop-point.conditions.items (c.in_ok-lists.ensures.lists.count ∙ ap length c.points.ensures.points) end.1 c.loop-point.invariant

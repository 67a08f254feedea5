use Rattle.std.proofs.Common.{◌≡◌, ◌+◌, None, Some, true, false, sym, ◌∙◌}
use Rattle.strategy_model.specs.Plays.{case_for, shown, may_act}
use Rattle.strategy_model.proofs.ShownSteps.{and_late, no_case_fits, case_refused, case_taken, depth_decreases}
use Rattle.strategy_model.proofs.plays.play.Goals as goal

pub returns-in_default-case_for-clause-played : goal.returns-in_default-case_for-clause-played
returns-in_default-case_for-clause-played c =
    let seen_is : c.in_ok-seen.seen.items ≡ shown c.args.net.now c.args.situation.now.items c.loop-node.moments.items c.loop-node.t = cc (c.in_ok-seen.ensures) in
    let missing : case_for c.in-Node.cases c.in_ok-seen.seen.items ≡ None = cc (c.in_default-case_for.ensures) in
    sym (c.loop-node.invariant ∙ no_case_fits c.args.net.now c.args.situation.now.items c.loop-node.moments.items c.loop-node.t c.loop-node.node.now c.in-Node.cases c.in-Node.is c.in_ok-seen.seen.items seen_is missing)

pub returns-then-not-may_act-clause-played : goal.returns-then-not-may_act-clause-played
returns-then-not-may_act-clause-played c =
    let seen_is : c.in_ok-seen.seen.items ≡ shown c.args.net.now c.args.situation.now.items c.loop-node.moments.items c.loop-node.t = cc (c.in_ok-seen.ensures) in
    let found : case_for c.in-Node.cases c.in_ok-seen.seen.items ≡ Some c.in-Some.case.now = cc (c.in-Some.ensures) in
    let refused : may_act c.args.net.now c.loop-node.moments.items c.in-Some.case.now.acts ≡ false = cc (c.if-not-may_act.ensures) in
    sym (c.loop-node.invariant ∙ case_refused c.args.net.now c.args.situation.now.items c.loop-node.moments.items c.loop-node.t c.loop-node.node.now c.in-Node.cases c.in-Node.is c.in_ok-seen.seen.items seen_is c.in-Some.case.now found
    refused)

pub loop-node-smaller : goal.loop-node-smaller
loop-node-smaller c =
    let seen_is : c.in_ok-seen.seen.items ≡ shown c.args.net.now c.args.situation.now.items c.loop-node.moments.items c.loop-node.t = cc (c.in_ok-seen.ensures) in
    let found : case_for c.in-Node.cases c.in_ok-seen.seen.items ≡ Some c.in-Some.case.now = cc (c.in-Some.ensures) in
    depth_decreases c.args.net.now c.args.situation.now.items c.loop-node.moments.items c.loop-node.t c.loop-node.node.now c.in-Node.cases c.in-Node.is c.in_ok-seen.seen.items seen_is c.in-Some.case.now found

pub loop-node-preserved : goal.loop-node-preserved
loop-node-preserved c =
    let seen_is : c.in_ok-seen.seen.items ≡ shown c.args.net.now c.args.situation.now.items c.loop-node.moments.items c.loop-node.t = cc (c.in_ok-seen.ensures) in
    let found : case_for c.in-Node.cases c.in_ok-seen.seen.items ≡ Some c.in-Some.case.now = cc (c.in-Some.ensures) in
    let may : may_act c.args.net.now c.loop-node.moments.items c.in-Some.case.now.acts ≡ true = cc (c.may_act.ensures) in
    let taken = case_taken c.args.net.now c.args.situation.now.items c.loop-node.moments.items c.loop-node.t c.loop-node.node.now c.in-Node.cases c.in-Node.is c.in_ok-seen.seen.items seen_is c.in-Some.case.now found may in
    let moments_are : c.push_at-in-Node.new.moments.items ≡ and_late c.args.net.now c.loop-node.moments.items c.loop-node.t c.in_ok-seen.seen.items c.in-Some.case.now.acts =
    cc (c.happened.ensures, c.in_ok-push_at.ensures, c.in_ok-push_at-2.ensures) in
    let next_is : c.in_ok-t.t ≡ c.loop-node.t + 1 = cc (c.in_ok-t.ensures) in
    cc (c.loop-node.invariant, taken, moments_are, next_is)

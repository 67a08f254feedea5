-- Each turn makes one round, and they end as what was sought or what improved says.
use Rattle.std.proofs.Common.{List, sym, ap, ◌∙◌}
use Rattle.closure_model.specs.declared.derivation.Node.{Node}
use Rattle.example_references.specs.Ends.{sought_in}
use Rattle.example_references.specs.NodeTables.{support_in, table_in}
use Rattle.example_references.proofs.RoundFacts.{goes_first, goes_more, goes_closed, goes_looped}
use Rattle.example_references.proofs.rounds.rounds.Goals as goal

pub loop-count-init : goal.loop-count-init
loop-count-init c = goes_first c.args.net.now (support_in c.args.net.now c.args.nodes.now.items)

pub returns-in-Looped : goal.returns-in-Looped
returns-in-Looped c =
    let net = c.args.net.now in
    goes_looped net (support_in net c.args.nodes.now.items) (support_in net c.loop-count.nodes.items) c.loop-count.count c.in-Looped.cycle c.loop-count.invariant
    (sym c.in-Looped.is ∙ (c.in_ok-cycle.ensures ∙ ap (λ (ns : List Node). sought_in (table_in net ns)) c.as_slice.ensures.value))

pub returns-then-not-branch : goal.returns-then-not-branch
returns-then-not-branch c =
    let net = c.args.net.now in
    goes_closed net (support_in net c.args.nodes.now.items) (support_in net c.loop-count.nodes.items) (support_in net c.round.new.nodes.items) c.loop-count.count c.in-Closed.order c.loop-count.invariant
    (sym c.in-Closed.is ∙ (c.in_ok-cycle.ensures ∙ ap (λ (ns : List Node). sought_in (table_in net ns)) c.as_slice.ensures.value))
    c.in_ok-round-in-Closed.ensures.after (sym c.if-not-branch.true ∙ c.in_ok-round-in-Closed.ensures.improved)

pub loop-count-preserved : goal.loop-count-preserved
loop-count-preserved c =
    let net = c.args.net.now in
    goes_more net (support_in net c.args.nodes.now.items) (support_in net c.loop-count.nodes.items) (support_in net c.round.new.nodes.items) c.loop-count.count c.in-Closed.order c.loop-count.invariant
    (sym c.in-Closed.is ∙ (c.in_ok-cycle.ensures ∙ ap (λ (ns : List Node). sought_in (table_in net ns)) c.as_slice.ensures.value))
    c.in_ok-round-in-Closed.ensures.after (sym c.if-not-branch.false ∙ c.in_ok-round-in-Closed.ensures.improved)

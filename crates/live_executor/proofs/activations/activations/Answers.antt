use Rattle.std.proofs.Common.{◌+◌, pos, List, arith, take, sym, subst}
use Rattle.std.proofs.lemmas.List.{take_all}
use Rattle.net_model.specs.declared.part.Link.{Link}
use Rattle.live_executor.specs.ExpectedPoints.{AreActivated}
use Rattle.live_executor.proofs.ExpectedLemmas.{no_links, one_link_more}
use Rattle.live_executor.proofs.activations.activations.Goals as goal

pub loop-link-init : goal.loop-link-init
loop-link-init c = no_links c.args.points c.in_ok-lists.lists c.in_ok-lists.ensures

pub add-requires : goal.add-requires
add-requires c =
    let none : Link = record { from = record { 0 = 0 }; low = pos 0; high = pos 0; to = record { 0 = 0 } } in
    let low = (c.requires c.loop-link.link-index none c.loop-link-test.true).from_point in
    omega (arith, low, c.loop-link.invariant.count)

pub loop-link-preserved : goal.loop-link-preserved
loop-link-preserved c =
    let none : Link = record { from = record { 0 = 0 }; low = pos 0; high = pos 0; to = record { 0 = 0 } } in
    let i = c.loop-link.link-index in
    let links = c.args.links.now in
    subst (AreActivated (take (i + 1) links) c.args.points) (sym c.in_ok-add.ensures)
    (one_link_more links c.args.points c.loop-link.lists i none c.loop-link-test.true c.loop-link.invariant (c.requires i none c.loop-link-test.true))

pub returns : goal.returns
returns c = subst (λ (ls : List Link). AreActivated ls c.args.points c.loop-link.lists) (take_all c.loop-link.link-index c.args.links.now (omega arith)) c.loop-link.invariant

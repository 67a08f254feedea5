use Rattle.std.proofs.Common.{pos, ◌∙◌, ap, sym, subst}
use Rattle.net_model.specs.declared.part.Link.{Link}
use Rattle.strategy_model.specs.Situations.{IsSituation}
use Rattle.situation_player.specs.Numbered.{numbered}
use Rattle.situation_player.proofs.NumberedLemmas.{numbered_more, numbered_past, law_numbers_are_situations}
use Rattle.situation_player.proofs.situations.situation.Goals as goal

-- the link read past the end of a list
abbrev none : Link
none = record { from = record { 0 = 0 }; low = pos 0; high = pos 0; to = record { 0 = 0 } }

pub loop-link-preserved : goal.loop-link-preserved
loop-link-preserved c =
    let links = c.links-links.result.now in
    numbered_more links c.loop-link.link-index c.loop-link.rest c.shortest_of.result c.choices-choices.result none c.loop-link.durations.items c.push.new.self.items (numbered c.args.number links)
    c.loop-link-test.true c.shortest_of.ensures c.choices-choices.ensures.choices c.in_ok-push.ensures.items c.loop-link.invariant

pub returns-clause-numbered : goal.returns-clause-numbered
returns-clause-numbered c =
    let links = c.links-links.result.now in
    numbered_past links c.loop-link.link-index c.loop-link.rest c.loop-link.durations.items (numbered c.args.number links) c.loop-link-test.false c.loop-link.invariant
    ∙ ap (numbered c.args.number) c.links-links.ensures.links

pub returns-clause-situation : goal.returns-clause-situation
returns-clause-situation c =
    let links = c.links-links.result.now in
    subst (IsSituation c.args.net.now)
    (sym (numbered_past links c.loop-link.link-index c.loop-link.rest c.loop-link.durations.items (numbered c.args.number links) c.loop-link-test.false c.loop-link.invariant
    ∙ ap (numbered c.args.number) c.links-links.ensures.links))
    (law_numbers_are_situations c.args.net.now c.args.number c.links-links.ensures.sound)

use Rattle.std.proofs.Common.{◌∙◌, sym, subst, ap, map}
use Rattle.strategy_model.specs.Situations.{IsSituation}
use Rattle.situation_player.specs.Numbered.{shortest_of}
use Rattle.situation_player.proofs.NumberedLemmas.{numbered_zero, law_numbers_are_situations}
use Rattle.situation_player.proofs.situations.shortest.Goals as goal

pub returns-clause-first : goal.returns-clause-first
returns-clause-first c = c.in_ok-durations.ensures ∙ ap (map shortest_of) c.links.ensures.links ∙ sym (numbered_zero c.args.net.now.links)

pub returns-clause-situation : goal.returns-clause-situation
returns-clause-situation c =
    subst (IsSituation c.args.net.now) (numbered_zero c.args.net.now.links ∙ sym (ap (map shortest_of) c.links.ensures.links) ∙ sym c.in_ok-durations.ensures)
    (law_numbers_are_situations c.args.net.now 0 c.links.ensures.sound)

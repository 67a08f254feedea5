use Rattle.std.proofs.Common.{◌∙◌, sym, subst, ap, map}
use Rattle.strategy_model.specs.Situations.{IsSituation}
use Rattle.situation_player.specs.Numbered.{longest_of}
use Rattle.situation_player.proofs.NumberedLemmas.{longest_fits}
use Rattle.situation_player.proofs.situations.longest.Goals as goal

pub returns-clause-situation : goal.returns-clause-situation
returns-clause-situation c =
    subst (IsSituation c.args.net.now) (sym (ap (map longest_of) c.links.ensures.links) ∙ sym c.in_ok-durations.ensures)
    (longest_fits c.args.net.now.links c.args.net.now c.links.ensures.sound.links_sound)

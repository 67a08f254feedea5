use Rattle.std.proofs.Common.{◌∙◌}
use Rattle.std.specs.Mem.Slots.{slots_items}
use Rattle.sensor_desk.proofs.ComparisonLemmas.{closes}
use Rattle.sensor_desk.proofs.desk.Desk.close.Goals as goal

pub returns : goal.returns
returns c =
    closes c.args.self.about (slots_items c.into_words-words.result.words) c.args.seat.view c.into_words-words.ensures.left c.args.net.now c.links-links.ensures.sound c.args.executor.now c.compared-closing.result
    c.compared-closing.ensures (c.acts-acts.ensures.count ∙ c.requires.executor.points) c.law_finishes_are_earliest.ensures

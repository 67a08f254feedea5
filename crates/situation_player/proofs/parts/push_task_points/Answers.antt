use Rattle.std.proofs.Common.{refl, ◌∙◌}
use Rattle.situation_player.proofs.PartLemmas.{three_added}
use Rattle.situation_player.proofs.parts.push_task_points.Goals as goal

pub returns : goal.returns
returns c =
    three_added c.args.parts.now.items c.push.new.self.items c.push-2.new.self.items c.push-3.new.self.items _ _ _
    c.in_ok-push.ensures.items c.in_ok-push-2.ensures.items c.in_ok-push-3.ensures.items
    ∙ rw (c.in_ok-name.ensures, c.in_ok-name-2.ensures, c.in_ok-name-3.ensures) refl

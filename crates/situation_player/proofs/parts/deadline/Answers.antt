use Rattle.std.proofs.Common.{arith}
use Rattle.situation_player.proofs.ForgeLemmas.{small_sum}
use Rattle.situation_player.proofs.NameLemmas.{deadline_is_name}
use Rattle.situation_player.proofs.parts.deadline.Goals as goal

pub longest_together-requires : goal.longest_together-requires
longest_together-requires c = omega (arith, small_sum c.args.tasks.now c.requires.small, c.requires.few)

pub named-requires : goal.named-requires
named-requires c = deadline_is_name

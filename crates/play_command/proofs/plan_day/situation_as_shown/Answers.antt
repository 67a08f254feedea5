use Rattle.std.proofs.Common.{◌≡◌, ◌≤◌, ℕ, List, length, sym, subst}
use Rattle.std.specs.List.{All}
use Rattle.net_model.specs.Limits.{most_size}
use Rattle.play_command.proofs.PlayLemmas.{none_long, one_each}
use Rattle.play_command.proofs.plan_day.situation_as_shown.Goals as goal

pub shown_situation-requires-clause-each : goal.shown_situation-requires-clause-each
shown_situation-requires-clause-each c =
    subst (λ (items : List ℕ). length items ≡ length c.args.net.now.links) (sym c.as_slice.ensures.value) (one_each c.args.net.now c.in_ok-situation.situation.items c.in_ok-situation.ensures.situation)

pub shown_situation-requires-clause-small : goal.shown_situation-requires-clause-small
shown_situation-requires-clause-small c =
    subst (All (λ (duration : ℕ). duration ≤ most_size)) (sym c.as_slice.ensures.value)
    (none_long c.args.net.now c.in_ok-situation.situation.items c.in_ok-situation.ensures.situation c.sound.ensures)

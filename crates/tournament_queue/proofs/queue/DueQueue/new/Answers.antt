use Rattle.std.proofs.Common.{◌≡◌, ◌*◌, rules, List, Option, ℕ, None, replicate, sym, subst}
use Rattle.net_model.specs.declared.ids.PointId.{PointId}
use Rattle.tournament_queue.specs.Tournament.{IsTournament}
use Rattle.tournament_queue.proofs.TournamentLemmas.{none_due}
use Rattle.tournament_queue.proofs.queue.DueQueue.new.Goals as goal

pub invariant_of-result : goal.invariant_of-result
invariant_of-result c =
    let due : c.in_ok-due.due.items ≡ replicate c.args.points None = search rules in
    let firsts : c.in_ok-firsts.firsts.items ≡ replicate (2 * c.args.points) None = search rules in
    rw (due, firsts) (none_due c.args.points)

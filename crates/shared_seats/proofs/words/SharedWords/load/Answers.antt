use Rattle.std.proofs.Common.{rules}
use Rattle.shared_seats.proofs.StepLemmas.{steps}
use Rattle.shared_seats.proofs.words.SharedWords.load.Goals as goal

pub load-requires : goal.load-requires
load-requires g c =
    let shared = c.self.inside.table.shared in (
      search rules,
      search rules,
      steps g.V.Known.nothing g.P.SeatRule.holds shared.key c.args.self.now.key (λ i. (c.self.view_is i).key) c.seat.inside.place c.seat.invariant.live c.args.seat.now c.seat.view_is
          g.V.Known.to_split g.M.Finding.shows shared.table_id.slots c.args.place 0 0 (λ word. word) c.requires.rule,
    )

use Rattle.std.proofs.Common.{rules, ◌==◌, if◌then◌else◌}
use Rattle.shared_seats.proofs.StepLemmas.{steps}
use Rattle.shared_seats.proofs.words.SharedWords.compare_exchange.Goals as goal

pub compare_exchange-requires : goal.compare_exchange-requires
compare_exchange-requires g c =
    let shared = c.self.inside.table.shared in (
      search rules,
      search rules,
      steps g.V.Known.nothing g.P.SeatRule.holds shared.key c.args.self.now.key (λ i. (c.self.view_is i).key) c.seat.inside.place c.seat.invariant.live c.args.seat.now c.seat.view_is
          g.V.Known.to_split g.M.Finding.shows shared.table_id.slots c.args.place c.args.current c.args.new (λ word. if word == c.args.current then c.args.new else word) c.requires.rule,
    )

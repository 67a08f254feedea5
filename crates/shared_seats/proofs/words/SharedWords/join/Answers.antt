use Rattle.std.proofs.Common.{rules}
use Rattle.shared_seats.proofs.StepLemmas.{joins}
use Rattle.shared_seats.proofs.words.SharedWords.join.Goals as goal

pub join_seat-requires : goal.join_seat-requires
join_seat-requires g c =
    let into = c.into.inside.place in
    let from = c.from.inside.place in (
      search rules,
      search rules,
      (λ i. (c.from.invariant.live i).1),
      search rules,
      joins g.V.Known.nothing g.P.SeatRule.holds c.self.inside.table.shared.key c.args.self.now.key (λ i. (c.self.view_is i).key) into c.into.invariant.live c.args.into.now c.into.view_is g.V.Known.joined_with from
          c.from.invariant.live c.args.from c.from.view_is c.requires.rule,
    )

-- The rows are those of the store's table, and what improves in them comes into the store as the definition has it.
use Rattle.std.proofs.Common.{◌<◌, List, length, ap, sym, subst, ◌∙◌}
use Rattle.std.specs.List.{All, AllPairs}
use Rattle.closure_model.specs.ReferenceRow.{HasWeightsWithin}
use Rattle.closure_model.specs.ReferenceRound.{round_made}
use Rattle.closure_model.specs.Tables.{Graph, IsFor, IsGraph}
use Rattle.closure_model.proofs.RoundClosure.{standing_fits, standing_sound, standing_within}
use Rattle.back_propagation.specs.declared.full_rows.NewRow.{NewRow}
use Rattle.parallel_rounds.specs.LastRounds.{AreListed, IsTableFor, changed_in}
use Rattle.closure_model.specs.Keys.{Shape}
use Rattle.closure_model.specs.Orders.{IsOrder}
use Rattle.closure_model.specs.ReferenceRow.{with_made}
use Rattle.parallel_rounds.specs.StoreUpdate.{made_in}
use Rattle.parallel_rounds.proofs.StoreUpdateSteps.{can_take_round, handed_on, how_many, round_taken, rows_in}
use Rattle.parallel_rounds.proofs.LastSteps.{rows_rise, rows_fit, last_round_is, order_stays}
use Rattle.parallel_rounds.proofs.RoundsSteps.{nothing_improved, something_improved}
use Rattle.parallel_rounds.proofs.propagation.Rounds.make_round.Goals as goal

pub rows_of_round-requires-clause-fits : goal.rows_of_round-requires-clause-fits
rows_of_round-requires-clause-fits g c κs within = subst (IsFor c.args.self.now.net.now) (sym c.table.ensures) (standing_fits c.args.self.now.net.now c.points.ensures.sound (g.S.Supports.support c.args.store.now) c.requires.stands)

pub rows_of_round-requires-clause-within : goal.rows_of_round-requires-clause-within
rows_of_round-requires-clause-within g c κs within = subst (HasWeightsWithin c.args.self.now.net.now) (sym c.table.ensures)
    (standing_within c.args.self.now.net.now c.points.ensures.sound (g.S.Supports.support c.args.store.now) c.requires.stands)

pub rows_of_round-requires-clause-sound : goal.rows_of_round-requires-clause-sound
rows_of_round-requires-clause-sound g c κs within = subst IsGraph (sym c.table.ensures) (standing_sound c.args.self.now.net.now c.points.ensures.sound (g.S.Supports.support c.args.store.now) c.requires.stands)

pub take_all-requires : goal.take_all-requires
take_all-requires g c =
    let are = rows_in c.args.self.now.net.now c.table.result.now (g.S.Supports.support c.args.store.now).table c.in_ok-rows.rows.items c.table.ensures c.in_ok-rows.ensures in
    let hand = handed_on (g.S.Supports.support c.args.store.now) c.in_ok-rows.rows.items c.as_slice.result.now c.as_slice-3.result.now c.in_ok-firsts.firsts.items c.as_slice-4.result.now c.as_slice.ensures.value c.in_ok-firsts.ensures
    c.as_slice-3.ensures.value c.as_slice-4.ensures.value in
    can_take_round c.args.self.now.net.now (g.S.Supports.support c.args.store.now) c.in_ok-rows.rows.items c.as_slice-3.result.now c.as_slice-4.result.now c.points.ensures.sound c.requires.stands are hand

pub returns-then-is_empty-clause-after : goal.returns-then-is_empty-clause-after
returns-then-is_empty-clause-after g c =
    let are = rows_in c.args.self.now.net.now c.table.result.now (g.S.Supports.support c.args.store.now).table c.in_ok-rows.rows.items c.table.ensures c.in_ok-rows.ensures in
    let hand = handed_on (g.S.Supports.support c.args.store.now) c.in_ok-rows.rows.items c.as_slice.result.now c.as_slice-3.result.now c.in_ok-firsts.firsts.items c.as_slice-4.result.now c.as_slice.ensures.value c.in_ok-firsts.ensures
    c.as_slice-3.ensures.value c.as_slice-4.ensures.value in
    round_taken c.args.self.now.net.now (g.S.Supports.support c.args.store.now) (g.S.Supports.support c.take_all.new.store) c.in_ok-rows.rows.items c.as_slice-3.result.now c.as_slice-4.result.now c.points.ensures.sound c.requires.stands
    are hand c.in_ok-take_all.ensures

pub returns-then-is_empty-clause-improved : goal.returns-then-is_empty-clause-improved
returns-then-is_empty-clause-improved g c =
    let are = rows_in c.args.self.now.net.now c.table.result.now (g.S.Supports.support c.args.store.now).table c.in_ok-rows.rows.items c.table.ensures c.in_ok-rows.ensures in
    let hand = handed_on (g.S.Supports.support c.args.store.now) c.in_ok-rows.rows.items c.as_slice.result.now c.as_slice-3.result.now c.in_ok-firsts.firsts.items c.as_slice-4.result.now c.as_slice.ensures.value c.in_ok-firsts.ensures
    c.as_slice-3.ensures.value c.as_slice-4.ensures.value in
    nothing_improved (round_made c.args.self.now.net.now (g.S.Supports.support c.args.store.now).table) _ (sym c.as_slice-4.ensures.len
    ∙ how_many c.args.self.now.net.now (g.S.Supports.support c.args.store.now) c.in_ok-rows.rows.items c.as_slice-3.result.now c.as_slice-4.result.now are hand) (sym c.is_empty.ensures ∙ c.if-is_empty.true)

pub of-requires-clause-table : goal.of-requires-clause-table
of-requires-clause-table g c =
    subst (IsTableFor (length c.points.result.now)) (sym c.table-2.ensures) (record {
      count = ap length c.points.ensures.points ∙ sym (ap (λ (s : Shape). s.points) (standing_fits c.args.self.now.net.now c.points.ensures.sound (g.S.Supports.support c.args.store.now) c.requires.stands));
      sound = standing_sound c.args.self.now.net.now c.points.ensures.sound (g.S.Supports.support c.args.store.now) c.requires.stands;
    })

pub of-requires-clause-points : goal.of-requires-clause-points
of-requires-clause-points g c =
    subst (λ (rows : List NewRow). All (λ (row : NewRow). row.target.0 < length c.points.result.now) rows) (sym c.as_slice-2.ensures.value)
    (rows_fit c.args.self.now.net.now (g.S.Supports.support c.args.store.now) c.in_ok-rows.rows.items (length c.points.result.now) c.points.ensures.sound c.requires.stands
    (rows_in c.args.self.now.net.now c.table.result.now (g.S.Supports.support c.args.store.now).table c.in_ok-rows.rows.items c.table.ensures c.in_ok-rows.ensures) (ap length c.points.ensures.points))

pub of-requires-clause-rise : goal.of-requires-clause-rise
of-requires-clause-rise g c = subst (AllPairs (λ (one other : NewRow). one.target.0 < other.target.0)) (sym c.as_slice-2.ensures.value)
    (rows_rise c.args.self.now.net.now (g.S.Supports.support c.args.store.now).table c.in_ok-rows.rows.items
    (rows_in c.args.self.now.net.now c.table.result.now (g.S.Supports.support c.args.store.now).table c.in_ok-rows.rows.items c.table.ensures c.in_ok-rows.ensures))

pub returns-clause-after : goal.returns-clause-after
returns-clause-after g c =
    let are = rows_in c.args.self.now.net.now c.table.result.now (g.S.Supports.support c.args.store.now).table c.in_ok-rows.rows.items c.table.ensures c.in_ok-rows.ensures in
    let hand = handed_on (g.S.Supports.support c.args.store.now) c.in_ok-rows.rows.items c.as_slice.result.now c.as_slice-3.result.now c.in_ok-firsts.firsts.items c.as_slice-4.result.now c.as_slice.ensures.value c.in_ok-firsts.ensures
    c.as_slice-3.ensures.value c.as_slice-4.ensures.value in
    round_taken c.args.self.now.net.now (g.S.Supports.support c.args.store.now) (g.S.Supports.support c.take_all.new.store) c.in_ok-rows.rows.items c.as_slice-3.result.now c.as_slice-4.result.now c.points.ensures.sound c.requires.stands
    are hand c.in_ok-take_all.ensures

pub returns-clause-improved : goal.returns-clause-improved
returns-clause-improved g c =
    let are = rows_in c.args.self.now.net.now c.table.result.now (g.S.Supports.support c.args.store.now).table c.in_ok-rows.rows.items c.table.ensures c.in_ok-rows.ensures in
    let hand = handed_on (g.S.Supports.support c.args.store.now) c.in_ok-rows.rows.items c.as_slice.result.now c.as_slice-3.result.now c.in_ok-firsts.firsts.items c.as_slice-4.result.now c.as_slice.ensures.value c.in_ok-firsts.ensures
    c.as_slice-3.ensures.value c.as_slice-4.ensures.value in (
      something_improved (round_made c.args.self.now.net.now (g.S.Supports.support c.args.store.now).table) _ (sym c.as_slice-4.ensures.len
          ∙ how_many c.args.self.now.net.now (g.S.Supports.support c.args.store.now) c.in_ok-rows.rows.items c.as_slice-3.result.now c.as_slice-4.result.now are hand) (sym c.is_empty.ensures ∙ c.if-is_empty.false),
      last_round_is c.args.self.now.net.now (g.S.Supports.support c.args.store.now) (g.S.Supports.support c.take_all.new.store) c.in_ok-rows.rows.items c.in_ok-last.last c.points.ensures.sound c.requires.stands
          (round_taken c.args.self.now.net.now (g.S.Supports.support c.args.store.now) (g.S.Supports.support c.take_all.new.store) c.in_ok-rows.rows.items c.as_slice-3.result.now c.as_slice-4.result.now c.points.ensures.sound
          c.requires.stands are hand c.in_ok-take_all.ensures) are
          (c.in_ok-last.ensures.changed ∙ ap changed_in c.as_slice-2.ensures.value) (c.in_ok-last.ensures.count ∙ ap length c.points.ensures.points)
          (subst (λ (t : Graph). AreListed t c.in_ok-rows.rows.items c.in_ok-last.last.delta.items) c.table-2.ensures
          (subst (λ (rows : List NewRow). AreListed c.table-2.result.now rows c.in_ok-last.last.delta.items) c.as_slice-2.ensures.value c.in_ok-last.ensures.delta)),
    )

pub returns-clause-stays : goal.returns-clause-stays
returns-clause-stays g c =
    let are = rows_in c.args.self.now.net.now c.table.result.now (g.S.Supports.support c.args.store.now).table c.in_ok-rows.rows.items c.table.ensures c.in_ok-rows.ensures in
    let hand = handed_on (g.S.Supports.support c.args.store.now) c.in_ok-rows.rows.items c.as_slice.result.now c.as_slice-3.result.now c.in_ok-firsts.firsts.items c.as_slice-4.result.now c.as_slice.ensures.value c.in_ok-firsts.ensures
    c.as_slice-3.ensures.value c.as_slice-4.ensures.value in
    λ stays. order_stays c.args.self.now.net.now (g.S.Supports.support c.args.store.now) (g.S.Supports.support c.take_all.new.store) c.in_ok-rows.rows.items c.args.order.now c.points.ensures.sound c.requires.stands
    (round_taken c.args.self.now.net.now (g.S.Supports.support c.args.store.now) (g.S.Supports.support c.take_all.new.store) c.in_ok-rows.rows.items c.as_slice-3.result.now c.as_slice-4.result.now c.points.ensures.sound
    c.requires.stands are hand c.in_ok-take_all.ensures) are
    (λ table is. subst (λ (rows : List NewRow). IsOrder (with_made table (made_in rows)) c.args.order.now) c.as_slice-2.ensures.value (c.in_ok-last.ensures.stays stays table is))

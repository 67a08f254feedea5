use Rattle.std.proofs.Common.{ℕ, sym, ap, subst}
use Rattle.std.specs.List.{All}
use Rattle.std.proofs.lemmas.Result.{err_from_is_err_and}
use Rattle.net_model.specs.Network.{IsPoint}
use Rattle.cert_checker.specs.TestOutcomes.{Ends, IsAcceptedTable}
use Rattle.cert_checker.specs.Sound.{Stated}
use Rattle.cert_checker.specs.TableRefusals.{IsRead, IsRefusedTable, line_of_order, line_of_entry}
use Rattle.cert_checker.proofs.TestOutcomeLemmas.{failure_propagates, points_inside, entries_sound}
use Rattle.cert_checker.proofs.table.table_passes.Goals as goal

pub returns-in_err-points : goal.returns-in_err-points
returns-in_err-points g c =
    let p = err_from_is_err_and c.from_residual.result c.from_residual.ensures.1 in
    rw (p.1, p.2) (failure_propagates c.in_err-points.field-0.0 _ _ _ _ c.in_err-points.ensures (λ refused is. subst (λ (n : ℕ). IsRefusedTable c.args.net c.args.order.now c.args.entries.now n refused.why) (sym is.number)
    (line_of_order is.place refused.why is.fault)))

pub returns-in_err-edges : goal.returns-in_err-edges
returns-in_err-edges g c =
    let p = err_from_is_err_and c.from_residual-in_err-edges.result c.from_residual-in_err-edges.ensures.1 in
    rw (p.1, p.2) (failure_propagates c.in_err-edges.field-0.0 _ _ _ _ c.in_err-edges.ensures (λ refused is. subst (λ (n : ℕ). IsRefusedTable c.args.net c.args.order.now c.args.entries.now n refused.why) (sym is.number)
    (line_of_entry c.in_ok-points.points.items is.place refused.why c.in_ok-points.ensures is.fault)))

pub of-requires-clause-sound : goal.of-requires-clause-sound
of-requires-clause-sound g c = entries_sound c.args.net c.sound.ensures c.args.entries.now c.in_ok-edges.edges.items c.in_ok-edges.ensures

pub passes-requires-after_bounds : goal.passes-requires-after_bounds
passes-requires-after_bounds g c κs within =
    let points = c.in_ok-points.points.items in
    subst (λ (t : Stated). All (IsPoint t.net) points) (sym c.in_ok-table.ensures) (points_inside c.args.net c.args.order.now points c.in_ok-points.ensures)

pub returns-in_err-table : goal.returns-in_err-table
returns-in_err-table g c =
    let p = err_from_is_err_and c.from_residual-in_err-table.result c.from_residual-in_err-table.ensures.1 in
    rw (p.1, p.2) tt

pub returns : goal.returns
returns g c =
    let order = c.args.order.now in
    let entries = c.args.entries.now in
    let points = c.in_ok-points.points.items in
    let read : IsRead c.args.net order entries points c.in_ok-edges.edges.items = record { order_says = c.in_ok-points.ensures; entries_say = c.in_ok-edges.ensures } in
    let stated = c.in_ok-table.ensures in
    let is_read : IsRead c.in_ok-table.table.net order entries points c.in_ok-table.table.edges = subst (λ (t : Stated). IsRead t.net order entries points t.edges) (sym stated) read in
    subst (λ (t : Stated). Ends c.passes.result (λ passed. IsAcceptedTable t.net order entries) (λ refused. IsRefusedTable t.net order entries refused.line refused.why)) stated
    (c.passes.ensures order entries is_read (ap (λ (t : Stated). t.first) stated))

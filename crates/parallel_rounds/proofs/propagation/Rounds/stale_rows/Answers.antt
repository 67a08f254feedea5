-- No row but the stale ones is needed.
use Rattle.std.proofs.Common.{◌<◌, All, List, map, ap, subst, sym, ◌∙◌}
use Rattle.std.proofs.lemmas.Result.{IfOk-weaker}
use Rattle.net_model.specs.Network.{IsPoint}
use Rattle.net_model.specs.declared.ids.PointId.{PointId}
use Rattle.closure_model.specs.Keys.{Shape}
use Rattle.parallel_rounds.specs.Rows.{new_row}
use Rattle.parallel_rounds.specs.Targets.{AreRisingPoints, AreStale, AreRowsOfRound}
use Rattle.parallel_rounds.specs.LastRounds.{IsDeltaFor}
use Rattle.parallel_rounds.proofs.StaleSteps.{stale_rows_are}
use Rattle.parallel_rounds.proofs.propagation.Rounds.stale_rows.Goals as goal

pub returns : goal.returns
returns g c =
    IfOk-weaker c.rows_of.result _ (λ rows. AreRowsOfRound c.args.self.now.net.now c.args.table.now rows.items)
    (λ rows is. stale_rows_are c.args.self.now.net.now c.args.table.now c.args.last.now c.in_ok-targets.targets.items rows.items c.points-names.ensures.sound c.requires.fits c.requires.sound c.requires.last
    (subst (λ (changed : List PointId). AreStale c.args.table.now changed c.in_ok-targets.targets.items) c.as_slice.ensures.value c.in_ok-targets.ensures)
    (is ∙ ap (map (new_row c.args.self.now.net.now c.args.table.now)) c.as_slice-2.ensures.value)) c.rows_of.ensures

pub stale-requires-clause-points : goal.stale-requires-clause-points
stale-requires-clause-points g c = subst (All (IsPoint c.args.self.now.net.now)) (sym c.as_slice.ensures.value) c.requires.last.points

pub stale-requires-clause-rise : goal.stale-requires-clause-rise
stale-requires-clause-rise g c = subst AreRisingPoints (sym c.as_slice.ensures.value) c.requires.last.rise

pub rows_of-requires : goal.rows_of-requires
rows_of-requires g c =
    let net = c.args.self.now.net.now in
    let stale = c.in_ok-targets.ensures in
    let points : All (IsPoint net) c.in_ok-targets.targets.items = subst (λ (s : Shape). All (λ (point : PointId). point.0 < s.points) c.in_ok-targets.targets.items) c.requires.fits stale.points in
    let informed : IsDeltaFor net c.args.table.now c.as_slice-3.result.now = subst (IsDeltaFor net c.args.table.now) (sym c.as_slice-3.ensures.value) c.requires.last.informed in
    (search, (search, (c.requires.fits, (c.requires.within, (subst (All (IsPoint net)) (sym c.as_slice-2.ensures.value) points, (subst AreRisingPoints (sym c.as_slice-2.ensures.value) stale.rise, λ _. informed))))))

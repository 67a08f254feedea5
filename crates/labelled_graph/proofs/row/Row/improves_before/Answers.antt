use Rattle.std.proofs.Common.{◌≡◌, ◌<◌, ℤ, pos, None, subst, arith, length, get_or}
use Rattle.std.proofs.Math.Facts.{to_z-of_z}
use mir.Val.{to_z, of_z}
use mir.Syntax.{w64}
use Rattle.labelled_graph.specs.Rows.{TargetRow, IsMirrorOf}
use Rattle.labelled_graph.specs.Words.{held, SaturatesHeld}
use Rattle.labelled_graph.proofs.MirrorLemmas.{meets_in}
use Rattle.labelled_graph.proofs.row.Row.improves_before.Goals as goal

pub returns : goal.returns
returns c fits none first after below =
    let kept : to_z w64 (of_z w64 c.args.weight) ≡ c.args.weight = to_z-of_z c.ranges.weight in
    let mirror = subst (λ (row : TargetRow). IsMirrorOf row c.self.inside.ordinary) c.self.view_is c.self.invariant.mirror in
    let inside : first.0 < length c.self.inside.ordinary = (let within = c.improves_before.ensures.within none in omega (arith, within, below)) in
    meets_in c.args.self.now c.self.inside.ordinary first (held (get_or c.args.there.now first.0 (pos 0))) c.args.weight mirror fits inside
    (subst (λ (w : ℤ). SaturatesHeld (get_or c.self.inside.ordinary first.0 None) (held (get_or c.args.there.now first.0 (pos 0))) w) kept (c.improves_before.ensures.saturates none first.0 after below))

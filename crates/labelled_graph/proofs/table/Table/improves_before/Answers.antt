use Rattle.std.proofs.Common.{rules, ◌≡◌, ℤ, pos, Option, subst, get_or}
use mir.Val.{to_z, of_z}
use mir.Syntax.{w64}
use Rattle.std.specs.FinMap as map_of
use Rattle.closure_model.specs.Keys.{ordinary_key}
use Rattle.labelled_graph.specs.Words.{held, SaturatesHeld}
use Rattle.labelled_graph.proofs.ListedLemmas.{fits_in, reads_first}
use Rattle.labelled_graph.proofs.table.Table.improves_before.Goals as goal

pub returns : goal.returns
returns c fits none first after below =
    let kept : to_z w64 (of_z w64 c.args.edge.now.weight) ≡ c.args.edge.now.weight = search rules in
    let row_fits = fits_in c.self.inside.rows.items c.self.inside.activations.items c.self.invariant c.args.self.now c.self.view_is c.args.edge.now.from c.requires.begins c.index-row.result.now c.index-row.ensures fits in
    let reads = reads_first c.self.inside.rows.items c.self.inside.activations.items c.self.invariant c.args.self.now c.self.view_is c.args.edge.now.from c.requires.begins c.index-row.result.now c.index-row.ensures first in
    subst (λ (o : Option ℤ). SaturatesHeld o (held (get_or c.args.there.now first.0 (pos 0))) c.args.edge.now.weight) reads
    (subst (λ (w : ℤ). SaturatesHeld (map_of.get c.index-row.result.now.weights (ordinary_key first c.index-row.result.now.to)) (held (get_or c.args.there.now first.0 (pos 0))) w) kept
    (c.improves_before.ensures row_fits none first after below))

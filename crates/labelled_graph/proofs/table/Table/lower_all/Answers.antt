use Rattle.std.proofs.Common.{refl, sym, subst, ◌∙◌}
use Rattle.labelled_graph.specs.MergedRows.{AreEntriesOf}
use Rattle.labelled_graph.specs.Rows.{AreRising}
use Rattle.labelled_graph.proofs.LowerLemmas.{merged_stored, merged_table}
use Rattle.labelled_graph.proofs.table.Table.lower_all.Goals as goal

pub invariant_of-self : goal.invariant_of-self
invariant_of-self c =
    merged_stored c.args.self.now c.args.to c.args.made.now c.requires c.as_slice-2.result.now (subst (AreEntriesOf c.args.made.now) (sym c.as_slice-2.ensures.value) c.in_ok-new.ensures)
    (subst (AreRising c.args.to) (c.as_slice.ensures.value ∙ sym c.as_slice-2.ensures.value) (c.if-not-rise.ensures refl c.args.to))
    c.self.inside.rows.items c.self.inside.activations.items c.self.invariant c.self.view_is c.index_mut-row.result.now c.merge.new.self c.index_mut-row.ensures.value c.merge.result c.merge.ensures.set c.merge.ensures.unchanged

pub returns : goal.returns
returns c =
    merged_table c.args.self.now c.args.to c.args.made.now c.requires c.as_slice-2.result.now (subst (AreEntriesOf c.args.made.now) (sym c.as_slice-2.ensures.value) c.in_ok-new.ensures)
    (subst (AreRising c.args.to) (c.as_slice.ensures.value ∙ sym c.as_slice-2.ensures.value) (c.if-not-rise.ensures refl c.args.to))
    c.self.inside.rows.items c.self.inside.activations.items c.self.invariant c.self.view_is c.index_mut-row.result.now c.merge.new.self c.index_mut-row.ensures.value c.merge.result c.merge.ensures.set

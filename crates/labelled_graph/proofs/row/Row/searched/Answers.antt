use Rattle.std.proofs.Common.{rules, ◌≡◌, ◌∙◌, ap, Some, w64, to_z, of_z}
use Rattle.labelled_graph.specs.declared.entry.Entry.{Entry}
use Rattle.labelled_graph.proofs.RowLemmas.{read_found, read_missed}
use Rattle.labelled_graph.proofs.row.Row.searched.Goals as goal

pub returns-in-Ok : goal.returns-in-Ok
returns-in-Ok c =
    let kept : to_z w64 (of_z w64 c.index.result.now.weight) ≡ c.index.result.now.weight = search rules in
    ap Some (kept ∙ ap (λ (e : Entry). e.weight) c.index.ensures)
    ∙ read_found c.self.inside.target c.self.inside.entries.items c.args.self.now c.self.view_is c.self.invariant.rises c.as_slice.result.now c.as_slice.ensures.value c.args.from c.args.label c.in-Ok.place c.index.result.now
    c.in-Ok.ensures.place

pub returns-in-Err : goal.returns-in-Err
returns-in-Err c = read_missed c.self.inside.target c.self.inside.entries.items c.args.self.now c.self.view_is c.self.invariant.rises c.as_slice.result.now c.as_slice.ensures.value c.args.from c.args.label c.in-Err.field-0
    c.in-Err.ensures.place

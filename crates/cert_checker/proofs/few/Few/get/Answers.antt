use Rattle.std.proofs.Common.{rules, ◌≡◌, ◌∙◌, ap, w64, to_z, of_z}
use Rattle.cert_checker.specs.declared.few.Start.{Start}
use Rattle.cert_checker.proofs.FewLemmas.{row_found, row_missed}
use Rattle.cert_checker.proofs.few.Few.get.Goals as goal

pub returns-in-Ok : goal.returns-in-Ok
returns-in-Ok c =
    let kept : to_z w64 (of_z w64 c.index.result.now.word) ≡ c.index.result.now.word = search rules in
    kept ∙ (ap (λ (s : Start). s.word) c.index.ensures
    ∙ row_found c.self.inside.points c.self.inside.starts.items c.args.self.now c.self.view_is c.self.invariant c.as_slice.result.now c.as_slice.ensures.value c.args.from c.requires c.in-Ok.place c.index.result.now c.in-Ok.ensures)

pub returns-in-Err : goal.returns-in-Err
returns-in-Err c = row_missed c.self.inside.points c.self.inside.starts.items c.args.self.now c.self.view_is c.self.invariant c.as_slice.result.now c.as_slice.ensures.value c.args.from c.requires c.in-Err.field-0 c.in-Err.ensures

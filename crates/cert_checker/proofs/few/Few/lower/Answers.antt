use Rattle.std.proofs.Common.{rules, ◌≡◌, ◌∙◌, ◌≤ℤ◌, ap, get_or, w64, to_z, of_z, arith}
use Rattle.std.specs.Int.{int_min}
use Rattle.std.proofs.lemmas.Int.{ints}
use Rattle.cert_checker.specs.declared.few.Start.{Start}
use Rattle.cert_checker.specs.Least.{absent}
use Rattle.cert_checker.proofs.FewLemmas.{row_found, row_set, row_put}
use Rattle.cert_checker.proofs.few.Few.lower.Goals as goal

pub invariant_of-self : goal.invariant_of-self
invariant_of-self c =
    let one : Start = record { from = c.args.from; word = to_z w64 (of_z w64 c.min-word.result) } in
    let kept : to_z w64 (of_z w64 c.min-word.result) ≡ c.min-word.result = search rules in
    let held : to_z w64 (of_z w64 c.index.result.now.word) ≡ c.index.result.now.word = search rules in
    let own : to_z w64 (of_z w64 c.args.weight) ≡ c.args.weight = search rules in
    let found = row_found c.self.inside.points c.self.inside.starts.items c.args.self.now c.self.view_is c.self.invariant c.as_slice.result.now c.as_slice.ensures.value c.args.from c.requires c.in-Ok.place c.index.result.now
    c.in-Ok.ensures in
    let least : one.word ≡ int_min (get_or c.args.self.now c.args.from absent) c.args.weight =
    kept ∙ (c.min-word.ensures.value ∙ (λ i. int_min ((held ∙ (ap (λ (s : Start). s.word) c.index.ensures ∙ found)) i) (own i))) in
    (row_set c.self.inside.points c.self.inside.starts.items c.args.self.now c.self.view_is c.self.invariant c.as_slice.result.now c.as_slice.ensures.value one c.args.weight c.requires c.in-Ok.place c.in-Ok.ensures least).0

pub invariant_of-self-in-Err : goal.invariant_of-self-in-Err
invariant_of-self-in-Err c =
    let one : Start = record { from = c.args.from; word = to_z w64 (of_z w64 c.args.weight) } in
    let kept : to_z w64 (of_z w64 c.args.weight) ≡ c.args.weight = search rules in
    let fits = c.ranges.weight.sfits in
    let most : c.args.weight ≤ℤ absent = grind (arith, ints) in
    (row_put c.self.inside.points c.self.inside.starts.items c.args.self.now c.self.view_is c.self.invariant c.as_slice.result.now c.as_slice.ensures.value one c.args.weight c.requires c.in-Err.place c.in-Err.ensures kept most
    c.insert.new.self.items c.in_ok-insert-in-Err.ensures.items).0

pub returns-in-Ok : goal.returns-in-Ok
returns-in-Ok c =
    let one : Start = record { from = c.args.from; word = to_z w64 (of_z w64 c.min-word.result) } in
    let kept : to_z w64 (of_z w64 c.min-word.result) ≡ c.min-word.result = search rules in
    let held : to_z w64 (of_z w64 c.index.result.now.word) ≡ c.index.result.now.word = search rules in
    let own : to_z w64 (of_z w64 c.args.weight) ≡ c.args.weight = search rules in
    let found = row_found c.self.inside.points c.self.inside.starts.items c.args.self.now c.self.view_is c.self.invariant c.as_slice.result.now c.as_slice.ensures.value c.args.from c.requires c.in-Ok.place c.index.result.now
    c.in-Ok.ensures in
    let least : one.word ≡ int_min (get_or c.args.self.now c.args.from absent) c.args.weight =
    kept ∙ (c.min-word.ensures.value ∙ (λ i. int_min ((held ∙ (ap (λ (s : Start). s.word) c.index.ensures ∙ found)) i) (own i))) in
    (row_set c.self.inside.points c.self.inside.starts.items c.args.self.now c.self.view_is c.self.invariant c.as_slice.result.now c.as_slice.ensures.value one c.args.weight c.requires c.in-Ok.place c.in-Ok.ensures least).1

pub returns-in_ok-insert-in-Err : goal.returns-in_ok-insert-in-Err
returns-in_ok-insert-in-Err c =
    let one : Start = record { from = c.args.from; word = to_z w64 (of_z w64 c.args.weight) } in
    let kept : to_z w64 (of_z w64 c.args.weight) ≡ c.args.weight = search rules in
    let fits = c.ranges.weight.sfits in
    let most : c.args.weight ≤ℤ absent = grind (arith, ints) in
    (row_put c.self.inside.points c.self.inside.starts.items c.args.self.now c.self.view_is c.self.invariant c.as_slice.result.now c.as_slice.ensures.value one c.args.weight c.requires c.in-Err.place c.in-Err.ensures kept most
    c.insert.new.self.items c.in_ok-insert-in-Err.ensures.items).1

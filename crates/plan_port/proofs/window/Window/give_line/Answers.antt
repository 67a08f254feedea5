use Rattle.std.proofs.Common.{◌+◌, ◌≤◌, ℕ, List, length, drop, ap, ◌∙◌, arith, add_assoc}
use Rattle.std.specs.List.{slice_range}
use Rattle.plan_port.specs.WindowContents.{WindowContents}
use Rattle.plan_port.proofs.Windows.{consumed, length_range}
use Rattle.plan_port.proofs.window.Window.give_line.Goals as goal

pub returns-clause-kept : goal.returns-clause-kept
returns-clause-kept c =
    let w = c.self.inside in
    let kept = ap (λ (h : WindowContents). h.kept) c.self.view_is in
    let size = ap (λ (l : List ℕ). length l) kept in
    let fits : w.end ≤ length w.bytes.items = omega arith in
    let inside : w.start + (c.args.size + 1) ≤ w.end = omega (arith, length_range w.bytes.items w.start w.end) in
    ap (λ n. slice_range w.bytes.items n w.end) (add_assoc w.start c.args.size 1) ∙ consumed w.bytes.items w.start w.end (c.args.size + 1) inside ∙ ap (λ (l : List ℕ). drop (c.args.size + 1) l) kept

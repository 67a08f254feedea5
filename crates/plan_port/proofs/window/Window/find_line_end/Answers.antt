use Rattle.std.proofs.Common.{ℕ, List, ap, ◌∙◌, arith}
use Rattle.std.specs.List.{position, slice_range}
use Rattle.plan_port.specs.ReaderSteps.{ends_line}
use Rattle.plan_port.specs.WindowContents.{WindowContents}
use Rattle.plan_port.proofs.Windows.{found, not_found}
use Rattle.plan_port.proofs.window.Window.find_line_end.Goals as goal

pub invariant_of-self : goal.invariant_of-self
invariant_of-self c =
    let w = c.self.inside in
    let items = ap (λ (l : List ℕ). position ends_line (slice_range l w.searched w.end)) c.deref.ensures.value in
    let none = not_found ends_line w.bytes.items w.start w.searched w.end (omega arith) (omega arith) (omega arith) c.self.invariant.6 (c.in-None.ensures.place ∙ items) in
    (omega arith, omega arith, omega arith, omega arith, omega arith, omega arith, none.1)

pub returns-in-Some-clause-place : goal.returns-in-Some-clause-place
returns-in-Some-clause-place c =
    let w = c.self.inside in
    let items = ap (λ (l : List ℕ). position ends_line (slice_range l w.searched w.end)) c.deref.ensures.value in
    let place = found ends_line w.bytes.items w.start w.searched w.end c.in-Some.place (omega arith) (omega arith) (omega arith) c.self.invariant.6 (c.in-Some.ensures.place ∙ items) in
    place ∙ ap (λ (h : WindowContents). position ends_line h.kept) c.self.view_is

pub returns-in-None-clause-place : goal.returns-in-None-clause-place
returns-in-None-clause-place c =
    let w = c.self.inside in
    let items = ap (λ (l : List ℕ). position ends_line (slice_range l w.searched w.end)) c.deref.ensures.value in
    let none = not_found ends_line w.bytes.items w.start w.searched w.end (omega arith) (omega arith) (omega arith) c.self.invariant.6 (c.in-None.ensures.place ∙ items) in
    none.0 ∙ ap (λ (h : WindowContents). position ends_line h.kept) c.self.view_is

use Rattle.std.proofs.Common.{◌≡◌, ◌-◌, ℕ, true, false, length, ap, ◌∙◌}
use Rattle.plan_port.specs.WindowContents.{WindowContents}
use Rattle.plan_port.specs.Reader.{Reader, spare_capacity}
use Rattle.plan_port.specs.ReaderSteps.{verdict_on, verdict}
use Rattle.plan_port.proofs.FirstLines.{verdict_of_found, verdict_of_open}
use Rattle.plan_port.proofs.lines.LineReader.decide.Goals.{in-Some, in-None}
use Rattle.plan_port.proofs.lines.LineReader.decide.Goals as goal

pub returns-clause-value : goal.returns-clause-value
returns-clause-value c =
    let longest = c.args.longest in
    let kept = c.self.inside.window.kept in
    let left : ℕ = c.self.inside.most - c.self.inside.before in
    let same : verdict longest left kept ≡ verdict longest (spare_capacity c.args.self.now) c.args.self.now.kept = ap (λ (x : Reader). verdict longest (spare_capacity x) x.kept) c.self.view_is in
    elim c.match-find_line_end.branch [
      | in-Some w ↦ w.result-is ∙ (w.judge.ensures ∙ (ap (λ (n : ℕ). verdict_on w.in-Some.size true n left) w.from.ensures ∙ (verdict_of_found longest left kept w.in-Some.size w.in-Some.ensures.place ∙ same)))
      | in-None w ↦
          let size : w.size.result ≡ length kept = w.size.ensures.value ∙ ap (λ (h : WindowContents). length h.kept) c.find_line_end.ensures.same in
          w.result-is ∙ (w.judge-in-None.ensures ∙ (ap (λ (n : ℕ). verdict_on w.size.result false n left) w.from-in-None.ensures
          ∙ (ap (λ (n : ℕ). verdict_on n false longest left) size ∙ (verdict_of_open longest left kept w.in-None.ensures.place ∙ same))))
    ]

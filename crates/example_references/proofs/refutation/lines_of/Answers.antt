-- Before the first turn there are no lines, and after the last they are all.
use Rattle.std.proofs.Common.{◌≡◌, ◌-◌, ℕ, List, [], length, sym, subst, arith}
use Rattle.closure_model.specs.declared.derivation.NodeId.{NodeId}
use Rattle.example_references.specs.LinesFrom.{AreLinesFrom}
use Rattle.example_references.proofs.LineFacts.{lines_first, lines_whole}
use Rattle.example_references.proofs.refutation.lines_of.Goals as goal

pub loop-passed-init : goal.loop-passed-init
loop-passed-init c =
    let all : length c.args.nodes.now ≡ length c.args.nodes.now - 0 = omega arith in
    subst (λ (lines : List NodeId). AreLinesFrom c.args.nodes.now c.args.steps.now (length c.args.nodes.now - 0) lines) (sym c.new-lines.ensures.items)
    (subst (λ (n : ℕ). AreLinesFrom c.args.nodes.now c.args.steps.now n []) all (lines_first c.args.nodes.now c.args.steps.now c.requires))

pub returns : goal.returns
returns c =
    let none : length c.args.nodes.now - c.loop-passed.passed ≡ 0 = omega arith in
    lines_whole c.args.nodes.now c.args.steps.now c.loop-passed.lines.items (subst (λ (n : ℕ). AreLinesFrom c.args.nodes.now c.args.steps.now n c.loop-passed.lines.items) none c.loop-passed.invariant)

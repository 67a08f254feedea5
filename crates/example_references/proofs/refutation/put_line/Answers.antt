-- A node that is wanted becomes a line, another is passed.
use Rattle.std.proofs.Common.{List, refl, sym, ap, subst, ◌∙◌}
use Rattle.closure_model.specs.declared.derivation.NodeId.{NodeId}
use Rattle.example_references.specs.LinesFrom.{is_wanted, AreLinesFrom}
use Rattle.example_references.proofs.LineFacts.{line_taken, line_passed}
use Rattle.example_references.proofs.refutation.put_line.Goals as goal

pub returns-in_ok-insert : goal.returns-in_ok-insert
returns-in_ok-insert c =
    subst (AreLinesFrom c.args.nodes.now c.args.steps.now c.args.id.0) (sym c.in_ok-insert.ensures.items)
    (line_taken c.args.nodes.now c.args.steps.now c.args.lines.now.items c.args.id c.requires
    (ap (λ (lines : List NodeId). is_wanted c.args.nodes.now c.args.steps.now lines c.args.id) (sym c.as_slice.ensures.value) ∙ sym c.if-is_wanted.ensures) (c.if-not-has_earlier_premises.ensures refl))

pub returns-else-is_wanted : goal.returns-else-is_wanted
returns-else-is_wanted c =
    line_passed c.args.nodes.now c.args.steps.now c.args.lines.now.items c.args.id c.requires
    (ap (λ (lines : List NodeId). is_wanted c.args.nodes.now c.args.steps.now lines c.args.id) (sym c.as_slice.ensures.value) ∙ sym c.if-is_wanted.ensures)

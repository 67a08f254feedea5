use Rattle.std.proofs.Common.{sym}
use Rattle.back_propagation.proofs.SeedSteps.{none_improves}
use Rattle.back_propagation.proofs.open_row.OpenRow.begins_after_any.Goals as goal

pub returns-then-not-may_improve : goal.returns-then-not-may_improve
returns-then-not-may_improve c =
    sym (none_improves c.args.basis.table.now c.args.self.now.slots c.args.self.now.width c.args.edge.now c.args.column c.requires.edge.slots c.requires.edge.in_column
    (c.may_improve.ensures c.if-not-may_improve.true) c.args.firsts.now c.requires.firsts)

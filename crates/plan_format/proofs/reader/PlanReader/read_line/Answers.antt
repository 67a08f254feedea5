use Rattle.std.proofs.Common.{sym, ap, ◌∙◌}
use Rattle.texts.specs.Words.{words}
use Rattle.plan_format.specs.PlanReading.{PlanProgress, plan_line_in}
use Rattle.plan_format.proofs.FaultLemmas.{refused_brings}
use Rattle.plan_format.proofs.StepLemmas.{advance, is_within}
use Rattle.plan_format.proofs.reader.PlanReader.read_line.Goals as goal

pub returns-in_err-said-clause-brings : goal.returns-in_err-said-clause-brings
returns-in_err-said-clause-brings c = λ before has at.
    let same = ap (λ (read : PlanProgress). plan_line_in read.section (words c.args.line.now)) c.self.view_is in
    refused_brings before c.args.line.now c.args.self.now c.args.self.now c.in_err-said.field-0.0 c.from_residual.result (sym same ∙ (sym c.plan_line_in.ensures ∙ c.in_err-said.was)) c.from_residual.ensures.0 c.from_residual.ensures.1 has

pub returns-clause-brings : goal.returns-clause-brings
returns-clause-brings c = λ before has at.
    let same = ap (λ (read : PlanProgress). plan_line_in read.section (words c.args.line.now)) c.self.view_is in
    rw c.in_ok-keep.ensures.kept (advance before c.args.line.now c.args.number c.in_ok-said.said c.args.self.now at (sym same ∙ (sym c.plan_line_in.ensures ∙ c.in_ok-said.was)) has)

pub keep-requires : goal.keep-requires
keep-requires c =
    let same = ap (λ (read : PlanProgress). plan_line_in read.section (words c.args.line.now)) c.self.view_is in
    is_within c.args.self.now.section (words c.args.line.now) c.in_ok-said.said (sym same ∙ (sym c.plan_line_in.ensures ∙ c.in_ok-said.was))

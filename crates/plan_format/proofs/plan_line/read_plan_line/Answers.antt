use Rattle.std.proofs.Common.{◌≡◌, Ok, Err, sym, ◌∙◌}
use Rattle.texts.specs.Words.{words}
use Rattle.plan_format.specs.declared.version.PlanStage.TheVariants.{Opened}
use Rattle.plan_format.specs.PlanLines.{plan_line}
use Rattle.plan_format.specs.PlanParts.{version_numbered}
use Rattle.plan_format.proofs.PartLemmas.{read_is, alone_read}
use Rattle.plan_format.proofs.DepartureLemmas.{stated_alone}
use Rattle.plan_format.proofs.plan_line.read_plan_line.Goals as goal

pub returns-in_err-plan_line-clause-every : goal.returns-in_err-plan_line-clause-every
returns-in_err-plan_line-clause-every c = λ read is.
    let version = version_numbered c.args.version in
    let here : plan_line version Opened (words c.args.line.now) ≡ Ok read = alone_read version (words c.args.line.now) read is in
    let was : c.plan_line.result ≡ Err c.in_err-plan_line.field-0.0 = c.in_err-plan_line.was in
    let by = c.plan_line.ensures in
    let numbered = c.numbered.ensures in
    absurd (cc)

pub returns-clause-grammar : goal.returns-clause-grammar
returns-clause-grammar c =
    read_is (version_numbered c.args.version) Opened (words c.args.line.now) c.in_ok-plan_line.field-0 (rw (sym c.numbered.ensures) (sym c.plan_line.ensures ∙ c.in_ok-plan_line.was))

pub returns-clause-every : goal.returns-clause-every
returns-clause-every c = λ read is.
    let version = version_numbered c.args.version in
    let here : plan_line version Opened (words c.args.line.now) ≡ Ok read = alone_read version (words c.args.line.now) read is in
    let was : c.plan_line.result ≡ Ok c.in_ok-plan_line.field-0 = c.in_ok-plan_line.was in
    let by = c.plan_line.ensures in
    let numbered = c.numbered.ensures in
    cc

pub returns-in_err-plan_line-clause-fault : goal.returns-in_err-plan_line-clause-fault
returns-in_err-plan_line-clause-fault c =
    stated_alone (version_numbered c.args.version) c.args.line.now c.in_err-plan_line.field-0.0 c.from_residual.result (rw (sym c.numbered.ensures) (sym c.plan_line.ensures ∙ c.in_err-plan_line.was)) c.from_residual.ensures.0
    c.from_residual.ensures.1

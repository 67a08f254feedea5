use Rattle.std.proofs.Common.{◌≡◌, refl, sym, ap, ◌∙◌}
use Rattle.texts.specs.Words.{words}
use Rattle.plan_format.specs.PlanLines.{plan_line}
use Rattle.plan_format.specs.PlanReading.{in_section, version_in, stage_in}
use Rattle.plan_format.specs.declared.section.PlanSection.{PlanSection}
use Rattle.plan_format.specs.declared.section.PlanSection.TheVariants.{Started}
use Rattle.plan_format.proofs.reader.plan_line_in.Goals as goal

pub returns-in-Started : goal.returns-in-Started
returns-in-Started c =
    let version = c.in-Started.field-0 in
    let stage = c.in-Started.field-1 in
    let is : c.args.section ≡ Started version stage = c.in-Started.is in
    let here : c.after_header.result ≡ in_section (Started version stage) c.plan_line-said.result = c.after_header.ensures version stage in
    let said : c.plan_line-said.result ≡ plan_line (version_in c.args.section) (stage_in c.args.section) (words c.args.line.now) = c.plan_line-said.ensures ∙ rw (c.version.ensures, c.stage.ensures) refl in
    here ∙ (ap (in_section (Started version stage)) said ∙ ap (λ (s : PlanSection). in_section s (plan_line (version_in c.args.section) (stage_in c.args.section) (words c.args.line.now))) (sym is))

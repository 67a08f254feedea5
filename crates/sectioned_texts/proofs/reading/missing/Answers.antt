use Rattle.std.proofs.Common.{sym, subst, ap, ◌∙◌}
use Rattle.net_model.specs.declared.format.FormatKind.{FormatKind}
use Rattle.sectioned_texts.specs.SectionedTexts.{IsFirstFaultOf, fault_after, missing_by}
use Rattle.sectioned_texts.proofs.ReadingLemmas.{prefix_stops}
use Rattle.sectioned_texts.proofs.reading.missing.Goals as goal

pub returns-clause-fault : goal.returns-clause-fault
returns-clause-fault g c = λ prefix is.
    let text = g.R.SectionReader.text in
    subst (λ (kind : FormatKind). IsFirstFaultOf text prefix (fault_after prefix kind)) (sym (c.missing_by.ensures ∙ ap missing_by (c.opens.ensures ∙ ap text.opens c.section.ensures)))
    (prefix_stops text c.is_lawful.ensures prefix _ is)

use Rattle.std.proofs.Common.{ap, sym, subst, ◌∙◌, arith}
use Rattle.execution_model.specs.declared.feed_answers.Why.{Why}
use Rattle.event_phase.specs.EventAnswers.{event_refusal_line, why_words, NamesPoints}
use Rattle.event_phase.proofs.event_answers.refuse_event.Goals as goal

pub returns-in-NotContingent-clause-put : goal.returns-in-NotContingent-clause-put
returns-in-NotContingent-clause-put c =
    c.refuse_point.ensures.put ∙ ap (λ (why : Why). event_refusal_line c.args.number (why_words c.args.net.now why)) (sym c.in-NotContingent.is)

pub returns-in-NotActive-clause-put : goal.returns-in-NotActive-clause-put
returns-in-NotActive-clause-put c =
    c.refuse_point-in-NotActive.ensures.put ∙ ap (λ (why : Why). event_refusal_line c.args.number (why_words c.args.net.now why)) (sym c.in-NotActive.is)

pub returns-in-MomentLimit-clause-put : goal.returns-in-MomentLimit-clause-put
returns-in-MomentLimit-clause-put c =
    c.refuse-in-MomentLimit.ensures.put ∙ ap (λ (why : Why). event_refusal_line c.args.number (why_words c.args.net.now why)) (sym c.in-MomentLimit.is)

pub returns-in-NotLater-clause-put : goal.returns-in-NotLater-clause-put
returns-in-NotLater-clause-put c =
    c.refuse.ensures.put ∙ ap (λ (why : Why). event_refusal_line c.args.number (why_words c.args.net.now why)) (sym c.in-NotLater.is)

pub returns-in-Twice-clause-put : goal.returns-in-Twice-clause-put
returns-in-Twice-clause-put c =
    c.refuse_point_at.ensures.put ∙ ap (λ (why : Why). event_refusal_line c.args.number (why_words c.args.net.now why)) (sym c.in-Twice.is)

pub returns-in-TooSoon-clause-put : goal.returns-in-TooSoon-clause-put
returns-in-TooSoon-clause-put c =
    c.refuse_point_at-in-TooSoon.ensures.put ∙ ap (λ (why : Why). event_refusal_line c.args.number (why_words c.args.net.now why)) (sym c.in-TooSoon.is)

pub returns-in-Overdue-clause-put : goal.returns-in-Overdue-clause-put
returns-in-Overdue-clause-put c =
    c.refuse_point_at-in-Overdue.ensures.put ∙ ap (λ (why : Why). event_refusal_line c.args.number (why_words c.args.net.now why)) (sym c.in-Overdue.is)

pub refuse_point-requires : goal.refuse_point-requires
refuse_point-requires c = (omega arith, subst (NamesPoints c.args.net.now) c.in-NotContingent.is c.requires)

pub refuse_point_at-requires : goal.refuse_point_at-requires
refuse_point_at-requires c = (omega arith, subst (NamesPoints c.args.net.now) c.in-Twice.is c.requires)

pub refuse_point-requires-in-NotActive : goal.refuse_point-requires-in-NotActive
refuse_point-requires-in-NotActive c = (omega arith, subst (NamesPoints c.args.net.now) c.in-NotActive.is c.requires)

pub refuse_point_at-requires-in-TooSoon : goal.refuse_point_at-requires-in-TooSoon
refuse_point_at-requires-in-TooSoon c = (omega arith, subst (NamesPoints c.args.net.now) c.in-TooSoon.is c.requires)

pub refuse_point_at-requires-in-Overdue : goal.refuse_point_at-requires-in-Overdue
refuse_point_at-requires-in-Overdue c = (omega arith, subst (NamesPoints c.args.net.now) c.in-Overdue.is c.requires)

use Rattle.std.proofs.Common.{ℕ, List, [], ◌∷◌, ap, ◌∙◌}
use Rattle.std.specs.Fmt.{decimal}
use Rattle.event_phase.specs.EventAnswers.{event_refusal_line}
use Rattle.event_phase.proofs.event_answers.refuse_point_at.Goals as goal

pub returns-clause-put : goal.returns-clause-put
returns-clause-put c =
    c.refuse_at.ensures.put ∙ ap (λ (name : List ℕ). event_refusal_line c.args.number (c.args.word.now ∷ name ∷ decimal c.args.moment ∷ [])) c.name_of.ensures.text

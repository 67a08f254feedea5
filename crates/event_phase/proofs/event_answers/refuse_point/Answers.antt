use Rattle.std.proofs.Common.{ℕ, List, [], ◌∷◌, ap, ◌∙◌}
use Rattle.event_phase.specs.EventAnswers.{event_refusal_line}
use Rattle.event_phase.proofs.event_answers.refuse_point.Goals as goal

pub returns-clause-put : goal.returns-clause-put
returns-clause-put c =
    c.refuse.ensures.put ∙ ap (λ (name : List ℕ). event_refusal_line c.args.number (c.args.word.now ∷ name ∷ [])) c.name_of.ensures.text

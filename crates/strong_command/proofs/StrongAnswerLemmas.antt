-- What is answered of a strong schedule ends the run and is one, and the words of `strong` say the form of the plan.
use Rattle.std.proofs.Common.{◌≡◌, ◌↔◌, ℕ, List, ◌++◌, inl, inr, Option, Some, refl, sym, ap, ◌∙◌, subst}
use Rattle.command_words.specs.Syntax.{Text}
use Rattle.net_model.specs.Network.{Plan}
use Rattle.command_engine.specs.declared.endings.End.{End}
use Rattle.command_engine.specs.declared.endings.End.TheVariants as ends
use Rattle.command_contracts.specs.Causes.{IsAnswer}
use Rattle.command_contracts.specs.Requests.{requested_by}
use Rattle.command_contracts.proofs.WorkersLemmas.{asks, meant}
use Rattle.command_words.specs.Arguments.{is_given}
use Rattle.input_texts.specs.PlanInput.{in_notation, json_name, notation_by}
use Rattle.input_texts.specs.declared.plan_input.PlanForm.{PlanForm}
use Rattle.cert_format.specs.StrongWords.{printed_strong}
use Rattle.strong_plan.specs.Answers.{IsStrongAnswer}
use Rattle.strong_plan.specs.Laws.{StrongAnswerIsOne}
use Rattle.strong_plan.specs.declared.answer.Strong.{Strong}
use Rattle.strong_plan.specs.declared.answer.Strong.TheVariants.{Times, Refuted}
use Rattle.strong_command.specs.StrongAnswers.{PutsStrong, PutsStrongly, SayStrong, executable_names, not_strong_line, strong_line, strong_request, strong_syntax, times_text}
use Rattle.strong_command.specs.declared.strong_question.StrongQuestion.{StrongQuestion}

pub answer_ends : (net : Plan) (put : List ℕ) (end : End) → PutsStrongly net put end → IsAnswer end
answer_ends net put end (inl schedule) = subst IsAnswer (sym schedule.1.done) tt
answer_ends net put end (inr refutation) = subst IsAnswer (sym refutation.refused) tt

-- what is put for an answer, and how the run ends
abbrev text_of : Plan → Strong → List ℕ
text_of net (Times times) = strong_line ++ times_text (executable_names net) times
text_of net (Refuted cert) = not_strong_line ++ printed_strong cert

abbrev end_of : Strong → End
end_of (Times times) = ends.Done
end_of (Refuted cert) = ends.Refused

put_for : (net : Plan) (put : List ℕ) (end : End) → PutsStrong net put end → (answer : Strong) × IsStrongAnswer net answer × (put ≡ text_of net answer) × (end ≡ end_of answer)
put_for net put end (inl schedule) = (Times schedule.times, schedule.least, schedule.is, schedule.done)
put_for net put end (inr refutation) = (Refuted refutation.cert, refutation.refutes, refutation.is, refutation.refused)

pub strong_answers_once : StrongAnswerIsOne → (net : Plan) (a b : List ℕ) (x y : End) → PutsStrong net a x → PutsStrong net b y → (a ≡ b) × (x ≡ y)
strong_answers_once law net a b x y first second =
    let (one, answers, text, end) = put_for net a x first in
    let (other, answers_also, text_also, end_also) = put_for net b y second in
    let same = law net one other answers answers_also in
    (text ∙ (ap (text_of net) same ∙ sym text_also), end ∙ (ap end_of same ∙ sym end_also))

pub strong_exactly : (words : List Text) (query : StrongQuestion) → requested_by strong_syntax strong_request words ≡ Some query ↔ SayStrong query words
strong_exactly words query = (to, from)
  where
    to : requested_by strong_syntax strong_request words ≡ Some query → SayStrong query words
    to is =
        let means = meant strong_syntax refl strong_request words query is in
        let one : record { form = in_notation (notation_by (is_given json_name means.0)) } ≡ query = (let last = means.2 in cc) in
        record { uses = means.0; says = means.1; read = ap (λ (a : StrongQuestion). a.form) one }

    from : SayStrong query words → requested_by strong_syntax strong_request words ≡ Some query
    from say =
        let made : PlanForm → Option StrongQuestion = λ form. Some (record { form = form }) in
        asks strong_syntax refl strong_request words say.uses say.says ∙ ap made say.read

-- What the words of `show` say: two notations.
use Rattle.std.proofs.Common.{◌≡◌, ◌↔◌, List, Option, Some, codes, refl, ap, ◌∙◌}
use Rattle.command_words.specs.Arguments.{is_given}
use Rattle.command_words.specs.Syntax.{Text}
use Rattle.input_texts.specs.PlanInput.{in_notation, json_name, notation_by}
use Rattle.command_contracts.specs.Requests.{requested_by}
use Rattle.show_command.specs.ShowAnswers.{show_request, show_syntax}
use Rattle.show_command.specs.Words.{SayForms}
use Rattle.input_texts.specs.declared.plan_input.Notation.{Notation}
use Rattle.input_texts.specs.declared.plan_input.PlanForm.{PlanForm}
use Rattle.show_command.specs.declared.show_question.Show.{Show}
use Rattle.command_contracts.proofs.WorkersLemmas.{asks, meant}

pub show_exactly : (words : List Text) (show : Show) → requested_by show_syntax show_request words ≡ Some show ↔ SayForms show_syntax show words
show_exactly words show = (to, from)
  where
    to : requested_by show_syntax show_request words ≡ Some show → SayForms show_syntax show words
    to is =
        let means = meant show_syntax refl show_request words show is in
        let query : record { form = in_notation (notation_by (is_given json_name means.0)); print = notation_by (is_given (codes "print-json") means.0) } ≡ show = (let last = means.2 in cc) in
        record { uses = means.0; says = means.1; read = ap (λ (s : Show). s.form) query; put = ap (λ (s : Show). s.print) query }

    from : SayForms show_syntax show words → requested_by show_syntax show_request words ≡ Some show
    from say =
        let shown : PlanForm → Notation → Option Show = λ form print. Some (record { form = form; print = print }) in
        asks show_syntax refl show_request words say.uses say.says ∙ (ap (λ (f : PlanForm). shown f (notation_by (is_given (codes "print-json") say.uses))) say.read ∙ ap (λ (n : Notation). shown show.form n) say.put)

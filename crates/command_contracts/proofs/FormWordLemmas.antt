-- What the words of a command say that takes the form of a plan.
use Rattle.std.proofs.Common.{◌≡◌, ◌↔◌, ℕ, ◌<◌, ◌^◌, Bool, List, Option, Some, None, refl, sym, ap, ◌∙◌, subst, lit<}
use Rattle.std.specs.Option.{option_map}
use Rattle.net_model.specs.Limits.{most_delay}
use Rattle.command_words.specs.Arguments.{is_given, text_given}
use Rattle.command_words.specs.SpelledWords.{Use}
use Rattle.command_words.specs.Syntax.{Text}
use Rattle.input_texts.specs.PlanInput.{form_by, json_name}
use Rattle.command_contracts.specs.Counts.{number_within}
use Rattle.command_contracts.specs.PlanWords.{SayForm, SayFormAndWorkers, SaysDelay, SaysForm, requested_form, delay_given, delay_name, form_request, form_given, form_syntax, plan_syntax}
use Rattle.command_contracts.specs.Requests.{requested_by}
use Rattle.command_contracts.specs.WorkerCounts.{DifferInWorkers, WorkersDecideNothing}
use Rattle.input_texts.specs.declared.delay.Delay.{Delay}
use Rattle.input_texts.specs.declared.delay.Delay.TheVariants.{Own, Moments}
use Rattle.input_texts.specs.declared.plan_input.Notation.{Notation}
use Rattle.input_texts.specs.declared.plan_input.PlanForm.{PlanForm}
use Rattle.command_contracts.proofs.CountLemmas.{number_is, number_read}
use Rattle.command_contracts.proofs.WorkersLemmas.{asks, decide_nothing_said, meant, said_by_uses}

-- ---- the delay

small : most_delay < 2 ^ 64
small = lit< tt

says_delay : (value : Option Text) (delay : Delay) → delay_given value ≡ Some delay → SaysDelay value delay
says_delay None delay is = let same : Own ≡ delay = cc in sym same
says_delay (Some word) delay is = by (number_within most_delay word) refl is
  where
    by : (found : Option ℕ) → number_within most_delay word ≡ found → option_map (λ moments. Moments moments) found ≡ Some delay → SaysDelay (Some word) delay
    by None same made = absurd cc
    by (Some moments) same made =
        let spelled = number_is most_delay small word moments same in
        let one : Moments moments ≡ delay = cc in
        (moments, spelled.0, spelled.1, sym one)

delay_said : (value : Option Text) (delay : Delay) → SaysDelay value delay → delay_given value ≡ Some delay
delay_said None delay says = ap (λ (d : Delay). Some d) (sym says)
delay_said (Some word) delay (moments, is, within, same) =
    ap (λ (w : Text). delay_given (Some w)) is
    ∙ (ap (option_map (λ m. Moments m)) (number_read most_delay small moments within) ∙ ap (λ (d : Delay). Some d) (sym same))

-- ---- the form

abbrev pub said_form : List Use → Option PlanForm
said_form uses = form_given (is_given json_name uses) (text_given delay_name uses)

pub says_form : (uses : List Use) (form : PlanForm) → said_form uses ≡ Some form → SaysForm uses form
says_form uses form is = by (delay_given (text_given delay_name uses)) refl is
  where
    by : (found : Option Delay) → delay_given (text_given delay_name uses) ≡ found → option_map (form_by (is_given json_name uses)) found ≡ Some form → SaysForm uses form
    by None same made = absurd cc
    by (Some delay) same made =
        let one : form_by (is_given json_name uses) delay ≡ form = cc in
        let says = says_delay (text_given delay_name uses) delay same in
        (ap (λ (f : PlanForm). f.notation) one, subst (SaysDelay (text_given delay_name uses)) (ap (λ (f : PlanForm). f.delay) one) says)

pub form_said : (uses : List Use) (form : PlanForm) → SaysForm uses form → said_form uses ≡ Some form
form_said uses form (notation, says) =
    let in_it : Notation → Option PlanForm = λ n. Some (record { notation = n; delay = form.delay }) in
    ap (option_map (form_by (is_given json_name uses))) (delay_said (text_given delay_name uses) form.delay says) ∙ ap in_it notation

-- the number of workers decides nothing of it
pub same_form : (uses others : List Use) → DifferInWorkers uses others → said_form uses ≡ said_form others
same_form uses others differ =
    ap (λ (json : Bool). form_given json (text_given delay_name uses)) (differ.flags json_name refl)
    ∙ ap (form_given (is_given json_name others)) (differ.options delay_name refl)

pub workers_decide_no_form : WorkersDecideNothing plan_syntax requested_form
workers_decide_no_form = decide_nothing_said plan_syntax refl requested_form said_form (λ uses. refl) refl same_form

pub form_exactly : (words : List Text) (form : PlanForm) → requested_by plan_syntax requested_form words ≡ Some form ↔ SayFormAndWorkers plan_syntax form words
form_exactly words form =
    let exactly = said_by_uses plan_syntax refl requested_form said_form (λ uses. refl) words form in
    (λ is. let said = exactly.0 is in record { say = said.0; given = says_form said.0.uses form said.1 }, λ say. exactly.1 (say.say, form_said say.say.uses form say.given))

-- ---- a command that takes the form of the plan alone, from which its request is made
pub form_alone_exactly : {A : Type 0} (make : PlanForm → A) (form_of : A → PlanForm) → ((form : PlanForm) → form_of (make form) ≡ form) → ((query : A) → make (form_of query) ≡ query)
    → (words : List Text) (query : A) → requested_by form_syntax (form_request make) words ≡ Some query ↔ SayForm form_syntax (form_of query) words
form_alone_exactly {A} make form_of there back words query = (to, from)
  where
    says : (uses : List Use) (found : Option PlanForm) → said_form uses ≡ found → option_map make found ≡ Some query → SaysForm uses (form_of query)
    says uses None same made = absurd cc
    says uses (Some form) same made =
        let one : make form ≡ query = cc in
        subst (SaysForm uses) (sym (there form) ∙ ap form_of one) (says_form uses form same)

    to : requested_by form_syntax (form_request make) words ≡ Some query → SayForm form_syntax (form_of query) words
    to is =
        let means = meant form_syntax refl (form_request make) words query is in
        record { uses = means.0; says = means.1; given = says means.0 (said_form means.0) refl means.2 }

    from : SayForm form_syntax (form_of query) words → requested_by form_syntax (form_request make) words ≡ Some query
    from say =
        asks form_syntax refl (form_request make) words say.uses say.says
        ∙ (ap (option_map make) (form_said say.uses (form_of query) say.given) ∙ ap (λ (a : A). Some a) (back query))

-- What the words of `judge` say: the form of the plan, and the kind of the certificate.
use Rattle.std.proofs.Common.{◌≡◌, ◌↔◌, Bool, true, false, List, Option, Some, None, refl, ap, ◌∙◌}
use Rattle.std.specs.Option.{option_map}
use Rattle.command_words.specs.Arguments.{is_given, text_given}
use Rattle.command_words.specs.SpelledWords.{Use}
use Rattle.command_words.specs.Syntax.{Text}
use Rattle.command_contracts.specs.PlanWords.{delay_name, form_given}
use Rattle.command_contracts.specs.Requests.{requested_by}
use Rattle.command_contracts.specs.WorkerCounts.{DifferInWorkers, WorkersDecideNothing}
use Rattle.input_texts.specs.PlanInput.{json_name}
use Rattle.input_texts.specs.declared.plan_input.PlanForm.{PlanForm}
use Rattle.input_texts.specs.ProofInputs.{kind_by, strong_name}
use Rattle.input_texts.specs.declared.proof_input.ProofKind.{ProofKind}
use Rattle.input_texts.specs.declared.proof_input.ProofKind.TheVariants.{Control, Strong}
use Rattle.judge_command.specs.JudgeAnswers.{judge_request, judge_given, judge_syntax}
use Rattle.judge_command.specs.Words.{SayJudge}
use Rattle.judge_command.specs.declared.judge_question.Judge.{Judge}
use Rattle.command_contracts.proofs.FormWordLemmas.{form_said, says_form}
use Rattle.command_contracts.proofs.WorkersLemmas.{asks, meant}

-- the request, by whether a strong certificate is, the form and the delay
record IsGiven (strong json : Bool) (delay : Option Text) (judge : Judge) : Type 0 where
  form : form_given json delay ≡ Some judge.form
  kind : kind_by strong ≡ judge.kind
  alone : judge.kind ≡ Strong → delay ≡ None

made : (strong : Bool) (found : Option PlanForm) (judge : Judge) → option_map (λ (form : PlanForm). let j : Judge = record { form = form; kind = kind_by strong } in j) found ≡ Some judge
    → (found ≡ Some judge.form) × (kind_by strong ≡ judge.kind)
made strong None judge is = absurd cc
made strong (Some form) judge is =
    let one : (let j : Judge = record { form = form; kind = kind_by strong } in j) ≡ judge = cc in
    (ap (λ (j : Judge). Some j.form) one, ap (λ (j : Judge). j.kind) one)

given : (strong json : Bool) (delay : Option Text) (judge : Judge) → judge_given strong json delay ≡ Some judge → IsGiven strong json delay judge
given true json (Some delay) judge is = absurd cc
given true json None judge is = let its = made true (form_given json None) judge is in record { form = its.0; kind = its.1; alone = λ strong. refl }
given false json delay judge is =
    let its = made false (form_given json delay) judge is in
    record { form = its.0; kind = its.1; alone = λ strong. let wrong : Control ≡ Strong = its.1 ∙ strong in absurd cc }

gives : (strong json : Bool) (delay : Option Text) (judge : Judge) → IsGiven strong json delay judge → judge_given strong json delay ≡ Some judge
gives true json (Some delay) judge is = let wrong : ◌≡◌ {A = Option Text} (Some delay) None = is.alone (by_kind is.kind) in absurd cc
  where
    by_kind : kind_by true ≡ judge.kind → judge.kind ≡ Strong
    by_kind same = cc
gives true json None judge is =
    ap (option_map (λ (form : PlanForm). let j : Judge = record { form = form; kind = Strong } in j)) is.form ∙ ap (λ (k : ProofKind). let o : Option Judge = Some (record { form = judge.form; kind = k }) in o) is.kind
gives false json delay judge is =
    ap (option_map (λ (form : PlanForm). let j : Judge = record { form = form; kind = Control } in j)) is.form ∙ ap (λ (k : ProofKind). let o : Option Judge = Some (record { form = judge.form; kind = k }) in o) is.kind

pub judge_exactly : (words : List Text) (judge : Judge) → requested_by judge_syntax judge_request words ≡ Some judge ↔ SayJudge judge_syntax judge words
judge_exactly words judge = (to, from)
  where
    to : requested_by judge_syntax judge_request words ≡ Some judge → SayJudge judge_syntax judge words
    to is =
        let means = meant judge_syntax refl judge_request words judge is in
        let its = given (is_given strong_name means.0) (is_given json_name means.0) (text_given delay_name means.0) judge means.2 in
        record { uses = means.0; says = means.1; given = says_form means.0 judge.form its.form; kind = its.kind; alone = its.alone }

    from : SayJudge judge_syntax judge words → requested_by judge_syntax judge_request words ≡ Some judge
    from say =
        asks judge_syntax refl judge_request words say.uses say.says
        ∙ gives (is_given strong_name say.uses) (is_given json_name say.uses) (text_given delay_name say.uses) judge (record { form = form_said say.uses judge.form say.given; kind = say.kind; alone = say.alone })

-- the words of `judge` say no number of workers
same_judge : (uses others : List Use) → DifferInWorkers uses others → judge_given (is_given strong_name uses) (is_given json_name uses) (text_given delay_name uses) ≡ judge_given (is_given strong_name others) (is_given json_name others)
    (text_given delay_name others)
same_judge uses others differ =
    let strong : is_given strong_name uses ≡ is_given strong_name others = differ.flags strong_name refl in
    let json : is_given json_name uses ≡ is_given json_name others = differ.flags json_name refl in
    let delay : text_given delay_name uses ≡ text_given delay_name others = differ.options delay_name refl in
    λ i. judge_given (strong i) (json i) (delay i)

pub workers_decide_no_judging : WorkersDecideNothing judge_syntax judge_request
workers_decide_no_judging = record { sound = refl; no_flag = refl; same = same_judge }

-- The command `judge`: a plan, and after it a certificate of one of two kinds, which is judged.
use Rattle.std.specs.Prelude.{◌≡◌, ℕ, Bool, true, List, [], ◌∷◌, Option, Some, None}
use Rattle.std.specs.Option.{option_map}
use Rattle.texts.specs.PrintedLines.{printed_line}
use Rattle.net_model.specs.Network.{Plan}
use Rattle.net_model.specs.ShownForm.{shown_form}
use Rattle.cert_checker.specs.Judgement.{judgement_of}
use Rattle.cert_checker.specs.JudgementText.{judgement_text}
use Rattle.cert_checker.specs.declared.judgement.Judgement.{Judgement}
use Rattle.cert_checker.specs.declared.judgement.Judgement.TheVariants.{Accepted, Refused}
use Rattle.strong_plan.specs.Judgement.{judgement_of as strong_judgement_of, judgement_text as strong_judgement_text}
use Rattle.strong_plan.specs.declared.judgement.StrongJudgement.{StrongJudgement}
use Rattle.strong_plan.specs.declared.judgement.StrongJudgement.TheVariants as strong
use Rattle.command_words.specs.Arguments.{Arguments, flag_at, option_at}
use Rattle.command_words.specs.Syntax.{Syntax, Text}
use Rattle.command_engine.specs.Machine.{Machine}
use Rattle.command_engine.specs.AnswersOnce.{answers_once_machine}
use Rattle.command_engine.specs.Pairs.{then_reader}
use Rattle.command_engine.specs.declared.questions.AnswersOnce.{AnswersOnce}
use Rattle.command_engine.specs.declared.endings.End.{End}
use Rattle.command_engine.specs.declared.endings.End.TheVariants as end
use Rattle.command_engine.specs.declared.pairs.Then.{Then}
use Rattle.command_engine.specs.declared.pairs.Then.TheVariants.{First}
use Rattle.common_answers.specs.Faults.{refusing}
use Rattle.input_texts.specs.PlanInput.{PlanInput, initial_input, input_reader, json_name}
use Rattle.command_contracts.specs.PlanWords.{delay_name, form_given}
use Rattle.input_texts.specs.ProofInputs.{ProofInput, kind_by, initial_proof, proof_reader, strong_name}
use Rattle.input_texts.specs.declared.proof_input.Proof.{Proof}
use Rattle.input_texts.specs.declared.proof_input.Proof.TheVariants.{Control, Strong}
use Rattle.judge_command.specs.declared.judge_question.Judge.{Judge}

-- the line that is printed of a judgement
abbrev pub judgement_line : Judgement → List ℕ
judgement_line judgement = printed_line (judgement_text judgement ∷ [])

-- how a judgement ends the run
abbrev pub judgement_end : Judgement → End
judgement_end (Accepted claim) = end.Done
judgement_end (Refused line why) = end.Refused

-- the same of a strong certificate
abbrev pub strong_judgement_line : StrongJudgement → List ℕ
strong_judgement_line judgement = printed_line (strong_judgement_text judgement ∷ [])

abbrev pub strong_judgement_end : StrongJudgement → End
strong_judgement_end strong.Accepted = end.Done
strong_judgement_end (strong.Refused line why) = end.Refused

-- The judgement of a certificate of either kind of a network is put: of one about strategies by the shown form, of a strong one by the network
-- as it is stated.
abbrev pub PutsProof : Plan → Proof → List ℕ → End → Type 0
PutsProof net (Control cert) put end = (put ≡ judgement_line (judgement_of (shown_form net) cert)) × (end ≡ judgement_end (judgement_of (shown_form net) cert))
PutsProof net (Strong cert) put end = (put ≡ strong_judgement_line (strong_judgement_of net cert)) × (end ≡ strong_judgement_end (strong_judgement_of net cert))

-- the answer to a network and a certificate
abbrev pub judge_answers : Judge → Plan × Proof → List ℕ → End → Type 0
judge_answers question value answer end = PutsProof value.0 value.1 answer end

-- `judge` takes the form of the plan, and of which kind the certificate is
abbrev pub judge_syntax : Syntax
judge_syntax = record { flags = json_name ∷ strong_name ∷ []; options = delay_name ∷ []; operands = [] }

-- the request, by whether `--strong` and `--json` are given, and the value of `--delay`, which is not taken together with `--strong`
abbrev pub judge_given : (strong json : Bool) → Option Text → Option Judge
judge_given true json (Some delay) = None
judge_given strong json delay = option_map (λ form. record { form = form; kind = kind_by strong }) (form_given json delay)

abbrev pub judge_request : Arguments → Option Judge
judge_request arguments = judge_given (flag_at 1 arguments) (flag_at 0 arguments) (option_at 0 arguments)

-- how far the input of `judge` was read
abbrev pub Judging : Type 0
Judging = AnswersOnce Judge (Then PlanInput Plan ProofInput)

-- before the first line
abbrev pub judge_start : Judge → Judging
judge_start judge = record { question = judge; text = First (initial_input judge.form) (initial_proof judge.kind) }

-- what `judge` means
abbrev pub judge_machine : Machine Judging
judge_machine = answers_once_machine (λ (judge : Judge) (value : Plan × Proof) (number : ℕ). judge_answers judge value)
    (then_reader input_reader proof_reader) refusing

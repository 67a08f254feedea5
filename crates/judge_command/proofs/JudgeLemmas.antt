-- `judge` keeps its promise.
use Rattle.std.proofs.Common.{◌≡◌, ℕ, List, get_or, refl, sym, ap, ◌∙◌, subst, arith, inl, inr}
use Rattle.texts.specs.Lines.{lines}
use Rattle.net_model.specs.Network.{Plan, IsPlan}
use Rattle.strategy_model.specs.Control.{IsControllable}
use Rattle.net_model.specs.ShownForm.{shown_form}
use Rattle.cert_format.specs.declared.certificate.Certificate.{Certificate}
use Rattle.cert_checker.specs.Judgement.{judgement_of}
use Rattle.cert_checker.specs.Laws.{AcceptedControls, AcceptedExcludes}
use Rattle.cert_checker.specs.declared.judgement.Claim.{Claim}
use Rattle.cert_checker.specs.declared.judgement.Claim.TheVariants.{NotControllable, Controllable}
use Rattle.cert_checker.specs.declared.judgement.Judgement.{Judgement}
use Rattle.cert_checker.specs.declared.judgement.Judgement.TheVariants.{Accepted, Refused as Rejected}
use Rattle.cert_format.specs.declared.strong_cert.StrongCert.{StrongCert}
use Rattle.strong_plan.specs.Judgement.{judgement_of as strong_judgement_of}
use Rattle.strong_plan.specs.Laws.{AcceptedExcludes as AcceptedExcludesStrong}
use Rattle.strong_plan.specs.declared.judgement.StrongJudgement.{StrongJudgement}
use Rattle.strong_plan.specs.declared.judgement.StrongJudgement.TheVariants as strong
use Rattle.command_engine.specs.Grammars.{ReadsBy}
use Rattle.command_engine.specs.Inputs.{AnswersOrRefuses}
use Rattle.command_engine.specs.Pairs.{then_reader}
use Rattle.command_engine.specs.Runs.{Runs}
use Rattle.command_engine.specs.declared.endings.End.{End}
use Rattle.command_engine.specs.declared.pairs.Then.TheVariants.{First}
use Rattle.command_engine.proofs.InputLemmas.{answers_text}
use Rattle.command_engine.proofs.PairGrammarLemmas.{pair_by}
use Rattle.input_texts.specs.ProofInputs.{initial_proof, proof_reader}
use Rattle.input_texts.specs.declared.proof_input.Proof.{Proof}
use Rattle.input_texts.specs.declared.proof_input.Proof.TheVariants.{Control, Strong}
use Rattle.common_answers.specs.Faults.{fault_line, refusing}
use Rattle.judge_command.specs.JudgeAnswers.{PutsProof, judge_answers, judge_machine, judge_start, judgement_line, strong_judgement_line}
use Rattle.judge_command.specs.JudgePromise.{JudgePromise, PutsJudgement}
use Rattle.input_texts.specs.PlanInput.{initial_input, input_reader, plan_in}
use Rattle.judge_command.specs.JudgeInput.{judge_grammar, judged_texts}
use Rattle.common_answers.specs.declared.faults.Fault.{Fault}
use Rattle.judge_command.specs.declared.judge_question.Judge.{Judge}
use Rattle.input_texts.proofs.ProofLemmas.{proof_by}
use Rattle.input_texts.proofs.PlanInputLemmas.{input_by, input_one, input_sound}

-- a plan and a certificate after it are read by their grammars
judge_by : (judge : Judge) → ReadsBy (then_reader input_reader proof_reader) (First (initial_input judge.form) (initial_proof judge.kind)) 0 (judge_grammar judge)
judge_by judge = pair_by input_reader proof_reader (initial_proof judge.kind) (initial_input judge.form) 0 (plan_in judge.form) (judged_texts judge) (input_by judge.form 0) (proof_by judge.kind)

puts_once : (net : Plan) (proof : Proof) (a b : List ℕ) (x y : End) → PutsProof net proof a x → PutsProof net proof b y → (a ≡ b) × (x ≡ y)
puts_once net (Control cert) a b x y one other = (one.0 ∙ sym other.0, one.1 ∙ sym other.1)
puts_once net (Strong cert) a b x y one other = (one.0 ∙ sym other.0, one.1 ∙ sym other.1)

pub judge_answers_once : (question : Judge) (value : Plan × Proof) (a b : List ℕ) (x y : End) → judge_answers question value a x → judge_answers question value b y → (a ≡ b) × (x ≡ y)
judge_answers_once question value a b x y one other = puts_once value.0 value.1 a b x y one other

-- the byte at a place
abbrev byte_at : ℕ → List ℕ → ℕ
byte_at place bytes = get_or bytes place 0

-- the line with which each claim is accepted
accepted : Claim → List ℕ
accepted claim = judgement_line (Accepted claim)

only_accepted : (claim : Claim) (judgement : Judgement) → judgement_line judgement ≡ accepted claim → judgement ≡ Accepted claim
unfolding accepted
only_accepted NotControllable (Accepted NotControllable) same = refl
only_accepted NotControllable (Accepted Controllable) same = let byte : ◌≡◌ {A = ℕ} 99 110 = ap (byte_at 9) same in absurd (omega arith)
only_accepted Controllable (Accepted NotControllable) same = let byte : ◌≡◌ {A = ℕ} 110 99 = ap (byte_at 9) same in absurd (omega arith)
only_accepted Controllable (Accepted Controllable) same = refl
only_accepted NotControllable (Rejected line why) same = let byte : ◌≡◌ {A = ℕ} 114 97 = ap (byte_at 0) same in absurd (omega arith)
only_accepted Controllable (Rejected line why) same = let byte : ◌≡◌ {A = ℕ} 114 97 = ap (byte_at 0) same in absurd (omega arith)

no_refusal_line : (claim : Claim) (fault : Fault) → fault_line fault ≡ accepted claim → ⊥
unfolding accepted
no_refusal_line NotControllable fault same = let byte : ◌≡◌ {A = ℕ} 101 97 = ap (byte_at 0) same in omega arith
no_refusal_line Controllable fault same = let byte : ◌≡◌ {A = ℕ} 101 97 = ap (byte_at 0) same in omega arith

-- no line of a judgement of a strong certificate says so
no_strong_line : (claim : Claim) (judgement : StrongJudgement) → strong_judgement_line judgement ≡ accepted claim → ⊥
unfolding accepted
no_strong_line NotControllable strong.Accepted same = let byte : ◌≡◌ {A = ℕ} 115 99 = ap (byte_at 13) same in omega arith
no_strong_line Controllable strong.Accepted same = let byte : ◌≡◌ {A = ℕ} 110 99 = ap (byte_at 9) same in omega arith
no_strong_line NotControllable (strong.Refused line why) same = let byte : ◌≡◌ {A = ℕ} 114 97 = ap (byte_at 0) same in omega arith
no_strong_line Controllable (strong.Refused line why) same = let byte : ◌≡◌ {A = ℕ} 114 97 = ap (byte_at 0) same in omega arith

-- the line with which a strong certificate is accepted
strongly : List ℕ
strongly = strong_judgement_line strong.Accepted

only_strongly : (judgement : StrongJudgement) → strong_judgement_line judgement ≡ strongly → judgement ≡ strong.Accepted
unfolding strongly
only_strongly strong.Accepted same = refl
only_strongly (strong.Refused line why) same = let byte : ◌≡◌ {A = ℕ} 114 97 = ap (byte_at 0) same in absurd (omega arith)

no_control_line : (judgement : Judgement) → judgement_line judgement ≡ strongly → ⊥
unfolding strongly
no_control_line (Accepted NotControllable) same = let byte : ◌≡◌ {A = ℕ} 99 115 = ap (byte_at 13) same in omega arith
no_control_line (Accepted Controllable) same = let byte : ◌≡◌ {A = ℕ} 99 110 = ap (byte_at 9) same in omega arith
no_control_line (Rejected line why) same = let byte : ◌≡◌ {A = ℕ} 114 97 = ap (byte_at 0) same in omega arith

no_fault_line : (fault : Fault) → fault_line fault ≡ strongly → ⊥
unfolding strongly
no_fault_line fault same = let byte : ◌≡◌ {A = ℕ} 101 97 = ap (byte_at 0) same in omega arith

-- if it is put that a claim is accepted, the claim is that of a certificate of the network
control_by : (net : Plan) (claim : Claim) (proof : Proof) (put : List ℕ) (end : End) → PutsProof net proof put end → put ≡ accepted claim → (certificate : Certificate) × (judgement_of (shown_form net) certificate ≡ Accepted claim)
control_by net claim (Control cert) put end puts same = (cert, only_accepted claim (judgement_of (shown_form net) cert) (sym puts.0 ∙ same))
control_by net claim (Strong cert) put end puts same = absurd (no_strong_line claim (strong_judgement_of net cert) (sym puts.0 ∙ same))

strong_by : (net : Plan) (proof : Proof) (put : List ℕ) (end : End) → PutsProof net proof put end → put ≡ strongly → (cert : StrongCert) × (strong_judgement_of net cert ≡ strong.Accepted)
strong_by net (Control cert) put end puts same = absurd (no_control_line (judgement_of (shown_form net) cert) (sym puts.0 ∙ same))
strong_by net (Strong cert) put end puts same = (cert, only_strongly (strong_judgement_of net cert) (sym puts.0 ∙ same))

-- and that network is the one that the input declares
accepts_by : (judge : Judge) (claim : Claim) (input put : List ℕ) (end : End) → AnswersOrRefuses (judge_grammar judge) refusing PutsJudgement input put end → put ≡ accepted claim → (net : Plan) (rest : List (List ℕ))
    → (plan_in judge.form).declares (lines input) net rest
    → IsPlan net × ((certificate : Certificate) × (judgement_of (shown_form net) certificate ≡ Accepted claim))
accepts_by judge claim input put end (inl (value, after, both, puts)) same net rest network =
    let one : value.0 ≡ net = input_one judge.form (lines input) value.0 net both.0.rest rest both.0.declared network in
    (input_sound judge.form (lines input) net rest network, control_by net claim value.1 put end (subst (λ (n : Plan). PutsProof n value.1 put end) one puts) same)
accepts_by judge claim input put end (inr (fault, first, puts)) same net rest network =
    absurd (no_refusal_line claim fault (sym puts.0 ∙ same))

strongly_by : (judge : Judge) (input put : List ℕ) (end : End) → AnswersOrRefuses (judge_grammar judge) refusing PutsJudgement input put end → put ≡ strongly → (net : Plan) (rest : List (List ℕ))
    → (plan_in judge.form).declares (lines input) net rest
    → IsPlan net × ((cert : StrongCert) × (strong_judgement_of net cert ≡ strong.Accepted))
strongly_by judge input put end (inl (value, after, both, puts)) same net rest network =
    let one : value.0 ≡ net = input_one judge.form (lines input) value.0 net both.0.rest rest both.0.declared network in
    (input_sound judge.form (lines input) net rest network, strong_by net value.1 put end (subst (λ (n : Plan). PutsProof n value.1 put end) one puts) same)
strongly_by judge input put end (inr (fault, first, puts)) same net rest network =
    absurd (no_fault_line fault (sym puts.0 ∙ same))

excludes_by : AcceptedExcludes → (net : Plan) → IsPlan net × ((certificate : Certificate) × (judgement_of (shown_form net) certificate ≡ Accepted NotControllable)) → IsControllable net → ⊥
excludes_by law net (plan, (certificate, judged)) controllable = law net certificate plan judged controllable

controls_by : AcceptedControls → (net : Plan) → IsPlan net × ((certificate : Certificate) × (judgement_of (shown_form net) certificate ≡ Accepted Controllable)) → IsControllable net
controls_by law net (plan, (certificate, judged)) = law net certificate plan judged

pub judge_keeps : AcceptedExcludes → AcceptedControls → AcceptedExcludesStrong → (judge : Judge) (input put : List ℕ) (end : End) → Runs judge_machine (judge_start judge) input put end → JudgePromise judge input put end
unfolding accepted strongly
judge_keeps excludes controls not_strong judge input put end runs =
    let judges = answers_text (then_reader input_reader proof_reader) (First (initial_input judge.form) (initial_proof judge.kind)) (judge_grammar judge) (judge_by judge)
    (λ (question : Judge) value number. judge_answers question value) refusing judge input put end runs in
    record {
      judges = judges;
      excludes = λ same net rest network controllable. excludes_by excludes net (accepts_by judge NotControllable input put end judges.answers same net rest network) controllable;
      controls = λ same net rest network. controls_by controls net (accepts_by judge Controllable input put end judges.answers same net rest network);
      not_strong = λ same net rest network has_one. let its = strongly_by judge input put end judges.answers same net rest network in not_strong net its.1.0 its.0 its.1.1 has_one;
    }

-- What follows if a command puts the verdict of the network of an input: by the first line that is put.
use Rattle.std.proofs.Common.{◌≡◌, ℕ, List, ◌++◌, drop, length, get_or, sym, ap, ◌∙◌, subst, arith, inl, inr}
use Rattle.texts.specs.Lines.{lines}
use Rattle.net_model.specs.Network.{Plan}
use Rattle.strategy_model.specs.Control.{IsControllable}
use Rattle.cert_format.specs.CertificateWords.{printed_certificate}
use Rattle.command_engine.specs.Inputs.{AnswersOrRefuses}
use Rattle.command_engine.specs.declared.endings.End.{End}
use Rattle.common_answers.specs.VerdictLines.{controllable_line, refuted_line}
use Rattle.command_contracts.specs.PutVerdicts.{PutsDecided}
use Rattle.common_answers.specs.Faults.{fault_line, refusing}
use Rattle.input_texts.specs.PlanInput.{plan_in}
use Rattle.common_answers.specs.declared.faults.Fault.{Fault}
use Rattle.input_texts.specs.declared.plan_input.PlanForm.{PlanForm}
use Rattle.input_texts.proofs.PlanInputLemmas.{input_one}

-- the first byte
abbrev first_byte : List ℕ → ℕ
first_byte bytes = get_or bytes 0 0

pub no_refusal_is_controllable : (fault : Fault) (more : List ℕ) → fault_line fault ≡ controllable_line ++ more → ⊥
no_refusal_is_controllable fault more same = let byte : ◌≡◌ {A = ℕ} 101 99 = ap first_byte same in omega arith

pub no_refusal_is_refuted : (fault : Fault) (more : List ℕ) → fault_line fault ≡ refuted_line ++ more → ⊥
no_refusal_is_refuted fault more same = let byte : ◌≡◌ {A = ℕ} 101 110 = ap first_byte same in omega arith

apart : (more others : List ℕ) → controllable_line ++ more ≡ refuted_line ++ others → ⊥
apart more others same = let byte : ◌≡◌ {A = ℕ} 99 110 = ap first_byte same in omega arith

-- what stands after the line `controllable`
abbrev pub after_line : List ℕ → List ℕ
after_line bytes = drop (length controllable_line) bytes

-- what is put of a controllable network, which begins with that line, and what is put of any network of an input
module _ (form : PlanForm) (Yes : Plan → List ℕ → End → Type 0)
    (begins : (net : Plan) (put : List ℕ) (end : End) → Yes net put end → (more : List ℕ) × (put ≡ controllable_line ++ more)) where
  abbrev Answers : (input put : List ℕ) → End → Type 0
  Answers input put end = AnswersOrRefuses (plan_in form) refusing (λ net text ending. PutsDecided net (Yes net text ending) text ending) input put end

  -- if it is put first that a network is controllable, that of the input is, and what is put is put of it
  pub yes_by : (input put : List ℕ) (end : End) → Answers input put end → (more : List ℕ) → put ≡ controllable_line ++ more → (net : Plan) (rest : List (List ℕ)) → (plan_in form).declares (lines input) net rest
      → IsControllable net × Yes net put end
  yes_by input put end (inl (other, after, is, inl kept)) more same net rest network =
      subst (λ (n : Plan). IsControllable n × Yes n put end) (input_one form (lines input) other net after rest is network) kept
  yes_by input put end (inl (other, after, is, inr (never, (cert, accepted, puts)))) more same net rest network =
      absurd (apart more (printed_certificate cert) (sym same ∙ puts.0))
  yes_by input put end (inr (fault, first, puts)) more same net rest network = absurd (no_refusal_is_controllable fault more (sym puts.0 ∙ same))

  -- if it is put first that a network is not, that of the input is not
  pub refutes_by : (input put : List ℕ) (end : End) → Answers input put end → (more : List ℕ) → put ≡ refuted_line ++ more → (net : Plan) (rest : List (List ℕ)) → (plan_in form).declares (lines input) net rest → IsControllable net → ⊥
  refutes_by input put end (inl (other, after, is, inl (controllable, kept))) more same net rest network controls =
      let first = begins other put end kept in
      apart first.0 more (sym first.1 ∙ same)
  refutes_by input put end (inl (other, after, is, inr (never, (cert, accepted, puts)))) more same net rest network controls =
      never (subst (λ (n : Plan). IsControllable n) (sym (input_one form (lines input) other net after rest is network)) controls)
  refutes_by input put end (inr (fault, first, puts)) more same net rest network controls = no_refusal_is_refuted fault more (sym puts.0 ∙ same)

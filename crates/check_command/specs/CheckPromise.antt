-- What `check` promises of what it puts for an input.
use Rattle.std.specs.Prelude.{◌≡◌, ℕ, true, List, ◌++◌}
use Rattle.texts.specs.Lines.{lines}
use Rattle.net_model.specs.Network.{Plan}
use Rattle.net_model.specs.ShownForm.{shown_form}
use Rattle.strategy_model.specs.Control.{IsControllable}
use Rattle.cert_format.specs.CertificateWords.{printed_certificate}
use Rattle.cert_format.specs.declared.certificate.Certificate.{Certificate}
use Rattle.closure_certificates.specs.Certified.{Proves}
use Rattle.command_engine.specs.Inputs.{AnswersText}
use Rattle.command_engine.specs.declared.endings.End.{End}
use Rattle.check_command.specs.CheckAnswers.{PutsYes, check_machine, check_start, checked_plan}
use Rattle.common_answers.specs.Faults.{refusing}
use Rattle.command_contracts.specs.Causes.{text_causes}
use Rattle.input_texts.specs.PlanInput.{plan_in}
use Rattle.command_contracts.specs.Programs.{Program, or_nothing, serves}
use Rattle.common_answers.specs.VerdictLines.{controllable_line, refuted_line}
use Rattle.command_contracts.specs.PutVerdicts.{PutsDecided}
use Rattle.check_command.specs.declared.check_question.CheckFlags.{CheckFlags}

-- the verdict of a network is put, and after `controllable` a certificate that proves it, if one is wanted
abbrev pub PutsVerdict : CheckFlags → Plan → List ℕ → End → Type 0
PutsVerdict flags net put end = PutsDecided net (PutsYes flags.proof net put end) put end

-- What `check` promises, of a plan of the form that its flags say. `checks`: it puts the verdict of the network that the input declares, or the first refusal
-- of the input, by which a network is refused that the engine does not take. `controllable`: if it puts first that a network is controllable, the network that
-- the input declares is. `proves`: if a proof is wanted, what it puts after that is the text of a certificate that proves it, by its shown form. `refutes`: if
-- it puts that a network is not controllable, the network that the input declares is not.
pub record CheckPromise (flags : CheckFlags) (input put : List ℕ) (end : End) : Type 0 where
  pub checks : AnswersText (checked_plan flags) refusing (PutsVerdict flags) input put end
  pub controllable : (more : List ℕ) → put ≡ controllable_line ++ more → (net : Plan) (rest : List (List ℕ))
      → (plan_in flags.form).declares (lines input) net rest → IsControllable net
  pub proves : flags.proof ≡ true → (more : List ℕ) → put ≡ controllable_line ++ more → (net : Plan) (rest : List (List ℕ))
      → (plan_in flags.form).declares (lines input) net rest
      → (cert : Certificate) × Proves (shown_form net) cert × (more ≡ printed_certificate cert)
  pub refutes : (more : List ℕ) → put ≡ refuted_line ++ more → (net : Plan) (rest : List (List ℕ)) → (plan_in flags.form).declares (lines input) net rest
      → ¬ IsControllable net

-- the program of `check`
abbrev pub check_program : CheckFlags → Program
check_program flags = serves check_machine (check_start flags) (or_nothing (text_causes (checked_plan flags)) (CheckPromise flags))

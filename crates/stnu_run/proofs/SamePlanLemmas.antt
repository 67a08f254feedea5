-- Two inputs that declare one network have the same answers of a command that answers once, if the answer does not depend on the number of a line.
use Rattle.std.proofs.Common.{◌≡◌, ◌↔◌, ℕ, Bool, true, List, length, sym, ap, ◌∙◌, subst}
use Rattle.texts.specs.Lines.{input_lines}
use Rattle.net_model.specs.Network.{Plan}
use Rattle.command_engine.specs.AnswersOnce.{AnswersOutcome}
use Rattle.command_engine.specs.Endings.{end_number}
use Rattle.command_engine.specs.Inputs.{capacity_after}
use Rattle.command_engine.specs.Limits.{most_input}
use Rattle.command_engine.specs.Readers.{Outcome, Given, reading}
use Rattle.command_engine.specs.Runs.{begins}
use Rattle.command_engine.specs.declared.endings.End.{End}
use Rattle.command_engine.proofs.AnswersOnceLemmas.{runs_are}
use Rattle.command_engine.proofs.InputLemmas.{declared_read}
use Rattle.common_answers.specs.Faults.{refusing}
use Rattle.common_answers.specs.declared.faults.Fault.{Fault}
use Rattle.input_texts.specs.PlanInput.{initial_input, input_reader, plan_in}
use Rattle.input_texts.specs.declared.plan_input.PlanForm.{PlanForm}
use Rattle.input_texts.proofs.PlanInputLemmas.{input_by}
use Rattle.command_contracts.specs.PlanQuestions.{plan_program}
use Rattle.command_contracts.specs.Programs.{Defines}
use Rattle.command_contracts.specs.declared.status.Status.{Status}
use Rattle.check_command.specs.CheckAnswers.{check_answers, check_reader, check_start, puts_verdict}
use Rattle.check_command.specs.CheckPromise.{check_program}
use Rattle.check_command.specs.Engines.{takes}
use Rattle.check_command.specs.declared.check_question.CheckFlags.{CheckFlags}
use Rattle.check_command.specs.declared.engine.Engine.{Engine}
use Rattle.check_command.specs.declared.engine.Engine.TheVariants.{Rounds}
use Rattle.check_command.proofs.ReadingLemmas.{run_answers}
use Rattle.stnu_run.proofs.DeclaredLemmas.{Declares}
use Rattle.stnu_run.proofs.VerdictLemmas.{given, read_so}

-- the status of an end
abbrev EndsWith : Status → End → Type 0
EndsWith status end = status ≡ record { 0 = end_number end }

-- ---- a question about a plan
module _ {Q : Type 0} (form : Q → PlanForm) (answers : Q → Plan → List ℕ → End → Type 0) (promised : Q → (input put : List ℕ) → End → Type 0) where
  abbrev at_line : Q → Plan → ℕ → List ℕ → End → Type 0
  at_line question net number = answers question net

  abbrev Puts : Q → Outcome Plan Fault → List ℕ → End → Type 0
  Puts question outcome put end = AnswersOutcome at_line input_reader refusing question outcome put end

  module _ (question : Q) (input : List ℕ) (net : Plan) (is : Declares (form question) input net) (put : List ℕ) (status : Status) where
    abbrev IsAnswered : Type 0
    IsAnswered = (end : End) × EndsWith status end × answers question net put end

    read : reading input_reader (begins (initial_input (form question))) (input_lines input) ≡ Given net (length is.used) (capacity_after most_input is.used) is.rest
    read = declared_read input_reader (initial_input (form question)) (plan_in (form question)) (input_by (form question) 0) (input_lines input) is.used is.rest net is.divided is.declares

    answered : Defines (plan_program form at_line promised question) input put status → IsAnswered
    answered (end, ends, runs) =
        (end, ends, subst (λ (o : Outcome Plan Fault). Puts question o put end) read (runs_are at_line input_reader refusing question (initial_input (form question)) input put end runs))

    defined : IsAnswered → Defines (plan_program form at_line promised question) input put status
    defined (end, ends, answer) =
        (end, ends, run_answers at_line input_reader refusing question (initial_input (form question)) input put end (subst (λ (o : Outcome Plan Fault). Puts question o put end) (sym read) answer))

  -- two questions that are answered alike
  pub plan_alike : (one other : Q) (input again : List ℕ) (net : Plan) → Declares (form one) input net → Declares (form other) again net → ((put : List ℕ) (end : End) → answers one net put end ↔ answers other net put end)
      → (put : List ℕ) (status : Status) → Defines (plan_program form at_line promised one) input put status ↔ Defines (plan_program form at_line promised other) again put status
  plan_alike one other input again net is also alike put status = (to, from)
    where
      to : Defines (plan_program form at_line promised one) input put status → Defines (plan_program form at_line promised other) again put status
      to defines = let (end, ends, answer) = answered one input net is put status defines in defined other again net also put status (end, ends, (alike put end).0 answer)

      from : Defines (plan_program form at_line promised other) again put status → Defines (plan_program form at_line promised one) input put status
      from defines = let (end, ends, answer) = answered other again net also put status defines in defined one input net is put status (end, ends, (alike put end).1 answer)

-- ---- `check` by the engine of rounds
abbrev PutsChecked : CheckFlags → Outcome Plan Fault → List ℕ → End → Type 0
PutsChecked flags outcome put end = AnswersOutcome (λ (query : CheckFlags) (net : Plan) (number : ℕ). check_answers query net) check_reader refusing flags outcome put end

module _ (flags : CheckFlags) (rounds : flags.engine ≡ Rounds) (input : List ℕ) (net : Plan) (is : Declares flags.form input net) (put : List ℕ) (status : Status) where
  abbrev IsChecked : Type 0
  IsChecked = (end : End) × EndsWith status end × check_answers flags net put end

  read_whole : reading check_reader (begins (check_start flags).text) (input_lines input) ≡ given flags input net is.used is.rest is.divided is.declares true
  read_whole =
      read_so flags input net is.used is.rest is.divided is.declares
      ∙ ap (λ (e : Engine). given flags input net is.used is.rest is.divided is.declares (takes e net)) rounds

  checked : Defines (check_program flags) input put status → IsChecked
  checked (end, ends, runs) = (
    end,
    ends,
    subst (λ (o : Outcome Plan Fault). PutsChecked flags o put end) read_whole
        (runs_are (λ (query : CheckFlags) (one : Plan) (number : ℕ). check_answers query one) check_reader refusing flags (check_start flags).text input put end runs),
  )

  defined_so : IsChecked → Defines (check_program flags) input put status
  defined_so (end, ends, answer) = (
    end,
    ends,
    run_answers (λ (query : CheckFlags) (one : Plan) (number : ℕ). check_answers query one) check_reader refusing flags (check_start flags).text input put end
        (subst (λ (o : Outcome Plan Fault). PutsChecked flags o put end) (sym read_whole) answer),
  )

pub check_alike : (flags others : CheckFlags) → flags.engine ≡ Rounds → others.engine ≡ Rounds → flags.proof ≡ others.proof → (input again : List ℕ) (net : Plan) → Declares flags.form input net → Declares others.form again net
    → (put : List ℕ) (status : Status) → Defines (check_program flags) input put status ↔ Defines (check_program others) again put status
check_alike flags others rounds also proof input again net is declares put status = (to, from)
  where
    to : Defines (check_program flags) input put status → Defines (check_program others) again put status
    to defines =
        let (end, ends, answer) = checked flags rounds input net is put status defines in
        defined_so others also again net declares put status (end, ends, subst (λ (b : Bool). puts_verdict b net put end) proof answer)

    from : Defines (check_program others) again put status → Defines (check_program flags) input put status
    from defines =
        let (end, ends, answer) = checked others also again net declares put status defines in
        defined_so flags rounds input net is put status (end, ends, subst (λ (b : Bool). puts_verdict b net put end) (sym proof) answer)

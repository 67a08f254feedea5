-- What `check` puts of a network that an input declares is its verdict, unless the engine does not take the network.
use Rattle.std.proofs.Common.{◌≡◌, ◌↔◌, ◌⊎◌, inl, inr, ℕ, ◌≤◌, Bool, true, false, List, [], ◌∷◌, ◌++◌, length, Some, Ok, Err, codes, refl, sym, ap, ◌∙◌, subst, if◌then◌else◌}
use Rattle.texts.specs.Lines.{InputLine, input_lines}
use Rattle.net_model.specs.Network.{HasPlanNumbers, IsPlan, Plan}
use Rattle.plan_format.specs.PlanPrinting.{printed_plan}
use Rattle.cert_format.specs.CertificateWords.{printed_certificate}
use Rattle.strategy_model.specs.Control.{IsControllable}
use Rattle.command_engine.specs.AnswersOnce.{AnswersOutcome}
use Rattle.command_engine.specs.Endings.{end_number}
use Rattle.command_engine.specs.Inputs.{DeclaresBy, capacity_after}
use Rattle.command_engine.specs.Limits.{most_input}
use Rattle.command_engine.specs.Readers.{Outcome, reading}
use Rattle.command_engine.specs.Runs.{begins}
use Rattle.command_engine.specs.declared.endings.End.{End}
use Rattle.command_engine.specs.declared.endings.End.TheVariants.{Limit}
use Rattle.command_engine.proofs.AnswersOnceLemmas.{runs_are}
use Rattle.command_engine.proofs.InputLemmas.{declared_read}
use Rattle.common_answers.specs.Faults.{refusing}
use Rattle.common_answers.specs.declared.faults.Fault.{Fault}
use Rattle.common_answers.specs.declared.faults.Fault.TheVariants.{Cells as BeyondCells}
use Rattle.input_texts.specs.PlanInput.{in_notation, initial_input, input_reader, plan_in}
use Rattle.input_texts.specs.declared.plan_input.Notation.TheVariants.{Text}
use Rattle.input_texts.specs.declared.plan_input.PlanForm.{PlanForm}
use Rattle.input_texts.proofs.PlanInputLemmas.{input_by}
use Rattle.command_contracts.specs.Requests.{program_of_request, requested_by}
use Rattle.command_contracts.specs.declared.status.Status.{Status}
use Rattle.check_command.specs.CheckAnswers.{PutsYes, check_answers, check_reader, check_request, check_start, check_syntax, engine_test}
use Rattle.check_command.specs.CheckPromise.{check_program}
use Rattle.check_command.specs.Engines.{engine_tests, reported_line, takes}
use Rattle.check_command.specs.Words.{SayCheckFlags}
use Rattle.check_command.specs.declared.check_question.CheckFlags.{CheckFlags}
use Rattle.check_command.specs.declared.engine.Engine.{Engine}
use Rattle.check_command.specs.declared.engine.Engine.TheVariants.{Rounds, Cells}
use Rattle.check_command.proofs.ReadingLemmas.{given_by, outcome_tested, reading_tested}
use Rattle.stnu_run.specs.AcrossCommands.{ChecksAs, ChecksPlanAs, SaysControllable, SaysNotControllable}
use Rattle.stnu_run.specs.DefinedRuns.{program_of}
use Rattle.stnu_run.proofs.PrintedPlanLemmas.{plan_declares, plan_divided, used}

-- the status of a run that its command ended
abbrev number : End → Status
number end = record { 0 = end_number end }

-- only the engine of cells refuses a network
refused_by_cells : (engine : Engine) (net : Plan) → takes engine net ≡ false → engine ≡ Cells
refused_by_cells Rounds net is = absurd (cc)
refused_by_cells Cells net is = refl

yes_said : (proof : Bool) (net : Plan) (put : List ℕ) (end : End) → PutsYes proof net put end → SaysControllable put (number end)
yes_said false net put end puts = record { more = []; first = puts.0; ends = ap number puts.1 }
yes_said true net put end (cert, proves, puts) = record { more = printed_certificate cert; first = puts.0; ends = ap number puts.1 }

-- ---- of an input
module _ (flags : CheckFlags) (input : List ℕ) (net : Plan) (text rest : List InputLine) (divided : input_lines input ≡ text ++ rest) (declares : DeclaresBy (plan_in flags.form) text rest net) where
  abbrev Puts : Outcome Plan Fault → List ℕ → End → Type 0
  Puts outcome put end = AnswersOutcome (λ (query : CheckFlags) (one : Plan) (last : ℕ). check_answers query one) check_reader refusing flags outcome put end

  abbrev pub reported : Fault
  reported = BeyondCells (reported_line flags.form.notation (length text))

  abbrev pub given : Bool → Outcome Plan Fault
  given fits = given_by (if fits then Ok net else Err reported) (length text) (capacity_after most_input text) rest

  pub read_so : reading check_reader (begins (check_start flags).text) (input_lines input) ≡ given (takes flags.engine net)
  read_so =
      reading_tested input_reader engine_tests (engine_test flags) (begins (initial_input flags.form)) (input_lines input)
      ∙ ap (outcome_tested input_reader engine_tests (engine_test flags))
      (declared_read input_reader (initial_input flags.form) (plan_in flags.form) (input_by flags.form 0) (input_lines input) text rest net divided declares)

  answered : (fits : Bool) → takes flags.engine net ≡ fits → (put : List ℕ) (end : End) → Puts (given fits) put end → check_answers flags net put end ⊎ ((flags.engine ≡ Cells) × (end ≡ Limit))
  answered true is put end puts = inl puts
  answered false is put end puts = inr (refused_by_cells flags.engine net is, puts.1)

  checks_as : (Says : List ℕ → Status → Type 0) → ((put : List ℕ) (end : End) → check_answers flags net put end → Says put (number end)) → ChecksAs flags (check_program flags) Says input
  checks_as Says by put status (end, is, runs) =
      let puts = subst (λ (o : Outcome Plan Fault). Puts o put end) read_so
      (runs_are (λ (query : CheckFlags) (one : Plan) (last : ℕ). check_answers query one) check_reader refusing flags (check_start flags).text input put end runs) in
      so (answered (takes flags.engine net) refl put end puts)
    where
      so : check_answers flags net put end ⊎ ((flags.engine ≡ Cells) × (end ≡ Limit)) → Says put status ⊎ ((flags.engine ≡ Cells) × (status ≡ record { 0 = 4 }))
      so (inl answers) = inl (subst (λ (s : Status). Says put s) (sym is) (by put end answers))
      so (inr (cells, limit)) = inr (cells, is ∙ ap number limit)

  pub checked_controllable : IsControllable net → ChecksAs flags (check_program flags) SaysControllable input
  checked_controllable controllable = checks_as SaysControllable yes
    where
      yes : (put : List ℕ) (end : End) → check_answers flags net put end → SaysControllable put (number end)
      yes put end (inl (so, kept)) = yes_said flags.proof net put end kept
      yes put end (inr (never, other)) = absurd (never controllable)

  pub checked_refuted : ¬ IsControllable net → ChecksAs flags (check_program flags) SaysNotControllable input
  checked_refuted never = checks_as SaysNotControllable no
    where
      no : (put : List ℕ) (end : End) → check_answers flags net put end → SaysNotControllable put (number end)
      no put end (inl (controllable, kept)) = absurd (never controllable)
      no put end (inr (so, (cert, refutes, puts))) = record { more = printed_certificate cert; first = puts.0; ends = ap number puts.1 }

-- ---- of the plan text of a network
module _ (flags : CheckFlags) (own : flags.form ≡ in_notation Text) (net : Plan) (plan : IsPlan net) (numbers : HasPlanNumbers net) where
  declares_printed : length (printed_plan net) ≤ most_input → DeclaresBy (plan_in flags.form) (used net plan numbers) [] net
  declares_printed fits = subst (λ (form : PlanForm). DeclaresBy (plan_in form) (used net plan numbers) [] net) (sym own) (plan_declares net plan numbers fits)

  pub plan_controllable : IsControllable net → ChecksPlanAs flags (check_program flags) SaysControllable net
  plan_controllable controllable fits =
      checked_controllable flags (printed_plan net) net (used net plan numbers) [] (plan_divided net plan numbers) (declares_printed fits) controllable

  pub plan_refuted : ¬ IsControllable net → ChecksPlanAs flags (check_program flags) SaysNotControllable net
  plan_refuted never fits = checked_refuted flags (printed_plan net) net (used net plan numbers) [] (plan_divided net plan numbers) (declares_printed fits) never

-- ---- by the words
-- the words of `check` are read as the flags that they say
pub checking_is : ((words : List (List ℕ)) (flags : CheckFlags) → requested_by check_syntax check_request words ≡ Some flags ↔ SayCheckFlags check_syntax flags words)
    → (other : List ℕ) (checked : List (List ℕ)) (flags : CheckFlags) → SayCheckFlags check_syntax flags checked → check_program flags ≡ program_of (other ∷ codes "check" ∷ checked)
checking_is check_words other checked flags say = sym (ap (program_of_request check_program) ((check_words checked flags).1 say))

-- The command `check`: a plan, and then whether the network that it declares is controllable.
use Rattle.std.specs.Prelude.{ℕ, Bool, true, false, List, [], ◌∷◌, codes, Option}
use Rattle.std.specs.Option.{option_and_then, option_map}
use Rattle.net_model.specs.Network.{Plan}
use Rattle.net_model.specs.ShownForm.{shown_form}
use Rattle.cert_format.specs.declared.certificate.Certificate.{Certificate}
use Rattle.closure_certificates.specs.Certified.{Proves}
use Rattle.command_words.specs.Arguments.{Arguments, flag_at, option_at}
use Rattle.command_words.specs.Syntax.{Syntax}
use Rattle.command_engine.specs.AnswersOnce.{answers_once_machine}
use Rattle.command_engine.specs.Grammars.{Grammar}
use Rattle.command_engine.specs.Machine.{Machine}
use Rattle.command_engine.specs.Readers.{Reader}
use Rattle.command_engine.specs.TestedTexts.{tested_grammar, tested_reader}
use Rattle.command_engine.specs.declared.questions.AnswersOnce.{AnswersOnce}
use Rattle.command_engine.specs.declared.endings.End.{End}
use Rattle.command_engine.specs.declared.tested_texts.Tested.{Tested}
use Rattle.common_answers.specs.Faults.{refusing}
use Rattle.common_answers.specs.declared.faults.Fault.{Fault}
use Rattle.input_texts.specs.PlanInput.{PlanInput, initial_input, input_reader, json_name, plan_in}
use Rattle.common_answers.specs.VerdictLines.{PutsControllable, PutsProved, PutsRefuted}
use Rattle.verdicts.specs.Verdict.{Decides}
use Rattle.command_contracts.specs.PlanWords.{delay_name, form_given}
use Rattle.command_contracts.specs.WorkerCounts.{workers_of, workers_name}
use Rattle.check_command.specs.Engines.{engine_given, engine_name, engine_tests}
use Rattle.check_command.specs.declared.check_question.CheckFlags.{CheckFlags}
use Rattle.check_command.specs.declared.engine.EngineTest.{EngineTest}

-- It is put that a network is controllable, and then, if a proof is wanted, the certificate that proves it: the table proof of its shown form, which the judge
-- accepts.
abbrev pub PutsYes : (proof : Bool) → Plan → List ℕ → End → Type 0
PutsYes false net put end = PutsControllable put end
PutsYes true net put end = (cert : Certificate) × Proves (shown_form net) cert × PutsProved cert put end

-- The answer to a network is its verdict: that it is controllable, with the table proof of its shown form if that is wanted, or that it is not, and the
-- certificate that refutes that.
abbrev pub puts_verdict : (proof : Bool) → Plan → List ℕ → End → Type 0
puts_verdict proof net put end = Decides net (PutsYes proof net put end) (λ cert. PutsRefuted cert put end)

-- The form in which the plan is given decides nothing of it, nor does the engine, and of the number of workers nothing is seen.
abbrev pub check_answers : CheckFlags → Plan → List ℕ → End → Type 0
check_answers flags net put end = puts_verdict flags.proof net put end

-- the name of the flag by which a proof is wanted
abbrev pub proof_name : List ℕ
proof_name = codes "proof"

-- `check` takes the form of the plan, whether a proof is wanted, a number of workers, which decides nothing of the request, and an engine
abbrev pub check_syntax : Syntax
check_syntax = record { flags = json_name ∷ proof_name ∷ []; options = workers_name ∷ delay_name ∷ engine_name ∷ []; operands = [] }

abbrev pub check_request : Arguments → Option CheckFlags
check_request arguments =
    option_and_then (λ workers.
    option_and_then (λ form. option_map (λ engine. record { form = form; proof = flag_at 1 arguments; engine = engine }) (engine_given (option_at 2 arguments)))
    (form_given (flag_at 0 arguments) (option_at 1 arguments)))
    (workers_of (option_at 0 arguments))

-- ---- the plan that is read, as one that the engine takes

-- how far it was read
abbrev pub CheckInput : Type 0
CheckInput = Tested PlanInput EngineTest

-- whether the engine takes the network of the plan
abbrev pub engine_test : CheckFlags → EngineTest
engine_test flags = record { engine = flags.engine; notation = flags.form.notation }

abbrev pub check_reader : Reader CheckInput Plan Fault
check_reader = tested_reader input_reader engine_tests

-- the grammar of the plan with which the input begins
abbrev pub checked_plan : CheckFlags → Grammar Plan Fault
checked_plan flags = tested_grammar (plan_in flags.form) engine_tests (engine_test flags) 0

-- before the first line
abbrev pub check_start : CheckFlags → AnswersOnce CheckFlags CheckInput
check_start flags = record { question = flags; text = record { text = initial_input flags.form; test = engine_test flags } }

-- what `check` means
abbrev pub check_machine : Machine (AnswersOnce CheckFlags CheckInput)
check_machine = answers_once_machine (λ (flags : CheckFlags) (net : Plan) (number : ℕ). check_answers flags net) check_reader refusing

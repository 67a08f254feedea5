-- A plan in an input, as a plan text or as a JSON document.
use Rattle.std.specs.Prelude.{◌≡◌, ◌↔◌, ℕ, Bool, true, false, List, codes, min, Result, Ok}
use Rattle.net_model.specs.Limits.{most_delay}
use Rattle.net_model.specs.Network.{Plan}
use Rattle.command_engine.specs.Alternatives.{either_reader}
use Rattle.command_engine.specs.Grammars.{Grammar}
use Rattle.command_engine.specs.Readers.{Reader}
use Rattle.command_engine.specs.TestedTexts.{tested_grammar, tested_reader}
use Rattle.command_engine.specs.declared.alternatives.Either.{Either}
use Rattle.command_engine.specs.declared.alternatives.Either.TheVariants.{Left, Right}
use Rattle.command_engine.specs.declared.tested_texts.Tested.{Tested}
use Rattle.common_answers.specs.declared.faults.Fault.{Fault}
use Rattle.input_texts.specs.DocumentSoFar.{DocumentSoFar}
use Rattle.input_texts.specs.DocumentTexts.{bytes_tests, document_texts}
use Rattle.input_texts.specs.PlanDocument.{bytes_reader, initial_document}
use Rattle.input_texts.specs.PlanText.{parts_reader, initial_plan}
use Rattle.input_texts.specs.PlanTexts.{parts_tests, plan_texts}
use Rattle.input_texts.specs.declared.delay.Delay.{Delay}
use Rattle.input_texts.specs.declared.delay.Delay.TheVariants.{Own, Moments}
use Rattle.input_texts.specs.declared.plan_document.BuildDocument.{BuildDocument}
use Rattle.input_texts.specs.declared.plan_input.Notation.{Notation}
use Rattle.input_texts.specs.declared.plan_input.Notation.TheVariants.{Text, Json}
use Rattle.input_texts.specs.declared.plan_input.PlanForm.{PlanForm}
use Rattle.input_texts.specs.declared.plan_text.BuildPlan.{BuildPlan}
use Rattle.input_texts.specs.declared.plan_text.PlanText.{PlanText}

-- the name of the flag
abbrev pub json_name : List ℕ
json_name = codes "json"

-- the notation of a plan, by whether it is a document
abbrev pub notation_by : Bool → Notation
notation_by true = Json
notation_by false = Text

-- the form of a plan, by whether the flag `--json` is given, and the requested delay
abbrev pub form_by : Bool → Delay → PlanForm
form_by json delay = record { notation = notation_by json; delay = delay }

-- a plan in this notation, with its own delay
abbrev pub in_notation : Notation → PlanForm
in_notation notation = record { notation = notation; delay = Own }

-- a network with the requested delay: its own, or so many moments, of which no more count than a delay may have
abbrev pub delayed : Delay → Plan → Plan
delayed Own net = net
delayed (Moments moments) net = record net { delay = min moments most_delay }

-- each network passes, with the requested delay
abbrev pub delay_tests : Delay → Plan → (number : ℕ) → Result Plan Fault
delay_tests delay net number = Ok (delayed delay net)

-- how far a plan of either notation was read
abbrev pub NotedPlan : Type 0
NotedPlan = Either (Tested PlanText BuildPlan) (Tested DocumentSoFar BuildDocument)

-- and with the requested delay
abbrev pub PlanInput : Type 0
PlanInput = Tested NotedPlan Delay

abbrev pub initial_in : Notation → NotedPlan
initial_in Text = Left (record { text = initial_plan; test = record {} })
initial_in Json = Right (record { text = initial_document; test = record {} })

-- before the first line
abbrev pub initial_input : PlanForm → PlanInput
initial_input form = record { text = initial_in form.notation; test = form.delay }

-- the reader of plan texts, and that of documents, each with the test that a network is built
abbrev pub plan_reader : Reader (Tested PlanText BuildPlan) Plan Fault
plan_reader = tested_reader parts_reader parts_tests

abbrev pub document_reader : Reader (Tested DocumentSoFar BuildDocument) Plan Fault
document_reader = tested_reader bytes_reader bytes_tests

-- the reader of plans of either notation
abbrev pub noted_reader : Reader NotedPlan Plan Fault
noted_reader = either_reader plan_reader document_reader

-- the reader of plans of any form
abbrev pub input_reader : Reader PlanInput Plan Fault
input_reader = tested_reader noted_reader delay_tests

-- the grammar of a plan of this notation
abbrev pub texts_in : Notation → ℕ → Grammar Plan Fault
texts_in Text = plan_texts
texts_in Json = document_texts

-- the grammar of a plan of this form, if so many lines stand before it in the input: what it declares has the requested delay
abbrev pub plans_in : PlanForm → ℕ → Grammar Plan Fault
plans_in form past = tested_grammar (texts_in form.notation past) delay_tests form.delay past

-- the grammar of a plan of this form with which the input begins
abbrev pub plan_in : PlanForm → Grammar Plan Fault
plan_in form = plans_in form 0

-- Lines declare as a plan of a form just the networks that they declare as a plan of its notation, with the requested delay.
abbrev pub PlansHaveTheRequestedDelay : Type 0
PlansHaveTheRequestedDelay =
    (form : PlanForm) (past : ℕ) (lines : List (List ℕ)) (net : Plan) (rest : List (List ℕ))
    → (plans_in form past).declares lines net rest ↔ ((plain : Plan) × (texts_in form.notation past).declares lines plain rest
    × (net ≡ delayed form.delay plain))

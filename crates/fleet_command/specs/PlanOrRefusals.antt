-- The text of a plan in a fleet: it says the network that its parts build, or the first part that is refused, with its place.
use Rattle.std.specs.Prelude.{ℕ, Result, Ok, Err}
use Rattle.net_model.specs.BuiltNetwork.{declared_net}
use Rattle.net_model.specs.Network.{Plan}
use Rattle.net_model.specs.declared.fault.BuildFault.{BuildFault}
use Rattle.command_engine.specs.Grammars.{Grammar}
use Rattle.command_engine.specs.Readers.{Reader}
use Rattle.command_engine.specs.TestedTexts.{tested_grammar, tested_reader}
use Rattle.command_engine.specs.declared.tested_texts.Tested.{Tested}
use Rattle.common_answers.specs.declared.faults.Fault.{Fault}
use Rattle.input_texts.specs.BuiltPlans.{DeclaredParts}
use Rattle.input_texts.specs.PlanText.{parts_reader, initial_plan}
use Rattle.input_texts.specs.PlanTexts.{parts_texts}
use Rattle.input_texts.specs.declared.plan_text.PlanText.{PlanText}
use Rattle.fleet_command.specs.declared.plan_or_refusal.PlanOrRefusal.{PlanOrRefusal}
use Rattle.fleet_command.specs.declared.plan_or_refusal.PlanOrRefusal.TheVariants.{Network, Refused}
use Rattle.fleet_command.specs.declared.plan_or_refusal.KeepRefusal.{KeepRefusal}

-- what is built, or the refusal, which is kept
abbrev pub kept : Result Plan BuildFault → PlanOrRefusal
kept (Ok net) = Network net
kept (Err why) = Refused why

-- each declaration of parts passes
abbrev pub kept_tests : KeepRefusal → DeclaredParts → ℕ → Result PlanOrRefusal Fault
kept_tests keep declared number = Ok (kept (declared_net declared.delay declared.parts))

-- how far such a text was read
abbrev pub PlanOrRefusalText : Type 0
PlanOrRefusalText = Tested PlanText KeepRefusal

-- before the first line
abbrev pub initial_plan_or_refusal : PlanOrRefusalText
initial_plan_or_refusal = record { text = initial_plan; test = record {} }

-- the reader of such texts
abbrev pub plan_or_refusal_reader : Reader PlanOrRefusalText PlanOrRefusal Fault
plan_or_refusal_reader = tested_reader parts_reader kept_tests

-- the grammar, if so many lines stand before it in the input: that of the parts of a plan text
abbrev pub plan_or_refusal_texts : ℕ → Grammar PlanOrRefusal Fault
plan_or_refusal_texts past = tested_grammar (parts_texts past) kept_tests (record {}) past

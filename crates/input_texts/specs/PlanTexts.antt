-- The grammar of a plan text in an input: of the parts that it declares, and of the network that they build.
use Rattle.std.specs.Prelude.{◌≡◌, ◌↔◌, ℕ, ◌+◌, List, ◌∷◌, ◌++◌, length, map, Result}
use Rattle.net_model.specs.Network.{Plan}
use Rattle.net_model.specs.declared.fault.BuildFault.{BuildFault}
use Rattle.net_model.specs.declared.format.FormatKind.{FormatKind}
use Rattle.plan_format.specs.PlanFaults.{IsFirstPlanFault}
use Rattle.plan_format.specs.PlanGrammar.{IsPlanText}
use Rattle.plan_format.specs.PlanNetwork.{DeclaresNetwork, RefusesPart}
use Rattle.plan_format.specs.PlanReading.{PlanProgress, IsPrefix}
use Rattle.texts.specs.Limits.{most_line}
use Rattle.command_engine.specs.Grammars.{Grammar, Next, Line, NoLine}
use Rattle.command_engine.specs.TestedTexts.{FailsTest, tested_grammar}
use Rattle.common_answers.specs.FormatRefusals.{RefusesFormat}
use Rattle.common_answers.specs.declared.faults.Fault.{Fault}
use Rattle.common_answers.specs.declared.faults.Fault.TheVariants.{Part}
use Rattle.input_texts.specs.BuiltPlans.{DeclaredParts, network_of_parts}
use Rattle.input_texts.specs.declared.plan_text.BuildPlan.{BuildPlan}

-- lines after which more is wanted: a prefix of a plan
abbrev pub IsPlanPrefix : List (List ℕ) → Type 0
IsPlanPrefix lines = (read : PlanProgress) × IsPrefix lines read

-- the first fault of a plan, by the number of its line
abbrev pub IsPlanFault : List (List ℕ) → ℕ → FormatKind → Type 0
IsPlanFault lines number kind = IsFirstPlanFault lines (record { line = number; kind = kind })

-- the lines begin with a plan text that declares this delay and these parts, each with the number of its line in the input, if so many lines stand before it;
-- and the rest comes after its `end` line
pub record DeclaresParts (past : ℕ) (lines : List (List ℕ)) (declared : DeclaredParts) (rest : List (List ℕ)) : Type 0 where
  pub plan : List (List ℕ)
  pub numbers : List ℕ
  pub whole : lines ≡ plan ++ rest
  pub is_plan : IsPlanText plan declared.delay declared.parts numbers
  pub numbered : declared.lines ≡ map (λ number. past + number) numbers

-- the grammar of the parts of a plan text, if so many lines stand before it in the input
abbrev pub parts_texts : ℕ → Grammar DeclaredParts Fault
parts_texts past = record {
  declares = DeclaresParts past;
  longest = λ lines longest. IsPlanPrefix lines × (longest ≡ most_line);
  refuses = λ lines next fault. IsPlanPrefix lines × RefusesFormat IsPlanFault past lines next fault;
}

-- the test of the parts: that they build a network
abbrev pub parts_tests : BuildPlan → DeclaredParts → ℕ → Result Plan Fault
parts_tests build declared number = network_of_parts declared

-- the grammar of a plan text, if so many lines stand before it in the input: when it ends, its parts build a network, or it is refused
abbrev pub plan_texts : ℕ → Grammar Plan Fault
plan_texts past = tested_grammar (parts_texts past) parts_tests (record {}) past

-- the plan text ends with the line of this number, and a part of it is refused: the first such part stands in line `number`
abbrev pub RefusesAtEnd : List (List ℕ) → (last number : ℕ) → BuildFault → Type 0
RefusesAtEnd lines last number why = (refuses : RefusesPart lines number why) × (length refuses.plan ≡ last)

-- the line that comes after these ends the plan, and a part of it is refused, reported by its line in the input
abbrev pub RefusesPlan : (past : ℕ) → List (List ℕ) → Next → Fault → Type 0
RefusesPlan past lines (Line line) fault =
    (number : ℕ) × (why : BuildFault) × (fault ≡ Part (past + number) why)
    × ((others : List (List ℕ)) → RefusesAtEnd (lines ++ line ∷ others) (length lines + 1) number why)
RefusesPlan past lines (NoLine stop) fault = ⊥

-- What the grammar of a plan text says in the words of the format. `networks`: it declares just the networks that lines declare. `parts`: it
-- is refused as a whole by its first part that is refused, in the line of that.
pub record AreAsTheFormatSays (past : ℕ) : Type 0 where
  pub networks : (lines : List (List ℕ)) (net : Plan) (rest : List (List ℕ)) → (plan_texts past).declares lines net rest ↔ DeclaresNetwork lines net rest
  pub parts : (lines : List (List ℕ)) (line : List ℕ) (fault : Fault) → FailsTest (parts_texts past) parts_tests (record {}) past lines (Line line) fault
      → RefusesPlan past lines (Line line) fault

-- The two points of a plan between which a deadline is asked, by their names.
use Rattle.std.specs.Prelude.{ℕ, Option, Some, None, Result, Ok, Err}
use Rattle.net_model.specs.Network.{Plan, point_named}
use Rattle.net_model.specs.declared.fault.BuildFault.TheVariants as part
use Rattle.net_model.specs.declared.ids.PointId.{PointId}
use Rattle.net_model.specs.declared.part.Which.TheVariants as which
use Rattle.command_engine.specs.Grammars.{Grammar}
use Rattle.command_engine.specs.Readers.{Reader}
use Rattle.command_engine.specs.TestedTexts.{tested_grammar, tested_reader}
use Rattle.command_engine.specs.declared.tested_texts.Tested.{Tested}
use Rattle.common_answers.specs.declared.faults.Fault.{Fault}
use Rattle.common_answers.specs.declared.faults.Fault.TheVariants.{Part}
use Rattle.input_texts.specs.PlanInput.{PlanInput, in_notation, input_reader, plan_in}
use Rattle.input_texts.specs.declared.plan_input.Notation.{Notation}
use Rattle.input_texts.specs.declared.plan_input.Notation.TheVariants.{Text, Json}
use Rattle.deadline_command.specs.declared.points.DeadlineWords.{DeadlineWords}

-- a network, and two points of it
pub record PlanPoints : Type 0 where
  pub net : Plan
  pub from : PointId
  pub to : PointId

-- The bound of the goal is one part more, after those of the plan: so it is reported if it is refused, by the number of the line that ends the plan, and by 0
-- of a document.
abbrev pub goal_number : Notation → ℕ → ℕ
goal_number Text number = number
goal_number Json number = 0

-- the plan has no point of one of its names
abbrev pub unknown_point : (reported : ℕ) → Fault
unknown_point reported = Part reported (part.UnknownName 0)

-- the plan has as many bounds as it may have
abbrev pub bounds_limit_fault : (reported : ℕ) → Fault
bounds_limit_fault reported = Part reported (part.Limit which.Bounds 0)

-- a network and its points of two names, of which the first is sought first; it is reported by this number that there is none of a name
abbrev pub points_by : (reported : ℕ) → Plan → (from to : Option PointId) → Result PlanPoints Fault
points_by reported net None to = Err (unknown_point reported)
points_by reported net (Some from) None = Err (unknown_point reported)
points_by reported net (Some from) (Some to) = Ok (record { net = net; from = from; to = to })

-- the test of the network of a plan: that it has points of both names
abbrev pub point_tests : DeadlineWords → Plan → (number : ℕ) → Result PlanPoints Fault
point_tests words net number = points_by (goal_number words.notation number) net (point_named net words.from) (point_named net words.to)

-- how far a plan was read in which the points are sought
abbrev pub PointsInput : Type 0
PointsInput = Tested PlanInput DeadlineWords

-- the reader of it
abbrev pub points_reader : Reader PointsInput PlanPoints Fault
points_reader = tested_reader input_reader point_tests

-- the grammar of a plan, with its own delay, that has points of both names
abbrev pub points_in : DeadlineWords → Grammar PlanPoints Fault
points_in words = tested_grammar (plan_in (in_notation words.notation)) point_tests words 0

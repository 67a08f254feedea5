-- What `deadline` promises of what it puts for an input, and the causes by which it ends.
use Rattle.std.specs.Prelude.{◌≡◌, ◌⊎◌, ℕ, ◌≤◌, ℤ, List, ◌++◌, length, unsigned_abs}
use Rattle.std.specs.Fmt.{signed_decimal}
use Rattle.texts.specs.Lines.{input_lines, lines}
use Rattle.net_model.specs.Limits.{most_number}
use Rattle.strategy_model.specs.Control.{IsControllable}
use Rattle.command_engine.specs.Inputs.{AnswersLine, DeclaresWithinLimits}
use Rattle.command_engine.specs.declared.endings.End.{End}
use Rattle.common_answers.specs.Faults.{fault_end, fault_line, refusing}
use Rattle.command_contracts.specs.Causes.{Causes, IsTextRefused}
use Rattle.command_contracts.specs.Programs.{Program, or_nothing, serves}
use Rattle.common_answers.specs.VerdictLines.{controllable_line, refuted_line}
use Rattle.deadline_search.specs.Deadlines.{IsDeadline, IsFull, IsTightest, lowest}
use Rattle.deadline_search.specs.Goals.{IsGoalName}
use Rattle.deadline_command.specs.DeadlineAnswers.{at_lowest, deadline_answers, deadline_machine, deadline_start, kept_text, no_deadline}
use Rattle.deadline_command.specs.Points.{PlanPoints, goal_number, bounds_limit_fault, points_in}
use Rattle.deadline_command.specs.declared.points.DeadlineWords.{DeadlineWords}

-- the plan of an input is controllable, has points of both names, and no capacity for one more bound: its run ends so, reported by this line
pub record IsFullRefused (words : DeadlineWords) (input : List ℕ) (end : End) (line : List ℕ) : Type 0 where
  pub query : PlanPoints
  pub declared : DeclaresWithinLimits (points_in words) (input_lines input) query
  pub full : IsFull query.net
  pub ends_so : end ≡ fault_end (bounds_limit_fault (goal_number words.notation (length declared.used)))
  pub reported : line ≡ fault_line (bounds_limit_fault (goal_number words.notation (length declared.used)))

-- an input is a plan that has points of both names, and, if it is controllable, capacity for one more bound
pub record IsWholeInput (words : DeadlineWords) (input : List ℕ) : Type 0 where
  pub query : PlanPoints
  pub declared : DeclaresWithinLimits (points_in words) (input_lines input) query
  pub spare_capacity : ¬ IsFull query.net

-- what in an input a run of `deadline` ends by: the first refusal of the plan or of a name, or, after the verdict, that there is no capacity
abbrev pub deadline_causes : DeadlineWords → Causes
deadline_causes words = record {
  refused = λ input end line. IsTextRefused (points_in words) input end line ⊎ IsFullRefused words input end line;
  whole = IsWholeInput words;
}

-- a number is the tightest deadline from one point of a network to another: with it, or a greater one, as the bound of the goal some
-- strategy controls the network, and with no lower one
pub record IsPromised (query : PlanPoints) (most : ℤ) : Type 0 where
  pub name : List ℕ
  pub named : IsGoalName query.net name
  pub tightest : IsTightest query.net (record { name = name; from = query.from; to = query.to }) most

-- no number that a plan may have is a deadline from one point of a network to another
pub record HasNoDeadline (query : PlanPoints) : Type 0 where
  pub name : List ℕ
  pub named : IsGoalName query.net name
  pub none : (most : ℤ) → ¬ IsDeadline query.net (record { name = name; from = query.from; to = query.to }) most

-- What `deadline` promises. `answers`: it puts the tightest deadline between the two points of the network that the input declares, with its certificates, or
-- that there is no capacity for the bound, or the first refusal of the input. `controllable`, `refutes`: if it puts first that a network is controllable, or is
-- not, that of the input is so. `tightest`: if it puts a number then, of the size that a plan may have, that is the tightest deadline; `at_most`: if it puts
-- the least number that a plan may have, that is; `none`: if it puts that there is none, no number is a deadline.
pub record DeadlinePromise (words : DeadlineWords) (input put : List ℕ) (end : End) : Type 0 where
  pub answers : AnswersLine (points_in words) refusing (deadline_answers words) input put end
  pub controllable : (more : List ℕ) → put ≡ controllable_line ++ more → (query : PlanPoints) (rest : List (List ℕ))
      → (points_in words).declares (lines input) query rest → IsControllable query.net
  pub tightest : (most : ℤ) (more : List ℕ) → unsigned_abs most ≤ most_number → put ≡ kept_text words (signed_decimal most) more
      → (query : PlanPoints) (rest : List (List ℕ)) → (points_in words).declares (lines input) query rest → IsPromised query most
  pub at_most : (more : List ℕ) → put ≡ kept_text words at_lowest more → (query : PlanPoints) (rest : List (List ℕ))
      → (points_in words).declares (lines input) query rest → IsPromised query lowest
  pub none : (more : List ℕ) → put ≡ kept_text words no_deadline more → (query : PlanPoints) (rest : List (List ℕ))
      → (points_in words).declares (lines input) query rest → HasNoDeadline query
  pub refutes : (more : List ℕ) → put ≡ refuted_line ++ more → (query : PlanPoints) (rest : List (List ℕ))
      → (points_in words).declares (lines input) query rest → ¬ IsControllable query.net

-- the program of `deadline`
abbrev pub deadline_program : DeadlineWords → Program
deadline_program words = serves deadline_machine (deadline_start words) (or_nothing (deadline_causes words) (DeadlinePromise words))

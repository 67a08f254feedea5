-- What two commands put of the same plan agrees: the verdict of `check` is that of `strong`, of `deadline` and of a session.
use Rattle.std.specs.Prelude.{◌≡◌, ◌⊎◌, ℕ, ℤ, ◌≤◌, ◌≤ℤ◌, ◌<ℤ◌, List, ◌∷◌, ◌++◌, codes, length, unsigned_abs}
use Rattle.std.specs.Fmt.{signed_decimal}
use Rattle.texts.specs.Lines.{input_lines, lines}
use Rattle.net_model.specs.Limits.{most_number}
use Rattle.net_model.specs.Network.{Plan}
use Rattle.plan_format.specs.PlanPrinting.{printed_plan}
use Rattle.edit_script.specs.declared.step.Step.{Step}
use Rattle.edit_script.specs.declared.step.Step.TheVariants as step
use Rattle.deadline_search.specs.Deadlines.{highest, lowest}
use Rattle.deadline_search.specs.Goals.{IsGoalName}
use Rattle.command_engine.specs.Limits.{most_input}
use Rattle.common_answers.specs.VerdictLines.{controllable_line, refuted_line}
use Rattle.input_texts.specs.PlanInput.{in_notation}
use Rattle.input_texts.specs.declared.plan_input.Notation.TheVariants.{Text}
use Rattle.input_texts.specs.declared.plan_input.PlanForm.{PlanForm}
use Rattle.command_contracts.specs.PlanWords.{SayFormAndWorkers}
use Rattle.command_contracts.specs.Programs.{Defines, Program}
use Rattle.command_contracts.specs.declared.status.Status.{Status}
use Rattle.check_command.specs.CheckAnswers.{check_syntax}
use Rattle.check_command.specs.Words.{SayCheckFlags}
use Rattle.check_command.specs.declared.check_question.CheckFlags.{CheckFlags}
use Rattle.check_command.specs.declared.engine.Engine.TheVariants.{Cells}
use Rattle.strong_command.specs.StrongAnswers.{SayStrong, strong_line}
use Rattle.strong_command.specs.declared.strong_question.StrongQuestion.{StrongQuestion}
use Rattle.deadline_command.specs.DeadlineAnswers.{at_lowest, deadline_syntax, kept_text, no_deadline}
use Rattle.deadline_command.specs.Points.{PlanPoints, points_in}
use Rattle.deadline_command.specs.Words.{SayDeadline}
use Rattle.deadline_command.specs.declared.points.DeadlineWords.{DeadlineWords}
use Rattle.session_command.specs.SessionPromise.{IsNext, SaysAll}
use Rattle.session_command.specs.Sessions.{session_syntax}
use Rattle.stnu_run.specs.DeadlineCertificates.{with_goal_between}
use Rattle.stnu_run.specs.DefinedRuns.{program_of, strong_word}
use Rattle.stnu_run.specs.PlayedDays.{PlayedDayIsActed}
use Rattle.stnu_run.specs.RunClaims.{RunClaim}
use Rattle.stnu_run.specs.ShownPlans.{ShownPlanHasSameAnswers}

-- ---- what `check` says
-- it is put that a plan is controllable: that line comes first, and the status is 0
pub record SaysControllable (put : List ℕ) (status : Status) : Type 0 where
  pub more : List ℕ
  pub first : put ≡ controllable_line ++ more
  pub ends : status ≡ record { 0 = 0 }

-- it is put that a plan is not controllable: that line comes first, and the status is 1
pub record SaysNotControllable (put : List ℕ) (status : Status) : Type 0 where
  pub more : List ℕ
  pub first : put ≡ refuted_line ++ more
  pub ends : status ≡ record { 0 = 1 }

module _ (flags : CheckFlags) (checking : Program) (Says : List ℕ → Status → Type 0) where
  -- Whatever `check` defines for an input, it says this; but the engine of cells may refuse the plan, with status 4, if it has more keys than cells hold.
  abbrev pub ChecksAs : (input : List ℕ) → Type 0
  ChecksAs input =
      (put : List ℕ) (status : Status) → Defines checking input put status → Says put status ⊎ ((flags.engine ≡ Cells) × (status ≡ record { 0 = 4 }))

  -- so it is for the plan text of a network, if that is no more than an input may be
  abbrev pub ChecksPlanAs : Plan → Type 0
  ChecksPlanAs net = length (printed_plan net) ≤ most_input → ChecksAs (printed_plan net)

-- ---- `strong`
-- If words of `strong` put first that the plan of an input is strongly controllable, then `check` says of that input that it is controllable, whatever delay
-- its words ask for.
abbrev pub StrongMeansControllable : RunClaim
StrongMeansControllable words input put status =
    (program other : List ℕ) (asked checked : List (List ℕ)) (query : StrongQuestion) (flags : CheckFlags) → words ≡ program ∷ strong_word ∷ asked
    → SayStrong query asked → SayCheckFlags check_syntax flags checked → flags.form.notation ≡ query.form.notation
    → (more : List ℕ) → put ≡ strong_line ++ more → ChecksAs flags (program_of (other ∷ codes "check" ∷ checked)) SaysControllable input

-- ---- `deadline`
module _ (flags : CheckFlags) (checking : Program) (query : PlanPoints) where
  -- of the network with the bound of the goal at this number, of those that a plan may have, `check` says this
  abbrev pub ChecksBoundAs : (Says : List ℕ → Status → Type 0) (name : List ℕ) (most : ℤ) → Type 0
  ChecksBoundAs Says name most = lowest ≤ℤ most → most ≤ℤ highest → ChecksPlanAs flags checking Says (with_goal_between query name most)

  -- by `check` a number is the tightest deadline: the network with the bound at it, or at a greater number, is controllable, and at each lower number it is not
  pub record IsTightestByCheck (most : ℤ) : Type 0 where
    pub name : List ℕ
    pub named : IsGoalName query.net name
    pub kept : (other : ℤ) → most ≤ℤ other → ChecksBoundAs SaysControllable name other
    pub lower : (other : ℤ) → other <ℤ most → ChecksBoundAs SaysNotControllable name other

  -- by `check` no number is a deadline
  pub record HasNoneByCheck : Type 0 where
    pub name : List ℕ
    pub named : IsGoalName query.net name
    pub never : (most : ℤ) → ChecksBoundAs SaysNotControllable name most

-- What is put after `controllable` agrees with `check`. The input declares a network with both points. `tightest`: if a number is put, of the size that a plan
-- may have, that is the tightest deadline by `check`; `at_most`: if the least number is put, that is; `none`: if it is put that there is none, by `check` no
-- number is one.
pub record DeadlineAgrees (flags : CheckFlags) (checking : Program) (said : DeadlineWords) (input put : List ℕ) : Type 0 where
  pub query : PlanPoints
  pub rest : List (List ℕ)
  pub declared : (points_in said).declares (lines input) query rest
  pub tightest : (most : ℤ) (more : List ℕ) → unsigned_abs most ≤ most_number → put ≡ kept_text said (signed_decimal most) more
      → IsTightestByCheck flags checking query most
  pub at_most : (more : List ℕ) → put ≡ kept_text said at_lowest more → IsTightestByCheck flags checking query lowest
  pub none : (more : List ℕ) → put ≡ kept_text said no_deadline more → HasNoneByCheck flags checking query

-- what words of `deadline` put of a controllable network agrees with what `check` says of the plan text of that network with the bound as its last
abbrev pub DeadlineAgreesWithCheck : RunClaim
DeadlineAgreesWithCheck words input put status =
    (program other : List ℕ) (asked checked : List (List ℕ)) (said : DeadlineWords) (flags : CheckFlags) → words ≡ program ∷ codes "deadline" ∷ asked
    → SayDeadline deadline_syntax said asked → SayCheckFlags check_syntax flags checked → flags.form ≡ in_notation Text
    → (more : List ℕ) → put ≡ controllable_line ++ more → DeadlineAgrees flags (program_of (other ∷ codes "check" ∷ checked)) said input put

-- ---- a session
-- one answer of two to `verdict`, and `check` says the same of a network
abbrev pub AgreesWithVerdict : (flags : CheckFlags) (checking : Program) → Plan → (answer : List ℕ) → Type 0
AgreesWithVerdict flags checking net answer =
    ((answer ≡ controllable_line) × ChecksPlanAs flags checking SaysControllable net)
    ⊎ ((answer ≡ refuted_line) × ChecksPlanAs flags checking SaysNotControllable net)

-- A line `verdict` comes after lines of a session that state these steps. After the answers to them its answer is put, and `check` says the same of the plan
-- text of the network as it stands then, which is what a line `plan` is answered.
pub record PutsVerdictOfCheck (flags : CheckFlags) (checking : Program) (first net : Plan) (steps : List Step) (put : List ℕ) : Type 0 where
  pub before : List ℕ
  pub answer : List ℕ
  pub more : List ℕ
  pub says : SaysAll first steps before
  pub all : put ≡ before ++ (answer ++ more)
  pub agrees : AgreesWithVerdict flags checking net answer

-- so words of `session` put for each line `verdict`
abbrev pub VerdictAgreesWithCheck : RunClaim
VerdictAgreesWithCheck words input put status =
    (program other : List ℕ) (asked checked : List (List ℕ)) (form : PlanForm) (flags : CheckFlags) → words ≡ program ∷ codes "session" ∷ asked
    → SayFormAndWorkers session_syntax form asked → SayCheckFlags check_syntax flags checked → flags.form ≡ in_notation Text
    → (first net : Plan) (steps : List Step) → IsNext form (input_lines input) first net steps step.Verdict
    → PutsVerdictOfCheck flags (program_of (other ∷ codes "check" ∷ checked)) first net steps put

-- ---- all of these, and that a plan that `show` puts has the same answers, and that a day is acted as `play` puts it
pub record AgreesAcrossCommands (words : List (List ℕ)) (input put : List ℕ) (status : Status) : Type 0 where
  pub strong : StrongMeansControllable words input put status
  pub deadline : DeadlineAgreesWithCheck words input put status
  pub session : VerdictAgreesWithCheck words input put status
  pub shown : ShownPlanHasSameAnswers words input put status
  pub played : PlayedDayIsActed words input put status

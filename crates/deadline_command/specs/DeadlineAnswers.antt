-- The command `deadline`: a plan, and the tightest deadline from one point of it to another, with the certificates of that.
use Rattle.std.specs.Prelude.{◌≡◌, ◌⊎◌, ℕ, List, [], ◌∷◌, ◌++◌, codes, Option, Some, None, if◌then◌else◌}
use Rattle.std.specs.Fmt.{signed_decimal}
use Rattle.std.specs.Option.{option_and_then}
use Rattle.texts.specs.PrintedLines.{printed_line}
use Rattle.net_model.specs.Names.{is_name}
use Rattle.cert_format.specs.CertificateWords.{HasWeights, printed_certificate}
use Rattle.deadline_search.specs.Answers.{IsAnswerOf}
use Rattle.deadline_search.specs.Deadlines.{IsFull, lowest}
use Rattle.deadline_search.specs.declared.answer.Deadline.{Deadline}
use Rattle.deadline_search.specs.declared.answer.Deadline.TheVariants.{NotControllable, Never, Least, Floor}
use Rattle.command_words.specs.Arguments.{Arguments, flag_at, operand_at, option_at}
use Rattle.command_words.specs.Syntax.{Syntax, Text}
use Rattle.command_engine.specs.AnswersOnce.{answers_once_machine}
use Rattle.command_engine.specs.Machine.{Machine}
use Rattle.command_engine.specs.declared.questions.AnswersOnce.{AnswersOnce}
use Rattle.command_engine.specs.declared.endings.End.{End}
use Rattle.command_engine.specs.declared.endings.End.TheVariants as ends
use Rattle.common_answers.specs.Faults.{fault_end, fault_line, refusing}
use Rattle.common_answers.specs.VerdictLines.{controllable_line, refuted_line}
use Rattle.input_texts.specs.PlanInput.{in_notation, initial_input, json_name, notation_by}
use Rattle.input_texts.specs.declared.plan_input.Notation.{Notation}
use Rattle.command_contracts.specs.WorkerCounts.{workers_of, workers_name}
use Rattle.deadline_command.specs.Points.{PlanPoints, PointsInput, goal_number, bounds_limit_fault, points_reader}
use Rattle.deadline_command.specs.declared.points.DeadlineWords.{DeadlineWords}

-- ---- the words

-- a name, if a word is given that is one
abbrev pub name_given : Option Text → Option Text
name_given None = None
name_given (Some word) = if is_name word then Some word else None

-- the request, if both names are given
abbrev pub deadline_words : Notation → (from to : Option Text) → Option DeadlineWords
deadline_words notation None to = None
deadline_words notation (Some from) None = None
deadline_words notation (Some from) (Some to) = Some (record { notation = notation; from = from; to = to })

-- `deadline` takes the names of two points, the notation of the plan, which has its own delay, and a number of workers, which decides nothing of the request
abbrev pub deadline_syntax : Syntax
deadline_syntax = record { flags = json_name ∷ []; options = workers_name ∷ []; operands = codes "FROM" ∷ codes "TO" ∷ [] }

abbrev pub deadline_request : Arguments → Option DeadlineWords
deadline_request arguments =
    option_and_then (λ workers. deadline_words (notation_by (flag_at 0 arguments)) (name_given (operand_at 0 arguments)) (name_given (operand_at 1 arguments)))
    (workers_of (option_at 0 arguments))

-- ---- the answer

-- the line of a deadline: the names of both points, and what is said of it
abbrev pub deadline_line : DeadlineWords → (said : List ℕ) → List ℕ
deadline_line words said = printed_line (codes "deadline" ∷ words.from ∷ words.to ∷ said ∷ [])

-- what is said of a deadline if no number is one, and if the least number that a plan may have is one
abbrev pub no_deadline : List ℕ
no_deadline = codes "none"

abbrev pub at_lowest : List ℕ
at_lowest = codes "at-most " ++ signed_decimal lowest

-- what is put of a controllable network: that it is, the line of the deadline, and certificates
abbrev pub kept_text : DeadlineWords → (said certificates : List ℕ) → List ℕ
kept_text words said certificates = controllable_line ++ (deadline_line words said ++ certificates)

-- what is put of the tightest deadline of a network: a proof stands before a refutation
abbrev pub deadline_text : DeadlineWords → Deadline → List ℕ
deadline_text words (NotControllable refutation) = refuted_line ++ printed_certificate refutation
deadline_text words (Never goal refutation) = kept_text words no_deadline (printed_certificate refutation)
deadline_text words (Least goal most proof refutation) = kept_text words (signed_decimal most) (printed_certificate proof ++ printed_certificate refutation)
deadline_text words (Floor goal proof) = kept_text words at_lowest (printed_certificate proof)

-- and how the run ends then
abbrev pub deadline_end : Deadline → End
deadline_end (NotControllable refutation) = ends.Refused
deadline_end (Never goal refutation) = ends.Done
deadline_end (Least goal most proof refutation) = ends.Done
deadline_end (Floor goal proof) = ends.Done

-- the weights of its certificates can be printed
abbrev pub CanBePrinted : Deadline → Type 0
CanBePrinted (NotControllable refutation) = HasWeights refutation
CanBePrinted (Never goal refutation) = HasWeights refutation
CanBePrinted (Least goal most proof refutation) = HasWeights proof × HasWeights refutation
CanBePrinted (Floor goal proof) = HasWeights proof

-- The tightest deadline from one point of a network to another is put, with its certificates: that of a network that is controllable and has capacity for one
-- more bound, or that it is not controllable.
pub record PutsDeadline (words : DeadlineWords) (query : PlanPoints) (put : List ℕ) (end : End) : Type 0 where
  pub deadline : Deadline
  pub spare_capacity : ¬ IsFull query.net
  pub is : IsAnswerOf query.net query.from query.to deadline
  pub text : put ≡ deadline_text words deadline
  pub done : end ≡ deadline_end deadline

-- it is put that a controllable network has no capacity for one more bound, by the number of the line that ends the plan
pub record PutsFull (words : DeadlineWords) (query : PlanPoints) (number : ℕ) (put : List ℕ) (end : End) : Type 0 where
  pub full : IsFull query.net
  pub line : put ≡ fault_line (bounds_limit_fault (goal_number words.notation number))
  pub done : end ≡ fault_end (bounds_limit_fault (goal_number words.notation number))

-- the answer to a network and two points of it, by the number of the line that ends the plan
abbrev pub deadline_answers : DeadlineWords → PlanPoints → (number : ℕ) → List ℕ → End → Type 0
deadline_answers words query number put end = PutsDeadline words query put end ⊎ PutsFull words query number put end

-- ---- the command

-- how far the input was read
abbrev pub ServedDeadline : Type 0
ServedDeadline = AnswersOnce DeadlineWords PointsInput

-- before the first line
abbrev pub deadline_start : DeadlineWords → ServedDeadline
deadline_start words = record { question = words; text = record { text = initial_input (in_notation words.notation); test = words } }

-- what `deadline` means
abbrev pub deadline_machine : Machine ServedDeadline
deadline_machine = answers_once_machine deadline_answers points_reader refusing

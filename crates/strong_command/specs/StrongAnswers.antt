-- The command `strong`: a plan, and its least strong schedule, or a certificate that it has none.
use Rattle.std.specs.Prelude.{◌≡◌, ◌⊎◌, ℕ, List, [], ◌∷◌, ◌++◌, map, codes, Option, Some}
use Rattle.std.specs.Fmt.{decimal}
use Rattle.texts.specs.PrintedLines.{printed_line}
use Rattle.net_model.specs.Network.{Plan}
use Rattle.net_model.specs.NetworkParts.{point_name}
use Rattle.cert_format.specs.StrongWords.{printed_strong}
use Rattle.cert_format.specs.declared.strong_cert.StrongCert.{StrongCert}
use Rattle.strong_plan.specs.Strong.{executable_points, IsLeastStrongSchedule, IsStronglyControllable}
use Rattle.strategy_model.specs.Control.{IsControllable}
use Rattle.texts.specs.Lines.{lines}
use Rattle.strong_plan.specs.Answers.{IsStrongRefutation}
use Rattle.command_words.specs.Arguments.{Arguments, flag_at, is_given}
use Rattle.command_words.specs.SpelledWords.{Use, Says}
use Rattle.command_words.specs.Syntax.{Syntax, Text}
use Rattle.command_engine.specs.Inputs.{AnswersText}
use Rattle.command_engine.specs.declared.endings.End.{End}
use Rattle.command_engine.specs.declared.endings.End.TheVariants as ends
use Rattle.common_answers.specs.Faults.{refusing}
use Rattle.command_contracts.specs.PlanQuestions.{plan_program}
use Rattle.command_contracts.specs.Programs.{Program}
use Rattle.input_texts.specs.PlanInput.{in_notation, json_name, notation_by, plan_in}
use Rattle.strong_command.specs.declared.strong_question.StrongQuestion.{StrongQuestion}

-- the lines that begin an answer
abbrev pub strong_line : List ℕ
strong_line = printed_line (codes "strongly controllable" ∷ [])

abbrev pub not_strong_line : List ℕ
not_strong_line = printed_line (codes "not strongly controllable" ∷ [])

-- the names of the executable points, in order
abbrev pub executable_names : Plan → List (List ℕ)
executable_names net = map (point_name net.points) (executable_points net)

-- the line of a point and its moment
abbrev pub time_line : List ℕ → ℕ → List ℕ
time_line name time = printed_line (codes "time" ∷ name ∷ decimal time ∷ [])

-- the lines of points and their moments
abbrev pub times_text : List (List ℕ) → List ℕ → List ℕ
times_text (name ∷ names) (time ∷ times) = time_line name time ++ times_text names times
times_text names times = []

-- the least strong schedule of a network is put: a line for each executable point, in order
pub record PutsSchedule (net : Plan) (put : List ℕ) (end : End) : Type 0 where
  pub times : List ℕ
  pub least : IsLeastStrongSchedule net times
  pub is : put ≡ strong_line ++ times_text (executable_names net) times
  pub done : end ≡ ends.Done

-- that a network has no strong schedule is put, with a refutation
pub record PutsRefutation (net : Plan) (put : List ℕ) (end : End) : Type 0 where
  pub cert : StrongCert
  pub refutes : IsStrongRefutation net cert
  pub is : put ≡ not_strong_line ++ printed_strong cert
  pub refused : end ≡ ends.Refused

-- the answer to a network
abbrev pub PutsStrong : Plan → List ℕ → End → Type 0
PutsStrong net put end = PutsSchedule net put end ⊎ PutsRefutation net put end

-- the answer in the words of the subject: if a schedule is put some strategy controls the network too
abbrev pub PutsStrongly : Plan → List ℕ → End → Type 0
PutsStrongly net put end = (IsControllable net × PutsSchedule net put end) ⊎ PutsRefutation net put end

-- What `strong` promises. `answers`: it puts the least strong schedule of the network that the input declares, or that it has none and a refutation; or the
-- first refusal of the input. `strongly`, `never`: if it puts first that a network is strongly controllable, or is not, that of the input is so; in the first
-- case some strategy controls it too.
pub record StrongPromise (query : StrongQuestion) (input put : List ℕ) (end : End) : Type 0 where
  pub answers : AnswersText (plan_in query.form) refusing PutsStrongly input put end
  pub strongly : (more : List ℕ) → put ≡ strong_line ++ more → (net : Plan) (rest : List (List ℕ)) → (plan_in query.form).declares (lines input) net rest
      → IsStronglyControllable net × IsControllable net
  pub never : (more : List ℕ) → put ≡ not_strong_line ++ more → (net : Plan) (rest : List (List ℕ)) → (plan_in query.form).declares (lines input) net rest
      → ¬ IsStronglyControllable net

-- `strong` takes the notation of the plan, which has its own delay
abbrev pub strong_syntax : Syntax
strong_syntax = record { flags = json_name ∷ []; options = []; operands = [] }

abbrev pub strong_request : Arguments → Option StrongQuestion
strong_request arguments = Some (record { form = in_notation (notation_by (flag_at 0 arguments)) })

-- the words say uses of `strong`: this form of the plan
pub record SayStrong (query : StrongQuestion) (words : List Text) : Type 0 where
  pub uses : List Use
  pub says : Says strong_syntax words uses
  pub read : in_notation (notation_by (is_given json_name uses)) ≡ query.form

-- the program of `strong`
abbrev pub strong_program : StrongQuestion → Program
strong_program = plan_program (λ query. query.form) (λ query net number. PutsStrong net) StrongPromise

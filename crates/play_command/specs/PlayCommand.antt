-- The command `play`: a plan, and then a day of it, as it is played in one situation.
use Rattle.std.specs.Prelude.{◌≡◌, ℕ, List, [], ◌∷◌, ◌++◌, ◌-◌, codes, Option, Some, None}
use Rattle.std.specs.Fmt.{decimal}
use Rattle.std.specs.List.{flat_map}
use Rattle.std.specs.Option.{option_and_then}
use Rattle.texts.specs.PrintedLines.{printed_line}
use Rattle.net_model.specs.Network.{Plan}
use Rattle.net_model.specs.ShownForm.{lag}
use Rattle.net_model.specs.declared.ids.PointId.{PointId}
use Rattle.strategy_model.specs.Control.{IsEarliest}
use Rattle.strategy_model.specs.Plays.{points_of}
use Rattle.strategy_model.specs.Situations.{moment_in}
use Rattle.net_model.specs.NetworkParts.{point_name}
use Rattle.command_words.specs.Arguments.{Arguments, flag_at, operand_at, option_at}
use Rattle.command_words.specs.Syntax.{Syntax}
use Rattle.command_engine.specs.declared.endings.End.{End}
use Rattle.command_engine.specs.declared.endings.End.TheVariants.{Done}
use Rattle.input_texts.specs.PlanInput.{json_name}
use Rattle.common_answers.specs.VerdictLines.{controllable_line, PutsRefuted}
use Rattle.verdicts.specs.Verdict.{Decides}
use Rattle.play_command.specs.PlayedSituation.{situation_of, which_given}
use Rattle.command_contracts.specs.PlanWords.{delay_name, form_given}
use Rattle.command_contracts.specs.WorkerCounts.{workers_of, workers_name}
use Rattle.input_texts.specs.declared.plan_input.PlanForm.{PlanForm}
use Rattle.play_command.specs.declared.plan_day.PlayWords.{PlayWords}
use Rattle.play_command.specs.declared.which_situation.WhichSituation.{WhichSituation}

-- the line of a point and its moment
abbrev pub time_line : Plan → PointId → ℕ → List ℕ
time_line net point moment = printed_line (codes "time" ∷ point_name net.points point ∷ decimal moment ∷ [])

-- the lines of all points, in their order: their moments in a schedule
abbrev pub times_text : Plan → List ℕ → List ℕ
times_text net schedule = flat_map (λ point. time_line net point (moment_in schedule point)) (points_of net)

-- when a point happened, by a schedule as it is shown
abbrev pub happened_in : Plan → (shown : List ℕ) → PointId → ℕ
happened_in net shown point = moment_in shown point - lag net point

-- It is put that a network is controllable, and then the moment of each point in the earliest schedule of a situation: a strategy that
-- controls the network plays it there, and no such strategy plays any point sooner.
pub record PutsTimes (which : WhichSituation) (net : Plan) (put : List ℕ) (end : End) : Type 0 where
  pub schedule : List ℕ
  pub earliest : IsEarliest net (situation_of which net) schedule
  pub is : put ≡ controllable_line ++ times_text net schedule
  pub done : end ≡ Done

-- The answer to a network is its verdict: that it is controllable, with the requested day, or that it is not, and the certificate that refutes its shown form.
-- The form in which the plan is given decides nothing of it, and of the number of workers nothing is seen.
abbrev pub play_answers : PlayWords → Plan → List ℕ → End → Type 0
play_answers words net put end = Decides net (PutsTimes words.which net put end) (λ cert. PutsRefuted cert put end)

-- what is played, if the form of the plan and the situation are given
abbrev pub play_words : Option PlanForm → Option WhichSituation → Option PlayWords
play_words (Some form) (Some which) = Some (record { form = form; which = which })
play_words form which = None

-- `play` takes which situation is played, the form of the plan, and a number of workers, which decides nothing of the request
abbrev pub play_syntax : Syntax
play_syntax = record { flags = json_name ∷ []; options = workers_name ∷ delay_name ∷ []; operands = codes "WHICH" ∷ [] }

abbrev pub play_request : Arguments → Option PlayWords
play_request arguments =
    option_and_then (λ workers. play_words (form_given (flag_at 0 arguments) (option_at 1 arguments)) (which_given (operand_at 0 arguments)))
    (workers_of (option_at 0 arguments))

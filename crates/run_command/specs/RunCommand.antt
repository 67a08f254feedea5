-- The command `run`: a plan, and after it lines of events, over which its network is executed, fed by feeders or without.
use Rattle.std.specs.Prelude.{◌≡◌, ℕ, List, [], ◌∷◌, codes, Option, Some, None}
use Rattle.std.specs.Option.{option_and_then, option_map}
use Rattle.net_model.specs.Network.{Plan}
use Rattle.net_model.specs.ShownForm.{shown_form}
use Rattle.cert_format.specs.declared.certificate.Certificate.{Certificate}
use Rattle.desk_feeding.specs.Fed.{most_feeders}
use Rattle.command_words.specs.Arguments.{Arguments, flag_at, option_at}
use Rattle.command_words.specs.Syntax.{Syntax, Text}
use Rattle.command_engine.specs.Machine.{Machine}
use Rattle.command_engine.specs.Phases.{text_then_phase_machine}
use Rattle.command_engine.specs.declared.endings.End.{End}
use Rattle.command_engine.specs.declared.machines.Flow.{Flow}
use Rattle.command_engine.specs.declared.machines.Flow.TheVariants.{Finish}
use Rattle.command_engine.specs.declared.phases.TextThenPhase.{TextThenPhase}
use Rattle.command_engine.specs.declared.phases.TextThenPhase.TheVariants.{Reading}
use Rattle.event_phase.specs.ExecutionStart.{BeginsExecutionBy}
use Rattle.event_phase.specs.EventRuns.{EventRun}
use Rattle.event_phase.specs.EventPhase.{executing_machine}
use Rattle.event_phase.specs.CompletionOrders.{CompletionOrder, as_named, in_order}
use Rattle.common_answers.specs.Faults.{refusing}
use Rattle.input_texts.specs.PlanInput.{PlanInput, initial_input, input_reader, json_name}
use Rattle.command_contracts.specs.Counts.{count_within}
use Rattle.command_contracts.specs.PlanWords.{delay_name, form_given}
use Rattle.command_contracts.specs.WorkerCounts.{workers_name, workers_of}
use Rattle.common_answers.specs.VerdictLines.{PutsRefuted}
use Rattle.verdicts.specs.Verdict.{Decides}
use Rattle.input_texts.specs.declared.plan_input.PlanForm.{PlanForm}

-- the request of `run`: the form of the plan, and the order in which the points of a line are passed to the execution
pub record RunForm : Type 0 where
  pub form : PlanForm
  pub completion_order : CompletionOrder

-- a request without feeders: they are passed on as the line names them
abbrev pub without_feeders : PlanForm → RunForm
without_feeders form = record { form = form; completion_order = as_named }

-- a request with feeders, of whatever number: they are passed on in the order of their numbers
abbrev pub with_feeders : PlanForm → RunForm
with_feeders form = record { form = form; completion_order = in_order }

-- it is put that a network is not controllable, and a certificate, and the run ends
abbrev pub EndsRefuted : Certificate → List ℕ → Flow EventRun → Type 0
EndsRefuted cert put flow = (end : End) × PutsRefuted cert put end × (flow ≡ Finish end)

-- By the verdict of the network the execution of its shown form begins, or the certificate of its refutation is put. The form in which the plan is given
-- decides nothing of it.
abbrev pub run_begins : RunForm → Plan → List ℕ → Flow EventRun → Type 0
run_begins query net answer flow = Decides net (BeginsExecutionBy query.completion_order (shown_form net) answer flow) (λ cert. EndsRefuted cert answer flow)

-- the name of the option
abbrev pub feeders_name : Text
feeders_name = codes "feeders"

-- the order in which points are passed to the execution, by the value of the option: a number of feeders decides no more than that
abbrev pub completion_order_given : Option Text → Option CompletionOrder
completion_order_given None = Some as_named
completion_order_given (Some word) = option_map (λ count. in_order) (count_within most_feeders word)

-- `run` takes the form of the plan, a number of workers, which decides nothing of the request, and a number of feeders
abbrev pub run_syntax : Syntax
run_syntax = record { flags = json_name ∷ []; options = workers_name ∷ delay_name ∷ feeders_name ∷ []; operands = [] }

-- the request, if the form of the plan and the order are both given as they should be
abbrev pub asks_both : Option PlanForm → Option CompletionOrder → Option RunForm
asks_both form completion_order = option_and_then (λ h. option_map (λ f. record { form = f; completion_order = h }) form) completion_order

-- the request of `run`, by its arguments
abbrev pub run_request : Arguments → Option RunForm
run_request arguments =
    option_and_then (λ workers. asks_both (form_given (flag_at 0 arguments) (option_at 1 arguments)) (completion_order_given (option_at 2 arguments)))
    (workers_of (option_at 0 arguments))

-- how far the input of `run` was read; of how it begins nothing is seen but the request
abbrev pub Running : Type 0
Running = TextThenPhase RunForm PlanInput EventRun

-- before the first line
abbrev pub run_start : RunForm → Running
run_start query = Reading query (initial_input query.form)

-- what `run` means
abbrev pub run_machine : Machine Running
run_machine = text_then_phase_machine run_begins input_reader refusing executing_machine

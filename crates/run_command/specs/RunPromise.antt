-- What `run` promises of what it puts for an input.
use Rattle.std.specs.Prelude.{◌≡◌, ◌⊎◌, ℕ, List, [], ◌++◌, Option}
use Rattle.texts.specs.Lines.{InputLine, input_lines}
use Rattle.net_model.specs.Network.{Plan}
use Rattle.net_model.specs.ShownForm.{shown_form}
use Rattle.strategy_model.specs.Control.{IsControllable}
use Rattle.cert_format.specs.declared.certificate.Certificate.{Certificate}
use Rattle.cert_checker.specs.Judgement.{judgement_of}
use Rattle.cert_checker.specs.declared.judgement.Claim.TheVariants.{NotControllable}
use Rattle.cert_checker.specs.declared.judgement.Judgement.TheVariants.{Accepted}
use Rattle.execution_model.specs.Streams.{Listing}
use Rattle.command_engine.specs.Inputs.{AnswersText, DeclaresBy, DeclaresWithinLimits, IsFirstRefusal}
use Rattle.command_engine.specs.declared.endings.End.{End}
use Rattle.command_engine.specs.declared.endings.End.TheVariants as ends
use Rattle.command_contracts.specs.Causes.{Causes, IsTextRefused, IsDayRefused}
use Rattle.event_phase.specs.Day.{Preamble, IsWholeDay, IsRefusedDay}
use Rattle.event_phase.specs.Due.{AnswersDue}
use Rattle.event_phase.specs.EventAnswers.{due_line}
use Rattle.event_phase.specs.EventFaults.{HasEventFault}
use Rattle.event_phase.specs.ExecutionPromise.{ExecutionPromise}
use Rattle.event_phase.specs.StatedDay.{HasStatedRefusal, HasStatedWholeDay}
use Rattle.common_answers.specs.Faults.{refusing}
use Rattle.input_texts.specs.PlanInput.{plan_in}
use Rattle.command_contracts.specs.Programs.{Program, or_nothing, serves}
use Rattle.run_command.specs.NamedDays.{KeepsAsNamed}
use Rattle.run_command.specs.RunCommand.{RunForm, run_machine, run_start}
use Rattle.common_answers.specs.VerdictLines.{controllable_line, PutsRefuted}
use Rattle.common_answers.specs.declared.faults.Fault.{Fault}

-- An execution is opened: it is put that the network is controllable, and it is, with the first due moment of its shown form, before all else;
-- or that it is not, and it is not, and a certificate that the judge accepts.
abbrev pub OpensExecution : Plan → List ℕ → End → Type 0
OpensExecution net put end =
    (IsControllable net × ((due : Option ℕ) × (more : List ℕ) × AnswersDue (shown_form net) [] due × put ≡ controllable_line ++ (due_line due ++ more)))
    ⊎ ((¬ IsControllable net) × ((cert : Certificate) × (judgement_of (shown_form net) cert ≡ Accepted NotControllable) × PutsRefuted cert put end))

-- what opens an execution of `run`: the lines of a plan of this form, which all come within the limits; nothing is put before. What is executed is the shown
-- form of the network that they declare: moments of contingent points are those at which they are shown. The points of a line are passed to it as the line
-- names them, and if there are feeders in the order of their numbers, however many feeders there are.
abbrev pub plan_opens : RunForm → Preamble
plan_opens query = record {
  completion_order = query.completion_order;
  opens = λ used rest net before. (stated : Plan) × DeclaresBy (plan_in query.form) used rest stated × (net ≡ shown_form stated) × (before ≡ []);
}

-- the lines of a plan of this form state the network that they declare
abbrev pub plan_states : RunForm → (used rest : List InputLine) → Plan → Type 0
plan_states query used rest net = DeclaresBy (plan_in query.form) used rest net

-- How a run ends, of the network that the input declares, with its delay. `completes`: as whole only if the lines of events list all that is shown of the
-- earliest schedule of a situation, which satisfies this network. `refused`: by a refused event only if a line states what is shown of no schedule of it that
-- shows what the lines before it state.
pub record EndsAsDeclared (query : RunForm) (input : List InputLine) (end : End) : Type 0 where
  pub completes : end ≡ ends.Done → HasStatedWholeDay (plan_opens query) (plan_states query) input
  pub refused : end ≡ ends.EventRefused → HasStatedRefusal (plan_opens query) (plan_states query) input

-- What `run` promises, of a plan of the requested form. The listings are those of the points that are passed to the execution. `opens`: it opens the execution
-- of the network that the input declares, or puts the first refusal of the input. `execution`: what is promised of an execution that is opened so, of its shown
-- form and of the network as stated. `completes`: it ends as whole only for a controllable network and a faithful stream that is done. `refused`: it ends by a
-- refused event only if a line states what no faithful stream does. `faults`: it ends by a fault only if the input has a first refusal, or its lines of events
-- a fault. `declared`: the first two of these three, of the network as it is declared. `named`: what is promised of the lines as they name their points, also
-- if there are feeders and the points are passed to the execution in the order of their numbers.
pub record RunPromise (query : RunForm) (input put : List ℕ) (end : End) : Type 0 where
  pub opens : AnswersText (plan_in query.form) refusing OpensExecution input put end
  pub execution : ExecutionPromise (plan_opens query) (input_lines input) put end
  pub completes : end ≡ ends.Done → (net : Plan) × (listings : List Listing) × IsWholeDay (plan_opens query) (input_lines input) net listings
  pub refused : end ≡ ends.EventRefused → IsRefusedDay (plan_opens query) (input_lines input)
  pub faults : (end ≡ ends.Fault) ⊎ (end ≡ ends.Limit)
      → (fault : Fault) × (IsFirstRefusal (plan_in query.form) (input_lines input) fault ⊎ HasEventFault (plan_opens query) (input_lines input) fault)
  pub declared : EndsAsDeclared query (input_lines input) end
  pub named : KeepsAsNamed (plan_opens query) (input_lines input) put end

-- What in an input a run of `run` ends by: the first refusal of its plan, or that of its lines of events. It is whole if it declares a network within the
-- limits and, if that is controllable, lists a faithful stream that is done.
abbrev pub run_causes : RunForm → Causes
run_causes query = record {
  refused = λ input end line. IsTextRefused (plan_in query.form) input end line ⊎ IsDayRefused (plan_opens query) input end line;
  whole = λ input. (net : Plan) × DeclaresWithinLimits (plan_in query.form) (input_lines input) net
      × (IsControllable net → (listings : List Listing) × IsWholeDay (plan_opens query) (input_lines input) (shown_form net) listings);
}

-- the program of `run`
abbrev pub run_program : RunForm → Program
run_program query = serves run_machine (run_start query) (or_nothing (run_causes query) (RunPromise query))

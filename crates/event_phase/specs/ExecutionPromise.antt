-- What is specified of an execution over lines of events, of any command that opens one.
use Rattle.std.specs.Prelude.{◌≡◌, ℕ, List, ◌++◌, Some, Err}
use Rattle.texts.specs.Lines.{InputLine}
use Rattle.net_model.specs.Network.{Plan, IsPlan}
use Rattle.net_model.specs.ShownForm.{shown_form}
use Rattle.net_model.specs.declared.ids.PointId.{PointId}
use Rattle.strategy_model.specs.Situations.{Satisfies}
use Rattle.event_stream.specs.EventText.{EventLine, blank, completed, done}
use Rattle.execution_model.specs.Feeds.{Execution, taken, first_open}
use Rattle.execution_model.specs.Laws.{going_on, ended}
use Rattle.execution_model.specs.ShownStreams.{FitsAsShown}
use Rattle.execution_model.specs.Streams.{Listing, FitsSituation}
use Rattle.execution_model.specs.declared.feed_answers.Why.{Why}
use Rattle.command_engine.specs.declared.endings.End.{End}
use Rattle.command_engine.specs.declared.endings.End.TheVariants as ends
use Rattle.event_phase.specs.Day.{Preamble, IsUnderway, IsDay, IsWholeDay, IsRefusedDay, next_number, refused_line_number, PutsSoFar, PutsDay}
use Rattle.event_phase.specs.Due.{IsFedBy}
use Rattle.event_phase.specs.EventAnswers.{why_words, unfinished_words, event_refusal_line}
use Rattle.event_phase.specs.EventFaults.{HasEventFault, event_refusal}
use Rattle.event_phase.specs.StatedDay.{IsRefusedDayAsStated, PutsSoFarAsStated, PutsDayAsStated}
use Rattle.common_answers.specs.Faults.{fault_end}
use Rattle.common_answers.specs.declared.faults.Fault.{Fault}

-- this line is put last
abbrev pub PutsLast : (line put : List ℕ) → Type 0
PutsLast line put = (before : List ℕ) × (put ≡ before ++ line)

-- why an execution refuses what a line states, in words: by the definition of feeding the cause of the feed, or the point that is open at the end
abbrev pub IsRefusedBy : Plan → Execution → EventLine → (words : List (List ℕ)) → Type 0
IsRefusedBy net execution blank words = ⊥
IsRefusedBy net execution (completed moment points) words = (cause : Why) × (taken execution moment points ≡ Err cause) × (words ≡ why_words net cause)
IsRefusedBy net execution done words = (point : PointId) × (first_open execution ≡ Some point) × (words ≡ unfinished_words net point)

-- An execution ends by a refused event, and the line is put last that refuses the line of this number, which states this after these listings, with the cause
-- for which the execution, once it was fed them, refuses it.
pub record RefusesEventLine (net : Plan) (listings : List Listing) (reported : EventLine) (number : ℕ) (put : List ℕ) (end : End) : Type 0 where
  pub execution : Execution
  pub fed : IsFedBy net listings execution
  pub words : List (List ℕ)
  pub why : IsRefusedBy net execution reported words
  pub last : PutsLast (event_refusal_line number words) put
  pub ends_so : end ≡ ends.EventRefused

-- the run ends so by the line of an input that is refused
abbrev pub EndsRefused : {opens : Preamble} {input : List InputLine} → IsRefusedDay opens input → (put : List ℕ) → End → Type 0
EndsRefused refused put end = RefusesEventLine refused.net refused.listings refused.reported (refused_line_number refused) put end

-- What is specified of the executions of the shown form of a network that lines of an input open, of the network as it is stated. `underway`: while the stream
-- continues, and lists what is shown of the earliest schedule of a situation, the acts of this schedule are put. `executes`: if the stream is done, they are
-- all put, and the schedule, in which each listed completion happened the delay before its listed moment, satisfies the network. `refuses`: the run ends by a
-- refused event, with the number of its line and the cause in the shown form, if a line states what is shown of no schedule that shows what the lines before it
-- state. It rests on `law_streams_are_shown` and `law_acts_are_shown` (execution_model).
pub record KeepsAsStated (opens : Preamble) (input : List InputLine) (put : List ℕ) (end : End) : Type 0 where
  pub underway : (net : Plan) (listings : List Listing) (situation : List ℕ) → IsPlan net → (day : IsUnderway opens input (shown_form net) listings)
      → (fits : FitsAsShown net (going_on listings) situation) → PutsSoFarAsStated net fits.schedule day.lines.before listings put
  pub executes : (net : Plan) (listings : List Listing) (situation : List ℕ) → IsPlan net → (day : IsDay opens input (shown_form net) listings done)
      → (fits : FitsAsShown net (ended listings) situation)
      → Satisfies net fits.schedule × PutsDayAsStated net fits.schedule day.underway.lines.before listings put end
  pub refuses : (net : Plan) → IsPlan net → (refused : IsRefusedDayAsStated opens input net)
      → RefusesEventLine (shown_form net) refused.listings refused.reported (next_number refused.day.underway.lines) put end

-- What is specified of the executions that lines of an input open. `underway`: while the stream continues and is faithful, the acts of the earliest schedule of
-- the situation that the stream fits are put, whatever comes after. `executes`: for a controllable network and a faithful stream that is done, the acts of the
-- earliest schedule of the situation that the stream fits are put, which with the completions listed is the whole schedule, and satisfies the network.
-- `refuses`: the run ends by a refused event, with the number of its line and the cause, if a line states what no faithful stream does. `faulty`: it ends by a
-- fault, with its line, if the lines of events have one. `stated`: of an execution of the shown form, what is specified of the network as it is stated.
pub record ExecutionPromise (opens : Preamble) (input : List InputLine) (put : List ℕ) (end : End) : Type 0 where
  pub underway : (net : Plan) (listings : List Listing) (situation : List ℕ) → (day : IsUnderway opens input net listings)
      → (fits : FitsSituation net (going_on listings) situation) → PutsSoFar net fits.schedule day.lines.before listings put
  pub executes : (net : Plan) (listings : List Listing) (situation : List ℕ) → (whole : IsWholeDay opens input net listings)
      → (fits : FitsSituation net (ended listings) situation) → Satisfies net fits.schedule
      × PutsDay net fits.schedule whole.day.underway.lines.before listings put end
  pub refuses : (refused : IsRefusedDay opens input) → EndsRefused refused put end
  pub faulty : (fault : Fault) → HasEventFault opens input fault → PutsLast (event_refusal fault) put × (end ≡ fault_end fault)
  pub stated : KeepsAsStated opens input put end

-- An input that opens the execution of a network, and lines of events after that which list a stream; and what is put for it by a schedule.
use Rattle.std.specs.Prelude.{◌≡◌, ◌⊎◌, ℕ, suc, ◌+◌, ◌-◌, ◌<◌, List, [], ◌∷◌, ◌++◌, length, Option}
use Rattle.std.specs.List.{All}
use Rattle.texts.specs.Lines.{InputLine}
use Rattle.net_model.specs.Network.{Plan}
use Rattle.net_model.specs.declared.ids.PointId.{PointId}
use Rattle.strategy_model.specs.Control.{IsControllable}
use Rattle.texts.specs.Limits.{most_line}
use Rattle.plan_port.specs.Lines.{Comes, coming}
use Rattle.event_stream.specs.EventText.{EventLine, blank, completed, done}
use Rattle.execution_model.specs.Acts.{scheduled}
use Rattle.execution_model.specs.Laws.{going_on, ended}
use Rattle.execution_model.specs.Streams.{Listing, IsFaithful}
use Rattle.command_engine.specs.Inputs.{texts, capacity_after}
use Rattle.command_engine.specs.Limits.{most_input}
use Rattle.command_engine.specs.declared.endings.End.{End}
use Rattle.command_engine.specs.declared.endings.End.TheVariants.{Done}
use Rattle.event_phase.specs.Due.{moment_after_listings, AnswersDue}
use Rattle.event_phase.specs.EventAnswers.{acts_text, due_line, complete_line}
use Rattle.event_phase.specs.CompletionOrders.{CompletionOrder, ReportsEvent}
use Rattle.common_answers.specs.FormatRefusals.{Come}
use Rattle.common_answers.specs.VerdictLines.{controllable_line}

-- these lines of events list a stream that continues, wherever they stand: the points of each listing are those that are fed to the execution
abbrev pub ListLines : CompletionOrder → Plan → List (List ℕ) → List Listing → Type 0
ListLines completion_order net [] listings = listings ≡ []
ListLines completion_order net (line ∷ lines) listings =
    (ReportsEvent completion_order net blank line × ListLines completion_order net lines listings)
    ⊎ ((moment : ℕ) × (points : List PointId) × (others : List Listing) × ReportsEvent completion_order net (completed moment points) line
    × (listings ≡ record { moment = moment; points = points } ∷ others) × ListLines completion_order net lines others)

-- What opens an execution, which each command states for itself. `completion_order`: in which order the points of a line are fed to it. `opens`: these lines,
-- with others after them, open the execution of this network, and these bytes are put before.
pub record Preamble : Type 1 where
  pub completion_order : CompletionOrder
  pub opens : (used rest : List InputLine) → Plan → (before : List ℕ) → Type 0

-- Where lines of events stand in an input: after lines that open the execution of a network, one after another, and all come within the
-- limits.
pub record StandIn (opens : Preamble) (input : List InputLine) (net : Plan) : Type 0 where
  pub used : List InputLine
  pub events : List InputLine
  pub rest : List InputLine
  pub before : List ℕ
  pub divided : input ≡ used ++ (events ++ rest)
  pub opened : opens.opens used (events ++ rest) net before
  pub come : Come (capacity_after most_input used) events

-- the number of the line that comes after them, and the bytes that the input may still have then
abbrev pub next_number : {opens : Preamble} {input : List InputLine} {net : Plan} → StandIn opens input net → ℕ
next_number lines = length (lines.used ++ lines.events) + 1

abbrev pub capacity_then : {opens : Preamble} {input : List InputLine} {net : Plan} → StandIn opens input net → ℕ
capacity_then lines = capacity_after most_input (lines.used ++ lines.events)

-- An input of which lines open the execution of a network, and lines of events after them list a stream that continues.
pub record IsUnderway (opens : Preamble) (input : List InputLine) (net : Plan) (listings : List Listing) : Type 0 where
  pub lines : StandIn opens input net
  pub lists : ListLines opens.completion_order net (texts lines.events) listings

-- and one more line, which comes too, states this
pub record IsDay (opens : Preamble) (input : List InputLine) (net : Plan) (listings : List Listing) (reported : EventLine) : Type 0 where
  pub underway : IsUnderway opens input net listings
  pub last : InputLine
  pub others : List InputLine
  pub next : underway.lines.rest ≡ last ∷ others
  pub comes : coming most_line (capacity_then underway.lines) last ≡ Comes
  pub statement : ReportsEvent opens.completion_order net reported last.text

-- a stream that continues is no longer faithful with what a line states
abbrev pub IsUnfaithfulWith : Plan → List Listing → EventLine → Type 0
IsUnfaithfulWith net listings blank = ⊥
IsUnfaithfulWith net listings (completed moment points) = ¬ IsFaithful net (going_on (listings ++ record { moment = moment; points = points } ∷ []))
IsUnfaithfulWith net listings done = ¬ IsFaithful net (ended listings)

-- the first line of events that is refused states what no faithful stream does after those before it
pub record IsRefusedDay (opens : Preamble) (input : List InputLine) : Type 0 where
  pub net : Plan
  pub listings : List Listing
  pub reported : EventLine
  pub day : IsDay opens input net listings reported
  pub controllable : IsControllable net
  pub faithful : IsFaithful net (going_on listings)
  pub unfaithful : IsUnfaithfulWith net listings reported

-- the number of the line that is refused
abbrev pub refused_line_number : {opens : Preamble} {input : List InputLine} → IsRefusedDay opens input → ℕ
refused_line_number refused = next_number refused.day.underway.lines

-- the input opens the execution of a controllable network, and lists a faithful stream that is done
pub record IsWholeDay (opens : Preamble) (input : List InputLine) (net : Plan) (listings : List Listing) : Type 0 where
  pub day : IsDay opens input net listings done
  pub controllable : IsControllable net
  pub faithful : IsFaithful net (ended listings)

-- what is put by a schedule for listings after others, if due moments are answered so: for each its acts of the schedule since the one before, and the next due
-- moment
abbrev pub PutsListingsBy : (dues : List Listing → Option ℕ → Type 0) → Plan → List ℕ → (before : List Listing) → List Listing → List ℕ → Type 0
PutsListingsBy dues net schedule before [] put = put ≡ []
PutsListingsBy dues net schedule before (listing ∷ others) put =
    (due : Option ℕ) × (more : List ℕ) × dues (before ++ listing ∷ []) due
    × (put ≡ acts_text net (scheduled net schedule (moment_after_listings before) (suc listing.moment - moment_after_listings before)) ++
    (due_line due ++ more))
    × PutsListingsBy dues net schedule (before ++ listing ∷ []) others more

-- what is put for a stream so far by a schedule, after what was put before: that the network is controllable, the first due moment, and
-- then the acts of the schedule up to each listing
pub record PutsSoFarBy (dues : List Listing → Option ℕ → Type 0) (net : Plan) (schedule before : List ℕ) (listings : List Listing) (put : List ℕ) : Type 0 where
  pub first : Option ℕ
  pub said : List ℕ
  pub more : List ℕ
  pub due : dues [] first
  pub listed : PutsListingsBy dues net schedule [] listings said
  pub all : put ≡ before ++ (controllable_line ++ (due_line first ++ (said ++ more)))

-- what is put for a whole day by a schedule, after what was put before: that the network is controllable, the acts of the schedule up to
-- each listing, those that remain after the last one, and that the execution is complete
pub record PutsDayBy (dues : List Listing → Option ℕ → Type 0) (net : Plan) (schedule before : List ℕ) (listings : List Listing) (put : List ℕ)
    (end : End) : Type 0 where
  pub first : Option ℕ
  pub said : List ℕ
  pub count : ℕ
  pub due : dues [] first
  pub listed : PutsListingsBy dues net schedule [] listings said
  pub whole : All (λ moment. moment < moment_after_listings listings + count) schedule
  pub all : put ≡ before ++ (controllable_line ++ (due_line first ++
      (said ++ (acts_text net (scheduled net schedule (moment_after_listings listings) count) ++ complete_line))))
  pub ends : end ≡ Done

-- what is put for listings after others, with the due moments of the network
abbrev pub PutsListings : Plan → List ℕ → (before : List Listing) → List Listing → List ℕ → Type 0
PutsListings net schedule before listings put = PutsListingsBy (AnswersDue net) net schedule before listings put

-- what is put for a stream so far, with the due moments of the network
abbrev pub PutsSoFar : Plan → (schedule before : List ℕ) → List Listing → (put : List ℕ) → Type 0
PutsSoFar net schedule before listings put = PutsSoFarBy (AnswersDue net) net schedule before listings put

-- what is put for a whole day, with the due moments of the network
abbrev pub PutsDay : Plan → (schedule before : List ℕ) → List Listing → (put : List ℕ) → End → Type 0
PutsDay net schedule before listings put end = PutsDayBy (AnswersDue net) net schedule before listings put end

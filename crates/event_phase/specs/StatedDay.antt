-- An input that opens the execution of the shown form of a network, in terms of the network as it is stated; and what is put for it by a schedule of that. The
-- lines of events list what is shown.
use Rattle.std.specs.Prelude.{ℕ, List, [], ◌∷◌, ◌++◌}
use Rattle.texts.specs.Lines.{InputLine}
use Rattle.net_model.specs.Network.{Plan}
use Rattle.net_model.specs.ShownForm.{shown_form}
use Rattle.strategy_model.specs.Control.{IsControllable}
use Rattle.strategy_model.specs.Situations.{Satisfies}
use Rattle.event_stream.specs.EventText.{EventLine, blank, completed, done}
use Rattle.execution_model.specs.Laws.{going_on, ended}
use Rattle.execution_model.specs.ShownStreams.{FitsAsShown, IsFaithfulAsShown}
use Rattle.execution_model.specs.Streams.{Listing}
use Rattle.command_engine.specs.declared.endings.End.{End}
use Rattle.event_phase.specs.Day.{Preamble, StandIn, IsDay, PutsSoFarBy, PutsDayBy}
use Rattle.event_phase.specs.Due.{AnswersDueAsStated}

-- a stream that continues is no longer faithful to the network as it is stated with what a line states
abbrev pub IsUnfaithfulAsShownWith : Plan → List Listing → EventLine → Type 0
IsUnfaithfulAsShownWith net listings blank = ⊥
IsUnfaithfulAsShownWith net listings (completed moment points) =
    ¬ IsFaithfulAsShown net (going_on (listings ++ record { moment = moment; points = points } ∷ []))
IsUnfaithfulAsShownWith net listings done = ¬ IsFaithfulAsShown net (ended listings)

-- the first line of events that is refused states what is shown of no schedule that shows what the lines before it state
pub record IsRefusedDayAsStated (opens : Preamble) (input : List InputLine) (net : Plan) : Type 0 where
  pub listings : List Listing
  pub reported : EventLine
  pub day : IsDay opens input (shown_form net) listings reported
  pub controllable : IsControllable net
  pub faithful : IsFaithfulAsShown net (going_on listings)
  pub unfaithful : IsUnfaithfulAsShownWith net listings reported

-- the input opens the execution of a controllable network, and lists all that is shown of the earliest schedule of a situation, which
-- satisfies the network
pub record IsWholeDayAsStated (opens : Preamble) (input : List InputLine) (net : Plan) (listings : List Listing) : Type 0 where
  pub day : IsDay opens input (shown_form net) listings done
  pub controllable : IsControllable net
  pub situation : List ℕ
  pub fits : FitsAsShown net (ended listings) situation
  pub satisfied : Satisfies net fits.schedule

-- the lines that open an execution state this network, by which networks lines of an input state
abbrev pub StatedBy : {opens : Preamble} {input : List InputLine} {shown : Plan} → StandIn opens input shown
    → (states : (used rest : List InputLine) → Plan → Type 0) → Plan → Type 0
StatedBy lines states net = states lines.used (lines.events ++ lines.rest) net

-- an input that states a network has a line that is refused so
abbrev pub HasStatedRefusal : Preamble → (states : (used rest : List InputLine) → Plan → Type 0) → List InputLine → Type 0
HasStatedRefusal opens states input = (net : Plan) × (refused : IsRefusedDayAsStated opens input net) × StatedBy refused.day.underway.lines states net

-- an input that states a network has a whole day of it
abbrev pub HasStatedWholeDay : Preamble → (states : (used rest : List InputLine) → Plan → Type 0) → List InputLine → Type 0
HasStatedWholeDay opens states input =
    (net : Plan) × (listings : List Listing) × (whole : IsWholeDayAsStated opens input net listings) × StatedBy whole.day.underway.lines states net

-- what is put for a stream so far, by a schedule of the network as it is stated
abbrev pub PutsSoFarAsStated : Plan → (schedule before : List ℕ) → List Listing → (put : List ℕ) → Type 0
PutsSoFarAsStated net schedule before listings put = PutsSoFarBy (AnswersDueAsStated net) net schedule before listings put

-- what is put for a whole day, by a schedule of the network as it is stated
abbrev pub PutsDayAsStated : Plan → (schedule before : List ℕ) → List Listing → (put : List ℕ) → End → Type 0
PutsDayAsStated net schedule before listings put end = PutsDayBy (AnswersDueAsStated net) net schedule before listings put end

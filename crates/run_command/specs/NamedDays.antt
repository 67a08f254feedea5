-- Lines of events as they name their points, also if the points are passed to the execution in another order.
use Rattle.std.specs.Prelude.{◌≡◌, ◌↔◌, ℕ, Bool, List}
use Rattle.std.specs.List.{AllZip}
use Rattle.std.specs.List.Sorted.{IsPermutation}
use Rattle.texts.specs.Lines.{InputLine}
use Rattle.net_model.specs.Network.{Plan}
use Rattle.strategy_model.specs.Situations.{Satisfies}
use Rattle.execution_model.specs.Laws.{going_on, ended}
use Rattle.execution_model.specs.Streams.{FitsSituation, IsFaithful, Listing}
use Rattle.command_engine.specs.declared.endings.End.{End}
use Rattle.command_engine.specs.declared.endings.End.TheVariants as ends
use Rattle.event_phase.specs.CompletionOrders.{as_named}
use Rattle.event_phase.specs.Day.{IsRefusedDay, IsUnderway, IsWholeDay, Preamble, PutsDayBy, PutsSoFarBy, refused_line_number}
use Rattle.event_phase.specs.Due.{IsDueAfter}
use Rattle.event_phase.specs.EventAnswers.{event_refusal_line}
use Rattle.event_phase.specs.ExecutionPromise.{PutsLast}

-- two listings are of one moment, and have the same points, each as often
pub record IsSameListing (listing other : Listing) : Type 0 where
  pub moment : other.moment ≡ listing.moment
  pub points : IsPermutation listing.points other.points

-- so are those of two lists, one by one
abbrev pub ListTheSame : (listings others : List Listing) → Type 0
ListTheSame listings others = AllZip IsSameListing listings others

-- in which order listings name their points decides nothing of whether a stream is faithful: it fits the same situations, by the same schedules
abbrev pub OrdersDecideNothing : Type 0
OrdersDecideNothing =
    (net : Plan) (listings others : List Listing) (done : Bool) → ListTheSame listings others
    → (IsFaithful net (record { listings = listings; done = done }) ↔ IsFaithful net (record { listings = others; done = done }))
    × ((situation : List ℕ) (fits : FitsSituation net (record { listings = listings; done = done }) situation)
    → (other : FitsSituation net (record { listings = others; done = done }) situation) × (other.schedule ≡ fits.schedule))

-- what opens an execution, with the points of each line in the order in which the line names them
abbrev pub as_lines_name : Preamble → Preamble
as_lines_name opens = record { completion_order = as_named; opens = opens.opens }

-- the run ends by a refused event, and the line is put last that refuses the line of this number, with some cause
abbrev pub RefusesLine : (number : ℕ) → List ℕ → End → Type 0
RefusesLine number put end = (words : List (List ℕ)) × PutsLast (event_refusal_line number words) put × (end ≡ ends.EventRefused)

-- What is promised of lines of events as they name their points. `underway`, `executes`: while the stream is faithful the acts of the earliest schedule of the
-- situation that it fits are put, with the next due moments, and if it is done all of them. `refuses`: the run ends by the first line that states what no faithful
-- stream does. `completes`, `refused`: and only so does it end as whole, or by a refused event.
pub record KeepsAsNamed (opens : Preamble) (input : List InputLine) (put : List ℕ) (end : End) : Type 0 where
  pub underway : (net : Plan) (listings : List Listing) (situation : List ℕ) → (day : IsUnderway (as_lines_name opens) input net listings)
      → (fits : FitsSituation net (going_on listings) situation) → PutsSoFarBy (IsDueAfter net) net fits.schedule day.lines.before listings put
  pub executes : (net : Plan) (listings : List Listing) (situation : List ℕ) → (whole : IsWholeDay (as_lines_name opens) input net listings)
      → (fits : FitsSituation net (ended listings) situation)
      → Satisfies net fits.schedule × PutsDayBy (IsDueAfter net) net fits.schedule whole.day.underway.lines.before listings put end
  pub refuses : (refused : IsRefusedDay (as_lines_name opens) input) → RefusesLine (refused_line_number refused) put end
  pub completes : end ≡ ends.Done → (net : Plan) × (listings : List Listing) × IsWholeDay (as_lines_name opens) input net listings
  pub refused : end ≡ ends.EventRefused → IsRefusedDay (as_lines_name opens) input

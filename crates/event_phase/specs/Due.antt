-- The next due moment: as it is answered, and in terms of schedules: the first moment at which a point is executed while nothing completes.
use Rattle.std.specs.Prelude.{◌≡◌, ◌≢◌, ℕ, suc, ◌-◌, ◌<◌, ◌≤◌, List, [], ◌∷◌, ◌++◌, Option, Some, None, Ok}
use Rattle.std.specs.Option.{option_map_or}
use Rattle.net_model.specs.Network.{Plan}
use Rattle.net_model.specs.ShownForm.{shown_form}
use Rattle.net_model.specs.declared.ids.PointId.{PointId}
use Rattle.closure_model.specs.Tables.{Graph}
use Rattle.strategy_model.specs.Control.{IsEarliest}
use Rattle.execution_model.specs.Acts.{scheduled_at, scheduled}
use Rattle.execution_model.specs.Feeds.{Execution, started, IsDueAnswer}
use Rattle.canonical_closure.specs.CanonicalClosure.{IsDispatchedByClosure}
use Rattle.execution_model.specs.Laws.{setting_of, going_on}
use Rattle.execution_model.specs.ShownStreams.{ListsAsShown}
use Rattle.execution_model.specs.Streams.{Listing, Shows, last_moment}
use Rattle.execution_model.specs.Timely.{fed_all}

-- the first moment after those of a list
abbrev pub moment_after_listings : List Listing → ℕ
moment_after_listings listings = option_map_or suc (last_moment (going_on listings)) 0

-- a schedule is the earliest of a situation in which what is listed completes, and then nothing before a moment, and these points at it
abbrev pub ListsNext : Plan → List Listing → (moment : ℕ) → List PointId → (schedule : List ℕ) → Type 0
ListsNext net listings moment points schedule =
    (situation : List ℕ) × IsEarliest net situation schedule × Shows net (going_on (listings ++ record { moment = moment; points = points } ∷ [])) schedule

-- By schedules that continue so after what is listed: nothing completes before a moment, and these points at it. If nothing completes up to a moment either, no
-- point is executed from the last listing up to it.
abbrev pub ExecutesNoneBy : (goes : (moment : ℕ) → List PointId → (schedule : List ℕ) → Type 0) → Plan → List Listing → (moment : ℕ) → Type 0
ExecutesNoneBy goes net listings moment =
    (schedule : List ℕ) → goes moment [] schedule → scheduled net schedule (moment_after_listings listings) (suc moment - moment_after_listings listings) ≡ []

-- if nothing completes before a moment, a point is executed at it
abbrev pub ExecutesAtBy : (goes : (moment : ℕ) → List PointId → (schedule : List ℕ) → Type 0) → Plan → (moment : ℕ) → Type 0
ExecutesAtBy goes net moment = (points : List PointId) (schedule : List ℕ) → goes moment points schedule → scheduled_at net schedule moment ≢ []

-- while nothing completes, a point is executed at a moment and none before it; or none is executed at all
abbrev pub IsDueBy : (goes : (moment : ℕ) → List PointId → (schedule : List ℕ) → Type 0) → Plan → List Listing → Option ℕ → Type 0
IsDueBy goes net listings None = (moment : ℕ) → ExecutesNoneBy goes net listings moment
IsDueBy goes net listings (Some due) =
    (moment_after_listings listings ≤ due) × ((moment : ℕ) → moment < due → ExecutesNoneBy goes net listings moment) × ExecutesAtBy goes net due

-- no point is executed while nothing completes, by the schedules that show what is listed
abbrev pub ExecutesNone : Plan → List Listing → (moment : ℕ) → Type 0
ExecutesNone net listings moment = ExecutesNoneBy (ListsNext net listings) net listings moment

-- a moment is due after listings, or none, by the schedules that show what is listed
abbrev pub IsDueAfter : Plan → List Listing → Option ℕ → Type 0
IsDueAfter net listings due = IsDueBy (ListsNext net listings) net listings due

-- the execution of a network by its closure, once it was fed these listings
pub record IsFedBy (net : Plan) (listings : List Listing) (execution : Execution) : Type 0 where
  pub table : Graph
  pub order : List PointId
  pub by_closure : IsDispatchedByClosure net table order
  pub fed : fed_all (started (setting_of net table)) listings ≡ Ok execution

-- What is answered as the next due moment after these listings, by the definition of feeding. There is one such answer, also if every situation completes
-- something before it; and it is what the schedules give.
pub record AnswersDue (net : Plan) (listings : List Listing) (due : Option ℕ) : Type 0 where
  pub execution : Execution
  pub fed : IsFedBy net listings execution
  pub answered : IsDueAnswer execution due
  pub reported : IsDueAfter net listings due

-- a schedule of a network with a delay is the earliest of a situation of which what is listed is shown, and then nothing before a moment, and
-- these points at it
abbrev pub ShowsNext : Plan → List Listing → (moment : ℕ) → List PointId → (schedule : List ℕ) → Type 0
ShowsNext net listings moment points schedule =
    (situation : List ℕ) × IsEarliest net situation schedule × ListsAsShown net (going_on (listings ++ record { moment = moment; points = points } ∷ []))
    schedule

-- What is answered as the next due moment, of a network as it is stated: the answer for its shown form, which is what the schedules of the network itself give
-- while nothing is shown.
pub record AnswersDueAsStated (net : Plan) (listings : List Listing) (due : Option ℕ) : Type 0 where
  pub answered : AnswersDue (shown_form net) listings due
  pub reported : IsDueBy (ShowsNext net listings) net listings due

-- What a feed and the end of an execution come to, in terms of strategies: the moments are those of the earliest schedule, and no strategy that controls the
-- network plays any of the points sooner.
use Rattle.std.specs.Prelude.{◌≡◌, ◌↔◌, ℕ, suc, ◌+◌, ◌-◌, ◌<◌, ◌≤◌, List, [], ◌∷◌, ◌++◌, Some, Ok}
use Rattle.std.specs.List.{All}
use Rattle.net_model.specs.Network.{Plan}
use Rattle.net_model.specs.declared.ids.PointId.{PointId}
use Rattle.closure_model.specs.Tables.{Graph}
use Rattle.closure_laws.specs.Forward.{IsDispatchedForward}
use Rattle.strategy_model.specs.Control.{Controls, IsEarliest}
use Rattle.strategy_model.specs.Plays.{play}
use Rattle.strategy_model.specs.Situations.{moment_in}
use Rattle.strategy_model.specs.declared.tree.Tree.{Tree}
use Rattle.net_model.specs.Moments.{Moments, moment_of}
use Rattle.net_model.specs.Limits.{most_moment}
use Rattle.execution_model.specs.Feeds.{Execution, started, next_moment, IsFed, IsFinished}
use Rattle.execution_model.specs.Streams.{Listing, Stream, Shows, IsFaithful, fixed_by}
use Rattle.execution_model.specs.Timely.{fed_all}
use Rattle.execution_model.specs.Laws.{setting_of, going_on, ended}
use Rattle.execution_model.specs.Acts.{scheduled}
use Rattle.execution_model.specs.declared.feed_answers.Fed.{Fed}
use Rattle.execution_model.specs.declared.feed_answers.Fed.TheVariants as fed
use Rattle.execution_model.specs.declared.feed_answers.Finished.{Finished}
use Rattle.execution_model.specs.declared.feed_answers.Finished.TheVariants as finished

-- no strategy that controls the network plays any of the points that have come sooner in a situation
abbrev pub NoneSooner : Plan → (situation : List ℕ) → Moments → Type 0
NoneSooner net situation moments =
    (strategy : Tree) (played : List ℕ) → Controls strategy net → play strategy net situation ≡ Some played → (point : PointId) (moment : ℕ)
    → moment_of moments point ≡ Some moment → moment ≤ moment_in played point

-- an execution keeps to the earliest schedule of a situation: its moments are what a stream fixes of it, its acts are those of so many
-- moments from one on, and none of its points comes sooner by any strategy
pub record KeepsToEarliest (net : Plan) (stream : Stream) (situation schedule : List ℕ) (from count : ℕ) (execution : Execution) : Type 0 where
  pub moments : execution.moments ≡ fixed_by stream schedule
  pub acts : execution.acts ≡ scheduled net schedule from count
  pub none_sooner : NoneSooner net situation execution.moments

-- what a feed comes to, if the stream with its listing is this: it is taken exactly if the stream is faithful, and then the execution keeps to the earliest
-- schedule of every situation that the stream fits
pub record IsFedEarliest (net : Plan) (stream : Stream) (old : Execution) (moment : ℕ) (answer : Fed) (after : Execution) : Type 0 where
  pub answered : (answer ≡ fed.Acts) ↔ IsFaithful net stream
  pub keeps : answer ≡ fed.Acts → (situation schedule : List ℕ) → IsEarliest net situation schedule → Shows net stream schedule
      → KeepsToEarliest net stream situation schedule (next_moment old) (suc moment - next_moment old) after

-- what the end comes to, if this is the stream said to be done: it is complete exactly if the stream is faithful, and then the execution is the whole earliest
-- schedule of every situation that the stream fits; its acts are all that remain
pub record IsEndedEarliest (net : Plan) (stream : Stream) (old : Execution) (answer : Finished) (after : Execution) : Type 0 where
  pub answered : (answer ≡ finished.Complete) ↔ IsFaithful net stream
  pub keeps : answer ≡ finished.Complete → (situation schedule : List ℕ) → IsEarliest net situation schedule → Shows net stream schedule
      → (count : ℕ) × All (λ moment. moment < next_moment old + count) schedule × KeepsToEarliest net stream situation schedule (next_moment old) count after

-- What is specified of a feed, for every network that is dispatched by a forward closed table with an order and every list of feeds that was
-- taken before it: it is taken exactly if the stream is faithful, and then the execution keeps to the earliest schedule of every situation
-- that the stream fits.
abbrev pub FeedsEarliest : Execution → (moment : ℕ) → List PointId → Fed → Execution → Type 0
FeedsEarliest old moment listed answer after =
    (net : Plan) (table : Graph) (order : List PointId) (listings : List Listing) → IsDispatchedForward net table order
    → fed_all (started (setting_of net table)) listings ≡ Ok old → moment ≤ most_moment
    → IsFedEarliest net (going_on (listings ++ record { moment = moment; points = listed } ∷ [])) old moment answer after

-- What is specified of the end, for every network that is dispatched by a forward closed table with an order and every list of feeds that was
-- taken before it: it is complete exactly if the stream that is said to be done is faithful, and then the execution is the whole earliest
-- schedule of every situation that the stream fits.
abbrev pub EndsEarliest : Execution → Finished → Execution → Type 0
EndsEarliest old answer after =
    (net : Plan) (table : Graph) (order : List PointId) (listings : List Listing) → IsDispatchedForward net table order
    → fed_all (started (setting_of net table)) listings ≡ Ok old → IsEndedEarliest net (ended listings) old answer after

abbrev pub FeedsAreEarliest : Type 0
FeedsAreEarliest =
    (old : Execution) (moment : ℕ) (listed : List PointId) (answer : Fed) (after : Execution) → IsFed old moment listed answer after
    → FeedsEarliest old moment listed answer after

abbrev pub FinishesAreEarliest : Type 0
FinishesAreEarliest = (old : Execution) (answer : Finished) (after : Execution) → IsFinished old answer after → EndsEarliest old answer after

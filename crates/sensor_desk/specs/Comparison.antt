-- What the words of a desk say at its end, compared with the moments of an execution. This project's own choice.
use Rattle.std.specs.Prelude.{◌≡◌, ◌≢◌, ℕ, suc, ◌<◌, max, Bool, true, false, List, length, map, filter, fold, Option, Some, Ok, slice_get, slice_index}
use Rattle.std.specs.List.{range_with_len}
use Rattle.std.specs.Option.{option_and_then}
use Rattle.net_model.specs.Network.{Plan, activation}
use Rattle.net_model.specs.Moments.{Moments, moment_of}
use Rattle.net_model.specs.declared.ids.LinkId.{LinkId}
use Rattle.net_model.specs.declared.ids.PointId.{PointId}
use Rattle.net_model.specs.declared.part.Link.{Link}
use Rattle.closure_model.specs.Tables.{Graph}
use Rattle.strategy_model.specs.Plays.{points_of}
use Rattle.execution_model.specs.Feeds.{Execution, started, IsFinished}
use Rattle.closure_laws.specs.Forward.{IsDispatchedForward}
use Rattle.execution_model.specs.Laws.{setting_of}
use Rattle.execution_model.specs.Streams.{Listing, Stream, IsExecution}
use Rattle.execution_model.specs.Timely.{fed_all}
use Rattle.execution_model.specs.declared.feed_answers.Finished.TheVariants as finished
use Rattle.sensor_desk.specs.DeskHistory.{Entries, moment_at}
use Rattle.sensor_desk.specs.DeskRule.{IsPastOfDesk}
use Rattle.sensor_desk.specs.Follower.{is_now}
use Rattle.sensor_desk.specs.Views.{View}
use Rattle.sensor_desk.specs.Words.{held, moment_word, place_of_word}
use Rattle.sensor_desk.specs.declared.end.Closing.{Closing}
use Rattle.sensor_desk.specs.declared.end.Closing.TheVariants.{Agreed, Differs}

-- two moments are the same, or there is neither, by a test
abbrev pub IsSame : Option ℕ → Option ℕ → Bool → Type 0
IsSame one other true = one ≡ other
IsSame one other false = one ≢ other

-- what was posted for a link is the moment of its point
abbrev pub Agrees : Plan → Moments → (LinkId → Option ℕ) → LinkId → Type 0
Agrees net moments posted name =
    (link : Link) → slice_get net.links name.0 ≡ Some link → posted name ≡ moment_of moments link.to

-- it is not
pub record Disagrees (net : Plan) (moments : Moments) (posted : LinkId → Option ℕ) (name : LinkId) : Type 0 where
  pub link : Link
  pub at : slice_get net.links name.0 ≡ Some link
  pub other : posted name ≢ moment_of moments link.to

-- whether all links agree with the moments of their points, or which one is the first that does not
abbrev pub IsClosing : Plan → Moments → (LinkId → Option ℕ) → Closing → Type 0
IsClosing net moments posted Agreed = (name : LinkId) → name.0 < length net.links → Agrees net moments posted name
IsClosing net moments posted (Differs first) =
    ((name : LinkId) → name.0 < first.0 → Agrees net moments posted name) × Disagrees net moments posted first

-- the same, by the words of a desk
abbrev pub AreCompared : Plan → Moments → List ℕ → Closing → Type 0
AreCompared net moments words closing = IsClosing net moments (λ name. held (slice_index words (place_of_word name))) closing

-- the result of a test of one of them
abbrev pub IsAgreed : Plan → Moments → List ℕ → (number : ℕ) → Bool → Type 0
IsAgreed net moments words number result =
    (link : Link) → slice_get net.links number ≡ Some link
    → IsSame (held (slice_index words (suc number))) (moment_of moments link.to) result

-- the moment that was posted for a point, if a link ends in it
abbrev pub posted_for : Plan → Entries → PointId → Option ℕ
posted_for net entries point = option_and_then (moment_at entries) (activation net point)

-- the points that were posted at a moment, in order of number
abbrev pub listing_at : Plan → Entries → ℕ → Listing
listing_at net entries moment =
    record { moment = moment; points = filter (λ point. is_now moment (posted_for net entries point)) (points_of net) }

-- no moment from this one on stands for a link
abbrev pub end_of : Entries → ℕ
end_of entries = fold (λ most found. max most (moment_word found)) 0 entries

-- the stream that the words give: at each moment up to the last one posted, the points that were posted at it; it is said to be done
abbrev pub stream_of : Plan → Entries → Stream
stream_of net entries = record { listings = map (listing_at net entries) (range_with_len 0 (end_of entries)); done = true }

-- if the execution is that of a network dispatched by a forward closed table, each of whose feeds was taken and whose end was complete, its moments are the
-- execution of the stream; nothing is required of what the feeds listed
abbrev pub ExecutesWhole : Plan → Execution → Stream → Type 0
ExecutesWhole net execution stream =
    (table : Graph) (order : List PointId) (listings : List Listing) (before : Execution) → IsDispatchedForward net table order
    → fed_all (started (setting_of net table)) listings ≡ Ok before → IsFinished before finished.Complete execution
    → IsExecution net stream execution.moments

-- what the end of a desk says, by what stands for each link as this call found it: all that the seat has noted stands in it
pub record Closes (net : Plan) (view : View) (execution : Execution) (closing : Closing) : Type 0 where
  pub entries : Entries
  pub past : IsPastOfDesk view entries
  pub answer : IsClosing net execution.moments (moment_at entries) closing
  pub executes : closing ≡ Agreed → ExecutesWhole net execution (stream_of net entries)

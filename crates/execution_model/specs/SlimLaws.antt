-- What slim lists keep: every feed, every end and every next due moment of an execution.
use Rattle.std.specs.Prelude.{◌≡◌, List, Ok}
use Rattle.net_model.specs.Network.{Plan}
use Rattle.net_model.specs.declared.ids.PointId.{PointId}
use Rattle.closure_model.specs.Tables.{Graph}
use Rattle.dispatch_net.specs.Ranked.{IsDispatchTable}
use Rattle.execution_model.specs.Alike.{GoesAlike}
use Rattle.execution_model.specs.Feeds.{Execution, started}
use Rattle.execution_model.specs.Streams.{Listing}
use Rattle.execution_model.specs.Timely.{fed_all}
use Rattle.execution_model.specs.Laws.{setting_of}
use Rattle.execution_model.specs.Paced.{slim_setting}

-- an execution of the same state, by what is kept
abbrev pub slim_execution : Execution → Execution
slim_execution execution = record execution { setting = slim_setting execution.setting }

-- from any state that feeds lead to, feeds, ends and next due moments are the same by what is kept
abbrev pub SlimFeedsAreTheSame : Type 0
SlimFeedsAreTheSame =
    (net : Plan) (table : Graph) (order : List PointId) (listings : List Listing) (old : Execution) → IsDispatchTable net table order
    → fed_all (started (setting_of net table)) listings ≡ Ok old
    → (fed_all (started (slim_setting (setting_of net table))) listings ≡ Ok (slim_execution old)) × GoesAlike (slim_setting old.setting).dispatch old

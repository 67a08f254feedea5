-- Which forward closed table of a network it is executed by makes no difference.
use Rattle.std.specs.Prelude.{List}
use Rattle.net_model.specs.Network.{Plan}
use Rattle.net_model.specs.declared.ids.PointId.{PointId}
use Rattle.closure_model.specs.Tables.{Graph}
use Rattle.closure_laws.specs.Forward.{IsDispatchedForward}
use Rattle.dispatch_net.specs.Dispatchable.{dispatchable}
use Rattle.execution_model.specs.Alike.{AnsweredAlike}
use Rattle.execution_model.specs.Feeds.{started}
use Rattle.execution_model.specs.Streams.{Listing}
use Rattle.execution_model.specs.Timely.{fed_all}
use Rattle.execution_model.specs.Laws.{setting_of}

-- Executions of a network by two forward closed tables with orders are alike. From the start every list of feeds comes to the same: to the same moments and
-- acts, or to the first refusal for the same cause. From there every feed, every end and every next due moment is the same.
abbrev pub ForwardExecutionsAreAlike : Type 0
ForwardExecutionsAreAlike =
    (net : Plan) (one other : Graph) (one_order other_order : List PointId) (listings : List Listing) → IsDispatchedForward net one one_order
    → IsDispatchedForward net other other_order
    → AnsweredAlike (dispatchable net other) (started (setting_of net other)) listings (fed_all (started (setting_of net one)) listings)

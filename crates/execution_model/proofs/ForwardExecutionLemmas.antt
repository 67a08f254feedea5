-- Executions of a network by two forward closed tables are alike.
use Rattle.std.proofs.Common.{◌≡◌, ℕ, List, [], ◌∷◌, ◌++◌, length, Ok, refl, ap, sym, subst, ◌∙◌}
use Rattle.std.proofs.lemmas.Option.{none-some}
use Rattle.net_model.specs.Moments.{Moments}
use Rattle.net_model.specs.Network.{Plan}
use Rattle.net_model.specs.declared.ids.PointId.{PointId}
use Rattle.closure_model.specs.Tables.{Graph}
use Rattle.closure_laws.specs.Forward.{IsDispatchedForward}
use Rattle.dispatch_net.specs.Dispatchable.{dispatchable}
use Rattle.execution_model.specs.Alike.{AnsweredAlike}
use Rattle.execution_model.specs.Execution.{Setting, points_of, acted}
use Rattle.execution_model.specs.Feeds.{Execution, started, taken, after_feed}
use Rattle.execution_model.specs.ForwardExecutions.{ForwardExecutionsAreAlike}
use Rattle.execution_model.specs.Laws.{setting_of}
use Rattle.execution_model.specs.Streams.{Listing}
use Rattle.execution_model.specs.Timely.{fed_all}
use Rattle.execution_model.proofs.AlikeLemmas.{AreDueAlike, IsAlike, StayAlike, answered_alike, same_points}
use Rattle.execution_model.proofs.FedLemmas.{fed_setting}
use Rattle.execution_model.proofs.ForwardDueLemmas.{forward_due, taken_kept, taken_long, went_on}
use Rattle.execution_model.proofs.KeptLemmas.{AreKept}
use Rattle.execution_model.proofs.MomentLemmas.{length-acted}
use Rattle.execution_model.proofs.PacedLemmas.{none_yet}
use Rattle.execution_model.proofs.SlimFeedLemmas.{started_by, started_length}

-- before the first feed no point has come
started_kept : (net : Plan) (setting : Setting) → AreKept net (started setting).moments
started_kept net setting point m come edge derivable begins negative = absurd (none-some m (sym (none_yet (points_of setting) point.0) ∙ come))

module _ (net : Plan) (one other : Graph) (one_order other_order : List PointId) (by_one : IsDispatchedForward net one one_order) (by_other : IsDispatchedForward net other other_order) where
  abbrev setting : Setting
  setting = setting_of net one

  -- an execution to which feeds from the start led, of a state that keeps the derivable edges
  record IsReached (execution : Execution) : Type 0 where
    listings : List Listing
    fed : fed_all (started setting) listings ≡ Ok execution
    kept : AreKept net execution.moments
    long : length execution.moments ≡ length setting.dispatch

  by_setting : (execution : Execution) → IsReached execution → execution.setting ≡ setting
  by_setting execution reached = fed_setting reached.listings (started setting) execution reached.fed

  due : AreDueAlike setting (dispatchable net other) (AreKept net)
  due = forward_due net one other one_order other_order by_one by_other

  stay : StayAlike (dispatchable net other) (AreKept net) IsReached
  stay = record { alike = is_alike; fed = fed }
    where
      takes : (execution : Execution) → IsReached execution → (moment : ℕ) (listed : List PointId) (moments : Moments) → taken execution moment listed ≡ Ok moments → AreKept net moments
      takes execution reached moment listed moments took = taken_kept net one one_order by_one reached.listings execution reached.fed moment listed moments took

      is_alike : (execution : Execution) → IsReached execution → IsAlike (dispatchable net other) (AreKept net) execution
      is_alike execution reached = record {
        due = subst (λ (s : Setting). AreDueAlike s (dispatchable net other) (AreKept net)) (sym (by_setting execution reached)) due;
        holds = reached.kept;
        long = reached.long ∙ ap (λ (s : Setting). length s.dispatch) (sym (by_setting execution reached));
        takes = takes execution reached;
      }

      fed : (execution : Execution) → IsReached execution → (moment : ℕ) (listed : List PointId) (moments : Moments) → taken execution moment listed ≡ Ok moments
          → IsReached (after_feed execution moment moments)
      fed execution reached moment listed moments took = record {
        listings = reached.listings ++ record { moment = moment; points = listed } ∷ [];
        fed = went_on net one one_order by_one reached.listings execution reached.fed moment listed moments took;
        kept = subst (λ (s : Setting). AreKept net (acted s moments moment)) (sym (by_setting execution reached)) (due.acted moments (takes execution reached moment listed moments took)
            (taken_long net one one_order by_one reached.listings execution reached.fed moment listed moments took) moment);
        long = length-acted execution.setting moments moment ∙ ap (λ (s : Setting). length s.dispatch) (by_setting execution reached);
      }

  pub forward_alike : (listings : List Listing) → AnsweredAlike (dispatchable net other) (started (setting_of net other)) listings (fed_all (started setting) listings)
  forward_alike listings =
      subst (λ (start : Execution). AnsweredAlike (dispatchable net other) start listings (fed_all (started setting) listings))
      (sym (started_by (dispatchable net other) setting (same_points setting (dispatchable net other) due.count)))
      (answered_alike (dispatchable net other) (AreKept net) IsReached stay listings (started setting)
      (record { listings = []; fed = refl; kept = started_kept net setting; long = started_length setting }))

pub law_forward_executions_are_alike : ForwardExecutionsAreAlike
law_forward_executions_are_alike net one other one_order other_order listings by_one by_other = forward_alike net one other one_order other_order by_one by_other listings

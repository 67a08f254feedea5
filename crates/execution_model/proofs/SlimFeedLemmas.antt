-- From the start of a network that is dispatched by a forward closed table, feeds come to the same by slim lists.
use Rattle.std.proofs.Common.{◌≡◌, ℕ, List, [], map, length, Option, None, Result, Ok, refl, ap, sym, subst, ◌∙◌}
use Rattle.std.proofs.lemmas.List.{length-map}
use Rattle.net_model.specs.declared.ids.PointId.{PointId}
use Rattle.strategy_model.proofs.OrderLemmas.{rank}
use Rattle.dispatch_net.specs.declared.dispatch.Conditions.{Conditions}
use Rattle.execution_model.specs.Alike.{by_lists, GoesAlike, AnsweredAlike}
use Rattle.execution_model.specs.Execution.{Setting, points_of}
use Rattle.execution_model.specs.Feeds.{Execution, started}
use Rattle.execution_model.specs.Laws.{setting_of}
use Rattle.execution_model.specs.Paced.{ArePaced, slim_setting}
use Rattle.execution_model.specs.SlimLaws.{SlimFeedsAreTheSame}
use Rattle.execution_model.specs.Timely.{fed_all}
use Rattle.execution_model.specs.declared.feed_answers.Why.{Why}
use Rattle.execution_model.proofs.AlikeLemmas.{answered_alike}
use Rattle.execution_model.proofs.FedLemmas.{fed_setting}
use Rattle.execution_model.proofs.MomentLemmas.{length-points}
use Rattle.execution_model.proofs.PacedLemmas.{started_paced}
use Rattle.execution_model.proofs.RankedLemmas.{made_is_ranked}
use Rattle.execution_model.proofs.SameLemmas.{same_points, slim_lists, slim_stays, IsPacedExecution}

-- before the first feed
pub started_by : (lists : List Conditions) (setting : Setting) → points_of (record setting { dispatch = lists }) ≡ points_of setting
    → started (record setting { dispatch = lists }) ≡ by_lists lists (started setting)
started_by lists setting same =
    ap (λ (ps : List PointId). let e : Execution = record { setting = record setting { dispatch = lists }; moments = map (λ p. None) ps; last = None; acts = []; refused = None } in e) same

pub started_length : (setting : Setting) → length (started setting).moments ≡ length setting.dispatch
started_length setting = length-map (points_of setting) (λ (p : PointId). let none : Option ℕ = None in none) ∙ length-points setting

pub law_slim_feeds_are_the_same : SlimFeedsAreTheSame
law_slim_feeds_are_the_same net table order listings old is fed =
    let setting : Setting = setting_of net table in
    let ranked = made_is_ranked net table order is in
    let lists : List Conditions = slim_lists setting (rank order) ranked in
    let alike : AnsweredAlike lists (by_lists lists (started setting)) listings (fed_all (started setting) listings) =
    answered_alike lists (ArePaced setting) (IsPacedExecution setting (rank order) ranked) (slim_stays setting (rank order) ranked) listings (started setting)
    (refl, (started_paced setting (rank order) ranked, started_length setting)) in
    let (leads, goes) = subst (λ (r : Result Execution Why). AnsweredAlike lists (by_lists lists (started setting)) listings r) fed alike in
    let begins : started (slim_setting setting) ≡ by_lists lists (started setting) = started_by lists setting (same_points setting (rank order) ranked) in
    subst (λ (s : Setting). (fed_all (started (slim_setting setting)) listings ≡ Ok (by_lists (slim_setting s).dispatch old)) × GoesAlike (slim_setting s).dispatch old)
    (sym (fed_setting listings (started setting) old fed)) (ap (λ (e : Execution). fed_all e listings) begins ∙ leads, goes)

-- An execution by a forward closed table goes on as the execution by the closure does, from every state that it comes to.
use Rattle.std.proofs.Common.{◌≡◌, ℕ, List, [], ◌∷◌, ◌++◌, length, Option, Some, None, Result, Ok, Err, refl, ap, sym, subst, ◌∙◌}
use Rattle.net_model.specs.Network.{Plan}
use Rattle.net_model.specs.Moments.{Moments}
use Rattle.net_model.specs.declared.ids.PointId.{PointId}
use Rattle.canonical_closure.specs.CanonicalClosure.{canonical_closure, ControllableHaveCanonicalClosures}
use Rattle.closure_laws.specs.Forward.{IsDispatchedForward}
use Rattle.closure_laws.specs.ForwardLaws.{OrderedForwardTablesAreControllable}
use Rattle.closure_model.specs.Orders.{placed_points}
use Rattle.closure_model.specs.Tables.{Graph}
use Rattle.dispatch_net.specs.Dispatchable.{DispatchLists, dispatchable}
use Rattle.dispatch_net.specs.Laws.{SlimStaysSlim}
use Rattle.dispatch_net.specs.Slim.{slimmed}
use Rattle.dispatch_net.specs.declared.dispatch.Conditions.{Conditions}
use Rattle.dispatch_net.proofs.ExecutionLemmas.{dispatchable_length}
use Rattle.execution_model.specs.Alike.{by_lists, GoesAlike, AnsweredAlike}
use Rattle.execution_model.specs.Execution.{Setting}
use Rattle.execution_model.specs.Feeds.{Execution, started, taken, after_feed, IsFed, first_open, IsWhole, IsFinished, IsNextDue, IsDueAnswer, next_moment}
use Rattle.execution_model.specs.ForwardExecutions.{ForwardExecutionsAreAlike}
use Rattle.execution_model.specs.Laws.{setting_of}
use Rattle.execution_model.specs.Streams.{Listing}
use Rattle.execution_model.specs.Timely.{fed_all}
use Rattle.execution_model.specs.declared.feed_answers.Fed.{Fed}
use Rattle.execution_model.specs.declared.feed_answers.Fed.TheVariants as fed_answers
use Rattle.execution_model.specs.declared.feed_answers.Finished.{Finished}
use Rattle.execution_model.specs.declared.feed_answers.Finished.TheVariants as finished
use Rattle.execution_model.specs.declared.feed_answers.Why.{Why}
use Rattle.execution_model.proofs.AlikeLemmas.{same_points}
use Rattle.execution_model.proofs.EarliestLemmas.{fed_append}
use Rattle.execution_model.proofs.FedLemmas.{fed_on, fed_setting}
use Rattle.execution_model.proofs.MomentLemmas.{length-time_runs}
use Rattle.execution_model.proofs.SlimFeedLemmas.{started_by}
use Rattle.forward_executor.specs.ForwardExecutions.{closure_lists, by_closure, HasAllCome, ComesFrom, fed, refused, over, IsForwardExecution, IsSlim}
use Rattle.forward_executor.proofs.AllComeLemmas.{AllHave, acted_have, taken_have, over_alike, have_all, all_have}

-- a dispatchable network that was made slim is slim
pub made_slim : SlimStaysSlim → (whole slim : DispatchLists) → slim.links ≡ whole.links → slim.kept ≡ slimmed whole.links whole.kept → IsSlim slim
made_slim stays whole slim links kept = (λ i. slimmed (links i) (kept i)) ∙ (stays whole.links whole.kept ∙ sym kept)

-- ---- what an execution comes to
-- every point has come after a feed that was taken, if it had before
fed_over : (execution : Execution) (moment : ℕ) (moments : Moments) → AllHave (length execution.setting.dispatch) moments → HasAllCome (after_feed execution moment moments)
fed_over execution moment moments all =
    let have = acted_have execution.setting moments moment all in
    record { long = have.long; come = all_have (after_feed execution moment moments).moments (length execution.setting.dispatch) have }

whole_over : (execution after : Execution) → IsWhole execution after → HasAllCome after
whole_over execution after whole =
    subst HasAllCome (sym whole.after_it) (record {
      long = length-time_runs execution.setting execution.moments (next_moment execution) whole.count whole.long;
      come = whole.come;
    })

module _ (start : Execution) where
  abbrev FedBy : Execution → (moment : ℕ) → Fed → Execution → Result Moments Why → Type 0
  FedBy execution moment answer after (Err cause) = (answer ≡ fed_answers.Refused cause) × (after ≡ record execution { refused = Some cause })
  FedBy execution moment answer after (Ok moments) = (answer ≡ fed_answers.Acts) × (after ≡ after_feed execution moment moments)

  abbrev FedIf : Execution → (moment : ℕ) → List PointId → Fed → Execution → Option Why → Type 0
  FedIf execution moment listed answer after (Some cause) = (answer ≡ fed_answers.Ended cause) × (after ≡ execution)
  FedIf execution moment listed answer after None = FedBy execution moment answer after (taken execution moment listed)

  pub comes_fed : (execution : Execution) (moment : ℕ) (listed : List PointId) (answer : Fed) (after : Execution) → ComesFrom start execution → IsFed execution moment listed answer after → ComesFrom start after
  comes_fed execution moment listed answer after (fed listings _ is) feeds = by execution.refused feeds
    where
      listing : Listing
      listing = record { moment = moment; points = listed }

      by_taken : (r : Result Moments Why) → taken execution moment listed ≡ r → FedBy execution moment answer after r → ComesFrom start after
      by_taken (Err cause) took (answered, leads) = refused listings execution after cause is leads
      by_taken (Ok moments) took (answered, leads) =
          fed (listings ++ listing ∷ []) after
          (fed_append listings (listing ∷ []) start execution is ∙ ap (fed_on execution listing []) took ∙ ap (λ (e : Execution). let r : Result Execution Why = Ok e in r) (sym leads))

      by : (o : Option Why) → FedIf execution moment listed answer after o → ComesFrom start after
      by (Some cause) (answered, leads) = fed listings after (is ∙ ap (λ (e : Execution). let r : Result Execution Why = Ok e in r) (sym leads))
      by None feeds_it = by_taken (taken execution moment listed) refl feeds_it
  comes_fed execution moment listed answer after (refused listings before _ cause is same) feeds =
      let ended = subst (λ (e : Execution). IsFed e moment listed answer after) same feeds in
      refused listings before after cause is ended.1
  comes_fed execution moment listed answer after (over _ setting_is all) feeds = by execution.refused feeds
    where
      by_taken : (r : Result Moments Why) → taken execution moment listed ≡ r → FedBy execution moment answer after r → ComesFrom start after
      by_taken (Err cause) took (answered, leads) = subst (ComesFrom start) (sym leads) (over (record execution { refused = Some cause }) setting_is (record { long = all.long; come = all.come }))
      by_taken (Ok moments) took (answered, leads) =
          subst (ComesFrom start) (sym leads) (over (after_feed execution moment moments) setting_is (fed_over execution moment moments (taken_have execution moment listed moments (have_all execution all) took)))

      by : (o : Option Why) → FedIf execution moment listed answer after o → ComesFrom start after
      by (Some cause) (answered, leads) = subst (ComesFrom start) (sym leads) (over execution setting_is all)
      by None feeds_it = by_taken (taken execution moment listed) refl feeds_it

  abbrev EndsBy : Execution → Finished → Execution → Option PointId → Type 0
  EndsBy execution answer after (Some point) = (answer ≡ finished.Unfinished point) × (after ≡ execution)
  EndsBy execution answer after None = (answer ≡ finished.Complete) × IsWhole execution after

  abbrev EndsIf : Execution → Finished → Execution → Option Why → Type 0
  EndsIf execution answer after (Some cause) = (answer ≡ finished.Ended cause) × (after ≡ execution)
  EndsIf execution answer after None = EndsBy execution answer after (first_open execution)

  -- an end leaves the execution as it is, or every point has come
  ends_so : (execution : Execution) (answer : Finished) (after : Execution) → execution.setting ≡ start.setting → ComesFrom start execution → IsFinished execution answer after → ComesFrom start after
  ends_so execution answer after setting_is comes ends = by execution.refused ends
    where
      by_open : (o : Option PointId) → EndsBy execution answer after o → ComesFrom start after
      by_open (Some point) (answered, leads) = subst (ComesFrom start) (sym leads) comes
      by_open None (answered, whole) = over after (ap (λ (e : Execution). e.setting) whole.after_it ∙ setting_is) (whole_over execution after whole)

      by : (o : Option Why) → EndsIf execution answer after o → ComesFrom start after
      by (Some cause) (answered, leads) = subst (ComesFrom start) (sym leads) comes
      by None ends_it = by_open (first_open execution) ends_it

  pub setting_stays : (execution : Execution) → ComesFrom start execution → execution.setting ≡ start.setting
  setting_stays execution (fed listings _ is) = fed_setting listings start execution is
  setting_stays execution (refused listings before _ cause is same) = ap (λ (e : Execution). e.setting) same ∙ fed_setting listings start before is
  setting_stays execution (over _ setting_is all) = setting_is

  pub comes_finished : (execution : Execution) (answer : Finished) (after : Execution) → ComesFrom start execution → IsFinished execution answer after → ComesFrom start after
  comes_finished execution answer after comes ends = ends_so execution answer after (setting_stays execution comes) comes ends

-- ---- after a refusal
refused_alike : (lists : List Conditions) (before : Execution) (cause : Why) → GoesAlike lists before → GoesAlike lists (record before { refused = Some cause })
refused_alike lists before cause alike = record {
  acts = alike.acts;
  taken = alike.taken;
  fed = λ moment listed answer after ends. (ends.0, ap (by_lists lists) ends.1);
  next_due = alike.next_due;
  finished = λ answer after ends. (ends.0, ap (by_lists lists) ends.1);
}

-- ---- alike
abbrev DueIf : Execution → Option ℕ → Option Why → Type 0
DueIf execution due (Some cause) = due ≡ None
DueIf execution due None = IsNextDue execution due

module _ (controllable : OrderedForwardTablesAreControllable) (canonical : ControllableHaveCanonicalClosures) where
  -- a network that is dispatched by a forward closed table is dispatched by its closure
  by_the_closure : (net : Plan) (table : Graph) (order : List PointId) → IsDispatchedForward net table order → IsDispatchedForward net (canonical_closure net) (placed_points (canonical_closure net))
  by_the_closure net table order by =
      (canonical net by.instant (controllable net table order by)).dispatched

  pub goes_on_alike : ForwardExecutionsAreAlike → (net : Plan) (execution : Execution) → IsForwardExecution net execution → GoesAlike (closure_lists net) execution
  goes_on_alike alike net execution is = by execution is.comes
    where
      fed_so : (listings : List Listing) (e : Execution) → fed_all (started (setting_of net is.table)) listings ≡ Ok e → GoesAlike (closure_lists net) e
      fed_so listings e fed_it =
          let answered = alike net is.table (canonical_closure net) is.order (placed_points (canonical_closure net)) listings is.dispatched (by_the_closure net is.table is.order is.dispatched) in
          (subst (AnsweredAlike (closure_lists net) (started (setting_of net (canonical_closure net))) listings) fed_it answered).1

      count : (e : Execution) → e.setting ≡ setting_of net is.table → length (closure_lists net) ≡ length e.setting.dispatch
      count e setting_is =
          dispatchable_length net (canonical_closure net) (by_the_closure net is.table is.order is.dispatched).forward.for_network
          ∙ (sym (dispatchable_length net is.table is.dispatched.forward.for_network) ∙ ap (λ (s : Setting). length s.dispatch) (sym setting_is))

      by : (e : Execution) → ComesFrom (started (setting_of net is.table)) e → GoesAlike (closure_lists net) e
      by e (fed listings _ fed_it) = fed_so listings e fed_it
      by e (refused listings before _ cause fed_it same) = subst (GoesAlike (closure_lists net)) (sym same) (refused_alike (closure_lists net) before cause (fed_so listings before fed_it))
      by e (over _ setting_is all) = over_alike (closure_lists net) e (count e setting_is) (have_all e all)

  pub due_alike : ForwardExecutionsAreAlike → (net : Plan) (execution : Execution) (due : Option ℕ) → IsForwardExecution net execution → IsDueAnswer execution due → IsDueAnswer (by_closure net execution) due
  due_alike alike net execution due is answered = by execution.refused answered
    where
      by : (o : Option Why) → DueIf execution due o → DueIf (by_closure net execution) due o
      by (Some cause) none = none
      by None next = ((goes_on_alike alike net execution is).next_due due).1 next

  -- ---- the start
  pub starts_alike : (net : Plan) (table : Graph) (order : List PointId) → IsDispatchedForward net table order → by_closure net (started (setting_of net table)) ≡ started (setting_of net (canonical_closure net))
  starts_alike net table order by =
      let closure = by_the_closure net table order by in
      let count = dispatchable_length net (canonical_closure net) closure.forward.for_network ∙ sym (dispatchable_length net table by.forward.for_network) in
      sym (started_by (closure_lists net) (setting_of net table) (same_points (setting_of net table) (closure_lists net) count))

  pub closure_length : (net : Plan) (table : Graph) (order : List PointId) → IsDispatchedForward net table order → length (closure_lists net) ≡ length net.points
  closure_length net table order by = dispatchable_length net (canonical_closure net) (by_the_closure net table order by).forward.for_network

  -- what is started on lists of a forward closed table
  pub starts_forward : (net : Plan) (table : Graph) (order : List PointId) (by : IsDispatchedForward net table order) (made : List Conditions) (execution : Execution) → made ≡ dispatchable net table
      → execution ≡ started (record { links = net.links; dispatch = made }) → IsForwardExecution net execution
  starts_forward net table order by made execution is starts =
      let same : execution ≡ started (setting_of net table) = starts ∙ ap (λ (d : List Conditions). started (record { links = net.links; dispatch = d })) is in
      record {
        table = table;
        order = order;
        dispatched = by;
        comes = fed [] execution (ap (λ (e : Execution). let r : Result Execution Why = Ok e in r) (sym same));
        count = closure_length net table order by ∙ (sym (dispatchable_length net table by.forward.for_network) ∙ ap (λ (e : Execution). length e.setting.dispatch) (sym same));
      }

-- ---- each call
module _ (net : Plan) (execution after : Execution) (is : IsForwardExecution net execution) where
  abbrev start : Execution
  start = started (setting_of net is.table)

  stays_forward : ComesFrom start after → IsForwardExecution net after
  stays_forward comes = record {
    table = is.table;
    order = is.order;
    dispatched = is.dispatched;
    comes = comes;
    count = is.count ∙ ap (λ (s : Setting). length s.dispatch) (setting_stays start execution is.comes ∙ sym (setting_stays start after comes));
  }

  pub fed_stays : (moment : ℕ) (listed : List PointId) (answer : Fed) → IsFed execution moment listed answer after → IsForwardExecution net after
  fed_stays moment listed answer feeds = stays_forward (comes_fed start execution moment listed answer after is.comes feeds)

  pub finished_stays : (answer : Finished) → IsFinished execution answer after → IsForwardExecution net after
  finished_stays answer ends = stays_forward (comes_finished start execution answer after is.comes ends)

-- The executions of the dispatchable network of a table are the schedules of lower bounds and waits of its edges.
use Rattle.std.proofs.Common.{◌≡◌, ℕ, ◌≤◌, ◌<◌, Bool, ◌⊎◌, inl, inr, List, [], ◌∷◌, length, refl, ap, sym, subst, ◌∙◌, arith}
use Rattle.std.specs.Prelude.{if◌then◌else◌}
use Rattle.std.specs.List.{All, Contains}
use Rattle.std.proofs.lemmas.Bool.{cases_lt}
use Rattle.std.proofs.lemmas.List.{get_or-map, length-map}
use Rattle.std.proofs.lemmas.List.Elements.{All-contains, All-weaker, All-contains_itself}
use Rattle.std.proofs.lemmas.List.FromFn.{get_or-map-range_with_len, length-map-range_with_len}
use Rattle.net_model.specs.Network.{Plan, IsPoint, IsExecutable}
use Rattle.net_model.specs.declared.ids.PointId.{PointId}
use Rattle.closure_model.specs.Keys.{Shape, all_points}
use Rattle.closure_model.specs.Tables.{Graph, edges_of, IsFor, IsGraph}
use Rattle.closure_model.proofs.Lists.{Contains-none, Contains-head, Contains-tail, Contains-cases}
use Rattle.strategy_model.specs.Situations.{moment_in}
use Rattle.strategy_model.specs.Dispatch.{release_moment, ComesAtOnce}
use Rattle.strategy_model.proofs.CompletenessLemmas.{law_forward_lists_give_strategies}
use Rattle.strategy_model.proofs.DispatchedLemmas.{law_dispatched_satisfy}
use Rattle.strategy_model.proofs.LowerLemmas.{law_dispatched_exist}
use Rattle.closure_laws.proofs.ForwardLemmas.{law_forward_closed_tables_are_lists, order_of_edges}
use Rattle.dispatch_net.specs.Dispatchable.{lower_bounds_in, waits_in, no_conditions, conditions_in, dispatchable, conditions_at}
use Rattle.dispatch_net.specs.Execution.{required_moments, IsFirstNotBefore}
use Rattle.dispatch_net.specs.Laws.{ExecutionsAreDispatched, ExecutionsSatisfy, ExecutionsArePlayed}
use Rattle.dispatch_net.proofs.HoldLemmas.{holding, edge_for}

-- ---- the first moment
-- the greatest of 0 and some moments
record Greatest (ms : List ℕ) : Type 0 where
  most : ℕ
  above : (m : ℕ) → Contains ms m → m ≤ most
  reached : (most ≡ 0) ⊎ Contains ms most

greatest_of : (ms : List ℕ) → Greatest ms
greatest_of [] = record { most = 0; above = λ m inside. absurd (Contains-none m inside); reached = inl refl }
greatest_of (n ∷ ms) = by (greatest_of ms)
  where
    by : Greatest ms → Greatest (n ∷ ms)
    by g =
        elim (cases_lt g.most n) [
          | inl less ↦ record {
            most = n;
            above = λ m inside. elim (Contains-cases n ms m inside) [ inl same ↦ omega (arith, same) | inr later ↦ (let under = g.above m later in omega (arith, under, less)) ];
            reached = inr (Contains-head n ms);
          }
          | inr not_less ↦ record {
            most = g.most;
            above = λ m inside. elim (Contains-cases n ms m inside) [ inl same ↦ omega (arith, same, not_less) | inr later ↦ g.above m later ];
            reached = elim g.reached [ inl none ↦ inl none | inr there ↦ inr (Contains-tail n ms g.most there) ];
          }
        ]

each_contained : (ms : List ℕ) (t : ℕ) → ((m : ℕ) → Contains ms m → m ≤ t) → All (λ m. m ≤ t) ms
each_contained ms t each = All-weaker (Contains ms) (λ m. m ≤ t) each ms (All-contains_itself ms)

first_reached : (ms : List ℕ) (t : ℕ) → IsFirstNotBefore ms t → (t ≡ 0) ⊎ Contains ms t
first_reached ms t is =
    let g = greatest_of ms in
    let low : t ≤ g.most = is.first g.most (each_contained ms g.most g.above) in
    elim g.reached [
      | inl none ↦ inl (omega (arith, low, none))
      | inr there ↦
          (let high : g.most ≤ t = All-contains (λ m. m ≤ t) ms g.most is.meets there in
          let same : g.most ≡ t = omega (arith, low, high) in inr (subst (Contains ms) same there))
    ]

-- ---- the lower bounds and waits of an executable point
pub point_count : (net : Plan) (table : Graph) → IsFor net table → table.shape.points ≡ length net.points
point_count net table for = ap (λ (s : Shape). s.points) for

pub dispatchable_length : (net : Plan) (table : Graph) → IsFor net table → length (dispatchable net table) ≡ length net.points
dispatchable_length net table for =
    let numbered : ℕ → PointId = λ k. record { 0 = k } in
    length-map (all_points table.shape) (conditions_in net table) ∙ length-map-range_with_len numbered 0 table.shape.points ∙ point_count net table for

pub conditions_stand : (net : Plan) (table : Graph) (point : PointId) → IsFor net table → IsPoint net point → conditions_at (dispatchable net table) point ≡ conditions_in net table point
conditions_stand net table point for is_point =
    let numbered : ℕ → PointId = λ k. record { 0 = k } in
    let points : List PointId = all_points table.shape in
    let none : PointId = record { 0 = 0 } in
    let inside : point.0 < table.shape.points = omega (arith, point_count net table for, is_point) in
    let long : point.0 < length points = omega (arith, inside, length-map-range_with_len numbered 0 table.shape.points) in
    get_or-map (conditions_in net table) points point.0 none no_conditions long
    ∙ ap (conditions_in net table) (get_or-map-range_with_len numbered 0 table.shape.points point.0 point.0 none inside (omega arith))

pub conditions_are : (net : Plan) (table : Graph) (point : PointId) → IsFor net table → IsExecutable net point
    → conditions_at (dispatchable net table) point ≡ record { lower_bounds = lower_bounds_in table point; waits = waits_in table point }
conditions_are net table point for executable =
    conditions_stand net table point for executable.0
    ∙ ap (λ (b : Bool). if b then no_conditions else record { lower_bounds = lower_bounds_in table point; waits = waits_in table point }) executable.1

module _ (net : Plan) (table : Graph) (for : IsFor net table) (sound : IsGraph table) (schedule : List ℕ) (point : PointId) (executable : IsExecutable net point) where
  is_required : (m : ℕ) → Contains (required_moments net schedule (record { lower_bounds = lower_bounds_in table point; waits = waits_in table point })) m
      → Contains (required_moments net schedule (conditions_at (dispatchable net table) point)) m
  is_required m among = subst (λ conditions. Contains (required_moments net schedule conditions) m) (sym (conditions_are net table point for executable)) among

  as_required : (m : ℕ) → Contains (required_moments net schedule (conditions_at (dispatchable net table) point)) m
      → Contains (required_moments net schedule (record { lower_bounds = lower_bounds_in table point; waits = waits_in table point })) m
  as_required m among = subst (λ conditions. Contains (required_moments net schedule conditions) m) (conditions_are net table point for executable) among

  at_once : IsFirstNotBefore (required_moments net schedule (conditions_at (dispatchable net table) point)) (moment_in schedule point) → ComesAtOnce net (edges_of table) schedule point
  at_once is =
      let required = required_moments net schedule (conditions_at (dispatchable net table) point) in
      record {
        not_before = λ edge holds. All-contains (λ m. m ≤ moment_in schedule point) required (release_moment net schedule edge) is.meets
            (is_required (release_moment net schedule edge) (holding net table for sound schedule point edge holds));
        reached = elim (first_reached required (moment_in schedule point) is) [ inl none ↦ inl none | inr among ↦ inr (edge_for net table for sound schedule point (moment_in schedule point) (as_required (moment_in schedule point) among)) ];
      }

  first_of_all : ComesAtOnce net (edges_of table) schedule point → IsFirstNotBefore (required_moments net schedule (conditions_at (dispatchable net table) point)) (moment_in schedule point)
  first_of_all comes = record { meets = each_contained (required_moments net schedule (conditions_at (dispatchable net table) point)) (moment_in schedule point) meets; first = first }
    where
      meets : (m : ℕ) → Contains (required_moments net schedule (conditions_at (dispatchable net table) point)) m → m ≤ moment_in schedule point
      meets m among =
          let (edge, holds, is) = edge_for net table for sound schedule point m (as_required m among) in
          subst (λ n. n ≤ moment_in schedule point) is (comes.not_before edge holds)

      first : (other : ℕ) → All (λ m. m ≤ other) (required_moments net schedule (conditions_at (dispatchable net table) point)) → moment_in schedule point ≤ other
      first other all =
          elim comes.reached [
            | inl none ↦ omega (arith, none)
            | inr found ↦
                (let (edge, holds, is) = found in
                subst (λ n. n ≤ other) is (All-contains (λ m. m ≤ other) (required_moments net schedule (conditions_at (dispatchable net table) point)) (release_moment net schedule edge) all
                (is_required (release_moment net schedule edge) (holding net table for sound schedule point edge holds))))
          ]

pub law_executions_are_dispatched : ExecutionsAreDispatched
law_executions_are_dispatched net table situation schedule for sound = (
  λ execution. record {
    complete = execution.complete;
    executable = λ point executable. at_once net table for sound schedule point executable (execution.executable point executable);
    contingent = execution.contingent;
  },
  λ dispatched. record {
    complete = dispatched.complete;
    executable = λ point executable. first_of_all net table for sound schedule point executable (dispatched.executable point executable);
    contingent = dispatched.contingent;
  },
)

-- ---- executions of a forward closed table
pub law_executions_satisfy : ExecutionsSatisfy
law_executions_satisfy net table order instant for sound closed ordered =
    let list = law_forward_closed_tables_are_lists net table for sound closed in
    let order_is = order_of_edges net table order for ordered in
    record {
      executed = λ situation is_situation.
          let (schedule, dispatched) = law_dispatched_exist net (edges_of table) order situation instant list order_is is_situation in
          (schedule, (law_executions_are_dispatched net table situation schedule for sound).1 dispatched);
      satisfies = λ situation schedule is_situation execution.
          law_dispatched_satisfy net (edges_of table) situation schedule instant list is_situation ((law_executions_are_dispatched net table situation schedule for sound).0 execution);
    }

pub law_executions_are_played : ExecutionsArePlayed
law_executions_are_played net table order instant for sound closed ordered =
    let (strategy, controls, dispatches) = law_forward_lists_give_strategies net (edges_of table) order instant (law_forward_closed_tables_are_lists net table for sound closed) (order_of_edges net table order for ordered) in (
      strategy,
      controls,
      λ situation is_situation.
          let (schedule, played, dispatched) = dispatches situation is_situation in
          (schedule, played, (law_executions_are_dispatched net table situation schedule for sound).1 dispatched),
    )

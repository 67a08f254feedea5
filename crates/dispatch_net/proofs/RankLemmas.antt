-- The lists that a forward closed table with an order gives descend along the order.
use Rattle.std.proofs.Common.{◌≡◌, ◌⊎◌, ◌<◌, ℤ, pos, List, length, None, refl, sym, subst, inl, inr, arith}
use Rattle.std.specs.Prelude.{◌<ℤ◌, ◌-ℤ◌}
use Rattle.std.specs.List.{Contains}
use Rattle.std.proofs.lemmas.Bool.{cases_lt}
use Rattle.std.proofs.lemmas.Int.{ints}
use Rattle.std.proofs.lemmas.List.{get_or_past}
use Rattle.std.proofs.lemmas.Option.{slice_get_read}
use Rattle.net_model.specs.Network.{Plan, IsExecutable, activation}
use Rattle.net_model.specs.Edges.{IsLinkOf}
use Rattle.net_model.specs.declared.ids.PointId.{PointId}
use Rattle.net_model.specs.declared.ids.LinkId.{LinkId}
use Rattle.net_model.specs.declared.part.Edge.{Edge}
use Rattle.net_model.specs.declared.part.Link.{Link}
use Rattle.closure_model.specs.Tables.{Graph, edges_of}
use Rattle.closure_model.proofs.Lists.{Contains-none}
use Rattle.closure_model.proofs.TableLemmas.{edge_listed}
use Rattle.strategy_model.proofs.OrderLemmas.{rank, descends_to, descends_to_activation}
use Rattle.strategy_model.proofs.PlayLemmas.{link_sound}
use Rattle.net_model.proofs.AppliedRuleLemmas.{negative_holds}
use Rattle.strategy_model.proofs.KnownLemmas.{some_from_none}
use Rattle.strategy_model.proofs.KindLemmas.{kind, ending_known}
use Rattle.closure_laws.proofs.ForwardLemmas.{law_forward_closed_tables_are_lists, order_of_edges}
use Rattle.dispatch_net.specs.declared.dispatch.Conditions.{Conditions}
use Rattle.dispatch_net.specs.Dispatchable.{dispatchable, conditions_at, no_conditions}
use Rattle.dispatch_net.proofs.ExactLemmas.{law_lists_are_exact}
use Rattle.dispatch_net.proofs.ExecutionLemmas.{dispatchable_length}
use Rattle.dispatch_net.specs.Ranked.{IsRanked}
use Rattle.dispatch_net.specs.Ranked.{IsDispatchTable}

is_negative_turned : (n : ℤ) → pos 0 <ℤ n → (pos 0 -ℤ n) <ℤ pos 0
is_negative_turned n above = grind (arith, ints)

-- a link of a network has a number
pub listed_link : (net : Plan) (link : Link) → Contains net.links link → (name : LinkId) × IsLinkOf net name link
listed_link net link (k, inside, at) = (record { 0 = k }, slice_get_read net.links (length net.links) k link refl inside (sym at))

module _ (net : Plan) (table : Graph) (order : List PointId) (is : IsDispatchTable net table order) where
  abbrev lists_at : PointId → Conditions
  lists_at point = conditions_at (dispatchable net table) point

  -- an executable point has what the table gives it, every other nothing
  pub by_kind : (point : PointId) → IsExecutable net point ⊎ (lists_at point ≡ no_conditions)
  by_kind point =
      elim (cases_lt point.0 (length net.points)) [
        | inl inside ↦ elim (kind net point inside) [
          | inl executable ↦ inl executable
          | inr ending ↦ inr ((law_lists_are_exact net table point is.for_network is.graph inside).1 (some_from_none (activation net point) (ending_known net point ending)))
        ]
        | inr past ↦ inr (get_or_past (dispatchable net table) point.0 no_conditions (omega (arith, past, dispatchable_length net table is.for_network)))
      ]

  pub made_is_ranked : IsRanked net.links (dispatchable net table) (rank order)
  made_is_ranked = record {
    bounds = λ point bound among. (bound_is point bound among).0;
    bounds_positive = λ point bound among. (bound_is point bound among).1;
    waits_positive = wait_is;
    links_go_down = λ link among. let (name, declared) = listed_link net link among in descends_to_activation net (edges_of table) order is.sound (law_forward_closed_tables_are_lists net table is.for_network is.graph is.closed)
        (order_of_edges net table order is.for_network is.ordered) name link declared;
    links_positive = λ link among. let (name, declared) = listed_link net link among in (link_sound net is.sound name.0 link declared).positive;
  }
    where
      bound_is : (point : PointId) (bound : PointId × ℤ) → Contains (lists_at point).lower_bounds bound → (rank order bound.0 < rank order point) × (pos 0 <ℤ bound.1)
      bound_is point bound among =
          elim (by_kind point) [
            | inr nothing ↦ absurd (Contains-none bound (subst (λ (c : Conditions). Contains c.lower_bounds bound) nothing among))
            | inl executable ↦
                (let exact = (law_lists_are_exact net table point is.for_network is.graph executable.0).0 executable in
                let (above, has) = (exact.bounds bound.0 bound.1).0 among in
                let edge : Edge = record { from = point; to = bound.0; label = None; weight = pos 0 -ℤ bound.1 } in (
                  descends_to net (edges_of table) order is.sound (law_forward_closed_tables_are_lists net table is.for_network is.graph is.closed) (order_of_edges net table order is.for_network is.ordered) point edge
                      (record { among = edge_listed table edge has; begins = refl; negative = negative_holds edge (is_negative_turned bound.1 above) }),
                  above,
                ))
          ]

      wait_is : (point : PointId) (wait : LinkId × ℤ) → Contains (lists_at point).waits wait → pos 0 <ℤ wait.1
      wait_is point wait among =
          elim (by_kind point) [
            | inr nothing ↦ absurd (Contains-none wait (subst (λ (c : Conditions). Contains c.waits wait) nothing among))
            | inl executable ↦ ((((law_lists_are_exact net table point is.for_network is.graph executable.0).0 executable).waits wait.0 wait.1).0 among).0
          ]

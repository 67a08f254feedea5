-- A network that is dispatched by a forward closed table descends along the order.
use Rattle.std.proofs.Common.{List, refl}
use Rattle.net_model.specs.Network.{Plan}
use Rattle.net_model.specs.declared.ids.PointId.{PointId}
use Rattle.closure_model.specs.Tables.{Graph}
use Rattle.strategy_model.proofs.OrderLemmas.{rank}
use Rattle.dispatch_net.specs.Ranked.{IsDispatchTable}
use Rattle.dispatch_net.proofs.ExactLemmas.{law_lists_are_exact}
use Rattle.dispatch_net.proofs.RankLemmas as lists
use Rattle.execution_model.specs.Laws.{setting_of}
use Rattle.execution_model.specs.Paced.{IsRankedNetwork}
use Rattle.execution_model.proofs.LinkLemmas.{link_of_is_link_to, link_to_is_point, link_is_contingent}

module _ (net : Plan) (table : Graph) (order : List PointId) (is : IsDispatchTable net table order) where
  pub made_is_ranked : IsRankedNetwork (setting_of net table) (rank order)
  made_is_ranked = record {
    lists = lists.made_is_ranked net table order is;
    one_link = λ link among. let (name, declared) = lists.listed_link net link among in link_of_is_link_to net (setting_of net table) refl is.sound name link link.to declared refl;
    contingent = λ point link ends. (law_lists_are_exact net table point is.for_network is.graph (link_to_is_point net (setting_of net table) refl is.sound point link ends)).1
        (link_is_contingent net (setting_of net table) refl is.sound point link ends);
  }

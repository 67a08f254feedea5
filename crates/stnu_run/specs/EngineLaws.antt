-- What the laws of the engine say that no bytes of a run show.
use Rattle.shared_table_laws.specs.NodeRules.{NodesComeByTheirRules}
use Rattle.shared_table_laws.specs.TableHistory.{RoundsThatCloseSettle, SettledHistoriesGiveTheClosure}
use Rattle.cell_table.specs.CellHistory.{StepsAreTableHistories}
use Rattle.cell_table.specs.Laws.{SettlesExactly}
use Rattle.execution_model.specs.Laws.{FeedsExecuteEarliest, StreamsAreExecuted}
use Rattle.execution_model.specs.ShownStreams.{StreamsAreShown}
use Rattle.plan_session.specs.Laws.{BrokenSessionsSaySo}
use Rattle.sensor_desk.specs.DeskHistory.{WhatIsNotedStands}
use Rattle.run_command.specs.NamedDays.{OrdersDecideNothing}

-- Tables that workers share. `histories`: every settled history of a table that begins with derivable edges ends in the closure, in any order of its steps;
-- `settle`: rounds that close are such a history; `nodes`: each node of a round comes by its own rule. `steps`: the steps of cells, of any seats in any
-- order, are a history of a table; `exactly`: cells settle to the closure exactly if it has no negative cycle.
pub record SharedTablesAreLawful : Type 0 where
  pub histories : SettledHistoriesGiveTheClosure
  pub settle : RoundsThatCloseSettle
  pub nodes : NodesComeByTheirRules
  pub steps : StepsAreTableHistories
  pub exactly : SettlesExactly

-- Executions. `executed`: feeds that were all taken make the execution of their stream; `earliest`: its moments are those of the earliest schedule of each
-- situation that the stream fits; `shown`: a stream lists what is shown of a network with a delay exactly if it is one of the shown form; `noted`: what a
-- seat of a desk noted of a link stands for good; `orders`: in which order listings name their points decides nothing of whether a stream is faithful.
pub record ExecutionsAreLawful : Type 0 where
  pub executed : StreamsAreExecuted
  pub earliest : FeedsExecuteEarliest
  pub shown : StreamsAreShown
  pub noted : WhatIsNotedStands
  pub orders : OrdersDecideNothing

-- the laws of the engine: `broken`: a session that memory was refused to says so, until it is opened again
pub record EngineIsLawful : Type 0 where
  pub tables : SharedTablesAreLawful
  pub executions : ExecutionsAreLawful
  pub broken : BrokenSessionsSaySo

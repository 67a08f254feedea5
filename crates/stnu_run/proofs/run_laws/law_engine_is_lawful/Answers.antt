use Rattle.stnu_run.proofs.run_laws.law_engine_is_lawful.Goals as goal

pub returns : goal.returns
returns c = record {
  tables = record {
    histories = c.law_settled_histories_give_the_closure.ensures;
    settle = c.law_rounds_that_close_settle.ensures;
    nodes = c.law_nodes_come_by_their_rules.ensures;
    steps = c.law_steps_are_table_histories.ensures;
    exactly = c.law_settles_exactly.ensures;
  };
  executions = record {
    executed = c.law_streams_are_executed.ensures;
    earliest = c.law_feeds_execute_earliest.ensures;
    shown = c.law_streams_are_shown.ensures;
    noted = c.law_what_is_noted_stands.ensures;
    orders = c.law_orders_decide_nothing.ensures;
  };
  broken = c.law_broken_sessions_say_so.ensures;
}

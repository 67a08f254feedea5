use Rattle.live_executor.proofs.executor.Executor.finish.Goals as goal

pub returns-clause-earliest : goal.returns-clause-earliest
returns-clause-earliest c = c.law_finishes_are_earliest.ensures _ _ _ c.finish_or_refuse.ensures

use Rattle.live_executor.proofs.executor.Executor.feed.Goals as goal

pub returns-clause-earliest : goal.returns-clause-earliest
returns-clause-earliest c = c.law_feeds_are_earliest.ensures _ _ _ _ _ c.feed_or_refuse.ensures

use Rattle.std.proofs.Common.{subst}
use Rattle.strategy_model.specs.Edges.{IsNegativeLoop}
use Rattle.longest_case.proofs.loop_search.has_loop.Goals as goal

pub returns-then-is_negative_loop : goal.returns-then-is_negative_loop
returns-then-is_negative_loop c is =
    (c.in_ok-walk.walk.items, c.in_ok-walk.ensures, subst IsNegativeLoop c.as_slice.ensures.value (c.if-is_negative_loop.ensures is))

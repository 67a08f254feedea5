use Rattle.std.specs.List.{Contains}
use Rattle.std.proofs.lemmas.List.Elements.{All-push, All-same}
use Rattle.longest_case.proofs.loop_search.Raised.loop_from.Goals as goal

pub returns-then-eq : goal.returns-then-eq
returns-then-eq c =
    let edges = c.args.edges.now in
    All-same (Contains edges) c.push.new.self.items _ c.in_ok-push.ensures.items (All-push (Contains edges) c.loop.walk.items c.in-Some.edge c.loop.invariant c.in-Some.ensures)

pub loop-preserved : goal.loop-preserved
loop-preserved c =
    let edges = c.args.edges.now in
    All-same (Contains edges) c.push.new.self.items _ c.in_ok-push.ensures.items (All-push (Contains edges) c.loop.walk.items c.in-Some.edge c.loop.invariant c.in-Some.ensures)

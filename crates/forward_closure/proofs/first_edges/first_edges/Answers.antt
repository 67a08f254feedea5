use Rattle.std.proofs.Common.{List, ap, sym, subst, ◌∙◌}
use Rattle.std.specs.Prelude.{Vec}
use Rattle.std.specs.List.{All}
use Rattle.std.specs.declared.alloc.Global.{Global}
use Rattle.std.proofs.lemmas.List.Elements.{All-push}
use Rattle.network_closure.proofs.ConsequenceLemmas.{given_if}
use Rattle.forward_closure.specs.Rows.{IsFirstInto}
use Rattle.forward_closure.specs.declared.source.Source.{Source}
use Rattle.forward_closure.proofs.first_edges.first_edges.Goals as goal
use Rattle.forward_closure.proofs.first_edges.first_edges.Goals.{in-Some+in_ok-push, in_default}

pub loop-edge-preserved : goal.loop-edge-preserved
loop-edge-preserved c net to derived = elim c.match-first_edge.branch [
  | in-Some+in_ok-push w ↦
      subst (λ (firsts : List Source). All (IsFirstInto net to) firsts) (sym (ap (λ (firsts : Vec Source Global). firsts.items) w.firsts-is ∙ w.in_ok-push.ensures.items))
      (All-push (IsFirstInto net to) c.loop-edge.firsts.items w.in-Some.first (c.loop-edge.invariant net to derived)
      (given_if (IsFirstInto net to) c.first_edge.result w.in-Some.first (c.first_edge.ensures net to (derived c.loop-edge.edge-index _ c.loop-edge-test.true)) w.in-Some.is))
  | in_default w ↦
      subst (λ (firsts : List Source). All (IsFirstInto net to) firsts) (sym (ap (λ (firsts : Vec Source Global). firsts.items) w.firsts-is)) (c.loop-edge.invariant net to derived)
]

pub returns : goal.returns
returns c net to derived = subst (λ (firsts : List Source). All (IsFirstInto net to) firsts) (sym c.shrink_to_fit.ensures.items) (c.loop-edge.invariant net to derived)

use Rattle.std.proofs.Common.{◌≡◌, ◌∙◌, ◌+◌, ◌++◌, ◌∷◌, [], Bool, List, suc, length, ap, refl, sym, subst, arith}
use Rattle.std.specs.Bool.{MatchBool}
use Rattle.std.proofs.lemmas.Grind.{common_steps}
use Rattle.closure_model.specs.declared.derivation.Node.{Node}
use Rattle.derivation_dag.specs.Places.{recorded}
use Rattle.derivation_dag.specs.Numbers.{IsBelowAll, HasNodeAtMost, NumbersNodes}
use Rattle.derivation_dag.proofs.NumberLemmas.{held_more, numbers_below, numbers_held}
use Rattle.derivation_dag.proofs.pruned_dag.PrunedDagNodeList.push_below.Goals as goal
use Rattle.derivation_dag.proofs.pruned_dag.PrunedDagNodeList.push_below.Goals.{then-below, else-below}

pub invariant_of-self-2 : goal.invariant_of-self-2
invariant_of-self-2 c =
    let inside = c.self.inside in
    let nodes = inside.whole.nodes in
    let next : c.in-Some-checked_add.count ≡ inside.count + 1 = grind (arith, common_steps) in
    let below = subst (λ (ns : List Node). MatchBool c.in-Some.below (IsBelowAll ns c.args.node.edge) (HasNodeAtMost ns c.args.node.edge)) (sym c.self.view_is) c.in-Some.ensures in
    elim c.if-below.branch [
      | then-below w ↦
          let counted : c.in-Some-checked_add.count ≡ suc (length nodes) = next ∙ (ap (λ n. n + 1) c.self.invariant.counted ∙ grind (arith, common_steps)) in
          held_more nodes inside.held.items inside.count inside.numbers c.self.invariant c.args.node _ _ _ _
          (c.with-self-inside.ensures ∙ ap (λ i. i.whole.nodes ++ c.args.node ∷ []) w.self-inside-is)
          (ap (λ i. i.held.items) w.self-inside-is ∙ c.in_ok-push.ensures.items) next
          (subst (λ i. NumbersNodes (nodes ++ c.args.node ∷ []) i.numbers) (sym w.self-inside-is)
          (numbers_below nodes c.args.node inside.numbers c.self.invariant.newest w.put.new.self (w.put.ensures.here ∙ ap recorded counted)
          (λ key apart. w.put.ensures.others key apart ∙ c.in_ok-reserve.ensures.same key)
          (subst (λ (b : Bool). MatchBool b (IsBelowAll nodes c.args.node.edge) (HasNodeAtMost nodes c.args.node.edge)) w.if-below.true below) (nodes ++ c.args.node ∷ []) refl))
      | else-below w ↦
          held_more nodes inside.held.items inside.count inside.numbers c.self.invariant c.args.node _ _ _ _
          (c.with-self-inside.ensures ∙ ap (λ i. i.whole.nodes ++ c.args.node ∷ []) w.self-inside-is)
          (ap (λ i. i.held.items) w.self-inside-is ∙ c.in_ok-push.ensures.items) next
          (subst (λ i. NumbersNodes (nodes ++ c.args.node ∷ []) i.numbers) (sym w.self-inside-is)
          (numbers_held nodes c.args.node inside.numbers c.self.invariant.newest c.reserve.new.self c.in_ok-reserve.ensures.same
          (subst (λ (b : Bool). MatchBool b (IsBelowAll nodes c.args.node.edge) (HasNodeAtMost nodes c.args.node.edge)) w.if-below.false below) (nodes ++ c.args.node ∷ []) refl))
    ]

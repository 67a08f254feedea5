-- An edge is stored short only if that stands for it.
use Rattle.std.proofs.Common.{◌≡◌, ◌-◌, ◌∷◌, [], ◌++◌, List, length, ap, sym, ◌∙◌, arith, length-append}
use Rattle.back_propagation.specs.MadeEdges.{held_made}
use Rattle.closure_model.specs.declared.rows.Made.{Made}
use Rattle.back_propagation.specs.declared.made_edges.Held.TheVariants.{Whole}
use Rattle.back_propagation.specs.declared.made_edges.MadeEdges.TheInside.{Inside}
use Rattle.back_propagation.proofs.MadeSteps.{pushed_short, pushed_whole}
use Rattle.back_propagation.proofs.made_edges.MadeEdges.push.Goals as goal
use Rattle.back_propagation.proofs.made_edges.MadeEdges.push.Goals.{then-is_same, else-is_same+in_ok-push}

pub returns : goal.returns
returns c =
    let after : Inside = record { target = c.if-is_same.self-inside.target; held = c.push-2.new.self; whole = c.if-is_same.self-inside.whole } in
    (elim c.if-is_same.branch [
      | then-is_same w ↦
          let same : c.made.result ≡ c.args.one.now = c.is_same.ensures w.if-is_same.true in
          pushed_short c.self.inside after c.if-is_same.held c.args.one.now
          (ap (λ (s : Inside). s.target) w.self-inside-is) (ap (λ (s : Inside). s.whole.items) w.self-inside-is) (c.in_ok-push-2.ensures.items ∙ ap (λ (s : Inside). s.held.items ++ c.if-is_same.held ∷ []) w.self-inside-is)
          (ap (held_made c.self.inside.target c.self.inside.whole.items) w.held-is ∙ (sym c.made.ensures ∙ same))
      | else-is_same+in_ok-push w ↦
          let last : w.len.result - 1 ≡ length c.self.inside.whole.items = omega (arith, w.len.ensures, w.push.new.self.ok.0, ap length w.in_ok-push.ensures.items, length-append c.self.inside.whole.items (c.args.one.now ∷ [])) in
          pushed_whole c.self.inside after c.args.one.now c.self.invariant
          (ap (λ (s : Inside). s.target) w.self-inside-is) (ap (λ (s : Inside). s.whole.items) w.self-inside-is ∙ w.in_ok-push.ensures.items)
          (c.in_ok-push-2.ensures.items ∙ (λ i. (w.self-inside-is i).held.items ++ (w.held-is ∙ ap Whole last) i ∷ []))
    ]) ∙ ap (λ (l : List Made). l ++ c.args.one.now ∷ []) c.self.view_is

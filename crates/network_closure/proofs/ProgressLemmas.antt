-- Relaxing an edge in a partial closure leaves less to lower if the edge improves its key, and never more.
use Rattle.std.proofs.Common.{◌≡◌, ◌<◌, ◌≤◌, Bool, true, false, not, refl, ap, sym, subst, ◌∙◌, arith}
use Rattle.std.specs.Prelude.{if◌then◌else◌}
use Rattle.net_model.specs.Network.{Plan}
use Rattle.net_model.specs.declared.part.Edge.{Edge}
use Rattle.closure_model.specs.Derivable.{IsDerivable}
use Rattle.closure_model.specs.Tables.{Graph, lowered, with_edge, has_at_most}
use Rattle.closure_model.proofs.WeightMeasure.{measure}
use Rattle.network_closure.specs.Saturation.{IsPartialClosure}
use Rattle.network_closure.specs.Progress.{Progress, ProgressGoesOn, relaxing_of}
use Rattle.network_closure.proofs.PartialClosureLemmas.{unsaturated_leaves_less}

-- ---- an edge is relaxed in a partial closure
pub record IsRelaxing (net : Plan) (old new : Graph) (edge : Edge) (improved : Bool) : Type 0 where
  pub partial_closure : IsPartialClosure net old
  pub derivable : IsDerivable net edge
  pub improved_is : improved ≡ not (has_at_most old edge)
  pub lowered_is : new ≡ lowered old edge

module _ (net : Plan) (old new : Graph) (edge : Edge) (improved : Bool) (relax : IsRelaxing net old new edge improved) where
  relax_by : (b : Bool) → has_at_most old edge ≡ b → (improved ≡ true → measure net new < measure net old) × (measure net new ≤ measure net old)
  relax_by true has =
      let same : new ≡ old = relax.lowered_is ∙ ap (λ b. if b then old else with_edge old edge) has in
      let held : improved ≡ false = relax.improved_is ∙ ap not has in
      (λ is. absurd cc, subst (λ (t : Graph). measure net t ≤ measure net old) (sym same) (omega arith))
  relax_by false missed =
      let less : measure net new < measure net old = unsaturated_leaves_less net old new edge relax.partial_closure (record { derivable = relax.derivable; missed = missed }) relax.lowered_is in
      (λ is. less, omega arith)

  pub relax_improves : improved ≡ true → measure net new < measure net old
  relax_improves = (relax_by (has_at_most old edge) refl).0

  pub relax_raises_nothing : measure net new ≤ measure net old
  relax_raises_nothing = (relax_by (has_at_most old edge) refl).1

-- ---- as contracts see it
module _ (net : Plan) (old new : Graph) (before : Progress (Unit {0})) (view : relaxing_of net old ≡ before) (edge : Edge) (improved : Bool) (relax : IsRelaxing net old new edge improved) where
  pub goes_on : ProgressGoesOn before (relaxing_of net new)
  goes_on = subst (λ (p : Progress (Unit {0})). ProgressGoesOn p (relaxing_of net new)) view (record { net = refl; place = refl; left = relax_raises_nothing net old new edge improved relax })

  pub leaves_less : improved ≡ true → (relaxing_of net new).left < before.left
  leaves_less is = subst (λ (p : Progress (Unit {0})). (relaxing_of net new).left < p.left) view (relax_improves net old new edge improved relax is)

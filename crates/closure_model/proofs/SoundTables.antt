-- A table stays sound.
use Rattle.std.proofs.Common.{◌≡◌, Bool, true, false, cond, ◌⊎◌, Some, None, sym, subst, ◌∙◌, inl, inr}
use Rattle.std.specs.Ordering.{eq_by_cmp}
use Rattle.net_model.specs.declared.part.Edge.{Edge}
use Rattle.closure_model.specs.Keys.{Key, key_of, key_cmp, IsKey}
use Rattle.net_model.specs.Limits.{IsWeight}
use Rattle.closure_model.specs.Tables.{Graph, weight_of, HasEdge, with_edge, without_key, IsGraph}
use Rattle.closure_model.proofs.TableLemmas.{with_edge-cases, weight_of-without_key}

pub IsGraph-with_edge : (graph : Graph) (edge : Edge) → IsGraph graph → IsKey graph.shape (key_of edge) → IsWeight edge.weight → IsGraph (with_edge graph edge)
IsGraph-with_edge graph edge sound key weight = record {
  keys = λ other has. by_key other (with_edge-cases graph edge other has);
  weights = λ other has. by_weight other (with_edge-cases graph edge other has);
  begins = sound.begins;
  few_points = sound.few_points;
  few_links = sound.few_links;
}
  where
    by_key : (other : Edge) → (other ≡ edge) ⊎ HasEdge graph other → IsKey graph.shape (key_of other)
    by_key other (inl is) = subst (λ (e : Edge). IsKey graph.shape (key_of e)) (sym is) key
    by_key other (inr has) = sound.keys other has

    by_weight : (other : Edge) → (other ≡ edge) ⊎ HasEdge graph other → IsWeight other.weight
    by_weight other (inl is) = subst (λ (e : Edge). IsWeight e.weight) (sym is) weight
    by_weight other (inr has) = sound.weights other has

pub IsGraph-without_key : (graph : Graph) (gone : Key) → IsGraph graph → IsGraph (without_key graph gone)
IsGraph-without_key graph gone sound = record {
  keys = λ other has. sound.keys other (kept other has);
  weights = λ other has. sound.weights other (kept other has);
  begins = sound.begins;
  few_points = sound.few_points;
  few_links = sound.few_links;
}
  where
    kept : (other : Edge) → HasEdge (without_key graph gone) other → HasEdge graph other
    kept other has = by (eq_by_cmp key_cmp (key_of other) gone) (sym (weight_of-without_key graph gone (key_of other)) ∙ has)
      where
        by : (b : Bool) → cond b None (weight_of graph (key_of other)) ≡ Some other.weight → HasEdge graph other
        by true held = absurd cc
        by false held = held

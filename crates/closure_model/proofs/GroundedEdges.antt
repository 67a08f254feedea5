-- The edges that improve follow from the table as it is when they come: each follows from an edge that the table then has.
use Rattle.std.proofs.Common.{◌≡◌, ◌≢◌, Bool, true, false, cond, List, [], ◌∷◌, ◌++◌, map, fold, Some, refl, ap, sym, subst, ◌∙◌}
use Rattle.std.specs.List.{Contains}
use Rattle.std.proofs.lemmas.List.{map_push}
use Rattle.std.proofs.lemmas.List.Sums.{fold_push}
use Rattle.net_model.specs.Network.{Plan}
use Rattle.net_model.specs.declared.ids.PointId.{PointId}
use Rattle.net_model.specs.declared.part.Edge.{Edge}
use Rattle.closure_model.specs.Keys.{Key, key_of}
use Rattle.closure_model.specs.Tables.{Graph, HasEdge, weight_of, lowered, with_edge, has_at_most}
use Rattle.closure_model.specs.ReferenceRow.{with_made, IsBelow}
use Rattle.closure_model.specs.declared.rows.Made.{Made}
use Rattle.closure_model.proofs.Consequences.{IsConsequence}
use Rattle.closure_model.proofs.Lists.{Contains-head, Contains-tail}
use Rattle.closure_model.proofs.TableLemmas.{with_edge-has, with_edge-other, weight_of-with_edge, at_most_tested, at_most_gives}
use Rattle.closure_model.specs.Keys.{key_cmp}
use Rattle.std.specs.Ordering.{eq_by_cmp}
use Rattle.closure_model.proofs.Weights.{not_below, le_then_lt}

-- ---- one edge more
-- an edge that is below what the table has of its key comes in
lowered_below : (table : Graph) (edge : Edge) → IsBelow table edge → lowered table edge ≡ with_edge table edge
lowered_below table edge below = by (has_at_most table edge) refl
  where
    by : (b : Bool) → has_at_most table edge ≡ b → lowered table edge ≡ with_edge table edge
    by false not = ap (λ (b : Bool). cond b table (with_edge table edge)) not
    by true is =
        let (weight, has, less) = at_most_gives table edge (at_most_tested table edge is) in
        absurd (not_below weight weight refl (le_then_lt weight edge.weight weight less (below weight has)))

pub lowered_has : (table : Graph) (edge : Edge) → IsBelow table edge → HasEdge (lowered table edge) edge
lowered_has table edge below = subst (λ (t : Graph). HasEdge t edge) (sym (lowered_below table edge below)) (with_edge-has table edge)

pub lowered_other : (table : Graph) (edge : Edge) (key : Key) → key_of edge ≢ key → weight_of (lowered table edge) key ≡ weight_of table key
lowered_other table edge key apart = by (has_at_most table edge)
  where
    by : (b : Bool) → weight_of (cond b table (with_edge table edge)) key ≡ weight_of table key
    by true = refl
    by false = with_edge-other table edge key (λ same. apart (sym same))

pub with_made_push : (table : Graph) (made : List Made) (one : Made) → with_made table (made ++ one ∷ []) ≡ lowered (with_made table made) one.edge
with_made_push table made one =
    ap (fold lowered table) (map_push (λ (m : Made). m.edge) made one) ∙ fold_push lowered table (map (λ (m : Made). m.edge) made) one.edge

pub with_made_other : (table : Graph) (made : List Made) (key : Key) → ((one : Made) → Contains made one → key_of one.edge ≢ key) → weight_of (with_made table made) key ≡ weight_of table key
with_made_other table [] key apart = refl
with_made_other table (one ∷ made) key apart =
    with_made_other (lowered table one.edge) made key (λ other inside. apart other (Contains-tail one made other inside)) ∙ lowered_other table one.edge key (apart one (Contains-head one made))

-- ---- edges that stand on the table as it is when they come
module _ (net : Plan) (table : Graph) where
  -- an edge that a rule gives from an edge that a table has
  pub record IsGrounded (now : Graph) (one : Made) : Type 0 where
    pub premise : Edge
    pub follows : IsConsequence net table premise one
    pub has : HasEdge now premise

  -- each is grounded in the table into which those before it have come, and comes in
  pub AreGrounded : Graph → List Made → Type 0
  AreGrounded now [] = Unit {0}
  AreGrounded now (one ∷ made) = (IsGrounded now one × IsBelow now one.edge) × AreGrounded (lowered now one.edge) made

  pub grounded_push : (now : Graph) (made : List Made) (one : Made) → AreGrounded now made → IsGrounded (with_made now made) one → IsBelow (with_made now made) one.edge → AreGrounded now (made ++ one ∷ [])
  unfolding AreGrounded
  grounded_push now [] one all is below = ((is, below), tt)
  grounded_push now (first ∷ made) one all is below = (all.0, grounded_push (lowered now first.edge) made one all.1 is below)

  pub grounded_append : (now : Graph) (made more : List Made) → AreGrounded now made → AreGrounded (with_made now made) more → AreGrounded now (made ++ more)
  unfolding AreGrounded
  grounded_append now [] more all rest = rest
  grounded_append now (first ∷ made) more all rest = (all.0, grounded_append (lowered now first.edge) made more all.1 rest)

  pub grounded_none : (now : Graph) → AreGrounded now []
  unfolding AreGrounded
  grounded_none now = tt

  pub grounded_first : (now : Graph) (one : Made) (made : List Made) → AreGrounded now (one ∷ made) → IsGrounded now one × IsBelow now one.edge
  unfolding AreGrounded
  grounded_first now one made all = all.0

  pub grounded_rest : (now : Graph) (one : Made) (made : List Made) → AreGrounded now (one ∷ made) → AreGrounded (lowered now one.edge) made
  unfolding AreGrounded
  grounded_rest now one made all = all.1

  pub grounded_cons : (now : Graph) (one : Made) (made : List Made) → IsGrounded now one → IsBelow now one.edge → AreGrounded (lowered now one.edge) made → AreGrounded now (one ∷ made)
  unfolding AreGrounded
  grounded_cons now one made is below rest = ((is, below), rest)

-- ---- tables that agree on the keys of a target
pub record AgreeAt (to : PointId) (one other : Graph) : Type 0 where
  pub same : (key : Key) → key.to ≡ to → weight_of one key ≡ weight_of other key

pub below_agreeing : (to : PointId) (one other : Graph) (edge : Edge) → AgreeAt to one other → edge.to ≡ to → IsBelow one edge → IsBelow other edge
below_agreeing to one other edge agree ends below weight has = below weight (agree.same (key_of edge) ends ∙ has)

pub agree_lowered : (to : PointId) (one other : Graph) (edge : Edge) → AgreeAt to one other → IsBelow one edge → IsBelow other edge → AgreeAt to (lowered one edge) (lowered other edge)
agree_lowered to one other edge agree below_one below_other = record {
  same = λ key ends.
      ap (λ (t : Graph). weight_of t key) (lowered_below one edge below_one)
      ∙ (weight_of-with_edge one edge key ∙ (ap (cond (eq_by_cmp key_cmp key (key_of edge)) (Some edge.weight)) (agree.same key ends)
      ∙ (sym (weight_of-with_edge other edge key) ∙ ap (λ (t : Graph). weight_of t key) (sym (lowered_below other edge below_other)))));
}

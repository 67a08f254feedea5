-- What a row in progress keeps is derivable, and the first edges of rows that are made.
use Rattle.std.proofs.Common.{◌≡◌, ℕ, ◌<◌, ℤ, pos, ◌+ℤ◌, ◌≤ℤ◌, ◌<ℤ◌, ◌⊎◌, inl, inr, List, [], length, Option, Some, None, refl, sym, subst, arith}
use Rattle.std.specs.Prelude.{Vec, slice_index_or, slice_set}
use Rattle.std.specs.List.{All}
use Rattle.std.specs.declared.alloc.Global.{Global}
use Rattle.std.proofs.lemmas.Bool.{cases_eq}
use Rattle.std.proofs.lemmas.Int.{ints}
use Rattle.std.proofs.lemmas.List.{get_or-set_same, get_or-set_other, length-set}
use Rattle.std.proofs.lemmas.List.Elements.{All-nil, All-same}
use Rattle.net_model.specs.Network.{Plan}
use Rattle.net_model.specs.Rules.{joined_weight}
use Rattle.net_model.specs.declared.ids.LinkId.{LinkId}
use Rattle.net_model.specs.declared.ids.PointId.{PointId}
use Rattle.net_model.proofs.AppliedRuleLemmas.{no_case_applies, upper_case_applies}
use Rattle.closure_model.specs.Derivable.{IsDerivable, by_no_case, by_upper_case}
use Rattle.forward_closure.specs.Rows.{row_edge_into, IsFirstInto, AreFirstEdges, RowOf}
use Rattle.forward_closure.specs.Sources.{edge_from}
use Rattle.forward_closure.specs.declared.open_row.RowEdge.{RowEdge}
use Rattle.forward_closure.specs.declared.source.Source.{Source}

-- ---- an edge over a first edge and a negative one is derivable
module _ (net : Plan) (to : PointId) (first : Source) (edge : RowEdge) (is : IsFirstInto net edge.from first) (derivable : IsDerivable net (row_edge_into to edge)) (negative : edge.weight <ℤ pos 0) where
  joined_is : joined_weight (edge_from first edge.from None) (row_edge_into to edge) ≡ first.weight +ℤ edge.weight
  joined_is = let not_negative : pos 0 ≤ℤ first.weight = is.not_negative in grind (arith, ints)

  by_label : (label : Option LinkId) → edge.label ≡ label → IsDerivable net (row_edge_into to (record { from = first.from; label = edge.label; weight = first.weight +ℤ edge.weight }))
  by_label None ordinary = subst (λ (w : ℤ). IsDerivable net (record { from = first.from; to = to; label = edge.label; weight = w })) joined_is
      (subst (λ (l : Option LinkId). IsDerivable net (record { from = first.from; to = to; label = l; weight = joined_weight (edge_from first edge.from None) (row_edge_into to edge) })) (sym ordinary)
      (by_no_case (edge_from first edge.from None) (row_edge_into to edge) _ is.derivable derivable (no_case_applies (edge_from first edge.from None) (row_edge_into to edge) refl ordinary refl negative)))
  by_label (Some name) labelled = subst (λ (w : ℤ). IsDerivable net (record { from = first.from; to = to; label = edge.label; weight = w })) joined_is
      (by_upper_case (edge_from first edge.from None) (row_edge_into to edge) _ is.derivable derivable (upper_case_applies (edge_from first edge.from None) (row_edge_into to edge) name refl labelled refl negative))

  pub derived_over : IsDerivable net (row_edge_into to (record { from = first.from; label = edge.label; weight = first.weight +ℤ edge.weight }))
  derived_over = by_label edge.label refl

-- the same of a row that is still that of its network and point
pub derived_after : (row now : RowOf) (first : Source) (edge : RowEdge) (weight : ℤ) → now ≡ row → IsFirstInto row.net edge.from first → IsDerivable row.net (row_edge_into row.target edge) → edge.weight <ℤ pos 0
    → weight ≡ first.weight +ℤ edge.weight → IsDerivable now.net (row_edge_into now.target (record { from = first.from; label = edge.label; weight = weight }))
derived_after row now first edge weight same is derivable negative sum =
    subst (λ (r : RowOf). IsDerivable r.net (row_edge_into r.target (record { from = first.from; label = edge.label; weight = weight }))) (sym same)
    (subst (λ (w : ℤ). IsDerivable row.net (row_edge_into row.target (record { from = first.from; label = edge.label; weight = w }))) (sym sum)
    (derived_over row.net row.target first edge is derivable negative))

-- ---- the lists of first edges
pub no_first_edges : (net : Plan) (lists : List (Vec Source Global)) → All (λ (list : Vec Source Global). list.items ≡ []) lists → AreFirstEdges net lists
no_first_edges net lists none k d inside = All-same (IsFirstInto net (record { 0 = k })) (slice_index_or lists k d).items [] (none k d inside) (All-nil (IsFirstInto net (record { 0 = k })))

pub first_edges_set : (net : Plan) (lists : List (Vec Source Global)) (to : PointId) (list : Vec Source Global) → to.0 < length lists → AreFirstEdges net lists → All (IsFirstInto net to) list.items
    → AreFirstEdges net (slice_set lists to.0 list)
first_edges_set net lists to list there are new k d inside = by (cases_eq k to.0)
  where
    by : (k ≡ to.0) ⊎ (k ≡ to.0 → ⊥) → All (IsFirstInto net (record { 0 = k })) (slice_index_or (slice_set lists to.0 list) k d).items
    by (inl same) = subst (λ (n : ℕ). All (IsFirstInto net (record { 0 = n })) (slice_index_or (slice_set lists to.0 list) n d).items) (sym same)
        (subst (λ (l : Vec Source Global). All (IsFirstInto net to) l.items) (sym (get_or-set_same lists to.0 list d there)) new)
    by (inr apart) = subst (λ (l : Vec Source Global). All (IsFirstInto net (record { 0 = k })) l.items) (sym (get_or-set_other lists to.0 k list d apart))
        (are k d (subst (λ (n : ℕ). k < n) (length-set lists to.0 list) inside))

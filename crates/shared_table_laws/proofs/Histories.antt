-- A history holds derivable edges only, and what was read is derivable; so a settled one ends in the closure.
use Rattle.std.proofs.Common.{◌≡◌, ℕ, ◌⊎◌, List, ap, sym, subst, ◌∙◌, inl, inr}
use Rattle.std.specs.List.{All}
use Rattle.std.proofs.lemmas.List.Elements.{All-nil, All-push}
use Rattle.net_model.specs.Network.{Plan}
use Rattle.net_model.specs.declared.part.Edge.{Edge}
use Rattle.closure_model.specs.Closure.{HoldsDerivable}
use Rattle.closure_model.specs.Derivable.{IsDerivable}
use Rattle.closure_model.specs.Tables.{Graph, HasEdge, lowered}
use Rattle.closure_model.proofs.DerivableEdges.{follows_derivable}
use Rattle.closure_model.proofs.LawProofs.{law_closed_and_derivable_is_closure}
use Rattle.closure_model.proofs.TableLemmas.{lowered-cases, lowered-shape}
use Rattle.shared_table_laws.specs.TableHistory.{Read, Past, MayRelax, TableHistory, begins, reads, lowers, HistoriesAreDerivable, SettledHistoriesGiveTheClosure}
use Rattle.shared_table_laws.proofs.ReadEdges.{of_worker}

-- what a history holds and what was read, derivable
record IsSound (net : Plan) (past : Past) : Type 0 where
  table : HoldsDerivable net past.table
  read : All (λ (one : Read). IsDerivable net one.edge) past.read

module _ (net : Plan) where
  relax_derivable : (worker : ℕ) (read : List Read) (edge : Edge) → All (λ (one : Read). IsDerivable net one.edge) read → MayRelax net worker read edge → IsDerivable net edge
  relax_derivable worker read edge all (inl follows) = follows_derivable net _ (of_worker (IsDerivable net) worker read all) edge follows
  relax_derivable worker read edge all (inr derivable) = derivable

  lowered_derivable : (table : Graph) (edge : Edge) → HoldsDerivable net table → IsDerivable net edge → HoldsDerivable net (lowered table edge)
  lowered_derivable table edge all derivable other has = by (lowered-cases table edge other has)
    where
      by : (other ≡ edge) ⊎ HasEdge table other → IsDerivable net other
      by (inl is) = subst (IsDerivable net) (sym is) derivable
      by (inr before) = all other before

  sound : (first : Graph) (past : Past) → HoldsDerivable net first → TableHistory (MayRelax net) first past → IsSound net past
  sound first past start (begins _ is) = subst (IsSound net) (sym is) (record { table = start; read = All-nil (λ (one : Read). IsDerivable net one.edge) })
  sound first past start (reads before _ worker edge history has is) =
      let was = sound first before start history in
      let one : Read = record { worker = worker; edge = edge } in
      subst (IsSound net) (sym is) (record { table = was.table; read = All-push (λ (r : Read). IsDerivable net r.edge) before.read one was.read (was.table edge has) })
  sound first past start (lowers before _ worker edge history relaxes is) =
      let was = sound first before start history in
      subst (IsSound net) (sym is) (record { table = lowered_derivable before.table edge was.table (relax_derivable worker before.read edge was.read relaxes); read = was.read })

-- the table of a history is for the points and links of its first table
shape_kept : (Relaxes : ℕ → List Read → Edge → Type 0) (first : Graph) (past : Past) → TableHistory Relaxes first past → past.table.shape ≡ first.shape
shape_kept Relaxes first past (begins _ is) = ap (λ (p : Past). p.table.shape) is
shape_kept Relaxes first past (reads before _ worker edge history has is) = ap (λ (p : Past). p.table.shape) is ∙ shape_kept Relaxes first before history
shape_kept Relaxes first past (lowers before _ worker edge history relaxes is) =
    ap (λ (p : Past). p.table.shape) is ∙ (lowered-shape before.table edge ∙ shape_kept Relaxes first before history)

pub law_histories_are_derivable : HistoriesAreDerivable
law_histories_are_derivable net first past start history = let was = sound net first past start history in (was.table, was.read)

pub law_settled_histories_give_the_closure : SettledHistoriesGiveTheClosure
law_settled_histories_give_the_closure net first past fits start history settled =
    law_closed_and_derivable_is_closure net past.table (shape_kept (MayRelax net) first past history ∙ fits) settled (law_histories_are_derivable net first past start history).0

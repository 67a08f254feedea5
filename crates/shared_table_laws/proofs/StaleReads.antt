-- A history in which a worker uses a weight that it read and that the key no longer has.
use Rattle.std.proofs.Common.{◌≡◌, ◌==◌, suc, ℤ, ◌<ℤ◌, true, false, List, [], ◌∷◌, refl, ap, sym, subst, ◌∙◌, arith}
use Rattle.std.proofs.lemmas.Bool.Decides.{nat_tests}
use Rattle.std.proofs.lemmas.Option.{same_Some}
use Rattle.net_model.specs.Rules.{Follows}
use Rattle.net_model.specs.declared.part.Edge.{Edge}
use Rattle.closure_model.specs.Keys.{key_of}
use Rattle.closure_model.specs.ReferenceRow.{IsBelow}
use Rattle.closure_model.specs.Tables.{Graph, HasEdge, weight_of, lowered}
use Rattle.closure_model.proofs.GroundedEdges.{lowered_has}
use Rattle.shared_table_laws.specs.TableHistory.{Read, Past, edges_read_by, FollowsFromRead, TableHistory, begins, reads, lowers, StaleReadsMayBeUsed}

is_below : (table : Graph) (old new : Edge) → HasEdge table old → key_of new ≡ key_of old → new.weight <ℤ old.weight → IsBelow table new
is_below table old new has same less weight found =
    let is : weight ≡ old.weight = same_Some weight old.weight (sym found ∙ (ap (weight_of table) same ∙ has)) in
    subst (λ (w : ℤ). new.weight <ℤ w) (sym is) less

pub law_stale_reads_may_be_used : StaleReadsMayBeUsed
law_stale_reads_may_be_used net first worker old new edge has base same less follows =
    let read : List Read = record { worker = worker; edge = old } ∷ [] in
    let own : (worker == worker) ≡ true = grind (arith, nat_tests) in
    let not_other : (worker == suc worker) ≡ false = grind (arith, nat_tests) in
    let is : edges_read_by worker read ≡ old ∷ [] = rw own refl in
    let none : edges_read_by (suc worker) read ≡ [] = rw not_other refl in
    let start : Past = record { table = first; read = read; relaxed = [] } in
    let past : Past = record { table = lowered first new; read = read; relaxed = new ∷ [] } in
    let before : TableHistory (FollowsFromRead net) first past =
    lowers start past (suc worker) new (reads _ start worker old (begins _ refl) has refl) (subst (λ (edges : List Edge). Follows net edges new) (sym none) base) refl in
    record {
      past = past;
      before = before;
      read = refl;
      now = lowered_has first new (is_below first old new has same less);
      after = lowers past _ worker edge before (subst (λ (edges : List Edge). Follows net edges edge) (sym is) follows) refl;
    }

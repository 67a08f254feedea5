-- Rounds that close are a settled history.
use Rattle.std.proofs.Common.{ℕ, List, refl, inl}
use Rattle.net_model.specs.declared.part.Edge.{Edge}
use Rattle.closure_model.specs.Derivations.{edges_of_nodes}
use Rattle.closure_model.specs.ReferenceRounds.{closed}
use Rattle.closure_model.specs.Tables.{Graph}
use Rattle.closure_model.proofs.LawProofs.{law_closure_is_closed}
use Rattle.closure_model.proofs.RoundsLaw.{law_rounds_that_close}
use Rattle.shared_table_laws.specs.TableHistory.{Read, Past, MayRelax, RelaxesInRow, TableHistory, begins, reads, lowers, RoundsThatCloseSettle}
use Rattle.shared_table_laws.proofs.RoundHistories.{law_rounds_are_histories}

-- a history in which workers relax only some of the edges that they may
widened : (Relaxes Others : ℕ → List Read → Edge → Type 0) → ((worker : ℕ) (read : List Read) (edge : Edge) → Relaxes worker read edge → Others worker read edge)
    → (first : Graph) (past : Past) → TableHistory Relaxes first past → TableHistory Others first past
widened Relaxes Others also first past (begins _ is) = begins past is
widened Relaxes Others also first past (reads before _ worker edge history has is) = reads before past worker edge (widened Relaxes Others also first before history) has is
widened Relaxes Others also first past (lowers before _ worker edge history relaxes is) =
    lowers before past worker edge (widened Relaxes Others also first before history) (also worker before.read edge relaxes) is

pub law_rounds_that_close_settle : RoundsThatCloseSettle
law_rounds_that_close_settle net before after rounds order plan stands ends =
    let are = law_rounds_are_histories net before after rounds (closed order) plan stands ends in
    let past : Past = record { table = after.table; read = are.read; relaxed = edges_of_nodes are.nodes } in
    record {
      past = past;
      history = widened (RelaxesInRow net) (MayRelax net) (λ worker read edge relaxes. inl relaxes.1) before.table past are.history;
      settled = (law_closure_is_closed net after.table (law_rounds_that_close net before after rounds order plan stands ends)).0;
      is = refl;
    }

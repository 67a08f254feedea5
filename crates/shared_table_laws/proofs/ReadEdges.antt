-- The edges that a worker read: where each comes from, and what one more read adds.
use Rattle.std.proofs.Common.{◌≡◌, ℕ, ◌==◌, true, List, [], ◌∷◌, ◌++◌, map, filter, sym, subst, ◌∙◌, ap, arith}
use Rattle.std.specs.List.{All, Contains}
use Rattle.std.proofs.lemmas.Bool.Decides.{nat_tests}
use Rattle.std.proofs.lemmas.List.{map-append}
use Rattle.std.proofs.lemmas.List.Elements.{All-filter, All-map, All-contains, filter-append, Contains-append_left, Contains-push}
use Rattle.net_model.specs.declared.part.Edge.{Edge}
use Rattle.closure_model.proofs.Lists.{Contains-map, Contains-filter}
use Rattle.shared_table_laws.specs.TableHistory.{Read, edges_read_by}

-- what holds of each edge that was read holds of each that a worker read
pub of_worker : (P : Edge → Type 0) (worker : ℕ) (read : List Read) → All (λ (one : Read). P one.edge) read → (edge : Edge) → Contains (edges_read_by worker read) edge → P edge
of_worker P worker read all edge inside =
    let kept = All-filter (λ (one : Read). one.worker == worker) (λ (one : Read). P one.edge) read all in
    All-contains P (edges_read_by worker read) edge (All-map P (λ (one : Read). one.edge) (filter (λ (one : Read). one.worker == worker) read) kept) inside

read_append : (worker : ℕ) (read more : List Read) → edges_read_by worker (read ++ more) ≡ edges_read_by worker read ++ edges_read_by worker more
read_append worker read more =
    ap (map (λ (one : Read). one.edge)) (filter-append (λ (one : Read). one.worker == worker) read more)
    ∙ map-append (λ (one : Read). one.edge) (filter (λ (one : Read). one.worker == worker) read) (filter (λ (one : Read). one.worker == worker) more)

pub read_earlier : (worker : ℕ) (read more : List Read) (edge : Edge) → Contains (edges_read_by worker read) edge → Contains (edges_read_by worker (read ++ more)) edge
read_earlier worker read more edge inside =
    subst (λ (edges : List Edge). Contains edges edge) (sym (read_append worker read more)) (Contains-append_left (edges_read_by worker read) (edges_read_by worker more) edge inside)

-- a read is one of its worker
pub read_of : (read : List Read) (one : Read) → Contains read one → Contains (edges_read_by one.worker read) one.edge
read_of read one inside =
    let own : (one.worker == one.worker) ≡ true = grind (arith, nat_tests) in
    Contains-map (λ (r : Read). r.edge) (filter (λ (r : Read). r.worker == one.worker) read) one (Contains-filter (λ (r : Read). r.worker == one.worker) read one inside own)

pub read_now : (worker : ℕ) (read : List Read) (edge : Edge) → Contains (edges_read_by worker (read ++ record { worker = worker; edge = edge } ∷ [])) edge
read_now worker read edge = let last : Read = record { worker = worker; edge = edge } in read_of (read ++ last ∷ []) last (Contains-push read last)

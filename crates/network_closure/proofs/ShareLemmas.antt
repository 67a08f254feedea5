-- What all shares of a table say of it together.
use Rattle.std.proofs.Common.{◌≡◌, ℕ, ◌+◌, ◌%◌, ◌<◌, Bool, List, length, get_or, Option, Some, None, refl, ap, sym, subst, ◌∙◌, arith}
use Rattle.std.specs.Prelude.{MatchOption, Result, Ok, IfOk}
use Rattle.std.specs.declared.alloc.AllocError.{AllocError}
use Rattle.std.proofs.lemmas.Nat.{mod_below}
use Rattle.net_model.specs.Network.{Plan}
use Rattle.net_model.specs.declared.ids.LinkId.{LinkId}
use Rattle.net_model.specs.declared.ids.PointId.{PointId}
use Rattle.net_model.specs.declared.part.Edge.{Edge}
use Rattle.closure_model.specs.Tables.{Graph, HasEdge, IsClosed}
use Rattle.network_closure.specs.Saturation.{IsPartialClosure, IsUnsaturated, TestsTo}
use Rattle.network_closure.specs.RowTest.{IsSequence, IsFirstFound, SaturatesRow, SaturatesShare, SaturatesUnlessBy}
use Rattle.network_closure.proofs.ConsequenceLemmas.{given_if, label_known, match_met}
use Rattle.network_closure.proofs.PartialClosureLemmas.{derivable_is}
use Rattle.network_closure.proofs.RowTestLemmas.{tested_is_closed}

-- what a share gives: nothing, if whatever follows is saturated, or an unsaturated edge
abbrev pub Gives : Plan → Bool → Graph → (share shares : ℕ) → Option Edge → Type 0
Gives net is_order table share shares found = MatchOption found (SaturatesShare net is_order table share shares) (IsUnsaturated net table)

module _ (net : Plan) (table : Graph) (points : List PointId) (is_order : Bool) (partial_closure : IsPartialClosure net table) (sequence : IsSequence table points is_order) where
  rows_tested : ((row : ℕ) → row < length net.points + length net.links → SaturatesRow net is_order table row) → (edge : Edge) → HasEdge table edge → SaturatesUnlessBy net is_order table edge
  rows_tested each edge has = by edge.label refl
    where
      ends : edge.to.0 < length net.points
      ends = (derivable_is net partial_closure.plan edge (partial_closure.derivable edge has)).to_point

      by : (label : Option LinkId) → edge.label ≡ label → SaturatesUnlessBy net is_order table edge
      by None none = (each edge.to.0 (omega (arith, ends))).ordinary ends edge has refl none
      by (Some label) some =
          let known : label.0 < length net.links = given_if (λ (name : LinkId). name.0 < length net.links) edge.label label (label_known net partial_closure.plan edge (partial_closure.derivable edge has)) some in
          (each (length net.points + label.0) (omega (arith, known))).labelled label refl edge has some

  shares_meet : (shares : ℕ) → 0 < shares → ((share : ℕ) → share < shares → SaturatesShare net is_order table share shares) → IsClosed net table
  shares_meet shares some each =
      tested_is_closed net table points is_order partial_closure sequence (rows_tested (λ row inside. each (row % shares) (mod_below row shares some) row inside refl))

  pub one_share : (found : Option Edge) → Gives net is_order table 0 1 found → TestsTo net table found
  one_share found gives = match_met (SaturatesShare net is_order table 0 1) (IsClosed net table) (IsUnsaturated net table) found
      (λ saturates. shares_meet 1 some (λ share below. subst (λ (s : ℕ). SaturatesShare net is_order table s 1) (sym (first share below)) saturates)) gives
    where
      some : 0 < 1
      some = omega arith

      first : (share : ℕ) → share < 1 → share ≡ 0
      first share below = omega (arith, below)

  pub first_decides : (shares : ℕ) → 0 < shares → (given found : List (Result (Option Edge) AllocError)) → given ≡ found → length found ≡ shares
      → ((share : ℕ) (d : Result (Option Edge) AllocError) → share < shares → IfOk (get_or given share d) (Gives net is_order table share shares)) → (first : Option Edge) → IsFirstFound found first → TestsTo net table first
  first_decides shares some given found same len each None none = shares_meet shares some (λ share below.
      subst (λ (one : Result (Option Edge) AllocError). IfOk one (Gives net is_order table share shares))
      (ap (λ (l : List (Result (Option Edge) AllocError)). get_or l share (Ok None)) same ∙ none share (Ok None) (subst (λ (n : ℕ). share < n) (sym len) below)) (each share (Ok None) below))
  first_decides shares some given found same len each (Some edge) (k, below, is) =
      subst (λ (one : Result (Option Edge) AllocError). IfOk one (Gives net is_order table k shares))
      (ap (λ (l : List (Result (Option Edge) AllocError)). get_or l k (Ok (Some edge))) same ∙ is) (each k (Ok (Some edge)) (subst (λ (n : ℕ). k < n) len below))

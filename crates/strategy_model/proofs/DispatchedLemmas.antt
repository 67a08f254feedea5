-- The schedule of lower bounds and waits satisfies the network.
use Rattle.std.proofs.Common.{◌≡◌, ◌⊎◌, ℕ, ℤ, pos, negsuc, ◌<ℤ◌, ◌≤ℤ◌, ◌-ℤ◌, List, Some, get_or, refl, ap, sym, ◌∙◌, arith, inl, inr}
use Rattle.std.specs.Prelude.{slice_get}
use Rattle.std.proofs.lemmas.Int.{ints}
use Rattle.std.proofs.lemmas.Option.{none-some, slice_get-get_or}
use Rattle.net_model.specs.Network.{Plan, IsPlan}
use Rattle.net_model.specs.declared.part.Bound.{Bound}
use Rattle.net_model.specs.declared.part.Edge.{Edge}
use Rattle.strategy_model.specs.Situations.{IsSituation, Keeps, moment_in}
use Rattle.strategy_model.specs.Dispatch.{IsForwardClosedList, IsDispatched}
use Rattle.strategy_model.specs.DispatchLaws.{DispatchedSatisfy}
use Rattle.strategy_model.proofs.ClosedLemmas.{stands_bound}
use Rattle.strategy_model.proofs.ViolationLemmas.{none_violated}

-- one number is at most another, or above it
at_most_or_above : (x y : ℤ) → (x ≤ℤ y) ⊎ (y <ℤ x)
at_most_or_above x y = by (y -ℤ x) refl
  where
    by : (gap : ℤ) → (y -ℤ x) ≡ gap → (x ≤ℤ y) ⊎ (y <ℤ x)
    by (pos n) is = inl (omega (arith, ints, is))
    by (negsuc n) is = inr (omega (arith, ints, is))

bound_keeps : (net : Plan) (edges : List Edge) (situation schedule : List ℕ) → IsPlan net → IsForwardClosedList net edges → IsSituation net situation → IsDispatched net edges situation schedule → (place : ℕ) (bound : Bound)
    → slice_get net.bounds place ≡ Some bound → Keeps schedule bound
bound_keeps net edges situation schedule plan closed is_situation dispatched place bound declared =
    elim (at_most_or_above (pos (moment_in schedule bound.to) -ℤ pos (moment_in schedule bound.from)) bound.most) [
      | inl kept ↦ kept
      | inr broken ↦
          let stands = stands_bound net edges closed place bound declared in
          let at_most = stands.at_most in
          let from : moment_in schedule stands.entry.from ≡ moment_in schedule bound.from = ap (moment_in schedule) stands.from in
          let to : moment_in schedule stands.entry.to ≡ moment_in schedule bound.to = ap (moment_in schedule) stands.to in
          absurd (none_violated net edges situation schedule plan closed is_situation dispatched stands.entry stands.among (record {
            late = omega (arith, ints, at_most, from, to, broken);
            sooner = λ label labelled. absurd (none-some label (sym stands.label ∙ labelled));
          }))
    ]

pub law_dispatched_satisfy : DispatchedSatisfy
law_dispatched_satisfy net edges situation schedule instant closed is_situation dispatched =
    record {
      complete = dispatched.complete;
      keeps = λ place other inside. bound_keeps net edges situation schedule instant.sound closed is_situation dispatched place (get_or net.bounds place other) (slice_get-get_or net.bounds place other inside);
    }

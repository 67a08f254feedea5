-- What was kept once is kept again.
use Rattle.std.proofs.Common.{◌≡◌, ℤ, Bool, true, false, List, [], ◌∷◌, map, filter, refl, ap, sym, subst, ◌∙◌, inl, inr}
use Rattle.std.specs.Prelude.{◌&&◌, ◌||◌, ◌==◌, not, ◌+ℤ◌, int_le, slice_get}
use Rattle.std.specs.List.{Contains}
use Rattle.std.specs.Option.{option_map_or}
use Rattle.std.proofs.lemmas.Bool.{or_cases, or_left, or_right, true≢false}
use Rattle.net_model.specs.declared.ids.PointId.{PointId}
use Rattle.net_model.specs.declared.ids.LinkId.{LinkId}
use Rattle.net_model.specs.declared.part.Link.{Link}
use Rattle.closure_model.proofs.Lists.{Contains-filter_from, Contains-filter_passes, any_is, any_from, filter_all}
use Rattle.dispatch_net.specs.declared.dispatch.Conditions.{Conditions}
use Rattle.dispatch_net.specs.Dispatchable.{conditions_at}
use Rattle.dispatch_net.specs.Held.{IsSlimOrWhole}
use Rattle.dispatch_net.specs.Slim.{over_point, implied_over_link, is_bound_implied, over_end, over_wait, is_wait_implied, slim_conditions, slimmed}
use Rattle.dispatch_net.specs.Laws.{SlimStaysSlim}
use Rattle.dispatch_net.proofs.SlimLists.{slim_at}

from_not : (b : Bool) → not b ≡ true → b ≡ false
from_not true holds = absurd cc
from_not false holds = refl

map_map : {X : Type 0} (f g : X → X) (xs : List X) → ((x : X) → f (g x) ≡ g x) → map f (map g xs) ≡ map g xs
map_map f g [] same = refl
map_map f g (x ∷ xs) same = λ i. same x i ∷ map_map f g xs same i

module _ (links : List Link) (made : List Conditions) (c : Conditions) where
  abbrev kept : List Conditions
  kept = slimmed links made

  abbrev slim : Conditions
  slim = slim_conditions links made c

  fewer_over_point : (bound other : PointId × ℤ) → over_point kept bound other ≡ true → over_point made bound other ≡ true
  fewer_over_point bound other over =
      let test : PointId × ℤ → Bool = λ inner. inner.0.0 == bound.0.0 && int_le bound.1 (other.1 +ℤ inner.1) in
      let at = slim_at links made other.0 in
      let (inner, among, passes) = any_is test (conditions_at kept other.0).lower_bounds over in
      let there = subst (λ (k : Conditions). Contains k.lower_bounds inner) at among in
      any_from test (conditions_at made other.0).lower_bounds inner
      (Contains-filter_from (λ b. not (is_bound_implied links made (conditions_at made other.0) b)) (conditions_at made other.0).lower_bounds inner there) passes

  fewer_over_wait : (wait : LinkId × ℤ) (other : PointId × ℤ) → over_wait kept wait other ≡ true → over_wait made wait other ≡ true
  fewer_over_wait wait other over =
      let test : LinkId × ℤ → Bool = λ inner. inner.0.0 == wait.0.0 && int_le wait.1 (other.1 +ℤ inner.1) in
      let at = slim_at links made other.0 in
      let (inner, among, passes) = any_is test (conditions_at kept other.0).waits over in
      let there = subst (λ (k : Conditions). Contains k.waits inner) at among in
      any_from test (conditions_at made other.0).waits inner
      (Contains-filter_from (λ w. not (is_wait_implied links made (conditions_at made other.0) w)) (conditions_at made other.0).waits inner there) passes

  fewer_bounds : (bound : PointId × ℤ) → is_bound_implied links kept slim bound ≡ true → is_bound_implied links made c bound ≡ true
  fewer_bounds bound implied =
      let (other, among, holds) = any_is (λ other. over_point kept bound other || implied_over_link links bound other) slim.lower_bounds implied in
      any_from (λ other. over_point made bound other || implied_over_link links bound other) c.lower_bounds other
      (Contains-filter_from (λ b. not (is_bound_implied links made c b)) c.lower_bounds other among)
      (elim (or_cases (over_point kept bound other) (implied_over_link links bound other) holds) [
        | inl first ↦ or_left (over_point made bound other) (implied_over_link links bound other) (fewer_over_point bound other first)
        | inr second ↦ or_right (over_point made bound other) (implied_over_link links bound other) second
      ])

  fewer_waits : (wait : LinkId × ℤ) → is_wait_implied links kept slim wait ≡ true → is_wait_implied links made c wait ≡ true
  fewer_waits wait implied =
      let (other, among, holds) = any_is (λ other. option_map_or (over_end wait.1 other) (slice_get links wait.0.0) false || over_wait kept wait other) slim.lower_bounds implied in
      any_from (λ other. option_map_or (over_end wait.1 other) (slice_get links wait.0.0) false || over_wait made wait other) c.lower_bounds other
      (Contains-filter_from (λ b. not (is_bound_implied links made c b)) c.lower_bounds other among)
      (elim (or_cases (option_map_or (over_end wait.1 other) (slice_get links wait.0.0) false) (over_wait kept wait other) holds) [
        | inl first ↦ or_left (option_map_or (over_end wait.1 other) (slice_get links wait.0.0) false) (over_wait made wait other) first
        | inr second ↦ or_right (option_map_or (over_end wait.1 other) (slice_get links wait.0.0) false) (over_wait made wait other) (fewer_over_wait wait other second)
      ])

  stays_not : (implied again : Bool) → not implied ≡ true → (again ≡ true → implied ≡ true) → not again ≡ true
  stays_not implied true passes fewer = absurd (true≢false (sym (fewer refl) ∙ from_not implied passes))
  stays_not implied false passes fewer = refl

  bounds_stay : filter (λ bound. not (is_bound_implied links kept slim bound)) slim.lower_bounds ≡ slim.lower_bounds
  bounds_stay = filter_all (λ bound. not (is_bound_implied links kept slim bound)) slim.lower_bounds (λ bound among.
      stays_not (is_bound_implied links made c bound) (is_bound_implied links kept slim bound) (Contains-filter_passes (λ b. not (is_bound_implied links made c b)) c.lower_bounds bound among) (fewer_bounds bound))

  waits_stay : filter (λ wait. not (is_wait_implied links kept slim wait)) slim.waits ≡ slim.waits
  waits_stay = filter_all (λ wait. not (is_wait_implied links kept slim wait)) slim.waits (λ wait among.
      stays_not (is_wait_implied links made c wait) (is_wait_implied links kept slim wait) (Contains-filter_passes (λ w. not (is_wait_implied links made c w)) c.waits wait among) (fewer_waits wait))

  conditions_stay : slim_conditions links kept slim ≡ slim
  conditions_stay = λ i. record { lower_bounds = bounds_stay i; waits = waits_stay i }

pub law_slim_stays_slim : SlimStaysSlim
law_slim_stays_slim links made = map_map (slim_conditions links (slimmed links made)) (slim_conditions links made) made (conditions_stay links made)

-- what others imply is left out, whatever was kept before
pub slim_again : (links : List Link) (made old : List Conditions) → IsSlimOrWhole links made old → slimmed links old ≡ slimmed links made
slim_again links made old (inl whole) = ap (slimmed links) whole
slim_again links made old (inr slim) = ap (slimmed links) slim ∙ law_slim_stays_slim links made

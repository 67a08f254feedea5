-- A dispatchable network without the lower bounds and waits that others imply.
use Rattle.std.specs.Prelude.{ℤ, ◌+ℤ◌, ◌==◌, ◌&&◌, ◌||◌, int_le, not, Bool, false, List, map, filter, slice_get}
use Rattle.std.specs.List.{list_any}
use Rattle.std.specs.Option.{option_map_or}
use Rattle.net_model.specs.declared.ids.PointId.{PointId}
use Rattle.net_model.specs.declared.ids.LinkId.{LinkId}
use Rattle.net_model.specs.declared.part.Link.{Link}
use Rattle.dispatch_net.specs.declared.dispatch.Conditions.{Conditions}
use Rattle.dispatch_net.specs.Dispatchable.{conditions_at}

-- a lower bound (Y, n) is implied by another (Z, m) of the same point over an executable point: Z has a lower bound (Y, k), and m + k are at least n (a
-- contingent point has none)
abbrev pub over_point : List Conditions → (bound other : PointId × ℤ) → Bool
over_point made bound other = list_any (λ (inner : PointId × ℤ). inner.0.0 == bound.0.0 && int_le bound.1 (other.1 +ℤ inner.1))
    (conditions_at made other.0).lower_bounds

-- or over a contingent point: Z is that of a link (Y, x, y, Z), and m + x are at least n
abbrev pub implied_over_link : List Link → (bound other : PointId × ℤ) → Bool
implied_over_link links bound other = list_any (λ (link : Link). link.to.0 == other.0.0 && (link.from.0 == bound.0.0 && int_le bound.1 (other.1 +ℤ link.low)))
    links

-- a lower bound is implied by another of the same point, over an executable or a contingent point
abbrev pub is_bound_implied : List Link → List Conditions → Conditions → PointId × ℤ → Bool
is_bound_implied links made conditions bound = list_any (λ other. over_point made bound other || implied_over_link links bound other) conditions.lower_bounds

-- a wait for a link (A, x, y, C) of n moments is implied by a lower bound (A, k), k at least n, or by any lower bound (C, m)
abbrev pub over_end : ℤ → (other : PointId × ℤ) → Link → Bool
over_end n other link = (other.0.0 == link.from.0 && int_le n other.1) || other.0.0 == link.to.0

-- or by a lower bound (Y, m) if Y has a wait for the same link of k moments, and m + k are at least n
abbrev pub over_wait : List Conditions → (wait : LinkId × ℤ) → (other : PointId × ℤ) → Bool
over_wait made wait other = list_any (λ (inner : LinkId × ℤ). inner.0.0 == wait.0.0 && int_le wait.1 (other.1 +ℤ inner.1)) (conditions_at made other.0).waits

-- a wait is implied by a lower bound of the same point, over an end of its link or over a wait for the same link
abbrev pub is_wait_implied : List Link → List Conditions → Conditions → LinkId × ℤ → Bool
is_wait_implied links made conditions wait =
    list_any (λ other. option_map_or (over_end wait.1 other) (slice_get links wait.0.0) false || over_wait made wait other) conditions.lower_bounds

-- what is kept of the lower bounds and waits of a point: those that no others imply, tested against what was made
abbrev pub slim_conditions : List Link → List Conditions → Conditions → Conditions
slim_conditions links made conditions = record {
  lower_bounds = filter (λ bound. not (is_bound_implied links made conditions bound)) conditions.lower_bounds;
  waits = filter (λ wait. not (is_wait_implied links made conditions wait)) conditions.waits;
}

-- slim lists: what is kept for each point
abbrev pub slimmed : List Link → List Conditions → List Conditions
slimmed links made = map (slim_conditions links made) made

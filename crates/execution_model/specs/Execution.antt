-- How a dispatchable network is executed, moment by moment: an executable point comes at the first moment that meets its lower bounds
-- and waits (waits: Morris, Muscettola and Vidal 2001). The completions of a moment are seen before its acts.
use Rattle.std.specs.Prelude.{ℕ, ℤ, zero, suc, ◌+◌, ◌==◌, ◌&&◌, ◌||◌, nat_le, unsigned_abs, Bool, false, List, [], ◌++◌, length, map, filter, find, Option}
use Rattle.std.specs.Prelude.{Some, is_some, is_none, slice_get, if◌then◌else◌}
use Rattle.std.specs.List.{list_all, range_with_len}
use Rattle.std.specs.Option.{option_map_or}
use Rattle.net_model.specs.Moments.{Moments, moment_of}
use Rattle.net_model.specs.declared.ids.PointId.{PointId}
use Rattle.net_model.specs.declared.ids.LinkId.{LinkId}
use Rattle.net_model.specs.declared.part.Link.{Link}
use Rattle.dispatch_net.specs.declared.dispatch.Conditions.{Conditions}
use Rattle.dispatch_net.specs.Dispatchable.{conditions_at}
use Rattle.execution_model.specs.declared.feed_answers.Act.{Act}

-- a point has a moment: it was executed, or has completed
abbrev pub has_come : Moments → PointId → Bool
has_come moments point = is_some (moment_of moments point)

-- by what a network is executed: its links, and the lower bounds and waits of each point
pub record Setting : Type 0 where
  pub links : List Link
  pub dispatch : List Conditions

-- the points, in order of number
abbrev pub points_of : Setting → List PointId
points_of setting = map (λ k. record { 0 = k }) (range_with_len 0 (length setting.dispatch))

-- the link that ends in a point
abbrev pub link_to : Setting → PointId → Option Link
link_to setting point = find (λ (link : Link). link.to.0 == point.0) setting.links

-- at t, n moments have passed since a point came
abbrev pub has_gone_by : Moments → (t : ℕ) → PointId → (n : ℤ) → Bool
has_gone_by moments t point n = option_map_or (λ moment. nat_le (moment + unsigned_abs n) t) (moment_of moments point) false

-- a lower bound is met at t: its moments have passed since its point came
abbrev pub meets_bound : Moments → (t : ℕ) → PointId × ℤ → Bool
meets_bound moments t bound = has_gone_by moments t bound.0 bound.1

-- a wait for a link is met at t: its activation point came, and its contingent point has completed, or the moments have passed since the activation point came
abbrev pub meets_wait_for : Moments → (t : ℕ) → ℤ → Link → Bool
meets_wait_for moments t n link = has_come moments link.from && (has_come moments link.to || has_gone_by moments t link.from n)

-- a wait is met at t: its activation point came, and its contingent point has completed, or its moments have passed since the activation
-- point came
abbrev pub meets_wait : Setting → Moments → (t : ℕ) → LinkId × ℤ → Bool
meets_wait setting moments t wait = option_map_or (meets_wait_for moments t wait.1) (slice_get setting.links wait.0.0) false

-- the lower bounds and waits are met at t
abbrev pub meets : Setting → Moments → (t : ℕ) → Conditions → Bool
meets setting moments t conditions = list_all (meets_bound moments t) conditions.lower_bounds && list_all (meets_wait setting moments t) conditions.waits

-- a point is to be executed at t: it is executable, was not executed yet, and its lower bounds and waits are met
abbrev pub is_due : Setting → Moments → (t : ℕ) → PointId → Bool
is_due setting moments t point = is_none (link_to setting point) && is_none (moment_of moments point) && meets setting moments t
    (conditions_at setting.dispatch point)

-- the acts of t, in order of the number of the point
abbrev pub acts_at : Setting → Moments → (t : ℕ) → List Act
acts_at setting moments t = map (λ point. record { moment = t; point = point }) (filter (is_due setting moments t) (points_of setting))

-- the moments after the acts of t
abbrev pub acted : Setting → Moments → (t : ℕ) → Moments
acted setting moments t = map (λ point. if is_due setting moments t point then Some t else moment_of moments point) (points_of setting)

-- the moments after so many moments of time without completions, from t on
abbrev pub time_runs : Setting → Moments → (t count : ℕ) → Moments
time_runs setting moments t zero = moments
time_runs setting moments t (suc count) = time_runs setting (acted setting moments t) (suc t) count

-- the acts of that time, by moment and then by number
abbrev pub acts_while : Setting → Moments → (t count : ℕ) → List Act
acts_while setting moments t zero = []
acts_while setting moments t (suc count) = acts_at setting moments t ++ acts_while setting (acted setting moments t) (suc t) count

-- From when on a point is due, by its lower bounds and waits.
use Rattle.std.proofs.Common.{◌≡◌, ◌∙◌, ℕ, ◌+◌, ◌<◌, Bool, max, false, true, Option, Some, None, leb, arith, refl, ap, List, [], length, get_or}
use Rattle.std.specs.Prelude.{ℤ, is_some, is_none, nat_le, unsigned_abs, ◌&&◌, ◌||◌}
use Rattle.std.specs.List.{list_all}
use Rattle.std.specs.Option.{option_map_or}
use Rattle.std.proofs.lemmas.Option.{slice_get-get_or}
use Rattle.net_model.specs.declared.ids.LinkId.{LinkId}
use Rattle.std.proofs.lemmas.Bool.Decides.{nat_tests}
use Rattle.net_model.specs.declared.ids.PointId.{PointId}
use Rattle.net_model.specs.declared.part.Link.{Link}
use Rattle.dispatch_net.specs.Dispatchable.{conditions_at}
use Rattle.dispatch_net.specs.declared.dispatch.Conditions.{Conditions}
use Rattle.net_model.specs.Moments.{Moments, moment_of}
use Rattle.execution_model.specs.Execution.{Setting, link_to, is_due, meets_bound, meets_wait_for, meets_wait}

leb_max : (a b t : ℕ) → (leb a t && leb b t) ≡ leb (max a b) t
leb_max a b t = grind (arith, nat_tests)

is_none-of : {X : Type 0} (x : Option X) → is_some x ≡ false → is_none x ≡ true
is_none-of None h = refl
is_none-of (Some x) h = cc

-- a wait for a link whose activation point has no moment, or has one; and then whose contingent point has one, or has none
module _ (links : List Link) (moments : Moments) (wait : LinkId × ℤ) (d : Link) (inside : wait.0.0 < length links) (t : ℕ) where
  abbrev its_link : Link
  its_link = get_or links wait.0.0 d

  abbrev by_ends : (from to : Option ℕ) → Bool
  by_ends from to = is_some from && (is_some to || option_map_or (λ moment. nat_le (moment + unsigned_abs wait.1) t) from false)

  by_its_link : meets_wait (record { links = links; dispatch = [] }) moments t wait ≡ by_ends (moment_of moments its_link.from) (moment_of moments its_link.to)
  by_its_link = ap (λ (o : Option Link). option_map_or (meets_wait_for moments t wait.1) o false) (slice_get-get_or links wait.0.0 d inside)

  pub wait_not_active : moment_of moments (get_or links wait.0.0 d).from ≡ None → meets_wait (record { links = links; dispatch = [] }) moments t wait ≡ false
  wait_not_active none = by_its_link ∙ ap (λ (o : Option ℕ). by_ends o (moment_of moments its_link.to)) none

  pub wait_ended : (activated : ℕ) → moment_of moments (get_or links wait.0.0 d).from ≡ Some activated → is_some (moment_of moments (get_or links wait.0.0 d).to) ≡ true
      → meets_wait (record { links = links; dispatch = [] }) moments t wait ≡ true
  wait_ended activated some has =
      by_its_link ∙ (ap (λ (o : Option ℕ). by_ends o (moment_of moments its_link.to)) some ∙ ap (λ (b : Bool). b || nat_le (activated + unsigned_abs wait.1) t) has)

  pub wait_goes_by : (activated : ℕ) → moment_of moments (get_or links wait.0.0 d).from ≡ Some activated → is_some (moment_of moments (get_or links wait.0.0 d).to) ≡ false
      → meets_wait (record { links = links; dispatch = [] }) moments t wait ≡ leb (activated + unsigned_abs wait.1) t
  wait_goes_by activated some has =
      by_its_link ∙ (ap (λ (o : Option ℕ). by_ends o (moment_of moments its_link.to)) some ∙ ap (λ (b : Bool). b || nat_le (activated + unsigned_abs wait.1) t) has)

-- an executable point that has not come, with its conditions, is due once its lower bounds and its waits are met
pub record MayBeDue (setting : Setting) (moments : Moments) (point : PointId) (links : List Link) (conditions : Conditions) : Type 0 where
  pub no_link : is_some (link_to setting point) ≡ false
  pub no_moment : is_some (moment_of moments point) ≡ false
  pub same_links : links ≡ setting.links
  pub bounds : conditions.lower_bounds ≡ (conditions_at setting.dispatch point).lower_bounds
  pub waits : conditions.waits ≡ (conditions_at setting.dispatch point).waits

module _ (setting : Setting) (moments : Moments) (point : PointId) (links : List Link) (conditions : Conditions) (may : MayBeDue setting moments point links conditions) where
  pub due_from_both : (b w : ℕ) → ((t : ℕ) → list_all (meets_bound moments t) conditions.lower_bounds ≡ leb b t)
      → ((t : ℕ) → list_all (meets_wait (record { links = links; dispatch = [] }) moments t) conditions.waits ≡ leb w t) → (t : ℕ) → is_due setting moments t point ≡ leb (max b w) t
  due_from_both b w bounds_from waits_from t =
      rw (is_none-of (link_to setting point) may.no_link, is_none-of (moment_of moments point) may.no_moment, ← may.bounds, ← may.waits, ← may.same_links, bounds_from t, waits_from t) (leb_max b w t)

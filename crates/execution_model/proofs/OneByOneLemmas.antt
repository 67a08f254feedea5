-- The acts of a moment may be made one by one.
use Rattle.std.proofs.Common.{◌≡◌, ◌≢◌, ◌⊎◌, ℕ, ◌+◌, ◌<◌, ◌≤◌, ℤ, pos, Bool, true, false, List, [], ◌∷◌, length, Option, Some, None, is_none, is_some, refl, ap, sym, subst, ◌∙◌, inl, inr, arith}
use Rattle.std.specs.Prelude.{◌&&◌, ◌||◌, ◌==◌, ◌<ℤ◌, nat_le, slice_get, unsigned_abs}
use Rattle.std.specs.List.{Contains, list_all}
use Rattle.std.specs.Option.{option_map_or}
use Rattle.std.proofs.lemmas.Bool.{cases_Bool, eqb-true}
use Rattle.std.proofs.lemmas.Bool.Decides.{nat_tests}
use Rattle.std.proofs.lemmas.Int.{ints}
use Rattle.std.proofs.lemmas.Option.{none-some, same_Some}
use Rattle.net_model.specs.declared.ids.PointId.{PointId}
use Rattle.net_model.specs.declared.ids.LinkId.{LinkId}
use Rattle.net_model.specs.declared.part.Link.{Link}
use Rattle.closure_model.proofs.Lists.{Contains-head, Contains-tail}
use Rattle.dispatch_net.specs.Dispatchable.{conditions_at}
use Rattle.net_model.specs.Moments.{Moments, moment_of}
use Rattle.execution_model.specs.Execution.{Setting, has_come, has_gone_by, link_to, meets_bound, meets_wait_for, meets_wait, meets, is_due}
use Rattle.execution_model.specs.Feeds.{completed_at}
use Rattle.execution_model.proofs.MomentLemmas.{due_parts, completed_keeps, moment_of_other, moment_completed}
use Rattle.execution_model.specs.Paced.{IsRankedNetwork, ArePaced, ActsComeOneByOne}
use Rattle.dispatch_net.proofs.SlimLists.{link_there}
use Rattle.execution_model.proofs.PacedLemmas.{meets_later}

pub all_alike : {X : Type 0} (p q : X → Bool) (xs : List X) → ((x : X) → Contains xs x → p x ≡ q x) → list_all p xs ≡ list_all q xs
all_alike p q [] each = refl
all_alike p q (x ∷ xs) each = λ i. each x (Contains-head x xs) i && all_alike p q xs (λ y among. each y (Contains-tail x xs y among)) i

size_above : (n : ℤ) → pos 0 <ℤ n → 1 ≤ unsigned_abs n
size_above n above = grind (arith, ints)

not_yet : (t n : ℕ) → 1 ≤ n → nat_le (t + n) t ≡ false
not_yet t n above = grind (arith, nat_tests)

no_moment : (o : Option ℕ) → ((m : ℕ) → o ≡ Some m → ⊥) → is_some o ≡ false
no_moment None never = refl
no_moment (Some m) never = absurd (never m refl)

module _ (setting : Setting) (rank : PointId → ℕ) (moments : Moments) (ranked : IsRankedNetwork setting rank) (paced : ArePaced setting moments) (long : length moments ≡ length setting.dispatch)
    (t : ℕ) (point : PointId) (inside : point.0 < length setting.dispatch) (due : is_due setting moments t point ≡ true) where
  abbrev after : Moments
  after = completed_at moments t point

  executable : link_to setting point ≡ None
  executable = (due_parts setting moments t point due).0

  new : moment_of moments point ≡ None
  new = (due_parts setting moments t point due).1

  same_number : (p : PointId) → p.0 == point.0 ≡ true → p ≡ point
  same_number p same = ap (λ (k : ℕ). record { 0 = k }) (eqb-true p.0 point.0 same)

  other_moment : (other : PointId) → other.0 == point.0 ≡ false → moment_of after other ≡ moment_of moments other
  other_moment other differs = moment_of_other moments t point other (apart other differs)
    where
      apart : (p : PointId) → p.0 == point.0 ≡ false → p.0 ≢ point.0
      apart p differs = grind (arith, nat_tests)

  now_at : (other : PointId) → other.0 == point.0 ≡ true → moment_of after other ≡ Some t
  now_at other same = ap (moment_of after) (same_number other same) ∙ moment_completed moments t point (omega (arith, inside, long))

  none_at : (other : PointId) → other.0 == point.0 ≡ true → moment_of moments other ≡ None
  none_at other same = ap (moment_of moments) (same_number other same) ∙ new

  gone_same : (other : PointId) (n : ℤ) → pos 0 <ℤ n → has_gone_by after t other n ≡ has_gone_by moments t other n
  gone_same other n above = by (other.0 == point.0) refl
    where
      by : (b : Bool) → other.0 == point.0 ≡ b → has_gone_by after t other n ≡ has_gone_by moments t other n
      by true same =
          ap (λ (o : Option ℕ). option_map_or (λ m. nat_le (m + unsigned_abs n) t) o false) (now_at other same)
          ∙ (not_yet t (unsigned_abs n) (size_above n above)
          ∙ sym (ap (λ (o : Option ℕ). option_map_or (λ m. nat_le (m + unsigned_abs n) t) o false) (none_at other same)))
      by false differs = ap (λ (o : Option ℕ). option_map_or (λ m. nat_le (m + unsigned_abs n) t) o false) (other_moment other differs)

  -- no link ends in the point
  ends_elsewhere : (link : Link) → Contains setting.links link → link.to.0 == point.0 ≡ false
  ends_elsewhere link among = by (link.to.0 == point.0) refl
    where
      by : (b : Bool) → link.to.0 == point.0 ≡ b → b ≡ false
      by false differs = refl
      by true same = absurd (none-some link (sym executable ∙ ap (link_to setting) (sym (same_number link.to same)) ∙ ranked.one_link link among))

  wait_for_same : (n : ℤ) (link : Link) → pos 0 <ℤ n → Contains setting.links link → meets_wait_for after t n link ≡ meets_wait_for moments t n link
  wait_for_same n link above among = by (link.from.0 == point.0) refl
    where
      to : moment_of after link.to ≡ moment_of moments link.to
      to = other_moment link.to (ends_elsewhere link among)

      by : (b : Bool) → link.from.0 == point.0 ≡ b → meets_wait_for after t n link ≡ meets_wait_for moments t n link
      by false differs = let from = other_moment link.from differs in λ i. is_some (from i) && (is_some (to i) || gone_same link.from n above i)
      by true same =
          let open_end : is_some (moment_of moments link.to) ≡ false = no_moment (moment_of moments link.to) (λ m is.
          let (a, a_is, late) = paced.completed link m among is in none-some a (sym (none_at link.from same) ∙ a_is)) in
          let gone : has_gone_by after t link.from n ≡ false = gone_same link.from n above ∙ ap (λ (o : Option ℕ). option_map_or (λ m. nat_le (m + unsigned_abs n) t) o false) (none_at link.from same) in
          let ends : is_some (moment_of after link.to) ≡ false = ap is_some to ∙ open_end in
          (λ i. is_some (now_at link.from same i) && (ends i || gone i))
          ∙ sym (ap (λ (o : Option ℕ). is_some o && (has_come moments link.to || has_gone_by moments t link.from n)) (none_at link.from same))

  wait_same : (wait : LinkId × ℤ) → pos 0 <ℤ wait.1 → meets_wait setting after t wait ≡ meets_wait setting moments t wait
  wait_same wait above = by (slice_get setting.links wait.0.0) refl
    where
      by : (o : Option Link) → slice_get setting.links wait.0.0 ≡ o → option_map_or (meets_wait_for after t wait.1) o false ≡ option_map_or (meets_wait_for moments t wait.1) o false
      by None declared = refl
      by (Some link) declared = wait_for_same wait.1 link above (link_there setting.links wait.0.0 link declared)

  others_same : (other : PointId) → other.0 ≢ point.0 → is_due setting after t other ≡ is_due setting moments t other
  others_same other apart =
      let lists = conditions_at setting.dispatch other in
      let its = moment_of_other moments t point other apart in
      let bounds = all_alike (meets_bound after t) (meets_bound moments t) lists.lower_bounds (λ bound among. gone_same bound.0 bound.1 (ranked.lists.bounds_positive other bound among)) in
      let waits = all_alike (meets_wait setting after t) (meets_wait setting moments t) lists.waits (λ wait among. wait_same wait (ranked.lists.waits_positive other wait among)) in
      λ i. is_none (link_to setting other) && is_none (its i) && (bounds i && waits i)

  keeps : (other : PointId) (m : ℕ) → moment_of moments other ≡ Some m → moment_of after other ≡ Some m
  keeps = completed_keeps moments t point new

  still_paced : ArePaced setting after
  still_paced = record { executed = λ p m is. executed p m is (cases_Bool (p.0 == point.0)); completed = completed }
    where
      executed : (p : PointId) (m : ℕ) → moment_of after p ≡ Some m → (p.0 == point.0 ≡ true) ⊎ (p.0 == point.0 ≡ false) → meets setting after m (conditions_at setting.dispatch p) ≡ true
      executed p m is (inl same) =
          let when : m ≡ t = same_Some m t (sym is ∙ now_at p same) in
          let met : meets setting moments t (conditions_at setting.dispatch p) ≡ true = subst (λ (q : PointId). meets setting moments t (conditions_at setting.dispatch q) ≡ true) (sym (same_number p same))
          (due_parts setting moments t point due).2 in
          subst (λ (u : ℕ). meets setting after u (conditions_at setting.dispatch p) ≡ true) (sym when) (meets_later setting moments after keeps t (conditions_at setting.dispatch p) met)
      executed p m is (inr differs) = meets_later setting moments after keeps m (conditions_at setting.dispatch p) (paced.executed p m (sym (other_moment p differs) ∙ is))

      completed : (link : Link) (m : ℕ) → Contains setting.links link → moment_of after link.to ≡ Some m → (a : ℕ) × (moment_of after link.from ≡ Some a) × (a + unsigned_abs link.low ≤ m)
      completed link m among is =
          let (a, a_is, late) = paced.completed link m among (sym (other_moment link.to (ends_elsewhere link among)) ∙ is) in
          (a, keeps link.from a a_is, late)

pub law_acts_come_one_by_one : ActsComeOneByOne
law_acts_come_one_by_one setting rank moments ranked paced long t point inside due =
    (others_same setting rank moments ranked paced long t point inside due, still_paced setting rank moments ranked paced long t point inside due)

-- How the plans of a fleet stand after a line of one of them.
use Rattle.std.proofs.Common.{◌≡◌, ◌≢◌, ℕ, zero, suc, ◌<◌, ◌≤◌, max, List, [], ◌∷◌, length, map, Option, Some, None, refl, sym, ap, ◌∙◌, subst, arith}
use Rattle.std.specs.Prelude.{slice_get, slice_set}
use Rattle.std.proofs.Math.Nat.{le-max_left, le-max_right, max-le}
use Rattle.std.specs.Option.{option_map}
use Rattle.std.proofs.lemmas.List.{length-map}
use Rattle.std.proofs.lemmas.Option.{slice_get-map}
use Rattle.net_model.specs.Network.{Plan}
use Rattle.plan_fleet.specs.FleetPlans.{FleetPlan}
use Rattle.multiplexed_commands.specs.Alone.{MemberState}
use Rattle.multiplexed_commands.specs.Merged.{Member}
use Rattle.event_phase.specs.EventRuns.{EventRun}
use Rattle.event_phase.specs.EventPhase.{answer_capacity}
use Rattle.fleet_command.specs.FleetStands.{ArePlaced, fleet_capacity, HaveCapacity, fleet_member_of, members_of, stands_at, slot_stands, stands_capacity}
use Rattle.fleet_command.specs.declared.entries.FleetSlot.{FleetSlot}
use Rattle.fleet_command.specs.declared.entries.FleetSlot.TheVariants.{Opened, Refused}
use Rattle.fleet_command.specs.declared.entries.FleetEntry.{FleetEntry}

-- ---- one of many changes
module _ (fleet after : List FleetPlan) where
  -- one stands as before
  abbrev IsSame : FleetEntry → Type 0
  IsSame entry = slot_stands after entry.slot ≡ slot_stands fleet entry.slot

  same_member : (entry : FleetEntry) → IsSame entry → fleet_member_of after entry ≡ fleet_member_of fleet entry
  same_member entry is = ap (λ (s : MemberState EventRun). record { name = entry.name; count = entry.count; stands = s }) is

  all_same : (entries : List FleetEntry) → ((at : ℕ) (entry : FleetEntry) → slice_get entries at ≡ Some entry → IsSame entry) → members_of after entries ≡ members_of fleet entries
  all_same [] same = refl
  all_same (entry ∷ entries) same =
      let head = same_member entry (same zero entry refl) in
      let tail = all_same entries (λ at one is. same (suc at) one is) in
      ap (λ (m : Member EventRun). m ∷ members_of after entries) head ∙ ap (λ (ms : List (Member EventRun)). fleet_member_of fleet entry ∷ ms) tail

  pub members_set : (entries : List FleetEntry) (place : ℕ) (old new : FleetEntry) → slice_get entries place ≡ Some old
      → ((at : ℕ) (entry : FleetEntry) → at ≢ place → slice_get entries at ≡ Some entry → IsSame entry)
      → members_of after (slice_set entries place new) ≡ slice_set (members_of fleet entries) place (fleet_member_of after new)
  members_set [] place old new is same = absurd (cc is)
  members_set (entry ∷ entries) zero old new is same =
      ap (λ (ms : List (Member EventRun)). fleet_member_of after new ∷ ms) (all_same entries (λ at one there. same (suc at) one (λ so. absurd (cc so)) there))
  members_set (entry ∷ entries) (suc place) old new is same =
      let head = same_member entry (same zero entry (λ so. absurd (cc so)) refl) in
      let tail = members_set entries place old new is (λ at one apart there. same (suc at) one (λ so. apart (let one_less : at ≡ place = cc so in one_less)) there) in
      ap (λ (m : Member EventRun). m ∷ members_of after (slice_set entries place new)) head ∙ ap (λ (ms : List (Member EventRun)). fleet_member_of fleet entry ∷ ms) tail

-- ---- the networks stay
abbrev net_of : FleetPlan → Plan
net_of plan = plan.net

module _ (fleet after : List FleetPlan) (nets : map net_of after ≡ map net_of fleet) where
  mapped : (place : ℕ) → option_map net_of (slice_get after place) ≡ option_map net_of (slice_get fleet place)
  mapped place = sym (slice_get-map net_of after place) ∙ (ap (λ (ns : List Plan). slice_get ns place) nets ∙ slice_get-map net_of fleet place)

  was_by : (plan : FleetPlan) (old : Option FleetPlan) → option_map net_of old ≡ Some (net_of plan) → (before : FleetPlan) × (old ≡ Some before) × (before.net ≡ plan.net)
  was_by plan None is = absurd (cc is)
  was_by plan (Some before) is = let same : before.net ≡ plan.net = cc is in (before, refl, same)

  -- a plan of it was one before, with the same network
  pub plan_was : (place : ℕ) (plan : FleetPlan) → slice_get after place ≡ Some plan → (before : FleetPlan) × (slice_get fleet place ≡ Some before) × (before.net ≡ plan.net)
  plan_was place plan is = was_by plan (slice_get fleet place) (sym (mapped place) ∙ ap (option_map net_of) is)

  pub counts_stay : length after ≡ length fleet
  counts_stay = sym (length-map after net_of) ∙ (ap length nets ∙ length-map fleet net_of)

  -- there is capacity still
  pub capacity_stays : (capacity more : ℕ) → capacity ≤ more → HaveCapacity fleet capacity → HaveCapacity after more
  capacity_stays capacity more grown spare_capacity place plan is =
      let (before, was, same) = plan_was place plan is in
      let enough = subst (λ (net : Plan). answer_capacity net ≤ capacity) same (spare_capacity place before was) in
      omega (arith, enough, grown)

-- ---- the entries
entry_was : (entries : List FleetEntry) (place at : ℕ) (old new entry : FleetEntry) → slice_get entries place ≡ Some old → new.slot ≡ old.slot → slice_get (slice_set entries place new) at ≡ Some entry
    → (before : FleetEntry) × (slice_get entries at ≡ Some before) × (before.slot ≡ entry.slot)
entry_was [] place at old new entry is slot there = absurd (cc is)
entry_was (one ∷ entries) zero zero old new entry is slot there =
    let first : one ≡ old = cc is in
    let same : new ≡ entry = cc there in
    (one, refl, ap (λ (e : FleetEntry). e.slot) first ∙ (sym slot ∙ ap (λ (e : FleetEntry). e.slot) same))
entry_was (one ∷ entries) zero (suc at) old new entry is slot there = (entry, there, refl)
entry_was (one ∷ entries) (suc place) zero old new entry is slot there = let same : one ≡ entry = cc there in (one, refl, ap (λ (e : FleetEntry). e.slot) same)
entry_was (one ∷ entries) (suc place) (suc at) old new entry is slot there = entry_was entries place at old new entry is slot there

pub placed_stays : (fleet after : List FleetPlan) (entries : List FleetEntry) (place : ℕ) (old new : FleetEntry) → ArePlaced fleet entries → map net_of after ≡ map net_of fleet
    → slice_get entries place ≡ Some old → new.slot ≡ old.slot → ArePlaced after (slice_set entries place new)
placed_stays fleet after entries place old new placed nets is slot = record {
  within = λ at where_at entry there opened.
      let (before, was, same) = entry_was entries place at old new entry is slot there in
      subst (λ (n : ℕ). where_at < n) (sym (counts_stay fleet after nets)) (placed.within at where_at before was (same ∙ opened));
  own = λ at other where_at entry one there also opened and.
      let (before, was, same) = entry_was entries place at old new entry is slot there in
      let (another, were, so) = entry_was entries place other old new one is slot also in
      placed.own at other where_at before another was were (same ∙ opened) (so ∙ and);
}

-- ---- the answer to one changes no other
module _ (fleet after : List FleetPlan) (entries : List FleetEntry) (place : ℕ) (old : FleetEntry) (placed : ArePlaced fleet entries) (is : slice_get entries place ≡ Some old)
    (others : (at : ℕ) → ¬ (old.slot ≡ Opened at) → slice_get after at ≡ slice_get fleet at) where
  same_by : (at : ℕ) (entry : FleetEntry) (slot : FleetSlot) → entry.slot ≡ slot → at ≢ place → slice_get entries at ≡ Some entry → slot_stands after slot ≡ slot_stands fleet slot
  same_by at entry (Refused why) so apart there = refl
  same_by at entry (Opened where_at) so apart there = ap stands_at (others where_at (λ also. apart (placed.own at place where_at entry old there is so also)))

  pub others_same : (at : ℕ) (entry : FleetEntry) → at ≢ place → slice_get entries at ≡ Some entry → slot_stands after entry.slot ≡ slot_stands fleet entry.slot
  others_same at entry apart there = same_by at entry entry.slot refl apart there

  pub members_after : (new : FleetEntry) → members_of after (slice_set entries place new) ≡ slice_set (members_of fleet entries) place (fleet_member_of after new)
  members_after new = members_set fleet after entries place old new is others_same

-- ---- the capacity of answers
pub capacity_of_one : (members : List (Member EventRun)) (place : ℕ) (member : Member EventRun) → slice_get members place ≡ Some member → stands_capacity member.stands ≤ fleet_capacity members
capacity_of_one [] place member is = absurd (cc is)
capacity_of_one (one ∷ members) zero member is =
    let same : one ≡ member = cc is in
    subst (λ (m : Member EventRun). stands_capacity m.stands ≤ fleet_capacity (one ∷ members)) same (le-max_left (stands_capacity one.stands) (fleet_capacity members))
capacity_of_one (one ∷ members) (suc place) member is =
    let here = capacity_of_one members place member is in
    let most = le-max_right (stands_capacity one.stands) (fleet_capacity members) in
    omega (arith, here, most)

max_most : (a b n : ℕ) → a ≤ n → b ≤ n → max a b ≤ n
max_most a b n first second = max-le first second

pub capacity_most : (members : List (Member EventRun)) (n : ℕ) → ((place : ℕ) (member : Member EventRun) → slice_get members place ≡ Some member → stands_capacity member.stands ≤ n) → fleet_capacity members ≤ n
capacity_most [] n all = omega arith
capacity_most (one ∷ members) n all =
    max_most (stands_capacity one.stands) (fleet_capacity members) n (all zero one refl) (capacity_most members n (λ place member is. all (suc place) member is))

-- if one of them needs no more than before, all do not
pub capacity_set : (members : List (Member EventRun)) (place : ℕ) (old new : Member EventRun) → slice_get members place ≡ Some old → stands_capacity new.stands ≤ stands_capacity old.stands
    → fleet_capacity (slice_set members place new) ≤ fleet_capacity members
capacity_set [] place old new is less = absurd (cc is)
capacity_set (one ∷ members) zero old new is less =
    let same : one ≡ old = cc is in
    let here = subst (λ (m : Member EventRun). stands_capacity new.stands ≤ stands_capacity m.stands) (sym same) less in
    let left = le-max_left (stands_capacity one.stands) (fleet_capacity members) in
    let right = le-max_right (stands_capacity one.stands) (fleet_capacity members) in
    max_most (stands_capacity new.stands) (fleet_capacity members) (fleet_capacity (one ∷ members)) (omega (arith, here, left)) right
capacity_set (one ∷ members) (suc place) old new is less =
    let tail = capacity_set members place old new is less in
    let left = le-max_left (stands_capacity one.stands) (fleet_capacity members) in
    let right = le-max_right (stands_capacity one.stands) (fleet_capacity members) in
    max_most (stands_capacity one.stands) (fleet_capacity (slice_set members place new)) (fleet_capacity (one ∷ members)) left (omega (arith, tail, right))

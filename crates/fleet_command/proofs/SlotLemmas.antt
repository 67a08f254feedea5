-- What the answer to a line of one plan changes of its fleet.
use Rattle.std.proofs.Common.{◌≡◌, ◌⊎◌, inl, inr, ◌<◌, ◌≤◌, ℕ, List, length, map, get_or, Some, None, refl, sym, ap, ◌∙◌, subst, arith}
use Rattle.std.specs.Prelude.{slice_get, slice_set}
use Rattle.std.specs.Option.{option_map}
use Rattle.std.proofs.lemmas.List.{length-map}
use Rattle.std.proofs.lemmas.Option.{slice_get-map, slice_get_cases}
use Rattle.closure_model.proofs.Slots.{map_set_kept}
use Rattle.multiplexed_commands.specs.Alone.{MemberState, SaysLineAlone}
use Rattle.multiplexed_commands.specs.Merged.{Member, after_own, own_number}
use Rattle.multiplexed_commands.specs.NamedLines.{named}
use Rattle.multiplexed_commands.proofs.ProjectionLemmas.{set_here, set_elsewhere}
use Rattle.event_phase.specs.EventRuns.{EventRun}
use Rattle.event_phase.specs.EventPhase.{executing_machine}
use Rattle.plan_fleet.specs.Fleets.{ChangesOne}
use Rattle.plan_fleet.specs.FleetPlans.{FleetPlan}
use Rattle.fleet_command.specs.FleetStands.{AnswersMember, ArePlaced, HasCapacityAt, HaveCapacity, SlotSays, SaysLine, fleet_capacity, fleet_member_of, members_of, stands_at, slot_stands, stands_of, stands_capacity}
use Rattle.fleet_command.specs.declared.entries.FleetEntry.{FleetEntry}
use Rattle.fleet_command.specs.declared.entries.FleetSlot.TheVariants.{Opened}
use Rattle.fleet_command.proofs.OwnLemmas.{says_capacity}
use Rattle.fleet_command.proofs.StandsLemmas.{members_after, placed_stays, capacity_of_one, capacity_set, capacity_stays}

-- ---- a plan that was opened
slot_here : (fleet : List FleetPlan) (place : ℕ) (plan : FleetPlan) → slice_get fleet place ≡ Some plan → slot_stands fleet (Opened place) ≡ stands_of plan
slot_here fleet place plan here = ap stands_at here

pub slot_opened : (fleet after : List FleetPlan) (place number : ℕ) (line said : List ℕ) → ChangesOne fleet place (SaysLine number line said) after → SlotSays fleet (Opened place) number line said after
slot_opened fleet after place number line said one =
    let there : slice_get after place ≡ Some one.new = ap (λ (f : List FleetPlan). slice_get f place) one.is ∙ set_here fleet place one.old one.new one.was in
    record {
      says =
          subst (λ (s : MemberState EventRun). SaysLineAlone executing_machine s number line said (slot_stands after (Opened place))) (sym (slot_here fleet place one.old one.was))
          (subst (λ (s : MemberState EventRun). SaysLineAlone executing_machine (stands_of one.old) number line said s) (sym (slot_here after place one.new there)) one.changes.says);
      nets = ap (λ (f : List FleetPlan). map (λ plan. plan.net) f) one.is ∙ map_set_kept (λ (plan : FleetPlan). plan.net) fleet place one.old one.new one.was one.changes.net;
      others = λ other apart. ap (λ (f : List FleetPlan). slice_get f other) one.is ∙ set_elsewhere fleet place other one.new (λ same. apart (ap Opened (sym same)));
    }

-- there is capacity for its answer
pub capacity_at : (fleet : List FleetPlan) (place capacity : ℕ) → place < length fleet → HaveCapacity fleet capacity → HasCapacityAt fleet place capacity
capacity_at fleet place capacity within all = by (slice_get_cases fleet place).1
  where
    by : ((x : FleetPlan) × (place < length fleet) × (slice_get fleet place ≡ Some x) × (get_or fleet place x ≡ x)) ⊎ ((length fleet ≤ place) × (slice_get fleet place ≡ None))
        → HasCapacityAt fleet place capacity
    by (inl (plan, inside, here, got)) = (plan, here, all place plan here)
    by (inr (past, none)) = absurd (omega (arith, within, past))

-- ---- a plan by its name
pub members_many : (fleet : List FleetPlan) (entries : List FleetEntry) → length (members_of fleet entries) ≡ length entries
members_many fleet entries = length-map entries (fleet_member_of fleet)

member_here : (fleet : List FleetPlan) (entries : List FleetEntry) (place : ℕ) (entry : FleetEntry) → slice_get entries place ≡ Some entry → slice_get (members_of fleet entries) place ≡ Some (fleet_member_of fleet entry)
member_here fleet entries place entry is = slice_get-map (fleet_member_of fleet) entries place ∙ ap (option_map (fleet_member_of fleet)) is

module _ (fleet after : List FleetPlan) (entries : List FleetEntry) (place number count : ℕ) (line said put : List ℕ) (entry : FleetEntry) (placed : ArePlaced fleet entries) (is : slice_get entries place ≡ Some entry)
    (own : count ≡ own_number entry.count number) (slot : SlotSays fleet entry.slot count line said after) (puts : put ≡ named entry.name said) where
  abbrev counted : FleetEntry
  counted = record { name = entry.name; slot = entry.slot; count = count }

  abbrev entries_after : List FleetEntry
  entries_after = slice_set entries place counted

  members_so : members_of after entries_after ≡ slice_set (members_of fleet entries) place (after_own (fleet_member_of fleet entry) number (slot_stands after entry.slot))
  members_so =
      members_after fleet after entries place entry placed is slot.others counted
      ∙ ap (λ (n : ℕ). slice_set (members_of fleet entries) place (record { name = entry.name; count = n; stands = slot_stands after entry.slot })) own

  pub answers_member : AnswersMember (members_of fleet entries) place number line put (members_of after entries_after)
  answers_member = record {
    member = fleet_member_of fleet entry;
    here = member_here fleet entries place entry is;
    said = said;
    stands = slot_stands after entry.slot;
    says = subst (λ (n : ℕ). SaysLineAlone executing_machine (slot_stands fleet entry.slot) n line said (slot_stands after entry.slot)) own slot.says;
    puts = puts;
    is = members_so;
  }

  pub placed_after : ArePlaced after entries_after
  placed_after = placed_stays fleet after entries place entry counted placed slot.nets is refl

  pub capacity_after : (capacity more : ℕ) → capacity ≤ more → HaveCapacity fleet capacity → HaveCapacity after more
  capacity_after capacity more grown spare_capacity = capacity_stays fleet after slot.nets capacity more grown spare_capacity

  pub answers_fit : fleet_capacity (members_of after entries_after) ≤ fleet_capacity (members_of fleet entries)
  answers_fit =
      subst (λ (ms : List (Member EventRun)). fleet_capacity ms ≤ fleet_capacity (members_of fleet entries)) (sym members_so)
      (capacity_set (members_of fleet entries) place (fleet_member_of fleet entry) (after_own (fleet_member_of fleet entry) number (slot_stands after entry.slot)) (member_here fleet entries place entry is)
      (says_capacity (slot_stands fleet entry.slot) (slot_stands after entry.slot) count line said slot.says))

pub capacity_here : (fleet : List FleetPlan) (entries : List FleetEntry) (place : ℕ) (entry : FleetEntry) → slice_get entries place ≡ Some entry → stands_capacity (slot_stands fleet entry.slot) ≤ fleet_capacity (members_of fleet entries)
capacity_here fleet entries place entry is = capacity_of_one (members_of fleet entries) place (fleet_member_of fleet entry) (member_here fleet entries place entry is)

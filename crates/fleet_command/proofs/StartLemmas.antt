-- How the plans of a fleet begin: those that are opened have places of their own, and what is put of each is how it begins.
use Rattle.std.proofs.Common.{◌≡◌, inl, inr, ℕ, zero, suc, ◌+◌, ◌*◌, ◌<◌, ◌≤◌, List, [], ◌∷◌, ◌++◌, length, take, get_or, Option, Some, None, refl, sym, ap, ◌∙◌, subst, arith, append_assoc, append-nil, length-append}
use Rattle.std.specs.Prelude.{slice_get}
use Rattle.std.specs.Iterator.{Yields}
use Rattle.std.specs.Vec.Iter.{into_iter_items, into_iter_steps}
use Rattle.std.specs.declared.vec.IntoIter.{IntoIter}
use Rattle.std.proofs.lemmas.List.{length-map}
use Rattle.std.proofs.Math.Nat.{max-le}
use Rattle.std.proofs.Math.Seq.{take-suc}
use Rattle.net_model.specs.Network.{Plan}
use Rattle.net_model.specs.ShownForm.{shown_form}
use Rattle.net_model.specs.declared.fault.BuildFault.{BuildFault}
use Rattle.execution_model.specs.Feeds.{started}
use Rattle.execution_model.specs.Laws.{setting_of}
use Rattle.command_engine.specs.declared.machines.Flow.TheVariants.{Continue}
use Rattle.event_phase.specs.EventRuns.{EventRun, event_run_of}
use Rattle.multiplexed_commands.specs.Alone.{MemberState, Runs}
use Rattle.multiplexed_commands.specs.Starts.{Start, starting_members, starts_put}
use Rattle.multiplexed_commands.specs.Merged.{Member}
use Rattle.multiplexed_commands.specs.NamedLines.{named}
use Rattle.plan_fleet.specs.FleetPlans.{FleetPlan, IsRunningAtFirst, OpensTo}
use Rattle.plan_fleet.specs.Fleets.{AreOpened}
use Rattle.plan_fleet.specs.FleetStart.{nets_given}
use Rattle.plan_fleet.specs.declared.plan_execution.PlanExecution.{PlanExecution}
use Rattle.plan_fleet.specs.declared.plan_execution.PlanExecution.TheVariants.{NotControllable, Running, Complete, Ended}
use Rattle.fleet_command.specs.PlanDivision.{BeginsAll, SlotBegins, fleet_entries_of, fleet_entry_of, HaveAtMost, nets_in, SaysStart}
use Rattle.fleet_command.specs.FleetCommand.{BeginEach, BeginsFleet, BeginsPlan, BeginsRunning}
use Rattle.fleet_command.specs.FleetStands.{ArePlaced, HaveCapacity, fleet_capacity, members_of, most_named, stands_at, stands_by, slot_stands, stands_of, stands_capacity}
use Rattle.fleet_command.specs.FleetText.{Plans}
use Rattle.fleet_command.specs.declared.entries.FleetEntry.{FleetEntry}
use Rattle.fleet_command.specs.declared.entries.FleetSlot.{FleetSlot}
use Rattle.fleet_command.specs.declared.entries.FleetSlot.TheVariants.{Opened, Refused as SlotRefused}
use Rattle.fleet_command.specs.declared.plan_or_refusal.PlanOrRefusal.{PlanOrRefusal}
use Rattle.fleet_command.specs.declared.plan_or_refusal.PlanOrRefusal.TheVariants.{Network, Refused}
use Rattle.fleet_command.proofs.ReportedLineLemmas.{runs_so}

-- ---- one more plan
pub nets_more : (plans : Plans) (plan : List ℕ × PlanOrRefusal) → nets_in (plans ++ plan ∷ []) ≡ nets_in plans ++ nets_in (plan ∷ [])
nets_more [] plan = refl
nets_more ((name, Network net) ∷ plans) plan = ap (λ (nets : List (List ℕ × Plan)). (name, net) ∷ nets) (nets_more plans plan)
nets_more ((name, Refused why) ∷ plans) plan = nets_more plans plan

pub entries_more : (plans : Plans) (k : ℕ) (plan : List ℕ × PlanOrRefusal) → fleet_entries_of k (plans ++ plan ∷ []) ≡ fleet_entries_of k plans ++ fleet_entries_of (k + length (nets_in plans)) (plan ∷ [])
entries_more [] k plan =
    let same : k ≡ k + 0 = omega arith in
    ap (λ (n : ℕ). fleet_entries_of n (plan ∷ [])) same
entries_more ((name, Network net) ∷ plans) k plan =
    let same : k + 1 + length (nets_in plans) ≡ k + length (nets_in ((name, Network net) ∷ plans)) = omega arith in
    ap (λ (es : List FleetEntry). fleet_entry_of name (Opened k) ∷ es)
    (entries_more plans (k + 1) plan ∙ ap (λ (n : ℕ). fleet_entries_of (k + 1) plans ++ fleet_entries_of n (plan ∷ [])) same)
entries_more ((name, Refused why) ∷ plans) k plan = ap (λ (es : List FleetEntry). fleet_entry_of name (SlotRefused why) ∷ es) (entries_more plans k plan)

-- ---- their places
opened_place : (k place : ℕ) (name : List ℕ) (entry : FleetEntry) → fleet_entry_of name (Opened k) ≡ entry → entry.slot ≡ Opened place → k ≡ place
opened_place k place name entry same slot = let one : Opened k ≡ Opened place = ap (λ (e : FleetEntry). e.slot) same ∙ slot in cc one

not_opened : (why : BuildFault) (place : ℕ) (name : List ℕ) (entry : FleetEntry) → fleet_entry_of name (SlotRefused why) ≡ entry → entry.slot ≡ Opened place → ⊥
not_opened why place name entry same slot = let wrong : SlotRefused why ≡ Opened place = ap (λ (e : FleetEntry). e.slot) same ∙ slot in absurd (cc wrong)

pub places : (plans : Plans) (k at place : ℕ) (entry : FleetEntry) → slice_get (fleet_entries_of k plans) at ≡ Some entry → entry.slot ≡ Opened place → (k ≤ place) × (place < k + length (nets_in plans))
places [] k at place entry is slot = absurd (cc is)
places ((name, Network net) ∷ plans) k zero place entry is slot =
    let same : fleet_entry_of name (Opened k) ≡ entry = cc is in
    let here = opened_place k place name entry same slot in
    (omega (arith, here), omega (arith, here))
places ((name, Network net) ∷ plans) k (suc at) place entry is slot =
    let (least, most) = places plans (k + 1) at place entry is slot in
    (omega (arith, least), omega (arith, most))
places ((name, Refused why) ∷ plans) k zero place entry is slot = let same : fleet_entry_of name (SlotRefused why) ≡ entry = cc is in absurd (not_opened why place name entry same slot)
places ((name, Refused why) ∷ plans) k (suc at) place entry is slot = places plans k at place entry is slot

own_places : (plans : Plans) (k at other place : ℕ) (entry one : FleetEntry) → slice_get (fleet_entries_of k plans) at ≡ Some entry → slice_get (fleet_entries_of k plans) other ≡ Some one
    → entry.slot ≡ Opened place → one.slot ≡ Opened place → at ≡ other
own_places [] k at other place entry one is also slot and = absurd (cc is)
own_places ((name, Network net) ∷ plans) k zero zero place entry one is also slot and = refl
own_places ((name, Network net) ∷ plans) k zero (suc other) place entry one is also slot and =
    let same : fleet_entry_of name (Opened k) ≡ entry = cc is in
    let here = opened_place k place name entry same slot in
    let later = (places plans (k + 1) other place one also and).0 in
    absurd (omega (arith, here, later))
own_places ((name, Network net) ∷ plans) k (suc at) zero place entry one is also slot and =
    let same : fleet_entry_of name (Opened k) ≡ one = cc also in
    let here = opened_place k place name one same and in
    let later = (places plans (k + 1) at place entry is slot).0 in
    absurd (omega (arith, here, later))
own_places ((name, Network net) ∷ plans) k (suc at) (suc other) place entry one is also slot and = ap suc (own_places plans (k + 1) at other place entry one is also slot and)
own_places ((name, Refused why) ∷ plans) k zero other place entry one is also slot and =
    let same : fleet_entry_of name (SlotRefused why) ≡ entry = cc is in
    absurd (not_opened why place name entry same slot)
own_places ((name, Refused why) ∷ plans) k (suc at) zero place entry one is also slot and =
    let same : fleet_entry_of name (SlotRefused why) ≡ one = cc also in
    absurd (not_opened why place name one same and)
own_places ((name, Refused why) ∷ plans) k (suc at) (suc other) place entry one is also slot and = ap suc (own_places plans k at other place entry one is also slot and)

given_many : (plans : Plans) → length (nets_given (nets_in plans)) ≡ length (nets_in plans)
given_many plans = length-map (nets_in plans) (λ (plan : List ℕ × Plan). plan.1)

pub are_placed : (plans : Plans) (fleet : List FleetPlan) → length fleet ≡ length (nets_given (nets_in plans)) → ArePlaced fleet (fleet_entries_of 0 plans)
are_placed plans fleet count = record {
  within = λ at place entry is slot.
      let most = (places plans 0 at place entry is slot).1 in
      let many = given_many plans in
      omega (arith, most, many, count);
  own = own_places plans 0;
}

-- ---- what is put of one more
pub begins_more : (fleet : List FleetPlan) (entries : List FleetEntry) (put said : List ℕ) (entry : FleetEntry) → BeginsAll fleet entries put → SlotBegins fleet entry.slot said
    → BeginsAll fleet (entries ++ entry ∷ []) (put ++ named entry.name said)
begins_more fleet [] put said entry nothing begins =
    (said, [], begins, ap (λ (p : List ℕ). p ++ named entry.name said) nothing ∙ sym (append-nil (named entry.name said)), refl)
begins_more fleet (one ∷ entries) put said entry (its, more, slot, all, rest) begins = (
  its,
  more ++ named entry.name said,
  slot,
  ap (λ (p : List ℕ). p ++ named entry.name said) all ∙ append_assoc (named one.name its) more (named entry.name said),
  begins_more fleet entries more said entry rest begins,
)

-- ---- how they begin
-- the networks are opened from this place on
abbrev OpenFrom : ℕ → List FleetPlan → List (List ℕ × Plan) → Type 0
OpenFrom k fleet nets = (place : ℕ) (net : Plan) → slice_get (nets_given nets) place ≡ Some net → (member : FleetPlan) × (slice_get fleet (k + place) ≡ Some member) × OpensTo net member

begins_running : (net : Plan) (member : FleetPlan) (said : List ℕ) (name : List ℕ) → member.net ≡ net → IsRunningAtFirst net member → SaysStart member.execution said
    → BeginsRunning net (record { name = name; said = said; stands = stands_of member })
begins_running net member said name is runs says =
    let (due, first, put) = subst (λ (e : PlanExecution). SaysStart e said) runs.runs says in
    record {
      event_run = event_run_of (shown_form net) (started (setting_of (shown_form net) runs.table));
      begins = record {
        table = runs.table;
        order = runs.order;
        by_closure = runs.by_closure;
        due = due;
        first = first;
        put = put;
        goes = refl;
      };
      stands = runs_so member (started (setting_of (shown_form net) runs.table)) runs.runs
          ∙ ap (λ (n : Plan). Runs (event_run_of (shown_form n) (started (setting_of (shown_form net) runs.table)))) is;
    }

begins_plan : (net : Plan) (member : FleetPlan) (said : List ℕ) (name : List ℕ) → OpensTo net member → SaysStart member.execution said → BeginsPlan (Network net) (record { name = name; said = said; stands = stands_of member })
begins_plan net member said name (is, inl runs) says = inl (runs.controllable, begins_running net member said name is runs says)
begins_plan net member said name (is, inr refuted) says =
    inr (
      refuted.never,
      record {
        said = subst (λ (e : PlanExecution). SaysStart e said) refuted.stands says;
        stands = ap (λ (e : PlanExecution). stands_by member.net e) refuted.stands;
      },
    )

record StartedFleet (plans : Plans) (fleet : List FleetPlan) (k : ℕ) (put : List ℕ) : Type 0 where
  starts : List (Start EventRun)
  each : BeginEach plans starts
  all : put ≡ starts_put starts
  members : starting_members starts ≡ members_of fleet (fleet_entries_of k plans)

begins_once : (fleet : List FleetPlan) (plans : Plans) (name : List ℕ) (plan_or_refusal : PlanOrRefusal) (k next : ℕ) (slot : FleetSlot) (put said more : List ℕ) → (entries : List FleetEntry)
    → entries ≡ fleet_entry_of name slot ∷ fleet_entries_of next plans
    → BeginsPlan plan_or_refusal (record { name = name; said = said; stands = slot_stands fleet slot }) → put ≡ named name said ++ more → (later : StartedFleet plans fleet next more)
    → fleet_entries_of k ((name, plan_or_refusal) ∷ plans) ≡ entries
    → StartedFleet ((name, plan_or_refusal) ∷ plans) fleet k put
begins_once fleet plans name plan_or_refusal k next slot put said more entries is begins all later whole = record {
  starts = record { name = name; said = said; stands = slot_stands fleet slot } ∷ later.starts;
  each = (refl, begins, later.each);
  all = all ∙ ap (λ (m : List ℕ). named name said ++ m) later.all;
  members = ap (λ (ms : List (Member EventRun)). record { name = name; count = 0; stands = slot_stands fleet slot } ∷ ms) later.members ∙ ap (members_of fleet) (sym (whole ∙ is));
}

start_each : (plans : Plans) (k : ℕ) (fleet : List FleetPlan) (put : List ℕ) → OpenFrom k fleet (nets_in plans) → BeginsAll fleet (fleet_entries_of k plans) put → StartedFleet plans fleet k put
start_each [] k fleet put opened nothing = record { starts = []; each = tt; all = nothing; members = refl }
start_each ((name, Network net) ∷ plans) k fleet put opened (said, more, (plan, here, says), all, rest) =
    let (member, there, opens) = opened zero net refl in
    let at_k : k + 0 ≡ k = omega arith in
    let same : plan ≡ member = cc (sym here ∙ (sym (ap (slice_get fleet) at_k) ∙ there)) in
    let begins = begins_plan net plan said name (subst (OpensTo net) (sym same) opens) says in
    let next : OpenFrom (k + 1) fleet (nets_in plans) = λ place one is.
    let (another, its, so) = opened (suc place) one is in
    let moved : k + suc place ≡ k + 1 + place = omega arith in
    (another, subst (λ (n : ℕ). slice_get fleet n ≡ Some another) moved its, so) in
    begins_once fleet plans name (Network net) k (k + 1) (Opened k) put said more (fleet_entries_of k ((name, Network net) ∷ plans)) refl
    (subst (λ (s : MemberState EventRun). BeginsPlan (Network net) (record { name = name; said = said; stands = s })) (sym (ap stands_at here)) begins) all (start_each plans (k + 1) fleet more next rest) refl
start_each ((name, Refused why) ∷ plans) k fleet put opened (said, more, is, all, rest) =
    begins_once fleet plans name (Refused why) k k (SlotRefused why) put said more (fleet_entries_of k ((name, Refused why) ∷ plans)) refl
    (record { said = is; stands = refl }) all (start_each plans k fleet more opened rest) refl

pub begins_fleet : (plans : Plans) (fleet : List FleetPlan) (put : List ℕ) → AreOpened (nets_given (nets_in plans)) fleet → BeginsAll fleet (fleet_entries_of 0 plans) put
    → BeginsFleet plans put (Continue (members_of fleet (fleet_entries_of 0 plans)))
begins_fleet plans fleet put opened begins =
    let from_first : OpenFrom 0 fleet (nets_in plans) = λ place net is.
    let (member, there, opens) = opened.each place net is in
    let moved : place ≡ 0 + place = omega arith in
    (member, subst (λ (n : ℕ). slice_get fleet n ≡ Some member) moved there, opens) in
    let one = start_each plans 0 fleet put from_first begins in
    record { starts = one.starts; each = one.each; put = one.all; goes = sym (ap (λ (ms : List (Member EventRun)). Continue ms) one.members) }

-- ---- the capacity
pub have_capacity : (fleet : List FleetPlan) (most capacity : ℕ) → HaveAtMost most fleet → 64 * most + 256 ≤ capacity → HaveCapacity fleet capacity
have_capacity fleet most capacity all enough place plan is = let few = all place plan is in omega (arith, few, enough)

capacity_by : (fleet : List FleetPlan) (most : ℕ) (plan : FleetPlan) → length plan.net.points ≤ most → (execution : PlanExecution) → stands_capacity (stands_by plan.net execution) ≤ most_named * (64 * most + 256) + 1
capacity_by fleet most plan few (Running execution) = omega (arith, few)
capacity_by fleet most plan few NotControllable = omega arith
capacity_by fleet most plan few (Complete execution) = omega arith
capacity_by fleet most plan few (Ended execution) = omega arith

capacity_at : (fleet : List FleetPlan) (most : ℕ) (found : Option FleetPlan) → ((plan : FleetPlan) → found ≡ Some plan → length plan.net.points ≤ most) → stands_capacity (stands_at found) ≤ most_named * (64 * most + 256) + 1
capacity_at fleet most (Some plan) few = capacity_by fleet most plan (few plan refl) plan.execution
capacity_at fleet most None few = omega arith

pub slot_capacity : (fleet : List FleetPlan) (most : ℕ) (slot : FleetSlot) → HaveAtMost most fleet → stands_capacity (slot_stands fleet slot) ≤ most_named * (64 * most + 256) + 1
slot_capacity fleet most (Opened place) all = capacity_at fleet most (slice_get fleet place) (λ plan is. all place plan is)
slot_capacity fleet most (SlotRefused why) all = omega arith

-- ---- plans divided one by one
-- what the iterator of a vector has given is a prefix of its items
taken_prefix : {X A : Type 0} (s : IntoIter X A) (xs : List X) (t : IntoIter X A) → Yields into_iter_steps s xs t → into_iter_items s ≡ xs ++ into_iter_items t
taken_prefix s [] t y = ap into_iter_items y
taken_prefix s (x ∷ xs) t y = y.1.0 ∙ ap (λ ys. x ∷ ys) (taken_prefix y.0 xs t y.2)

pub nets_few : (plans : Plans) → length (nets_in plans) ≤ length plans
nets_few [] = omega arith
nets_few ((name, Network net) ∷ plans) = let few = nets_few plans in omega (arith, few)
nets_few ((name, Refused why) ∷ plans) = let few = nets_few plans in omega (arith, few)

pub few_given : {A : Type 0} (s : IntoIter (List ℕ × PlanOrRefusal) A) (plans all : Plans) (t : IntoIter (List ℕ × PlanOrRefusal) A) → into_iter_items s ≡ all → Yields into_iter_steps s plans t → length (nets_in plans) ≤ length all
few_given s plans all t is given =
    let prefix = ap length (sym is ∙ taken_prefix s plans t given) in
    let long = length-append plans (into_iter_items t) in
    let few = nets_few plans in
    omega (arith, prefix, long, few)

refused_entry : (plan : List ℕ × PlanOrRefusal) (why : BuildFault) (k : ℕ) → plan.1 ≡ Refused why → fleet_entries_of k (plan ∷ []) ≡ fleet_entry_of plan.0 (SlotRefused why) ∷ []
refused_entry (name, plan_or_refusal) why k is = ap (λ (p : PlanOrRefusal). fleet_entries_of k ((name, p) ∷ [])) is

refused_net : (plan : List ℕ × PlanOrRefusal) (why : BuildFault) → plan.1 ≡ Refused why → nets_in (plan ∷ []) ≡ []
refused_net (name, plan_or_refusal) why is = ap (λ (p : PlanOrRefusal). nets_in ((name, p) ∷ [])) is

opened_entry : (plan : List ℕ × PlanOrRefusal) (net : Plan) (k : ℕ) → plan.1 ≡ Network net → fleet_entries_of k (plan ∷ []) ≡ fleet_entry_of plan.0 (Opened k) ∷ []
opened_entry (name, plan_or_refusal) net k is = ap (λ (p : PlanOrRefusal). fleet_entries_of k ((name, p) ∷ [])) is

opened_net : (plan : List ℕ × PlanOrRefusal) (net : Plan) → plan.1 ≡ Network net → nets_in (plan ∷ []) ≡ (plan.0, net) ∷ []
opened_net (name, plan_or_refusal) net is = ap (λ (p : PlanOrRefusal). nets_in ((name, p) ∷ [])) is

from_none : (plans : Plans) → 0 + length (nets_in plans) ≡ length (nets_in plans)
from_none plans = omega arith

pub refused_more : (plans : Plans) (plan : List ℕ × PlanOrRefusal) (why : BuildFault) → plan.1 ≡ Refused why
    → (fleet_entries_of 0 (plans ++ plan ∷ []) ≡ fleet_entries_of 0 plans ++ fleet_entry_of plan.0 (SlotRefused why) ∷ []) × (nets_in (plans ++ plan ∷ []) ≡ nets_in plans)
refused_more plans plan why is = (
  entries_more plans 0 plan ∙ ap (λ (es : List FleetEntry). fleet_entries_of 0 plans ++ es) (ap (λ (n : ℕ). fleet_entries_of n (plan ∷ [])) (from_none plans) ∙ refused_entry plan why (length (nets_in plans)) is),
  nets_more plans plan ∙ (ap (λ (ns : List (List ℕ × Plan)). nets_in plans ++ ns) (refused_net plan why is) ∙ append-nil (nets_in plans)),
)

pub opened_more : (plans : Plans) (plan : List ℕ × PlanOrRefusal) (net : Plan) → plan.1 ≡ Network net
    → (fleet_entries_of 0 (plans ++ plan ∷ []) ≡ fleet_entries_of 0 plans ++ fleet_entry_of plan.0 (Opened (length (nets_in plans))) ∷ []) × (nets_in (plans ++ plan ∷ []) ≡ nets_in plans ++ (plan.0, net) ∷ [])
opened_more plans plan net is = (
  entries_more plans 0 plan ∙ ap (λ (es : List FleetEntry). fleet_entries_of 0 plans ++ es) (ap (λ (n : ℕ). fleet_entries_of n (plan ∷ [])) (from_none plans) ∙ opened_entry plan net (length (nets_in plans)) is),
  nets_more plans plan ∙ ap (λ (ns : List (List ℕ × Plan)). nets_in plans ++ ns) (opened_net plan net is),
)

-- ---- what `begin` makes
pub opened_so : (plans : Plans) (nets : List (List ℕ × Plan)) (fleet : List FleetPlan) → nets ≡ nets_in plans → AreOpened (nets_given nets) fleet → AreOpened (nets_given (nets_in plans)) fleet
opened_so plans nets fleet is opened = subst (λ (ns : List (List ℕ × Plan)). AreOpened (nets_given ns) fleet) is opened

pub placed_so : (plans : Plans) (nets : List (List ℕ × Plan)) (entries : List FleetEntry) (fleet : List FleetPlan) → nets ≡ nets_in plans → entries ≡ fleet_entries_of 0 plans → AreOpened (nets_given nets) fleet → ArePlaced fleet entries
placed_so plans nets entries fleet nets_are entries_are opened =
    subst (ArePlaced fleet) (sym entries_are) (are_placed plans fleet (opened_so plans nets fleet nets_are opened).count)

pub start_so : (plans value : Plans) (nets : List (List ℕ × Plan)) (entries listed : List FleetEntry) (fleet : List FleetPlan) (put text : List ℕ) → plans ≡ value → nets ≡ nets_in plans → entries ≡ fleet_entries_of 0 plans
    → listed ≡ entries
    → text ≡ put → AreOpened (nets_given nets) fleet → BeginsAll fleet listed put → BeginsFleet value text (Continue (members_of fleet entries))
start_so plans value nets entries listed fleet put text is nets_are entries_are listed_are same opened begins =
    let all : BeginsAll fleet (fleet_entries_of 0 plans) put = subst (λ (es : List FleetEntry). BeginsAll fleet es put) (listed_are ∙ entries_are) begins in
    let one = begins_fleet plans fleet put (opened_so plans nets fleet nets_are opened) all in
    let of_entries : BeginsFleet plans put (Continue (members_of fleet entries)) = subst (λ (es : List FleetEntry). BeginsFleet plans put (Continue (members_of fleet es))) (sym entries_are) one in
    let of_value : BeginsFleet value put (Continue (members_of fleet entries)) = subst (λ (ps : Plans). BeginsFleet ps put (Continue (members_of fleet entries))) is of_entries in
    subst (λ (t : List ℕ). BeginsFleet value t (Continue (members_of fleet entries))) (sym same) of_value

pub fleet_fits : (fleet : List FleetPlan) (entries : List FleetEntry) (most : ℕ) → HaveAtMost most fleet → fleet_capacity (members_of fleet entries) ≤ most_named * (64 * most + 256) + 1
fleet_fits fleet [] most all = omega arith
fleet_fits fleet (entry ∷ entries) most all = max-le (slot_capacity fleet most entry.slot all) (fleet_fits fleet entries most all)

-- ---- the next one of all
pub begins_on : (fleet : List FleetPlan) (entries : List FleetEntry) (i : ℕ) (entry : FleetEntry) (put said name bytes new : List ℕ) → i < length entries → entry ≡ get_or entries i entry → BeginsAll fleet (take i entries) put
    → SlotBegins fleet entry.slot said
    → name ≡ entry.name → bytes ≡ said → new ≡ put ++ named name bytes → BeginsAll fleet (take (i + 1) entries) new
begins_on fleet entries i entry put said name bytes new within is before begins of_name of_said all =
    let next : i + 1 ≡ suc i = omega arith in
    let step : take (i + 1) entries ≡ take i entries ++ entry ∷ [] =
    ap (λ (n : ℕ). take n entries) next ∙ (take-suc entries i entry within ∙ ap (λ (e : FleetEntry). take i entries ++ e ∷ []) (sym is)) in
    let text : new ≡ put ++ named entry.name said = all ∙ (ap (λ (n : List ℕ). put ++ named n bytes) of_name ∙ ap (λ (b : List ℕ). put ++ named entry.name b) of_said) in
    subst (λ (es : List FleetEntry). BeginsAll fleet es new) (sym step) (subst (BeginsAll fleet (take i entries ++ entry ∷ [])) (sym text) (begins_more fleet (take i entries) put said entry before begins))

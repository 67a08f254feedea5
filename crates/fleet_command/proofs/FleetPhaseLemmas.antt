-- What a line of a fleet is answered, by its words and the plan that it names.
use Rattle.std.proofs.Common.{◌≡◌, ◌≢◌, ◌⊎◌, inl, inr, ℕ, ◌+◌, ◌<◌, ◌≤◌, Bool, true, false, List, [], ◌∷◌, length, Option, Some, None, refl, sym, ap, ◌∙◌, subst, arith}
use Rattle.std.specs.Prelude.{codes, slice_get, MatchOption, is_none}
use Rattle.std.specs.Option.{option_map}
use Rattle.std.specs.Str.{bytes_eq}
use Rattle.std.proofs.lemmas.Bool.{cases_lt}
use Rattle.std.proofs.lemmas.Option.{slice_get-map, slice_get_within}
use Rattle.texts.specs.Words.{are_passed_over, is_remark}
use Rattle.net_model.specs.declared.format.FormatKind.TheVariants.{UnknownName}
use Rattle.command_engine.specs.declared.endings.End.TheVariants as ends
use Rattle.command_engine.specs.declared.machines.Flow.{Flow}
use Rattle.command_engine.specs.declared.machines.Flow.TheVariants.{Continue, Finish}
use Rattle.common_answers.specs.Faults.{fault_line}
use Rattle.common_answers.specs.declared.faults.Fault.TheVariants.{Format}
use Rattle.multiplexed_commands.specs.Merged.{Member, TakesNamed, TakesWords, closes}
use Rattle.multiplexed_commands.specs.NamedLines.{after_first, named}
use Rattle.plan_fleet.specs.FleetPlans.{FleetPlan}
use Rattle.event_phase.specs.EventRuns.{EventRun}
use Rattle.event_phase.specs.EventPhase.{executing_machine}
use Rattle.fleet_command.specs.FleetCommand.{fleet_around}
use Rattle.fleet_command.specs.FleetStands.{AnswersMember, HaveNone, IsFirstOfName, fleet_member_of, members_of}
use Rattle.fleet_command.specs.declared.entries.FleetEntry.{FleetEntry}

abbrev Members : Type 0
Members = List (Member EventRun)

abbrev Takes : List (List ℕ) → Members → ℕ → List ℕ → List ℕ → Flow Members → Type 0
Takes spelled members number line answer flow = TakesWords executing_machine fleet_around spelled members number line answer flow

abbrev TakesBy : Bool → Bool → Members → ℕ → List ℕ → List ℕ → List ℕ → Flow Members → Type 0
TakesBy remark end members number name line answer flow = TakesNamed executing_machine fleet_around remark end members number name line answer flow

-- a line that is passed over
pub passes_by : (spelled : List (List ℕ)) (members : Members) (number : ℕ) (line answer : List ℕ) → are_passed_over spelled ≡ true → answer ≡ [] → Takes spelled members number line answer (Continue members)
passes_by [] members number line answer over nothing = (nothing, refl)
passes_by (first ∷ others) members number line answer over nothing =
    subst (λ (b : Bool). TakesBy b (closes (first ∷ others)) members number first line answer (Continue members)) (sym over) (nothing, refl)

-- a line that is no remark, by whether it closes all
by_closing : (first : List ℕ) (others : List (List ℕ)) (members : Members) (number : ℕ) (line answer : List ℕ) (flow : Flow Members) (end : Bool) → is_remark first ≡ false → closes (first ∷ others) ≡ end
    → TakesBy false end members number first line answer flow → Takes (first ∷ others) members number line answer flow
by_closing first others members number line answer flow end plain closing takes =
    subst (λ (b : Bool). TakesBy b (closes (first ∷ others)) members number first line answer flow) (sym plain)
    (subst (λ (b : Bool). TakesBy false b members number first line answer flow) (sym closing) takes)

pub closes_by : (first : List ℕ) (others : List (List ℕ)) (members : Members) (number : ℕ) (line answer : List ℕ) → is_remark first ≡ false → bytes_eq first (codes "end") ≡ true → others ≡ [] → answer ≡ []
    → Takes (first ∷ others) members number line answer (Finish ends.Done)
closes_by first [] members number line answer plain is alone nothing = by_closing first [] members number line answer (Finish ends.Done) true plain is (nothing, refl)
closes_by first (second ∷ others) members number line answer plain is alone nothing = absurd (cc alone)

pub not_closing : (first : List ℕ) (others : List (List ℕ)) → (bytes_eq first (codes "end") ≡ true → others ≡ [] → ⊥) → closes (first ∷ others) ≡ false
not_closing first (second ∷ others) never = refl
not_closing first [] never = by (bytes_eq first (codes "end")) refl
  where
    by : (b : Bool) → bytes_eq first (codes "end") ≡ b → closes (first ∷ []) ≡ false
    by true is = absurd (never is refl)
    by false is = is

-- ---- a line of a plan
member_was : (fleet : List FleetPlan) (entries : List FleetEntry) (at : ℕ) (one : Member EventRun) → slice_get (members_of fleet entries) at ≡ Some one
    → (entry : FleetEntry) × (slice_get entries at ≡ Some entry) × (fleet_member_of fleet entry ≡ one)
member_was fleet entries at one is = by (slice_get entries at) refl (sym (slice_get-map (fleet_member_of fleet) entries at) ∙ is)
  where
    by : (found : Option FleetEntry) → slice_get entries at ≡ found → option_map (fleet_member_of fleet) found ≡ Some one → (entry : FleetEntry) × (slice_get entries at ≡ Some entry) × (fleet_member_of fleet entry ≡ one)
    by None here so = absurd (cc so)
    by (Some entry) here so = let same : fleet_member_of fleet entry ≡ one = cc so in (entry, here, same)

none_before : (fleet : List FleetPlan) (entries : List FleetEntry) (name : List ℕ) (count at : ℕ) (one : Member EventRun) → HaveNone entries name count → at < count → slice_get (members_of fleet entries) at ≡ Some one → one.name ≢ name
none_before fleet entries name count at one none below is =
    let (entry, here, same) = member_was fleet entries at one is in
    λ so. none at entry below here (ap (λ (m : Member EventRun). m.name) same ∙ so)

pub answered_by : (fleet : List FleetPlan) (entries : List FleetEntry) (first : List ℕ) (others : List (List ℕ)) (place number : ℕ) (line put : List ℕ) (after : Members) → is_remark first ≡ false → closes (first ∷ others) ≡ false
    → IsFirstOfName entries first place → AnswersMember (members_of fleet entries) place number (after_first line) put after → Takes (first ∷ others) (members_of fleet entries) number line put (Continue after)
answered_by fleet entries first others place number line put after plain unclosed (entry, here, named_so, none) answers =
    by_closing first others (members_of fleet entries) number line put (Continue after) false plain unclosed (inl (record {
      place = place;
      member = answers.member;
      said = answers.said;
      stands = answers.stands;
      here = answers.here;
      is = of_name;
      first = λ other one below is. none_before fleet entries first place other one none below is;
      says = answers.says;
      put = answers.puts ∙ ap (λ (n : List ℕ). named n answers.said) of_name;
      goes = ap Continue answers.is;
    }))
  where
    of_name : answers.member.name ≡ first
    of_name =
        let (one, there, same) = member_was fleet entries place answers.member answers.here in
        let is : one ≡ entry = cc (sym there ∙ here) in
        sym (ap (λ (m : Member EventRun). m.name) same) ∙ (ap (λ (e : FleetEntry). e.name) is ∙ named_so)

pub unknown_by : (fleet : List FleetPlan) (entries : List FleetEntry) (first : List ℕ) (others : List (List ℕ)) (number : ℕ) (line put : List ℕ) → is_remark first ≡ false → closes (first ∷ others) ≡ false
    → HaveNone entries first (length entries) → put ≡ fault_line (Format number UnknownName) → Takes (first ∷ others) (members_of fleet entries) number line put (Finish ends.Fault)
unknown_by fleet entries first others number line put plain unclosed none puts =
    by_closing first others (members_of fleet entries) number line put (Finish ends.Fault) false plain unclosed (inr (
      λ place member is.
          let (entry, here, same) = member_was fleet entries place member is in
          λ so. none place entry (slice_get_within entries place entry here) here (ap (λ (m : Member EventRun). m.name) same ∙ so),
      puts,
      refl,
    ))

-- ---- the first of a name
pub none_more : (entries : List FleetEntry) (name : List ℕ) (count : ℕ) (entry : FleetEntry) → slice_get entries count ≡ Some entry → HaveNone entries name count → (entry.name ≡ name → ⊥) → HaveNone entries name (count + 1)
none_more entries name count entry here none other at one below is = by (cases_lt at count)
  where
    by : (at < count) ⊎ (count ≤ at) → one.name ≢ name
    by (inl less) = none at one less is
    by (inr most) =
        let same : at ≡ count = omega arith in
        let one_is : one ≡ entry = cc (sym is ∙ (ap (slice_get entries) same ∙ here)) in
        λ named_so. other (sym (ap (λ (e : FleetEntry). e.name) one_is) ∙ named_so)

-- ---- a word more
pub not_alone : {A : Type 0} (found : Option A) (first : A → List ℕ) (others : A → List (List ℕ)) (rest : List (List ℕ)) → MatchOption found (rest ≡ []) (λ f. rest ≡ first f ∷ others f) → is_none found ≡ false → rest ≡ [] → ⊥
not_alone None first others rest is none nothing = absurd (cc none)
not_alone (Some one) first others rest is none nothing = let wrong : first one ∷ others one ≡ [] = sym is ∙ nothing in absurd (cc wrong)

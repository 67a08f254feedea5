-- What is put of a fleet are whole lines, each of which begins with the name of a plan.
use Rattle.std.proofs.Common.{◌≡◌, inl, inr, ℕ, suc, ◌+◌, Bool, true, false, List, [], ◌∷◌, ◌++◌, map, Option, Some, None, refl, sym, ap, ◌∙◌, subst}
use Rattle.std.specs.Prelude.{slice_get, slice_set}
use Rattle.std.specs.List.{All}
use Rattle.std.specs.Option.{option_map}
use Rattle.std.proofs.lemmas.List.Elements.{All-nil, All-cons, All-append}
use Rattle.std.proofs.lemmas.Option.{slice_get-map}
use Rattle.texts.specs.Lines.{InputLine, whole_lines}
use Rattle.texts.specs.Words.{words, is_remark}
use Rattle.texts.proofs.InputLemmas.{whole_lines_is}
use Rattle.command_engine.specs.Runs.{Here, after_line, Answers}
use Rattle.command_engine.specs.declared.machines.Flow.TheVariants.{Continue}
use Rattle.command_engine.proofs.RunLemmas.{goes_only_on_lines}
use Rattle.multiplexed_commands.specs.Merged.{TakesNamed, TakesWords, after_own, closes}
use Rattle.multiplexed_commands.specs.NamedLines.{IsNaming, after_name, named}
use Rattle.multiplexed_commands.specs.Starts.{Start, starts_put}
use Rattle.multiplexed_commands.proofs.NamedLineLemmas.{lines_both, named_whole, whole_both, whole_named, whole_no_end, whole_none, words_named}
use Rattle.event_phase.specs.EventRuns.{EventRun}
use Rattle.event_phase.specs.EventPhase.{executing_machine}
use Rattle.fleet_command.specs.FleetCauses.{IsOne, names_of}
use Rattle.fleet_command.specs.FleetCommand.{BeginEach, fleet_around, plans_machine}
use Rattle.fleet_command.specs.FleetPromise.{AreOfNames, BeginsWithOne}
use Rattle.fleet_command.specs.FleetText.{Plans}
use Rattle.fleet_command.specs.PlanNames.{AreNamed}
use Rattle.fleet_command.specs.declared.plan_or_refusal.PlanOrRefusal.{PlanOrRefusal}
use Rattle.fleet_command.proofs.AloneLemmas.{start_at}
use Rattle.fleet_command.proofs.LineLemmas.{Members, is_one, names_in, names_set}
use Rattle.fleet_command.proofs.PlanNameLemmas.{naming}

module _ (names : List (List ℕ)) where
  none_put : AreOfNames names []
  none_put = record { whole = whole_none; each = subst (All (BeginsWithOne names)) (sym (whole_lines_is [])) (All-nil (BeginsWithOne names)) }

  both_put : (put more : List ℕ) → AreOfNames names put → AreOfNames names more → AreOfNames names (put ++ more)
  both_put put more first later = record {
    whole = whole_both put more first.whole later.whole;
    each = subst (All (BeginsWithOne names)) (sym (lines_both put more first.whole)) (All-append (BeginsWithOne names) (whole_lines put) (whole_lines more) first.each later.each);
  }

  each_after : (name : List ℕ) (lines : List (List ℕ)) → IsNaming name → IsOne names name → All (BeginsWithOne names) (map (after_name name) lines)
  each_after name [] is one = All-nil (BeginsWithOne names)
  each_after name (line ∷ lines) is one =
      All-cons (BeginsWithOne names) (after_name name line) (map (after_name name) lines) (record { name = name; others = words line; spelled = words_named name line is; one = one })
      (each_after name lines is one)

  named_put : (name put : List ℕ) → IsNaming name → IsOne names name → AreOfNames names (named name put)
  named_put name put is one = record {
    whole = named_whole name put is;
    each = subst (All (BeginsWithOne names)) (sym (whole_named name (whole_lines put) is (whole_no_end put))) (each_after name (whole_lines put) is one);
  }

  starts_of_names : (starts : List (Start EventRun)) → ((place : ℕ) (start : Start EventRun) → slice_get starts place ≡ Some start → IsNaming start.name × IsOne names start.name) → AreOfNames names (starts_put starts)
  starts_of_names [] all = none_put
  starts_of_names (start ∷ starts) all =
      let first = all 0 start refl in
      both_put (named start.name start.said) (starts_put starts) (named_put start.name start.said first.0 first.1) (starts_of_names starts (λ place one is. all (suc place) one is))

-- ---- lines after `go`
-- lines are put after each of these names
abbrev AreAllNaming : List (List ℕ) → Type 0
AreAllNaming names = (name : List ℕ) → IsOne names name → IsNaming name

-- a line is answered in lines that begin with a name, and no name changes
abbrev GoesOnNamed : Members → List ℕ → Members → Type 0
GoesOnNamed members answer after = AreOfNames (names_in members) answer × (names_in after ≡ names_in members)

passes : (members after : Members) (answer : List ℕ) → answer ≡ [] → after ≡ members → GoesOnNamed members answer after
passes members after answer nothing same = (subst (AreOfNames (names_in members)) (sym nothing) (none_put (names_in members)), ap names_in same)

named_line : (members : Members) (number : ℕ) (first line answer : List ℕ) (after : Members) (remark end : Bool) → AreAllNaming (names_in members)
    → TakesNamed executing_machine fleet_around remark end members number first line answer (Continue after) → GoesOnNamed members answer after
named_line members number first line answer after true end all (nothing, goes) = passes members after answer nothing (cc goes)
named_line members number first line answer after false true all (nothing, over) = absurd (cc over)
named_line members number first line answer after false false all (inl answered) =
    let one = is_one members answered.place answered.member first answered.here answered.is in
    let next = after_own answered.member number answered.stands in
    let goes : after ≡ slice_set members answered.place next = cc (answered.goes) in (
      subst (AreOfNames (names_in members)) (sym answered.put) (named_put (names_in members) first answered.said (all first one) one),
      ap names_in goes ∙ names_set members answered.place answered.member next answered.here refl,
    )
named_line members number first line answer after false false all (inr (none, says, over)) = absurd (cc over)

one_line : (members : Members) (number : ℕ) (spelled : List (List ℕ)) (line answer : List ℕ) (after : Members) → AreAllNaming (names_in members)
    → TakesWords executing_machine fleet_around spelled members number line answer (Continue after) → GoesOnNamed members answer after
one_line members number [] line answer after all (nothing, goes) = passes members after answer nothing (cc goes)
one_line members number (first ∷ others) line answer after all takes = named_line members number first line answer after (is_remark first) (closes (first ∷ others)) all takes

lines_of_names : (lines : List InputLine) (here there : Here Members) (put : List ℕ) → AreAllNaming (names_in here.state) → Answers plans_machine here lines put there → AreOfNames (names_in here.state) put
lines_of_names [] here there put all (nothing, same) = subst (AreOfNames (names_in here.state)) (sym nothing) (none_put (names_in here.state))
lines_of_names (line ∷ lines) here there put all (answer, more, after, replies, both, later) =
    let takes = (goes_only_on_lines plans_machine here line lines answer after replies).takes in
    let goes = one_line here.state (here.number + 1) (words line.text) line.text answer after all takes in
    let on = lines_of_names lines (after_line here line after) there more (subst AreAllNaming (sym goes.1) all) later in
    subst (AreOfNames (names_in here.state)) (sym both) (both_put (names_in here.state) answer more goes.0 (subst (λ (names : List (List ℕ)). AreOfNames names more) goes.1 on))

-- ---- all that is put
module _ (plans : Plans) (are : AreNamed plans) where
  plan_naming : (name : List ℕ) → IsOne (names_of plans) name → IsNaming name
  plan_naming name (place, is) = by (slice_get plans place) refl (sym (slice_get-map (λ (plan : List ℕ × PlanOrRefusal). plan.0) plans place) ∙ is)
    where
      by : (plan : Option (List ℕ × PlanOrRefusal)) → slice_get plans place ≡ plan → option_map (λ (plan : List ℕ × PlanOrRefusal). plan.0) plan ≡ Some name → IsNaming name
      by None at none = absurd (cc none)
      by (Some plan) at same = let its : plan.0 ≡ name = cc same in subst IsNaming its (naming plan.0 (are.names place plan at))

  start_naming : (starts : List (Start EventRun)) → BeginEach plans starts → (place : ℕ) (start : Start EventRun) → slice_get starts place ≡ Some start → IsNaming start.name × IsOne (names_of plans) start.name
  start_naming starts each place start is =
      let (plan, here, name, begins) = start_at plans starts place start each is in
      let one : IsOne (names_of plans) start.name =
      (place, slice_get-map (λ (plan : List ℕ × PlanOrRefusal). plan.0) plans place ∙ (ap (option_map (λ (plan : List ℕ × PlanOrRefusal). plan.0)) here ∙ ap (λ (n : List ℕ). Some n) (sym name))) in
      (plan_naming start.name one, one)

pub put_of_names : (plans : Plans) (starts : List (Start EventRun)) (here : Here Members) (lines : List InputLine) (put : List ℕ) (there : Here Members) → BeginEach plans starts → AreNamed plans
    → names_in here.state ≡ names_of plans → Answers plans_machine here lines put there → AreOfNames (names_of plans) (starts_put starts ++ put)
put_of_names plans starts here lines put there each are names answers =
    both_put (names_of plans) (starts_put starts) put (starts_of_names (names_of plans) starts (start_naming plans are starts each))
    (subst (λ (ns : List (List ℕ)). AreOfNames ns put) names (lines_of_names lines here there put (subst AreAllNaming (sym names) (plan_naming plans are)) answers))

-- The text of a fleet has at most 64 plans.
use Rattle.std.proofs.Common.{◌≡◌, ℕ, ◌<◌, ◌≤◌, List, [], ◌∷◌, ◌++◌, length, refl, subst, arith, length-append}
use Rattle.std.proofs.lemmas.Bool.{leb-false}
use Rattle.texts.specs.Words.{words}
use Rattle.command_engine.specs.declared.line_texts.Parse.{Parse}
use Rattle.command_engine.specs.declared.line_texts.Parse.TheVariants.{Continue, Parsed, Refused}
use Rattle.common_answers.specs.declared.faults.Fault.{Fault}
use Rattle.plan_fleet.specs.Limits.{most_plans}
use Rattle.text_sequence.specs.Series.{opened, read_within}
use Rattle.text_sequence.specs.declared.separators.Separator.{Separator}
use Rattle.text_sequence.specs.declared.separators.Separator.TheVariants.{Passes, Opens, Closes, Refuses}
use Rattle.text_sequence.specs.declared.series.Series.TheVariants as at
use Rattle.fleet_command.specs.FleetText.{AreFew, between_line, fleet_between, Plans, PlansSoFar, plans_reader}
use Rattle.fleet_command.specs.PlanOrRefusals.{PlanOrRefusalText, initial_plan_or_refusal, plan_or_refusal_reader}
use Rattle.fleet_command.specs.declared.plan_separators.PlanSeparators.{PlanSeparators}
use Rattle.fleet_command.specs.declared.plan_or_refusal.PlanOrRefusal.{PlanOrRefusal}
use Rattle.fleet_command.proofs.PlanNameLemmas.{free_words}

-- ---- between plans
few_opened : (lines : PlanSeparators) (done : Plans) (separator : Separator (List ℕ) Fault) (to : PlansSoFar) → length done ≤ most_plans → ((key : List ℕ) → separator ≡ Opens key → length done < most_plans)
    → opened fleet_between plan_or_refusal_reader initial_plan_or_refusal lines done separator ≡ Continue to → AreFew to
few_opened lines done Passes to few free goes =
    let same : at.Between lines done ≡ to = cc in
    subst AreFew same few
few_opened lines done (Opens key) to few free goes =
    let same : at.Within lines done key initial_plan_or_refusal ≡ to = cc in
    subst AreFew same (free key refl)
few_opened lines done Closes to few free goes = absurd (cc goes)
few_opened lines done (Refuses fault) to few free goes = absurd (cc goes)

closed_few : (lines : PlanSeparators) (done all : Plans) (separator : Separator (List ℕ) Fault) → length done ≤ most_plans
    → opened fleet_between plan_or_refusal_reader initial_plan_or_refusal lines done separator ≡ Parsed all → length all ≤ most_plans
closed_few lines done all Passes few gives = absurd (cc gives)
closed_few lines done all (Opens key) few gives = absurd (cc gives)
closed_few lines done all Closes few gives =
    let same : done ≡ all = cc in
    subst (λ (plans : Plans). length plans ≤ most_plans) same few
closed_few lines done all (Refuses fault) few gives = absurd (cc gives)

free_below : (done : Plans) (number : ℕ) (spelled : List (List ℕ)) (key : List ℕ) → between_line done number spelled ≡ Opens key → length done < most_plans
free_below done number spelled key opens = leb-false most_plans (length done) (free_words spelled done number key opens).2

-- ---- within a plan
few_within : (lines : PlanSeparators) (done : Plans) (key : List ℕ) (step : Parse PlanOrRefusalText PlanOrRefusal Fault) (to : PlansSoFar) → length done < most_plans
    → read_within fleet_between plan_or_refusal_reader initial_plan_or_refusal lines done key step ≡ Continue to → AreFew to
few_within lines done key (Continue text) to few goes =
    let same : at.Within lines done key text ≡ to = cc in
    subst AreFew same few
few_within lines done key (Parsed value) to few goes =
    let same : at.Between lines (done ++ (key, value) ∷ []) ≡ to = cc in
    let long = length-append done ((key, value) ∷ []) in
    let all : length (done ++ (key, value) ∷ []) ≤ most_plans = omega (arith, long, few) in
    subst AreFew same all
few_within lines done key (Refused fault) to few goes = absurd (cc goes)

none_within : (lines : PlanSeparators) (done all : Plans) (key : List ℕ) (step : Parse PlanOrRefusalText PlanOrRefusal Fault)
    → read_within fleet_between plan_or_refusal_reader initial_plan_or_refusal lines done key step ≡ Parsed all → length all ≤ most_plans
none_within lines done all key (Continue text) gives = absurd (cc gives)
none_within lines done all key (Parsed value) gives = absurd (cc gives)
none_within lines done all key (Refused fault) gives = absurd (cc gives)

-- ---- a line
pub few_on : (from to : PlansSoFar) (number : ℕ) (line : List ℕ) → AreFew from → plans_reader.reads from number line ≡ Continue to → AreFew to
few_on (at.Between lines done) to number line few goes =
    few_opened lines done (between_line done number (words line)) to few (λ key opens. free_below done number (words line) key opens) goes
few_on (at.Within lines done key text) to number line few goes = few_within lines done key (plan_or_refusal_reader.reads text number line) to few goes

pub few_given : (from : PlansSoFar) (all : Plans) (number : ℕ) (line : List ℕ) → AreFew from → plans_reader.reads from number line ≡ Parsed all → length all ≤ most_plans
few_given (at.Between lines done) all number line few gives = closed_few lines done all (between_line done number (words line)) few gives
few_given (at.Within lines done key text) all number line few gives = none_within lines done all key (plan_or_refusal_reader.reads text number line) gives

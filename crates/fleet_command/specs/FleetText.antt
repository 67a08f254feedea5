-- The text of a fleet: its header, and then plans, each under a name, up to `go`.
use Rattle.std.specs.Prelude.{ℕ, ◌<◌, ◌≤◌, nat_le, Bool, true, false, List, [], ◌∷◌, length, codes, if◌then◌else◌}
use Rattle.std.specs.List.{list_any}
use Rattle.std.specs.Str.{bytes_eq}
use Rattle.texts.specs.Words.{words, is_remark}
use Rattle.net_model.specs.Names.{is_name}
use Rattle.net_model.specs.declared.format.FormatKind.TheVariants.{BadName, NoEnd, UnknownWord, WordCount}
use Rattle.command_engine.specs.Grammars.{Grammar}
use Rattle.command_engine.specs.Pairs.{then_grammar, then_reader}
use Rattle.command_engine.specs.Readers.{Reader}
use Rattle.command_engine.specs.declared.pairs.Then.{Then}
use Rattle.command_engine.specs.declared.pairs.Then.TheVariants.{First}
use Rattle.text_sequence.specs.Between.{Between}
use Rattle.text_sequence.specs.Series.{initial_series, series_reader}
use Rattle.text_sequence.specs.SeriesGrammar.{series_texts}
use Rattle.text_sequence.specs.declared.separators.Separator.{Separator}
use Rattle.text_sequence.specs.declared.separators.Separator.TheVariants.{Passes, Opens, Closes, Refuses}
use Rattle.text_sequence.specs.declared.series.Series.{Series}
use Rattle.text_sequence.specs.declared.series.Series.TheVariants as at
use Rattle.plan_fleet.specs.Limits.{most_plans}
use Rattle.common_answers.specs.Faults.{stop_fault}
use Rattle.common_answers.specs.declared.faults.Fault.{Fault}
use Rattle.common_answers.specs.declared.faults.Fault.TheVariants.{Format, DuplicatePlan, TooManyPlans}
use Rattle.fleet_command.specs.FleetHeader.{Nothing, initial_header, header_reader, header_texts}
use Rattle.fleet_command.specs.PlanOrRefusals.{PlanOrRefusalText, initial_plan_or_refusal, plan_or_refusal_reader, plan_or_refusal_texts}
use Rattle.fleet_command.specs.declared.header.FleetHeader.{FleetHeader}
use Rattle.fleet_command.specs.declared.plan_separators.PlanSeparators.{PlanSeparators}
use Rattle.fleet_command.specs.declared.plan_or_refusal.PlanOrRefusal.{PlanOrRefusal}

-- a plan of this name stands before
abbrev pub is_taken : {V : Type 0} → List (List ℕ × V) → List ℕ → Bool
is_taken done name = list_any (λ plan. bytes_eq name plan.0) done

-- a name after `plan`, by whether it is one, whether it is taken, and whether the fleet has as many plans as it may
abbrev pub opened_by : (is_one taken full : Bool) → ℕ → List ℕ → Separator (List ℕ) Fault
opened_by false taken full number name = Refuses (Format number BadName)
opened_by true true full number name = Refuses (DuplicatePlan number)
opened_by true false true number name = Refuses (TooManyPlans number)
opened_by true false false number name = Opens name

-- the words after `plan`
abbrev pub plan_name_line : {V : Type 0} → List (List ℕ × V) → ℕ → List (List ℕ) → Separator (List ℕ) Fault
plan_name_line done number [] = Refuses (Format number WordCount)
plan_name_line done number (name ∷ []) = opened_by (is_name name) (is_taken done name) (nat_le most_plans (length done)) number name
plan_name_line done number (name ∷ second ∷ others) = Refuses (Format number WordCount)

-- the words after `go`
abbrev pub go_line : ℕ → List (List ℕ) → Separator (List ℕ) Fault
go_line number [] = Closes
go_line number (next ∷ others) = Refuses (Format number WordCount)

-- a line between plans, by its words
abbrev pub between_line : {V : Type 0} → List (List ℕ × V) → ℕ → List (List ℕ) → Separator (List ℕ) Fault
between_line done number [] = Passes
between_line done number (first ∷ others) =
    if is_remark first then Passes
    else if bytes_eq first (codes "plan") then plan_name_line done number others
    else if bytes_eq first (codes "go") then go_line number others
    else Refuses (Format number UnknownWord)

-- the lines between the plans of a fleet; an input that ends there ends too soon
abbrev pub fleet_between : {V : Type 0} → Between (List ℕ) V Fault
fleet_between = record {
  opens = λ done number line. between_line done number (words line);
  stops = λ done number stop. stop_fault number stop NoEnd;
}

-- plans, each under a name
abbrev pub Plans : Type 0
Plans = List (List ℕ × PlanOrRefusal)

-- how far the plans of a fleet were read, and how far the whole text was
abbrev pub PlansSoFar : Type 0
PlansSoFar = Series PlanSeparators (List ℕ) PlanOrRefusal PlanOrRefusalText

abbrev pub FleetSoFar : Type 0
FleetSoFar = Then FleetHeader Nothing PlansSoFar

-- there are at most so many of them, also with the one that is read
abbrev pub AreFew : PlansSoFar → Type 0
AreFew (at.Between lines done) = length done ≤ most_plans
AreFew (at.Within lines done name text) = length done < most_plans

-- the reader of the plans, and that of the whole text
abbrev pub plans_reader : Reader PlansSoFar Plans Fault
plans_reader = series_reader fleet_between plan_or_refusal_reader initial_plan_or_refusal

abbrev pub fleet_reader : Reader FleetSoFar (Nothing × Plans) Fault
fleet_reader = then_reader header_reader plans_reader

-- before the first line
abbrev pub initial_fleet : FleetSoFar
initial_fleet = First initial_header (initial_series (record {}))

-- the grammar of the plans, if so many lines stand before them in the input
abbrev pub plans_texts : ℕ → Grammar Plans Fault
plans_texts past = series_texts fleet_between plan_or_refusal_texts past

-- the grammar of the text of a fleet with which an input begins
abbrev pub fleet_in : Grammar (Nothing × Plans) Fault
fleet_in = then_grammar (header_texts 0) plans_texts 0

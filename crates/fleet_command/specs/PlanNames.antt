-- The names of the plans of a fleet.
use Rattle.std.specs.Prelude.{◌≡◌, ℕ, true, List, Some, slice_get}
use Rattle.net_model.specs.Names.{is_name}
use Rattle.command_engine.specs.Grammars.{Grammar}
use Rattle.text_sequence.specs.SeriesGrammar.{IsSeries}
use Rattle.fleet_command.specs.FleetText.{fleet_between}
use Rattle.common_answers.specs.declared.faults.Fault.{Fault}

-- they are names, and different
pub record AreNamed {V : Type 0} (plans : List (List ℕ × V)) : Type 0 where
  pub names : (place : ℕ) (plan : List ℕ × V) → slice_get plans place ≡ Some plan → is_name plan.0 ≡ true
  pub different : (place other : ℕ) (plan one : List ℕ × V) → slice_get plans place ≡ Some plan → slice_get plans other ≡ Some one
      → plan.0 ≡ one.0 → place ≡ other

-- those of a prefix are, whatever the texts of the plans are
abbrev pub PrefixesNamePlans : {V : Type 0} → (ℕ → Grammar V Fault) → Type 0
PrefixesNamePlans {V} texts =
    (past : ℕ) (lines : List (List ℕ)) (plans : List (List ℕ × V)) (rest : List (List ℕ))
    → IsSeries fleet_between texts past lines plans rest → AreNamed plans

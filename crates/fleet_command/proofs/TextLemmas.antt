-- The text of a fleet is read by its grammar, and the plans that it declares have different names.
use Rattle.std.proofs.Common.{ℕ, ◌+◌, List, length}
use Rattle.command_engine.specs.Grammars.{ReadsBy}
use Rattle.command_engine.proofs.PairGrammarLemmas.{pair_by}
use Rattle.command_engine.proofs.TestedTextLemmas.{tested_by}
use Rattle.input_texts.specs.PlanText.{parts_reader, initial_plan}
use Rattle.input_texts.specs.PlanTexts.{parts_texts}
use Rattle.input_texts.proofs.PlanLemmas.{parts_by}
use Rattle.text_sequence.specs.Series.{initial_series}
use Rattle.text_sequence.proofs.SeriesLemmas.{series_by}
use Rattle.fleet_command.specs.FleetHeader.{Nothing, initial_header, header_reader, header_texts}
use Rattle.fleet_command.specs.FleetText.{Plans, initial_fleet, fleet_between, fleet_in, fleet_reader, plans_reader, plans_texts}
use Rattle.fleet_command.specs.PlanNames.{AreNamed}
use Rattle.fleet_command.specs.PlanOrRefusals.{kept_tests, initial_plan_or_refusal, plan_or_refusal_reader, plan_or_refusal_texts}
use Rattle.fleet_command.proofs.PlanNameLemmas.{prefixes_name}
use Rattle.fleet_command.proofs.HeaderLemmas.{header_by}

plan_or_refusal_by : (past : ℕ) → ReadsBy plan_or_refusal_reader initial_plan_or_refusal past (plan_or_refusal_texts past)
plan_or_refusal_by past = tested_by parts_reader kept_tests (record {}) initial_plan past (parts_texts past) (parts_by past)

plans_by : (past : ℕ) → ReadsBy plans_reader (initial_series (record {})) past (plans_texts past)
plans_by past = series_by fleet_between plan_or_refusal_reader initial_plan_or_refusal plan_or_refusal_texts plan_or_refusal_by (record {}) past

pub fleet_by : ReadsBy fleet_reader initial_fleet 0 fleet_in
fleet_by = pair_by header_reader plans_reader (initial_series (record {})) initial_header 0 (header_texts 0) plans_texts (header_by 0) plans_by

-- what it declares has names that are names, and different
pub declared_names : (lines : List (List ℕ)) (text : Nothing) (plans : Plans) (rest : List (List ℕ)) → fleet_in.declares lines (text, plans) rest → AreNamed plans
declared_names lines text plans rest (divided, is) = prefixes_name plan_or_refusal_texts (0 + length divided.text) divided.rest plans rest is

use Rattle.stnu_run.specs.AcrossCommands.{AgreesAcrossCommands}
use Rattle.stnu_run.specs.RelaxedRuns.{HoldsOfRelaxed}
use Rattle.stnu_run.specs.RunLaws.{OptionsChangeNothing, PutsAccepted}
use Rattle.stnu_run.proofs.OptionLemmas.{counts_change_nothing, engine_changes_the_limit_alone}
use Rattle.stnu_run.proofs.RelaxedRunLemmas.{holds_of_relaxed}
use Rattle.stnu_run.proofs.RunClaimLemmas.{of_runs, only_defined}
use Rattle.stnu_run.proofs.run_laws.law_runs_are_lawful.Goals as goal

pub returns-clause-refuses : goal.returns-clause-refuses
returns-clause-refuses c = c.law_runs_refuse_words_outside_the_table.ensures

pub returns-clause-accepted : goal.returns-clause-accepted
returns-clause-accepted c = of_runs PutsAccepted (λ words input put status defines. record {
  verdicts = c.law_printed_means_accepted.ensures.defined words input put status defines;
  sessions = c.law_session_proofs_are_accepted.ensures words input put status defines;
  deadlines = c.law_deadlines_are_accepted.ensures words input put status defines;
})

pub returns-clause-only : goal.returns-clause-only
returns-clause-only c = only_defined c.law_defined_run_is_one.ensures.one c.law_defined_run_is_one.ensures.prefixes

pub returns-clause-options : goal.returns-clause-options
returns-clause-options c = of_runs OptionsChangeNothing (λ words input put status defines. record {
  counts = counts_change_nothing c.law_words_are_refused_outside_the_table.ensures c.law_workers_change_nothing.ensures.other c.law_workers_change_nothing.ensures.without c.law_feeders_change_nothing.ensures
      c.law_feeders_put_the_lines_in_order.ensures c.law_run_is_read_exactly.ensures words input put status defines;
  engine = engine_changes_the_limit_alone c.law_engine_changes_the_limit_alone.ensures words input put status defines;
})

pub returns-clause-agrees : goal.returns-clause-agrees
returns-clause-agrees c = of_runs AgreesAcrossCommands (λ words input put status defines. record {
  strong = c.law_strong_means_controllable.ensures words input put status defines;
  deadline = c.law_deadlines_agree_with_check.ensures words input put status defines;
  session = c.law_verdicts_agree_with_check.ensures words input put status defines;
  shown = c.law_shown_plans_have_the_same_answers.ensures words input put status defines;
  played = c.law_played_days_are_acted.ensures words input put status defines;
})

pub returns-clause-relaxed : goal.returns-clause-relaxed
returns-clause-relaxed c =
    of_runs HoldsOfRelaxed (holds_of_relaxed c.law_relaxed_plans_stay_controllable.ensures c.law_relaxed_deadlines_are_no_greater.ensures)

pub returns-clause-engine : goal.returns-clause-engine
returns-clause-engine c = c.law_engine_is_lawful.ensures

use Rattle.std.proofs.Common.{◌≡◌, length, ap, sym, ◌∙◌}
use Rattle.canonical_closure.specs.CanonicalClosure.{canonical_closure}
use Rattle.execution_model.specs.Feeds.{Execution, started}
use Rattle.execution_model.specs.Laws.{setting_of}
use Rattle.execution_model.proofs.SlimFeedLemmas.{started_length}
use Rattle.event_phase.specs.EventRuns.{event_run_by}
use Rattle.event_phase.proofs.phase.Executing.start.Goals as goal

pub invariant_of-result : goal.invariant_of-result
invariant_of-result c =
    let is = c.in_ok-executor.ensures.started in
    let setting = setting_of c.args.net (canonical_closure c.args.net) in
    record {
      event_run = record {
        moments = ap (λ (e : Execution). length e.moments) is ∙ (started_length setting ∙ (ap (λ (e : Execution). length e.setting.dispatch) (sym is) ∙ c.in_ok-executor.ensures.size));
        dispatch = c.in_ok-executor.ensures.size;
        goes_on = ap (λ (e : Execution). e.refused) is;
      };
      desk = c.in_ok-feeding.ensures.desk;
    }

pub returns : goal.returns
returns c = λ i. event_run_by (c.in_ok-feeding.ensures.completion_order i) c.args.net (c.in_ok-executor.ensures.started i)

use Rattle.std.proofs.Common.{◌+◌, ◌∙◌, List, Option, get_or, drop, refl, ap, sym, arith}
use Rattle.std.specs.Option.{option_map_or}
use Rattle.std.specs.Prelude.{Err}
use Rattle.std.proofs.lemmas.List.{drop_all, drop_more}
use Rattle.net_model.specs.declared.ids.PointId.{PointId}
use Rattle.net_model.specs.Moments.{Moments}
use Rattle.execution_model.specs.Feeds.{completed_at, completions_taken}
use Rattle.execution_model.specs.declared.feed_answers.Why.{Why}
use Rattle.live_executor.specs.Sound.{made_setting}
use Rattle.live_executor.proofs.FirstDueLemmas.{goes_nowhere}
use Rattle.live_executor.proofs.CompletionLemmas.{free_may_come, comes_after}
use Rattle.live_executor.proofs.execution_state.ExecutionState.complete.Goals as goal

pub loop-point-init : goal.loop-point-init
loop-point-init c = record { taken = refl; goes = goes_nowhere c.args.dispatched.now c.args.moment c.args.self.now c.requires.stands }

pub refusal_of-requires-clause-stands : goal.refusal_of-requires-clause-stands
refusal_of-requires-clause-stands c = c.loop-point.invariant.goes.stands

pub refusal_of-requires-clause-point : goal.refusal_of-requires-clause-point
refusal_of-requires-clause-point c = c.requires.listed.inside c.loop-point.point-index (record { 0 = 0 }) c.loop-point-test.true

pub returns-in-Some : goal.returns-in-Some
returns-in-Some c =
    let i = c.loop-point.invariant in
    let setting = made_setting c.args.dispatched.now in
    let d : PointId = record { 0 = 0 } in
    let listed = c.args.listed.now in
    let n = c.loop-point.point-index in
    let moment = c.args.moment in
    let now = c.loop-point.self in
    let next = completions_taken setting (completed_at now.moments moment (get_or listed n d)) moment (drop (n + 1) listed) in
    record {
      taken = i.taken
          ∙ (ap (completions_taken setting now.moments moment) (drop_more listed n d c.loop-point-test.true) ∙ ap (λ (o : Option Why). option_map_or Err o next) (sym c.refusal_of.ensures ∙ c.in-Some.is));
      goes = i.goes;
    }

pub come-requires-clause-stands : goal.come-requires-clause-stands
come-requires-clause-stands c = c.loop-point.invariant.goes.stands

pub come-requires-clause-may : goal.come-requires-clause-may
come-requires-clause-may c =
    let point : PointId = get_or c.args.listed.now c.loop-point.point-index (record { 0 = 0 }) in
    free_may_come c.args.dispatched.now c.executes_the_same.ensures c.args.moment c.loop-point.self point c.loop-point.invariant.goes.stands
    (c.requires.listed.inside c.loop-point.point-index (record { 0 = 0 }) c.loop-point-test.true) c.requires.listed.within (sym c.refusal_of.ensures ∙ c.in_default.is)

pub loop-point-preserved : goal.loop-point-preserved
loop-point-preserved c =
    let i = c.loop-point.invariant in
    let e = c.come.ensures in
    let setting = made_setting c.args.dispatched.now in
    let d : PointId = record { 0 = 0 } in
    let listed = c.args.listed.now in
    let n = c.loop-point.point-index in
    let moment = c.args.moment in
    let point : PointId = get_or listed n d in
    let others : List PointId = drop (n + 1) listed in
    let now = c.loop-point.self in
    let next = completions_taken setting (completed_at now.moments moment point) moment others in
    record {
      taken = i.taken
          ∙ (ap (completions_taken setting now.moments moment) (drop_more listed n d c.loop-point-test.true)
          ∙ (ap (λ (o : Option Why). option_map_or Err o next) (sym c.refusal_of.ensures ∙ c.in_default.is) ∙ ap (λ (moments : Moments). completions_taken setting moments moment others) (sym e.moments_are)));
      goes = comes_after c.args.dispatched.now moment point c.args.self.now now c.come.new.self i.goes e;
    }

pub returns : goal.returns
returns c =
    let i = c.loop-point.invariant in
    record {
      taken = i.taken ∙ ap (completions_taken (made_setting c.args.dispatched.now) c.loop-point.self.moments c.args.moment) (drop_all c.loop-point.point-index c.args.listed.now (omega arith));
      goes = i.goes;
    }

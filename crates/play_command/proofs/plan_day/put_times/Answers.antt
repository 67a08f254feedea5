use Rattle.std.proofs.Common.{◌≡◌, ◌++◌, ℕ, List, ap, sym, ◌∙◌, subst}
use Rattle.std.specs.List.{flat_map}
use Rattle.net_model.specs.Network.{Plan}
use Rattle.net_model.specs.ShownForm.{shown_form, shown_situation}
use Rattle.strategy_model.specs.Control.{IsEarliest}
use Rattle.strategy_model.specs.Plays.{points_of}
use Rattle.strategy_model.specs.Situations.{IsSituation}
use Rattle.strategy_model.proofs.ShownFormLemmas.{law_situations_are_shown}
use Rattle.common_answers.specs.VerdictLines.{controllable_line}
use Rattle.play_command.specs.PlayCommand.{happened_in, time_line}
use Rattle.play_command.specs.PlayedSituation.{situation_of}
use Rattle.play_command.proofs.PlayLemmas.{times_put}
use Rattle.play_command.proofs.plan_day.put_times.Goals as goal

pub played-requires-clause-dispatch : goal.played-requires-clause-dispatch
played-requires-clause-dispatch c =
    let by = c.in_ok-dispatch.ensures in
    record { table = c.args.closed.now.table; order = c.args.closed.now.order; dispatched = c.requires.verdict.by; links = by.links; made = by.made }

pub played-requires-clause-no_delay : goal.played-requires-clause-no_delay
played-requires-clause-no_delay c = ap (λ (net : Plan). net.delay) c.requires.verdict.as_shown

pub played-requires-clause-situation : goal.played-requires-clause-situation
played-requires-clause-situation c =
    let net = c.args.net.now in
    let situation = situation_of c.args.which net in
    let shown : IsSituation (shown_form net) (shown_situation net situation) = (law_situations_are_shown net situation c.sound.ensures).0 c.in_ok-situation.ensures.situation in
    subst (λ (n : Plan). IsSituation n c.in_ok-situation.situation.items) (sym c.requires.verdict.as_shown) (subst (IsSituation (shown_form net)) (sym c.in_ok-situation.ensures.is) shown)

pub returns : goal.returns
returns c =
    let net = c.args.net.now in
    let shown = c.args.shown.now in
    let schedule = c.in_ok-schedule.schedule.items in
    let text : List ℕ → List ℕ = λ moments. flat_map (λ point. time_line net point (happened_in net moments point)) (points_of net) in
    let earliest = subst (λ (s : List ℕ). IsEarliest shown s schedule) c.in_ok-situation.ensures.is c.in_ok-schedule.ensures in
    let put : c.push_times.new.answer.text ≡ controllable_line ++ text schedule =
    c.in_ok-push_times.ensures
    ∙ (ap (λ (t : List ℕ). t ++ text c.as_slice.result.now) (c.in_ok-push_line.ensures.text ∙ ap (λ (t : List ℕ). t ++ controllable_line) c.clear.ensures.text)
    ∙ ap (λ (moments : List ℕ). controllable_line ++ text moments) c.as_slice.ensures.value) in
    times_put c.law_earliest_is_shown.ensures c.args.which net shown schedule c.push_times.new.answer.text c.sound.ensures c.requires.verdict.as_shown c.in_ok-situation.ensures.situation earliest put

use Rattle.std.proofs.Common.{refl, ap}
use Rattle.net_model.specs.ShownForm.{shown_form}
use Rattle.parallel_rounds.specs.Propagated.{ending_of}
use Rattle.plan_session.proofs.SessionLemmas.{closed_controls, looped_excludes, shown_instant}
use Rattle.plan_session.proofs.propagated.Propagated.is_controllable.Goals as goal

pub returns-in-Closed : goal.returns-in-Closed
returns-in-Closed c =
    let net = c.args.network.now.net in
    let shows = c.law_controllable_is_shown.ensures net c.sound.ensures in
    (λ _. shows.1 (closed_controls (shown_form net) _ c.requires.sound c.law_ordered_closures_are_controllable.ensures (shown_instant net c.sound.ensures) c.in-Closed.order (ap ending_of c.in-Closed.is)), λ _. refl)

pub returns-in-Looped : goal.returns-in-Looped
returns-in-Looped c =
    let net = c.args.network.now.net in
    let shows = c.law_controllable_is_shown.ensures net c.sound.ensures in (
      λ never. absurd cc,
      λ controls. absurd (looped_excludes (shown_form net) _ c.requires.sound c.law_standing_cycles_exclude.ensures (shown_instant net c.sound.ensures) c.in-Looped.cycle (ap ending_of c.in-Looped.is) (shows.0 controls)),
    )

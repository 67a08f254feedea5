use Rattle.std.proofs.Common.{◌++◌, ◌+◌, drop, sym, ap, ◌∙◌}
use Rattle.strong_command.specs.StrongAnswers.{times_text}
use Rattle.strong_command.proofs.TimesLemmas.{pushed, passed}
use Rattle.strong_command.proofs.times.push_times.Goals.{in-Some+in_ok-push_time, in_default}
use Rattle.strong_command.proofs.times.push_times.Goals as goal

pub loop-place-preserved : goal.loop-place-preserved
loop-place-preserved c =
    let names = c.args.names.now in
    let times = c.args.times.now in
    let before = c.loop-place.answer.text in
    let out = c.args.answer.now.text ++ times_text names times in
    elim c.match-time_at.branch [
      | in-Some+in_ok-push_time w ↦ pushed before c.match-time_at.answer.text out names times c.loop-place.place c.index-names-place.result w.in-Some.time c.loop-place-test.true c.index-names-place.is (sym c.time_at.ensures ∙ w.in-Some.is)
          (ap (λ a. a.text) w.answer-is ∙ w.in_ok-push_time.ensures) c.loop-place.invariant
      | in_default w ↦ ap (λ a. a.text ++ times_text (drop (c.loop-place.place + 1) names) (drop (c.loop-place.place + 1) times)) w.answer-is
          ∙ passed before out names times c.loop-place.place (sym c.time_at.ensures ∙ w.in_default.is) c.loop-place.invariant
    ]

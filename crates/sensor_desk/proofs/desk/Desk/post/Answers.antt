use Rattle.std.proofs.Common.{◌≡◌, ◌+◌, length, ap, ◌∙◌, arith}
use Rattle.sensor_desk.specs.Desks.{DeskSeen}
use Rattle.sensor_desk.specs.Words.{place_of_word}
use Rattle.sensor_desk.proofs.TableLemmas.{posts}
use Rattle.sensor_desk.proofs.desk.Desk.post.Goals as goal

pub compare_exchange-word-requires-clause-place : goal.compare_exchange-word-requires-clause-place
compare_exchange-word-requires-clause-place c =
    let within = c.requires.link in
    let words = c.self.invariant.words ∙ ap (λ (s : DeskSeen). length s.about.net.value.links + 1) c.self.view_is in omega (arith, within, words)

pub compare_exchange-word-requires-clause-rule : goal.compare_exchange-word-requires-clause-rule
compare_exchange-word-requires-clause-rule c =
    let at : c.args.link.0 + 1 ≡ place_of_word c.args.link = omega arith in
    posts c.args.self.now.about c.args.seat.now.view c.args.link c.requires.link c.self.inside.words.key (ap (λ (s : DeskSeen). s.about) c.self.view_is) (c.args.link.0 + 1) at c.args.moment

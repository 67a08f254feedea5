use Rattle.std.proofs.Common.{◌≡◌, ◌+◌, length, refl, ap, ◌∙◌, arith}
use Rattle.sensor_desk.specs.Desks.{DeskSeen}
use Rattle.sensor_desk.specs.Views.{read}
use Rattle.sensor_desk.specs.Words.{held, place_of_word}
use Rattle.sensor_desk.proofs.EndLemmas.{step_ends}
use Rattle.sensor_desk.proofs.TableLemmas.{reads}
use Rattle.sensor_desk.proofs.desk.Desk.read.Goals as goal

pub load-word-requires-clause-place : goal.load-word-requires-clause-place
load-word-requires-clause-place c =
    let within = c.requires.link in
    let words = c.self.invariant.words ∙ ap (λ (s : DeskSeen). length s.about.net.value.links + 1) c.self.view_is in omega (arith, within, words)

pub load-word-requires-clause-rule : goal.load-word-requires-clause-rule
load-word-requires-clause-rule c =
    let at : c.args.link.0 + 1 ≡ place_of_word c.args.link = omega arith in
    reads c.args.self.now.about c.args.seat.now.view c.args.link c.requires.link c.self.inside.words.key (ap (λ (s : DeskSeen). s.about) c.self.view_is) (c.args.link.0 + 1) at

pub returns-clause-reads : goal.returns-clause-reads
returns-clause-reads c =
    let at : c.args.link.0 + 1 ≡ place_of_word c.args.link = omega arith in
    step_ends c.args.seat.now c.args.link (c.args.link.0 + 1) at (λ view link. read view link c.load-word.result) c.load-word.result c.load-word.new.seat
    c.load-word.ensures.table c.load-word.ensures.shows held read refl c.moment_of_word.result c.moment_of_word.ensures

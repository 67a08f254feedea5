use Rattle.std.proofs.Common.{◌<◌, length, subst, sym, ap, ◌∙◌}
use Rattle.net_model.specs.Network.{Plan, IsPlan}
use Rattle.closure_model.specs.Keys.{labelled_key, shape_of}
use Rattle.cell_table.specs.Places.{word_count}
use Rattle.cell_table.specs.Shared.{CellsSeen}
use Rattle.cell_table.proofs.PlaceLemmas.{place_below}
use Rattle.cell_table.proofs.EndLemmas.{upper_to, small_load, load_ends, upper_key, upper_place}
use Rattle.cell_table.proofs.TableLemmas.{loads}
use Rattle.cell_table.proofs.cells.Cells.load_upper.Goals as goal

pub load-word-requires-clause-place : goal.load-word-requires-clause-place
load-word-requires-clause-place c =
    let net : Plan = c.args.self.now.about.net.value in
    let plan : IsPlan net = subst (λ (s : CellsSeen). IsPlan s.about.net.value) c.self.view_is c.self.invariant.plan in
    let (to, begins) = upper_to net c.args.link c.requires.link in
    let key = upper_key net plan c.args.from to c.args.link c.requires.from begins in
    let at = upper_place net c.args.from to c.args.link c.self.inside.points (c.self.invariant.points_are ∙ ap (λ (s : CellsSeen). length s.about.net.value.points) c.self.view_is) c.place-place.result c.place-place.ensures in
    subst (λ n. c.place-place.result < n) (sym (c.self.invariant.words ∙ ap (λ (s : CellsSeen). word_count (shape_of s.about.net.value)) c.self.view_is))
    (subst (λ n. n < word_count (shape_of net)) (sym at) (place_below (shape_of net) (labelled_key c.args.from to c.args.link) key))

pub load-word-requires-clause-rule : goal.load-word-requires-clause-rule
load-word-requires-clause-rule c =
    let net : Plan = c.args.self.now.about.net.value in
    let plan : IsPlan net = subst (λ (s : CellsSeen). IsPlan s.about.net.value) c.self.view_is c.self.invariant.plan in
    let (to, begins) = upper_to net c.args.link c.requires.link in
    let key = upper_key net plan c.args.from to c.args.link c.requires.from begins in
    let at = upper_place net c.args.from to c.args.link c.self.inside.points (c.self.invariant.points_are ∙ ap (λ (s : CellsSeen). length s.about.net.value.points) c.self.view_is) c.place-place.result c.place-place.ensures in
    loads c.args.self.now.about c.args.seat.now.view c.requires.seat.about_is (labelled_key c.args.from to c.args.link) key c.self.inside.words.key (ap (λ (s : CellsSeen). s.about) c.self.view_is) c.place-place.result at

pub weight_of_word-requires : goal.weight_of_word-requires
weight_of_word-requires c =
    let net : Plan = c.args.self.now.about.net.value in
    let plan : IsPlan net = subst (λ (s : CellsSeen). IsPlan s.about.net.value) c.self.view_is c.self.invariant.plan in
    let (to, begins) = upper_to net c.args.link c.requires.link in
    let key = upper_key net plan c.args.from to c.args.link c.requires.from begins in
    let at = upper_place net c.args.from to c.args.link c.self.inside.points (c.self.invariant.points_are ∙ ap (λ (s : CellsSeen). length s.about.net.value.points) c.self.view_is) c.place-place.result c.place-place.ensures in
    small_load c.args.self.now.about c.args.seat.now c.requires.seat.about_is plan (labelled_key c.args.from to c.args.link) key c.place-place.result at c.load-word.result c.load-word.new.seat.view c.load-word.ensures.shows

pub returns : goal.returns
returns c to begins =
    let net : Plan = c.args.self.now.about.net.value in
    let plan : IsPlan net = subst (λ (s : CellsSeen). IsPlan s.about.net.value) c.self.view_is c.self.invariant.plan in
    let key = upper_key net plan c.args.from to c.args.link c.requires.from begins in
    let at = upper_place net c.args.from to c.args.link c.self.inside.points (c.self.invariant.points_are ∙ ap (λ (s : CellsSeen). length s.about.net.value.points) c.self.view_is) c.place-place.result c.place-place.ensures in
    load_ends c.args.self.now.about c.args.seat.now c.requires.seat.about_is (labelled_key c.args.from to c.args.link) key c.place-place.result at
    c.load-word.result c.load-word.new.seat c.load-word.ensures.table c.load-word.ensures.shows c.weight_of_word.result c.weight_of_word.ensures

use Rattle.std.proofs.Common.{◌<◌, subst, sym, ap, ◌∙◌}
use Rattle.net_model.specs.Network.{IsPlan}
use Rattle.closure_model.specs.Keys.{ordinary_key, shape_of}
use Rattle.cell_table.specs.Places.{word_count}
use Rattle.cell_table.specs.Shared.{CellsSeen}
use Rattle.cell_table.proofs.PlaceLemmas.{place_below}
use Rattle.cell_table.proofs.EndLemmas.{to_small, from_small, small_load, load_ends}
use Rattle.cell_table.proofs.TableLemmas.{loads}
use Rattle.cell_table.proofs.cells.Cells.load.Goals as goal

pub place-place-requires-clause-row : goal.place-place-requires-clause-row
place-place-requires-clause-row c =
    to_small c.args.self.now.about.net.value (ordinary_key c.args.from c.args.to) (subst (λ (s : CellsSeen). IsPlan s.about.net.value) c.self.view_is c.self.invariant.plan) c.requires.key

pub place-place-requires-clause-from : goal.place-place-requires-clause-from
place-place-requires-clause-from c =
    from_small c.args.self.now.about.net.value (ordinary_key c.args.from c.args.to) (subst (λ (s : CellsSeen). IsPlan s.about.net.value) c.self.view_is c.self.invariant.plan) c.requires.key

pub load-word-requires-clause-place : goal.load-word-requires-clause-place
load-word-requires-clause-place c =
    subst (λ n. c.place-place.result < n) (sym (c.self.invariant.words ∙ ap (λ (s : CellsSeen). word_count (shape_of s.about.net.value)) c.self.view_is))
    (subst (λ n. n < word_count (shape_of c.args.self.now.about.net.value)) (sym c.place-place.ensures) (place_below (shape_of c.args.self.now.about.net.value) (ordinary_key c.args.from c.args.to) c.requires.key))

pub load-word-requires-clause-rule : goal.load-word-requires-clause-rule
load-word-requires-clause-rule c =
    loads c.args.self.now.about c.args.seat.now.view c.requires.seat.about_is (ordinary_key c.args.from c.args.to) c.requires.key c.self.inside.words.key (ap (λ (s : CellsSeen). s.about) c.self.view_is)
    c.place-place.result c.place-place.ensures

pub weight_of_word-requires : goal.weight_of_word-requires
weight_of_word-requires c =
    small_load c.args.self.now.about c.args.seat.now c.requires.seat.about_is (subst (λ (s : CellsSeen). IsPlan s.about.net.value) c.self.view_is c.self.invariant.plan)
    (ordinary_key c.args.from c.args.to) c.requires.key c.place-place.result c.place-place.ensures c.load-word.result c.load-word.new.seat.view c.load-word.ensures.shows

pub returns : goal.returns
returns c =
    load_ends c.args.self.now.about c.args.seat.now c.requires.seat.about_is (ordinary_key c.args.from c.args.to) c.requires.key c.place-place.result c.place-place.ensures
    c.load-word.result c.load-word.new.seat c.load-word.ensures.table c.load-word.ensures.shows c.weight_of_word.result c.weight_of_word.ensures

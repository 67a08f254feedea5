use Rattle.std.proofs.Common.{◌≡◌, ◌<◌, ◌*◌, ◌+◌, length, subst, sym, ap, ◌∙◌}
use Rattle.net_model.specs.Network.{Plan, IsPlan}
use Rattle.closure_model.specs.Keys.{key_of, shape_of, IsKey}
use Rattle.net_model.specs.Limits.{IsWeight}
use Rattle.cell_table.specs.Places.{word_count, word_place_of}
use Rattle.cell_table.specs.Shared.{CellsSeen}
use Rattle.cell_table.proofs.PlaceLemmas.{place_below}
use Rattle.network_closure.proofs.PartialClosureLemmas.{derivable_weight}
use Rattle.cell_table.proofs.EndLemmas.{derivable_key, row_small, from_small, code_small, code_of, relax_ends}
use Rattle.cell_table.proofs.TableLemmas.{drops}
use Rattle.cell_table.proofs.cells.Cells.lower.Goals as goal

pub place-place-requires-clause-row : goal.place-place-requires-clause-row
place-place-requires-clause-row c =
    let plan = subst (λ (s : CellsSeen). IsPlan s.about.net.value) c.self.view_is c.self.invariant.plan in
    subst (λ n. n < 4000) (sym c.row-row.ensures) (row_small c.args.self.now.about.net.value (key_of c.args.edge.now) plan (derivable_key c.args.self.now.about.net.value plan c.args.edge.now c.requires.derivable))

pub place-place-requires-clause-from : goal.place-place-requires-clause-from
place-place-requires-clause-from c =
    let plan = subst (λ (s : CellsSeen). IsPlan s.about.net.value) c.self.view_is c.self.invariant.plan in
    from_small c.args.self.now.about.net.value (key_of c.args.edge.now) plan (derivable_key c.args.self.now.about.net.value plan c.args.edge.now c.requires.derivable)

pub word_of-word-requires : goal.word_of-word-requires
word_of-word-requires c =
    let plan = subst (λ (s : CellsSeen). IsPlan s.about.net.value) c.self.view_is c.self.invariant.plan in derivable_weight c.args.self.now.about.net.value plan c.args.edge.now c.requires.derivable

pub fetch_min-found-requires-clause-place : goal.fetch_min-found-requires-clause-place
fetch_min-found-requires-clause-place c =
    let net : Plan = c.args.self.now.about.net.value in
    let plan : IsPlan net = subst (λ (s : CellsSeen). IsPlan s.about.net.value) c.self.view_is c.self.invariant.plan in
    let key : IsKey (shape_of net) (key_of c.args.edge.now) = derivable_key net plan c.args.edge.now c.requires.derivable in
    let at : c.place-place.result ≡ word_place_of (shape_of net) (key_of c.args.edge.now) = c.place-place.ensures ∙ ap (λ n. n * length net.points + c.args.edge.now.from.0 + 1) c.row-row.ensures in
    subst (λ n. c.place-place.result < n) (sym (c.self.invariant.words ∙ ap (λ (s : CellsSeen). word_count (shape_of s.about.net.value)) c.self.view_is))
    (subst (λ n. n < word_count (shape_of net)) (sym at) (place_below (shape_of net) (key_of c.args.edge.now) key))

pub fetch_min-found-requires-clause-rule : goal.fetch_min-found-requires-clause-rule
fetch_min-found-requires-clause-rule c =
    let net : Plan = c.args.self.now.about.net.value in
    let plan : IsPlan net = subst (λ (s : CellsSeen). IsPlan s.about.net.value) c.self.view_is c.self.invariant.plan in
    let key : IsKey (shape_of net) (key_of c.args.edge.now) = derivable_key net plan c.args.edge.now c.requires.derivable in
    let weight : IsWeight c.args.edge.now.weight = derivable_weight net plan c.args.edge.now c.requires.derivable in
    let at : c.place-place.result ≡ word_place_of (shape_of net) (key_of c.args.edge.now) = c.place-place.ensures ∙ ap (λ n. n * length net.points + c.args.edge.now.from.0 + 1) c.row-row.ensures in
    drops c.args.self.now.about c.args.seat.now.view c.requires.seat.about_is c.args.edge.now c.requires.derivable key c.word_of-word.result
    (code_small c.word_of-word.result c.args.edge.now.weight weight c.word_of-word.ensures) (code_of c.word_of-word.result c.args.edge.now.weight c.word_of-word.ensures)
    c.self.inside.words.key (ap (λ (s : CellsSeen). s.about) c.self.view_is) c.place-place.result at

pub returns : goal.returns
returns c =
    let net : Plan = c.args.self.now.about.net.value in
    let plan : IsPlan net = subst (λ (s : CellsSeen). IsPlan s.about.net.value) c.self.view_is c.self.invariant.plan in
    let key : IsKey (shape_of net) (key_of c.args.edge.now) = derivable_key net plan c.args.edge.now c.requires.derivable in
    let weight : IsWeight c.args.edge.now.weight = derivable_weight net plan c.args.edge.now c.requires.derivable in
    let at : c.place-place.result ≡ word_place_of (shape_of net) (key_of c.args.edge.now) = c.place-place.ensures ∙ ap (λ n. n * length net.points + c.args.edge.now.from.0 + 1) c.row-row.ensures in
    relax_ends c.args.self.now.about c.args.seat.now c.requires.seat.about_is c.args.edge.now key c.word_of-word.result
    (code_small c.word_of-word.result c.args.edge.now.weight weight c.word_of-word.ensures) (code_of c.word_of-word.result c.args.edge.now.weight c.word_of-word.ensures) c.place-place.result at
    c.fetch_min-found.result c.fetch_min-found.new.seat c.fetch_min-found.ensures.table c.fetch_min-found.ensures.shows

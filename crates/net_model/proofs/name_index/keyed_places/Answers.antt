use Rattle.std.proofs.Common.{◌<◌, ◌∙◌, Some, length, map, option_map, sym, ap, arith}
use Rattle.std.proofs.lemmas.List.{length-map}
use Rattle.std.proofs.lemmas.List.Elements.{All-push}
use Rattle.std.proofs.lemmas.Option.{slice_get-map, slice_get-get_or}
use Rattle.net_model.specs.NameIndex.{IsKeyed}
use Rattle.net_model.specs.declared.name_index.KeyedPlace.{KeyedPlace}
use Rattle.net_model.proofs.IndexLemmas.{one_more}
use Rattle.net_model.proofs.name_index.keyed_places.Goals as goal

pub loop-place-preserved : goal.loop-place-preserved
loop-place-preserved g c =
    let of = g.T.Named.name_of in
    let items = c.args.items.now in
    let before = c.loop-place.keyed.items in
    let next : KeyedPlace = record { key = c.key_of.result; place = c.loop-place.place } in
    let inside : c.loop-place.place < length items = c.loop-place-test.true in
    let at = slice_get-map of items c.loop-place.place
    ∙ ap (option_map of) (slice_get-get_or items c.loop-place.place c.index-items-place.result inside)
    ∙ ap Some (ap of (sym c.index-items-place.is) ∙ sym c.name.ensures) in
    rw c.in_ok-push.ensures.items (record {
      each = one_more before next c.loop-place.invariant.each;
      keys = All-push (IsKeyed (map of items)) before next c.loop-place.invariant.keys (c.name.result.now, at, c.key_of.ensures);
    })

pub returns : goal.returns
returns g c = record {
  each = λ p inside. c.loop-place.invariant.each p (omega (arith, c.loop-place-test.false, inside, length-map c.args.items.now g.T.Named.name_of));
  keys = c.loop-place.invariant.keys;
}

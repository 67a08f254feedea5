use Rattle.std.proofs.Common.{sym, map, get_or, rules}
use Rattle.std.proofs.lemmas.Fn.{always_returns_same}
use Rattle.net_model.specs.declared.name_index.KeyedPlace.{KeyedPlace}
use Rattle.net_model.proofs.IndexLemmas.{found, absent, stands}
use Rattle.net_model.proofs.name_index.place_of.Goals as goal

pub returns-in-Ok : goal.returns-in-Ok
returns-in-Ok g c =
    let names = map g.T.Named.name_of c.args.items.now in
    let searched = c.in-Ok.ensures.position (stands names c.args.name.now) (always_returns_same _ _ _ (λ a r f called. search rules)) in
    let other : KeyedPlace = record { key = 0; place = 0 } in
    sym (found names c.args.name.now c.requires.apart (get_or c.args.index.now c.in-Ok.found other) (searched other))

pub returns-in-Err : goal.returns-in-Err
returns-in-Err g c =
    let names = map g.T.Named.name_of c.args.items.now in
    let searched = c.in-Err.ensures.position (stands names c.args.name.now) (always_returns_same _ _ _ (λ a r f called. search rules)) in
    sym (absent names c.args.name.now c.args.index.now c.in-Err.field-0 c.requires.index searched)

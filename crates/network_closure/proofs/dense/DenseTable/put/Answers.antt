use Rattle.std.proofs.Common.{◌≡◌, ◌∙◌, ℤ, Some, set, ap, refl, arith, rules}
use Rattle.std.specs.Vec.{with_item}
use Rattle.closure_model.specs.Keys.{key_of}
use Rattle.net_model.specs.Limits.{IsWeight}
use Rattle.network_closure.specs.declared.dense.DenseTable.TheInside.{Inside}
use Rattle.network_closure.proofs.DenseLemmas.{fits_weight, IsPut, row_of_label, place_of_label, ordinary_put, labelled_put}
use Rattle.network_closure.proofs.dense.DenseTable.put.Goals as goal

pub index_mut-row-requires-in-Some : goal.index_mut-row-requires-in-Some
index_mut-row-requires-in-Some c =
    let small : IsWeight c.args.edge.now.weight = fits_weight c.args.edge.now.weight c.requires.weight in
    let put : IsPut c.self.inside c.args.self.now (key_of c.args.edge.now) c.args.edge.now.weight = record { dense = c.self.invariant; view = c.self.view_is; is_key = c.requires.key; small = small } in
    omega (arith, c.self.inside.labelled.ok.0, row_of_label c.self.inside c.args.self.now (key_of c.args.edge.now) c.args.edge.now.weight put c.in-Some.label c.in-Some.is)

pub set-requires-in-Some-clause-from_point : goal.set-requires-in-Some-clause-from_point
set-requires-in-Some-clause-from_point c =
    let small : IsWeight c.args.edge.now.weight = fits_weight c.args.edge.now.weight c.requires.weight in
    let put : IsPut c.self.inside c.args.self.now (key_of c.args.edge.now) c.args.edge.now.weight = record { dense = c.self.invariant; view = c.self.view_is; is_key = c.requires.key; small = small } in
    place_of_label c.self.inside c.args.self.now (key_of c.args.edge.now) c.args.edge.now.weight put c.in-Some.label c.in-Some.is c.index_mut-row-in-Some.result.now c.index_mut-row-in-Some.ensures.value

pub invariant_of-self : goal.invariant_of-self
invariant_of-self c =
    let small : IsWeight c.args.edge.now.weight = fits_weight c.args.edge.now.weight c.requires.weight in
    let written : c.set.new.self ≡ set c.index_mut-row.result.now c.args.edge.now.from.0 (Some c.args.edge.now.weight) = c.set.ensures ∙ ap (λ (w : ℤ). set c.index_mut-row.result.now c.args.edge.now.from.0 (Some w)) (search rules) in
    let put : IsPut c.self.inside c.args.self.now (key_of c.args.edge.now) c.args.edge.now.weight = record { dense = c.self.invariant; view = c.self.view_is; is_key = c.requires.key; small = small } in
    (ordinary_put c.self.inside (record { ordinary = with_item c.self.inside.ordinary c.args.edge.now.to.0 c.set.new.self; labelled = c.self.inside.labelled; activations = c.self.inside.activations }) c.args.self.now
    (key_of c.args.edge.now) c.args.edge.now.weight put c.index_mut-row.result.now c.set.new.self c.in-None.is c.index_mut-row.ensures.value written refl refl refl).0

pub returns-in-None : goal.returns-in-None
returns-in-None c =
    let small : IsWeight c.args.edge.now.weight = fits_weight c.args.edge.now.weight c.requires.weight in
    let written : c.set.new.self ≡ set c.index_mut-row.result.now c.args.edge.now.from.0 (Some c.args.edge.now.weight) = c.set.ensures ∙ ap (λ (w : ℤ). set c.index_mut-row.result.now c.args.edge.now.from.0 (Some w)) (search rules) in
    let put : IsPut c.self.inside c.args.self.now (key_of c.args.edge.now) c.args.edge.now.weight = record { dense = c.self.invariant; view = c.self.view_is; is_key = c.requires.key; small = small } in
    (ordinary_put c.self.inside (record { ordinary = with_item c.self.inside.ordinary c.args.edge.now.to.0 c.set.new.self; labelled = c.self.inside.labelled; activations = c.self.inside.activations }) c.args.self.now
    (key_of c.args.edge.now) c.args.edge.now.weight put c.index_mut-row.result.now c.set.new.self c.in-None.is c.index_mut-row.ensures.value written refl refl refl).1

pub invariant_of-self-in-Some : goal.invariant_of-self-in-Some
invariant_of-self-in-Some c =
    let small : IsWeight c.args.edge.now.weight = fits_weight c.args.edge.now.weight c.requires.weight in
    let written : c.set-in-Some.new.self ≡ set c.index_mut-row-in-Some.result.now c.args.edge.now.from.0 (Some c.args.edge.now.weight) = c.set-in-Some.ensures
    ∙ ap (λ (w : ℤ). set c.index_mut-row-in-Some.result.now c.args.edge.now.from.0 (Some w)) (search rules) in
    let put : IsPut c.self.inside c.args.self.now (key_of c.args.edge.now) c.args.edge.now.weight = record { dense = c.self.invariant; view = c.self.view_is; is_key = c.requires.key; small = small } in
    let new : Inside = record { ordinary = c.self.inside.ordinary; labelled = with_item c.self.inside.labelled c.in-Some.label.0 c.set-in-Some.new.self; activations = c.self.inside.activations } in
    (labelled_put c.self.inside new c.args.self.now (key_of c.args.edge.now) c.args.edge.now.weight put c.in-Some.label c.index_mut-row-in-Some.result.now c.set-in-Some.new.self c.in-Some.is c.index_mut-row-in-Some.ensures.value written
    refl refl refl).0

pub returns-in-Some : goal.returns-in-Some
returns-in-Some c =
    let small : IsWeight c.args.edge.now.weight = fits_weight c.args.edge.now.weight c.requires.weight in
    let written : c.set-in-Some.new.self ≡ set c.index_mut-row-in-Some.result.now c.args.edge.now.from.0 (Some c.args.edge.now.weight) = c.set-in-Some.ensures
    ∙ ap (λ (w : ℤ). set c.index_mut-row-in-Some.result.now c.args.edge.now.from.0 (Some w)) (search rules) in
    let put : IsPut c.self.inside c.args.self.now (key_of c.args.edge.now) c.args.edge.now.weight = record { dense = c.self.invariant; view = c.self.view_is; is_key = c.requires.key; small = small } in
    let new : Inside = record { ordinary = c.self.inside.ordinary; labelled = with_item c.self.inside.labelled c.in-Some.label.0 c.set-in-Some.new.self; activations = c.self.inside.activations } in
    (labelled_put c.self.inside new c.args.self.now (key_of c.args.edge.now) c.args.edge.now.weight put c.in-Some.label c.index_mut-row-in-Some.result.now c.set-in-Some.new.self c.in-Some.is c.index_mut-row-in-Some.ensures.value written
    refl refl refl).1

use Rattle.std.proofs.Common.{◌≡◌, ◌<◌, None, Option, ℤ, sym, subst, arith, get_or, rules}
use mir.Val.{to_z, of_z}
use mir.Syntax.{w64}
use Rattle.closure_model.specs.Keys.{Key, ordinary_key, labelled_key, IsLabelAt}
use Rattle.closure_model.specs.Tables.{weight_of}
use Rattle.labelled_graph.specs.Words.{SaturatesHeld}
use Rattle.network_closure.proofs.DenseLemmas.{ordinary_read, labelled_read}
use Rattle.network_closure.proofs.dense.DenseTable.improves_before.Goals as goal

pub returns-in-None : goal.returns-in-None
returns-in-None c none first after below =
    let kept : to_z w64 (of_z w64 c.args.edge.now.weight) ≡ c.args.edge.now.weight = search rules in
    let inside : first.0 < c.args.self.now.shape.points = omega (arith, below, c.requires.range) in
    let one = ordinary_read c.self.inside c.args.self.now c.self.invariant c.self.view_is first c.args.edge.now.from inside c.requires.key.from_point c.index-firsts.result.now c.index-firsts.ensures in
    let two = ordinary_read c.self.inside c.args.self.now c.self.invariant c.self.view_is first c.args.edge.now.to inside c.requires.key.to_point c.index-row.result.now c.index-row.ensures in
    let keys : ordinary_key first c.args.edge.now.to ≡ record { to = c.args.edge.now.to; from = first; label = c.args.edge.now.label } = λ i. record { to = c.args.edge.now.to; from = first; label = sym c.in-None.is i } in
    subst (λ (key : Key). SaturatesHeld (weight_of c.args.self.now (ordinary_key first c.args.edge.now.from)) (weight_of c.args.self.now key) c.args.edge.now.weight) keys
    (subst (λ (o : Option ℤ). SaturatesHeld o (weight_of c.args.self.now (ordinary_key first c.args.edge.now.to)) c.args.edge.now.weight) one
    (subst (λ (o : Option ℤ). SaturatesHeld (get_or c.index-firsts.result.now first.0 None) o c.args.edge.now.weight) two
    (subst (λ (w : ℤ). SaturatesHeld (get_or c.index-firsts.result.now first.0 None) (get_or c.index-row.result.now first.0 None) w) kept (c.improves_in.ensures none first.0 after below))))

pub returns-in-Some : goal.returns-in-Some
returns-in-Some c none first after below =
    let kept : to_z w64 (of_z w64 c.args.edge.now.weight) ≡ c.args.edge.now.weight = search rules in
    let inside : first.0 < c.args.self.now.shape.points = omega (arith, below, c.requires.range) in
    let begins = subst (IsLabelAt c.args.self.now.shape c.args.edge.now.to) c.in-Some.is c.requires.key.labelled in
    let one = ordinary_read c.self.inside c.args.self.now c.self.invariant c.self.view_is first c.args.edge.now.from inside c.requires.key.from_point c.index-firsts.result.now c.index-firsts.ensures in
    let two = labelled_read c.self.inside c.args.self.now c.self.invariant c.self.view_is first c.args.edge.now.to c.in-Some.label inside begins c.index-row-in-Some.result.now c.index-row-in-Some.ensures in
    let keys : labelled_key first c.args.edge.now.to c.in-Some.label ≡ record { to = c.args.edge.now.to; from = first; label = c.args.edge.now.label } = λ i. record { to = c.args.edge.now.to; from = first; label = sym c.in-Some.is i } in
    subst (λ (key : Key). SaturatesHeld (weight_of c.args.self.now (ordinary_key first c.args.edge.now.from)) (weight_of c.args.self.now key) c.args.edge.now.weight) keys
    (subst (λ (o : Option ℤ). SaturatesHeld o (weight_of c.args.self.now (labelled_key first c.args.edge.now.to c.in-Some.label)) c.args.edge.now.weight) one
    (subst (λ (o : Option ℤ). SaturatesHeld (get_or c.index-firsts.result.now first.0 None) o c.args.edge.now.weight) two
    (subst (λ (w : ℤ). SaturatesHeld (get_or c.index-firsts.result.now first.0 None) (get_or c.index-row-in-Some.result.now first.0 None) w) kept (c.improves_in-in-Some.ensures none first.0 after below))))

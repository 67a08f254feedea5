-- If nothing may improve, what is not relaxed would change nothing.
use Rattle.std.proofs.Common.{◌<◌, List, length, subst, arith}
use Rattle.std.specs.List.{flat_map}
use Rattle.net_model.specs.declared.part.Edge.{Edge}
use Rattle.closure_model.specs.ReferenceRow.{from_first}
use Rattle.back_propagation.specs.OpenRows.{HasRelaxed}
use Rattle.back_propagation.proofs.SeededSteps.{delta_is}
use Rattle.back_propagation.proofs.SeedSteps.{all_of_table}
use Rattle.back_propagation.proofs.BlockSteps.{vain_relaxations}
use Rattle.back_propagation.proofs.open_row.OpenRow.relax_after_delta.Goals as goal

pub relax_after_all-requires-clause-firsts : goal.relax_after_all-requires-clause-firsts
relax_after_all-requires-clause-firsts c =
    let inside : c.args.edge.now.from.0 < length c.args.delta.now = let key = c.requires.row.of_row.key.from_point in let count = c.requires.delta.count in omega arith in
    all_of_table c.args.basis.table.now c.args.delta.now c.args.edge.now.from c.as_slice-firsts.result.now c.index-delta-edge.result c.requires.delta.edges inside c.index-delta-edge.is c.as_slice-firsts.ensures

pub returns-in_ok-relax_after_all : goal.returns-in_ok-relax_after_all
returns-in_ok-relax_after_all c =
    let inside : c.args.edge.now.from.0 < length c.args.delta.now = let key = c.requires.row.of_row.key.from_point in let count = c.requires.delta.count in omega arith in
    let is = delta_is c.args.delta.now c.args.edge.now.from c.as_slice-firsts.result.now c.index-delta-edge.result inside c.index-delta-edge.is c.as_slice-firsts.ensures in
    subst (λ (list : List Edge). HasRelaxed c.args.self.now c.relax_after_all.new.self (flat_map (from_first c.args.edge.now) list)) is c.in_ok-relax_after_all.ensures

pub returns-else-may_improve : goal.returns-else-may_improve
returns-else-may_improve c =
    let inside : c.args.edge.now.from.0 < length c.args.delta.now = let key = c.requires.row.of_row.key.from_point in let count = c.requires.delta.count in omega arith in
    let is = delta_is c.args.delta.now c.args.edge.now.from c.as_slice-firsts.result.now c.index-delta-edge.result inside c.index-delta-edge.is c.as_slice-firsts.ensures in
    let held = all_of_table c.args.basis.table.now c.args.delta.now c.args.edge.now.from c.as_slice-firsts.result.now c.index-delta-edge.result c.requires.delta.edges inside c.index-delta-edge.is c.as_slice-firsts.ensures in
    subst (λ (list : List Edge). HasRelaxed c.args.self.now c.args.self.now (flat_map (from_first c.args.edge.now) list)) is
    (vain_relaxations c.args.basis c.args.self.now c.args.edge.now c.args.column c.as_slice-firsts.result.now c.requires.row held (c.may_improve.ensures c.if-may_improve.false))

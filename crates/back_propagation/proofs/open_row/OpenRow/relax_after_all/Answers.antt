use Rattle.std.proofs.Common.{take, None, pos}
use Rattle.std.specs.List.{flat_map}
use Rattle.std.proofs.lemmas.List.Elements.{All-get_or}
use Rattle.net_model.specs.declared.part.Edge.{Edge}
use Rattle.closure_model.specs.ReferenceRow.{from_first}
use Rattle.closure_model.specs.Tables.{HasEdge}
use Rattle.back_propagation.proofs.OpenRowSteps.{relaxes_nothing, relaxes_more, relaxes_all, still_relaxing}
use Rattle.back_propagation.proofs.open_row.OpenRow.relax_after_all.Goals as goal

abbrev no_edge : Edge
no_edge = record { from = record { 0 = 0 }; to = record { 0 = 0 }; label = None; weight = pos 0 }

pub loop-first-init : goal.loop-first-init
loop-first-init c = relaxes_nothing c.args.self.now

pub relax_after_first-requires-clause-row : goal.relax_after_first-requires-clause-row
relax_after_first-requires-clause-row c =
    still_relaxing c.args.basis c.args.self.now c.loop-first.self c.args.edge.now c.args.column (flat_map (from_first c.args.edge.now) (take c.loop-first.first-index c.args.firsts.now)) c.loop-first.invariant c.requires.row

pub relax_after_first-requires-clause-first : goal.relax_after_first-requires-clause-first
relax_after_first-requires-clause-first c = All-get_or (HasEdge c.args.basis.table.now) c.args.firsts.now c.loop-first.first-index no_edge c.loop-first-test.true c.requires.firsts

pub loop-first-preserved : goal.loop-first-preserved
loop-first-preserved c =
    relaxes_more (from_first c.args.edge.now) c.args.firsts.now c.loop-first.first-index no_edge c.args.self.now c.loop-first.self c.relax_after_first.new.self c.loop-first-test.true c.loop-first.invariant c.in_ok-relax_after_first.ensures

pub returns : goal.returns
returns c = relaxes_all (from_first c.args.edge.now) c.args.firsts.now c.loop-first.first-index c.args.self.now c.loop-first.self c.loop-first-test.false c.loop-first.invariant

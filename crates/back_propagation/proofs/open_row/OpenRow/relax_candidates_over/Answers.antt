-- Each edge before it adds its candidate.
use Rattle.std.proofs.Common.{◌∙◌, None, pos}
use Rattle.std.proofs.lemmas.List.Elements.{All-get_or}
use Rattle.net_model.specs.declared.part.Edge.{Edge}
use Rattle.closure_model.specs.Tables.{HasEdge}
use Rattle.back_propagation.specs.BestCandidates.{candidate_after}
use Rattle.back_propagation.proofs.BestSteps.{taken_all, taken_more, taken_nothing}
use Rattle.back_propagation.proofs.open_row.OpenRow.relax_candidates_over.Goals as goal

abbrev no_edge : Edge
no_edge = record { from = record { 0 = 0 }; to = record { 0 = 0 }; label = None; weight = pos 0 }

pub loop-first-init : goal.loop-first-init
loop-first-init c = taken_nothing c.args.candidates.now c.requires.apart

pub relax_candidate_over-requires-clause-first : goal.relax_candidate_over-requires-clause-first
relax_candidate_over-requires-clause-first c = All-get_or (HasEdge c.args.table.now) c.args.firsts.now c.loop-first.first-index no_edge c.loop-first-test.true c.requires.firsts

pub relax_candidate_over-requires-clause-apart : goal.relax_candidate_over-requires-clause-apart
relax_candidate_over-requires-clause-apart c = c.loop-first.invariant.apart

pub relax_candidate_over-requires-clause-keys : goal.relax_candidate_over-requires-clause-keys
relax_candidate_over-requires-clause-keys c = c.loop-first.invariant.keys ∙ c.requires.keys

pub loop-first-preserved : goal.loop-first-preserved
loop-first-preserved c =
    taken_more (candidate_after c.args.table.now c.args.self.now.width c.args.edge.now c.args.column) c.args.firsts.now c.loop-first.first-index no_edge c.args.candidates.now c.loop-first.candidates c.relax_candidate_over.new.candidates
    c.loop-first-test.true c.loop-first.invariant
    c.in_ok-relax_candidate_over.ensures

pub returns : goal.returns
returns c = taken_all (candidate_after c.args.table.now c.args.self.now.width c.args.edge.now c.args.column) c.args.firsts.now c.loop-first.first-index c.args.candidates.now c.loop-first.candidates c.loop-first-test.false
    c.loop-first.invariant

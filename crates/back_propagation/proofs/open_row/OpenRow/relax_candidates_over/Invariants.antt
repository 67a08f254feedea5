use Rattle.std.proofs.Common.{take}
use Rattle.std.specs.List.{flat_map}
use Rattle.back_propagation.specs.BestCandidates.{candidate_after, HasTaken}
use Rattle.back_propagation.proofs.open_row.OpenRow.relax_candidates_over.Given as goal

abbrev pub invariant-loop-first : goal.invariant-loop-first
invariant-loop-first l = HasTaken l.fn.candidates l.candidates (flat_map (candidate_after l.table l.self.width l.edge l.column) (take l.first-index l.firsts))

use Rattle.std.proofs.Common.{ltb, rules}
use Rattle.std.proofs.lemmas.List.Sorted.{IsPartitionPoint-from_clause, IsPartitionedBy-ltb}
use Rattle.closure_model.specs.declared.derivation.NodeId.{NodeId}
use Rattle.refutation_certificates.proofs.LineNumbers.{are_non_decreasing, searched_line}
use Rattle.refutation_certificates.proofs.lines.line_of.Goals as goal

pub returns : goal.returns
returns c =
    let parted = IsPartitionedBy-ltb (λ (line : NodeId). line.0) c.args.lines.now c.args.id.0 (are_non_decreasing c.args.lines.now c.requires.in_order) in
    let point = IsPartitionPoint-from_clause (λ (line : NodeId). ltb line.0 c.args.id.0) _ _ c.partition_point.ensures.partitioned parted (λ a r q k. search rules) in
    searched_line c.args.lines.now c.args.id c.partition_point.result c.requires.in_order c.requires.there c.partition_point.ensures.bound point

use Rattle.std.proofs.Common.{sym, ◌∙◌, arith}
use Rattle.std.proofs.lemmas.Bool.{eqb-true, eqb-false}
use Rattle.texts.proofs.LineLemmas.{no_lines, only_line, only_size, first_line, first_size}
use Rattle.texts.proofs.lines.next_line.Goals as goal

pub returns-then-is_empty-clause-lines : goal.returns-then-is_empty-clause-lines
returns-then-is_empty-clause-lines c =
    no_lines c.args.bytes.now (eqb-true _ 0 (sym c.is_empty.ensures ∙ c.if-is_empty.true))

pub returns-then-end-bytes-clause-lines : goal.returns-then-end-bytes-clause-lines
returns-then-end-bytes-clause-lines c =
    only_line c.args.bytes.now c.end_of_line-end.result (omega arith) (eqb-false _ 0 (sym c.is_empty.ensures ∙ c.if-is_empty.false)) c.end_of_line-end.ensures.lines

pub returns-then-end-bytes-clause-sizes : goal.returns-then-end-bytes-clause-sizes
returns-then-end-bytes-clause-sizes c =
    λ count. only_size c.args.bytes.now c.end_of_line-end.result count (omega arith) (c.end_of_line-end.ensures.sizes count)

pub returns-clause-lines : goal.returns-clause-lines
returns-clause-lines c =
    first_line c.args.bytes.now c.end_of_line-end.result (omega arith) (c.end_of_line-end.ensures.found (omega arith)) c.end_of_line-end.ensures.lines

pub returns-clause-sizes : goal.returns-clause-sizes
returns-clause-sizes c =
    λ count. first_size c.args.bytes.now c.end_of_line-end.result count (omega arith) (c.end_of_line-end.ensures.found (omega arith)) (c.end_of_line-end.ensures.sizes count)

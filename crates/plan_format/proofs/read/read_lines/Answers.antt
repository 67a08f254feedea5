use Rattle.std.proofs.Common.{rules, arith, subst, sym}
use Rattle.net_model.specs.declared.format.TextFault.{TextFault}
use Rattle.plan_format.specs.PlanFaults.{IsPlanTextFault}
use Rattle.plan_format.proofs.ReadLemmas.{IsNextLine, goes_on, at_next, at_end_line, at_refused, at_last}
use Rattle.plan_format.proofs.read.read_lines.Goals as goal

pub returns-in-Ok-End : goal.returns-in-Ok-End
returns-in-Ok-End c =
    let at = c.loop-line.invariant in
    let brings = rw c.in-Ok-End.field-0-is at (c.in-Ok-End.ensures.brings at.before at.has at.counted) in
    let next : IsNextLine c.loop-line.rest.now c.in-Some.line.now c.in-Some.others.now = record { here = c.in-Some.ensures.lines; shorter = c.in-Some.ensures.shorter; sizes = c.in-Some.ensures.sizes } in
    at_end_line c.args.bytes.now c.loop-line.rest.now c.in-Some.line.now c.in-Some.others.now c.loop-line.number c.loop-line.reader c.read_line.new.self at next brings

pub returns-in-Err : goal.returns-in-Err
returns-in-Err c =
    let at = c.loop-line.invariant in
    let next : IsNextLine c.loop-line.rest.now c.in-Some.line.now c.in-Some.others.now = record { here = c.in-Some.ensures.lines; shorter = c.in-Some.ensures.shorter; sizes = c.in-Some.ensures.sizes } in
    subst (λ (fault : TextFault). IsPlanTextFault c.args.bytes.now fault) (sym c.at_line.ensures)
    (at_refused c.args.bytes.now c.loop-line.rest.now c.in-Some.line.now c.in-Some.others.now c.loop-line.reader c.read_line.new.self c.in-Err.fault c.loop-line.number at next (c.in-Err.ensures.brings at.before at.has at.counted))

pub overflow_add-number : goal.overflow_add-number
overflow_add-number c =
    let at = c.loop-line.invariant in
    omega (arith, at.counted, at.left.within, c.requires.few)

pub loop-line-smaller : goal.loop-line-smaller
loop-line-smaller c = c.in-Some.ensures.shorter

pub loop-line-preserved : goal.loop-line-preserved
loop-line-preserved c =
    let at = c.loop-line.invariant in
    let next : IsNextLine c.loop-line.rest.now c.in-Some.line.now c.in-Some.others.now = record { here = c.in-Some.ensures.lines; shorter = c.in-Some.ensures.shorter; sizes = c.in-Some.ensures.sizes } in
    at_next c.args.bytes.now c.loop-line.rest.now c.in-Some.line.now c.in-Some.others.now c.loop-line.number c.loop-line.reader c.read_line.new.self at next
    (goes_on at.before c.in-Some.line.now c.in-Ok.field-0 c.read_line.new.self (search rules) (c.in-Ok.ensures.brings at.before at.has at.counted))

pub returns : goal.returns
returns c =
    let at = c.loop-line.invariant in
    subst (λ (fault : TextFault). IsPlanTextFault c.args.bytes.now fault) (sym c.into.ensures)
    (at_last c.args.bytes.now c.loop-line.rest.now c.loop-line.number c.missing-kind.result c.loop-line.reader at c.in_default.ensures.lines (c.missing-kind.ensures.fault at.before at.has))

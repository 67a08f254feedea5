use Rattle.std.proofs.Common.{IfNone, Option, Some, None, sym, ◌∙◌, arith}
use Rattle.texts.specs.Lines.{input_lines}
use Rattle.plan_port.specs.Reader.{spare_capacity}
use Rattle.plan_port.specs.declared.lines.Line.{Line}
use Rattle.plan_port.proofs.ReaderAnswers.{reads_next, line_clause, never_to}
use Rattle.plan_port.proofs.FirstLines.{nothing_is_small}
use Rattle.plan_port.proofs.lines.LineReader.next_line.Goals as goal

if_none : (stopped : Option Line) (P : Type 0) → P → IfNone stopped P
if_none (Some line) P p = tt
if_none None P p = p

pub returns-in-Ok-clause-reads : goal.returns-in-Ok-clause-reads
returns-in-Ok-clause-reads g c =
    let taking = c.take_until_decided in
    let takes = c.in-Ok.ensures.takes in
    if_none c.args.self.now.stopped _ (reads_next c.args.longest c.args.self.now taking.new.self c.answer.new.self c.answer.result c.in-Ok.outcome takes.0 (g.P.Port.seen c.args.port.now)
    (g.P.Port.seen taking.new.port) takes.1 c.in-Ok.ensures.outcome c.answer.ensures.answer c.answer.ensures.after)

pub returns-in-Ok-clause-line : goal.returns-in-Ok-clause-line
returns-in-Ok-clause-line g c =
    let taking = c.take_until_decided in
    let takes = c.in-Ok.ensures.takes in
    if_none c.args.self.now.stopped _ (line_clause c.args.longest c.args.self.now taking.new.self c.answer.new.self c.answer.result takes.0 _ (g.P.Port.seen c.args.port.now)
    (g.P.Port.seen taking.new.port) takes.1 c.answer.ensures.answer c.answer.ensures.after)

pub returns-in-Ok-clause-memory : goal.returns-in-Ok-clause-memory
returns-in-Ok-clause-memory g c = λ none.
    let full = c.take_until_decided.new.self in
    absurd (never_to (input_lines full.kept) c.args.longest full (sym none ∙ c.answer.ensures.answer))

pub returns-in-Err-clause-memory : goal.returns-in-Err-clause-memory
returns-in-Err-clause-memory g c = λ none.
    let full = c.take_until_decided.new.self in
    let wants = c.in-Err.ensures.wants in
    omega (arith, wants.long, (nothing_is_small c.args.longest (spare_capacity full) full.kept wants.undecided).0)

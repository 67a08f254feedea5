use Rattle.std.proofs.Common.{◌-◌, ◌≤◌, length, sym, ap, ◌∙◌, arith}
use Rattle.plan_port.specs.Reader.{Reader, spare_capacity, after_answer}
use Rattle.plan_port.specs.declared.lines.Line.{Line}
use Rattle.plan_port.proofs.FirstLines.{decide_nothing, nothing_is_small}
use Rattle.plan_port.proofs.ReaderAnswers.{line_within, gives_whole, gives_last}
use Rattle.plan_port.proofs.lines.LineReader.give.Goals as goal

pub give_line-requires-clause-whole : goal.give_line-requires-clause-whole
give_line-requires-clause-whole c =
    let r = c.args.self.now in
    (line_within c.args.longest (spare_capacity r) r.kept c.in-Line.size (sym c.requires.judged ∙ c.in-Line.is)).0

pub give_last-requires-clause-within : goal.give_last-requires-clause-within
give_last-requires-clause-within c =
    let r = c.args.self.now in
    let small : length r.kept ≤ r.most - r.before = (nothing_is_small c.args.longest (spare_capacity r) r.kept (decide_nothing c.args.longest (spare_capacity r) r.kept (sym c.requires.judged ∙ c.in-Unclear.is))).1 in
    let before = ap (λ (x : Reader). x.before) c.self.view_is in
    let most = ap (λ (x : Reader). x.most) c.self.view_is in
    omega (arith, small, before, most, c.self.invariant.1.within)

pub returns-in-Line-clause-after : goal.returns-in-Line-clause-after
returns-in-Line-clause-after c =
    let r = c.args.self.now in
    c.give_line.ensures.after
    ∙ (gives_whole c.args.longest r c.in-Line.size c.requires.running (sym c.requires.judged ∙ c.in-Line.is)
    ∙ ap (λ (line : Line). after_answer line r) (sym c.give_line.ensures.answer))

pub returns-in-Unclear-clause-answer : goal.returns-in-Unclear-clause-answer
returns-in-Unclear-clause-answer c =
    let e = c.give_last.ensures in
    (gives_last c.args.longest c.args.self.now c.requires.running (sym c.in-Unclear.is ∙ c.requires.judged) (c.requires.ended c.in-Unclear.is) c.give_last.result c.give_last.new.self e.end e.text).answered

pub returns-in-Unclear-clause-after : goal.returns-in-Unclear-clause-after
returns-in-Unclear-clause-after c =
    let e = c.give_last.ensures in
    (gives_last c.args.longest c.args.self.now c.requires.running (sym c.in-Unclear.is ∙ c.requires.judged) (c.requires.ended c.in-Unclear.is) c.give_last.result c.give_last.new.self e.end e.text).goes_on

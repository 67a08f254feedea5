use Rattle.refutation_certificates.proofs.HeldLines.{held_can, held_more}
use Rattle.refutation_certificates.proofs.lines.lines_of.Goals as goal

pub push_line-requires-clause-can : goal.push_line-requires-clause-can
push_line-requires-clause-can c =
    held_can c.args.store.now.nodes c.args.lines.now c.args.nodes.now c.requires.numbers c.requires.numbered c.args.net.now c.requires.can c.loop-numbered.numbered-index _ c.loop-numbered-test.true

pub loop-numbered-preserved : goal.loop-numbered-preserved
loop-numbered-preserved c =
    held_more c.args.store.now.nodes c.args.lines.now c.args.nodes.now c.requires.numbers c.requires.numbered c.args.net.now c.loop-numbered.made.items c.push_line.new.made.items c.loop-numbered.numbered-index _
    c.loop-numbered-test.true c.loop-numbered.invariant c.in_ok-push_line.ensures

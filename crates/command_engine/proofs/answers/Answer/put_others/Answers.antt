use Rattle.std.proofs.Common.{arith}
use Rattle.command_engine.specs.declared.words.Word.TheVariants.{Number}
use Rattle.command_engine.proofs.WordLemmas.{most_bytes-at}
use Rattle.command_engine.proofs.answers.Answer.put_others.Goals as goal

pub put_bytes-requires : goal.put_bytes-requires
put_bytes-requires c =
    omega (arith, c.requires, c.loop-word.invariant.spare_capacity, c.loop-word.invariant.capacity, most_bytes-at c.args.words.now c.loop-word.word-index (Number 0) c.loop-word-test.true)

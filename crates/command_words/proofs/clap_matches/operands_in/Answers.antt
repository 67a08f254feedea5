use Rattle.std.proofs.Common.{sym, map}
use Rattle.clap.specs.Words.{first_value, found_of}
use Rattle.command_words.proofs.TextLemmas.{none_there, all_there}
use Rattle.command_words.proofs.clap_matches.operands_in.Goals as goal

pub returns-in-None : goal.returns-in-None
returns-in-None c =
    none_there (first_value (found_of c.args.matches.now)) (map (λ t. t.now) c.loop-name.operands.items) c.args.names.now c.loop-name.name-index _ c.loop-name.invariant c.loop-name-test.true (sym c.in-None.ensures)

pub returns : goal.returns
returns c =
    all_there (first_value (found_of c.args.matches.now)) (map (λ t. t.now) c.loop-name.operands.items) c.args.names.now c.loop-name.name-index c.loop-name.invariant c.loop-name-test.false

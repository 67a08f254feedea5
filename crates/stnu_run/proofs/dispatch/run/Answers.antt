use Rattle.std.proofs.Common.{map, string_bytes}
use Rattle.stnu_run.specs.DefinedRuns.{program_of}
use Rattle.command_contracts.proofs.ExactLemmas.{program_exact}
use Rattle.command_contracts.proofs.StatusLemmas.{status_caused}
use Rattle.stnu_run.proofs.dispatch.run.Goals as goal

pub returns-clause-served : goal.returns-clause-served
returns-clause-served g c = c.run_words.ensures.served

pub returns-clause-kept : goal.returns-clause-kept
returns-clause-kept g c = c.run_words.ensures.kept

pub returns-clause-causes : goal.returns-clause-causes
returns-clause-causes g c = c.run_words.ensures.causes

pub returns-clause-memory : goal.returns-clause-memory
returns-clause-memory g c = c.run_words.ensures.memory

pub returns-clause-bytes : goal.returns-clause-bytes
returns-clause-bytes g c =
    let words = map string_bytes c.args.words.now.items in
    program_exact (program_of words) c.run_words.result (g.P.Port.seen c.args.port.now) (g.P.Port.seen c.run_words.new.port) (c.law_words_are_lawful.ensures.prints words) c.run_words.ensures.served

pub returns-clause-status : goal.returns-clause-status
returns-clause-status g c =
    let words = map string_bytes c.args.words.now.items in
    status_caused (program_of words) c.run_words.result (g.P.Port.seen c.args.port.now) (g.P.Port.seen c.run_words.new.port) (c.law_words_are_lawful.ensures.prints words) (c.law_words_are_lawful.ensures.causes words)
    c.run_words.ensures.causes c.run_words.ensures.served (returns-clause-bytes g c)

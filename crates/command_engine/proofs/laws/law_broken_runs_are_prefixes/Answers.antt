use Rattle.command_engine.proofs.PrefixLemmas.{reply_prefixes, memory_prefixes}
use Rattle.command_engine.proofs.laws.law_broken_runs_are_prefixes.Goals as goal

pub returns-clause-put : goal.returns-clause-put
returns-clause-put g c = λ single start input put whole end runs within. reply_prefixes g.C.Command.machine single start input put whole end runs within

pub returns-clause-memory : goal.returns-clause-memory
returns-clause-memory g c = λ single start input put whole pieces end runs wants. memory_prefixes g.C.Command.machine single start input put whole pieces end runs wants

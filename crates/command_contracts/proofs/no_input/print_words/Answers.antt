use Rattle.std.proofs.Common.{map, string_bytes}
use Rattle.command_contracts.specs.Programs.{prints}
use Rattle.command_contracts.specs.Requests.{program_by}
use Rattle.command_contracts.proofs.NothingLemmas.{nothing_runs}
use Rattle.command_contracts.proofs.no_input.print_words.Goals as goal

pub returns-in-Err : goal.returns-in-Err
returns-in-Err g c =
    nothing_runs (program_by g.T.Request.syntax g.T.Request.query (λ query. prints (g.T.NoInput.reported query)) (map string_bytes c.args.words.now)) (g.P.Port.seen c.args.port.now)

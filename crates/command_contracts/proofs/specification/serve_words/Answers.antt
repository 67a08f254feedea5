use Rattle.std.proofs.Common.{map, string_bytes}
use Rattle.command_contracts.specs.Programs.{serves}
use Rattle.command_contracts.specs.Requests.{program_by}
use Rattle.command_contracts.proofs.NothingLemmas.{nothing_runs}
use Rattle.command_contracts.proofs.specification.serve_words.Goals as goal

pub returns-in-Err : goal.returns-in-Err
returns-in-Err g c =
    nothing_runs (program_by g.C.Request.Request.syntax g.C.Request.Request.query (λ query. serves g.C.Served.Command.machine (g.C.Specified.start query) (g.C.Specified.promise query)) (map string_bytes c.args.words.now))
    (g.P.Port.seen c.args.port.now)

use Rattle.std.proofs.Common.{ℕ, ap, rules}
use Rattle.command_contracts.specs.Programs.{Promise, serves, ServesProgram}
use Rattle.command_contracts.specs.declared.status.Status.{Status}
use Rattle.command_contracts.proofs.KeptLemmas.{kept, served_from, kept_without_memory}
use Rattle.command_contracts.proofs.specification.serve_command.Goals as goal

pub returns : goal.returns
returns g c =
    let number : ℕ → Status = λ n. record { 0 = n } in
    let promise : Promise = g.C.Specified.promise c.args.request in
    let before = g.P.Port.seen c.args.port.now in
    let after = g.P.Port.seen c.serve.new.port in
    let served : ServesProgram (serves g.C.Served.Command.machine (g.C.Specified.start c.args.request) promise) (number c.number.result) before after =
    served_from g.C.Served.Command.machine (g.C.Specified.start c.args.request) c.initial.result promise c.serve.result (number c.number.result) before after (ap number c.number.ensures) c.initial.ensures.start c.serve.ensures in
    record {
      served = served;
      kept = kept (serves g.C.Served.Command.machine (g.C.Specified.start c.args.request) promise) (number c.number.result) before after (c.keeps_its_promise.ensures c.args.request) served;
      causes = search rules;
      memory = kept_without_memory g.C.Served.Command.machine (g.C.Specified.start c.args.request) c.initial.result promise c.serve.result (number c.number.result) before after (ap number c.number.ensures) c.initial.ensures.start
          (c.keeps_it_without_memory.ensures c.args.request) c.serve.ensures;
    }

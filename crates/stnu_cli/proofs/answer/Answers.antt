use Rattle.std.proofs.Common.{map, string_bytes}
use Rattle.stnu_cli.proofs.answer.Goals as goal

pub returns-clause-refuses : goal.returns-clause-refuses
returns-clause-refuses g c =
    c.law_runs_are_lawful.ensures.refuses (map string_bytes c.args.words.now.items) c.run.result (g.P.Port.seen c.args.port.now) (g.P.Port.seen c.run.new.port) c.run.ensures.status

pub returns-clause-accepted : goal.returns-clause-accepted
returns-clause-accepted g c =
    c.law_runs_are_lawful.ensures.accepted (map string_bytes c.args.words.now.items) c.run.result (g.P.Port.seen c.args.port.now) (g.P.Port.seen c.run.new.port) c.run.ensures.status

pub returns-clause-only : goal.returns-clause-only
returns-clause-only g c =
    c.law_runs_are_lawful.ensures.only (map string_bytes c.args.words.now.items) c.run.result (g.P.Port.seen c.args.port.now) (g.P.Port.seen c.run.new.port) c.run.ensures.status c.run.ensures.bytes

pub returns-clause-options : goal.returns-clause-options
returns-clause-options g c =
    c.law_runs_are_lawful.ensures.options (map string_bytes c.args.words.now.items) c.run.result (g.P.Port.seen c.args.port.now) (g.P.Port.seen c.run.new.port) c.run.ensures.status

pub returns-clause-agrees : goal.returns-clause-agrees
returns-clause-agrees g c =
    c.law_runs_are_lawful.ensures.agrees (map string_bytes c.args.words.now.items) c.run.result (g.P.Port.seen c.args.port.now) (g.P.Port.seen c.run.new.port) c.run.ensures.status

pub returns-clause-relaxed : goal.returns-clause-relaxed
returns-clause-relaxed g c =
    c.law_runs_are_lawful.ensures.relaxed (map string_bytes c.args.words.now.items) c.run.result (g.P.Port.seen c.args.port.now) (g.P.Port.seen c.run.new.port) c.run.ensures.status

pub returns-clause-engine : goal.returns-clause-engine
returns-clause-engine g c = c.law_runs_are_lawful.ensures.engine

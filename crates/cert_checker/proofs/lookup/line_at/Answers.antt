use Rattle.std.proofs.Common.{ap, ◌∙◌, option_copied}
use Rattle.cert_checker.proofs.LookupLemmas.{no_line, line_found}
use Rattle.cert_checker.proofs.lookup.line_at.Goals as goal

pub returns-in_err-checked_sub : goal.returns-in_err-checked_sub
returns-in_err-checked_sub c = ap option_copied c.from_residual.ensures ∙ no_line c.args.lines.now c.args.number (c.in_err-checked_sub.ensures)

pub returns : goal.returns
returns c =
    let (some, before) = c.in_ok-checked_sub.ensures in
    let (_, is, _, at, _) = c.get.ensures.lookup in
    line_found c.args.lines.now c.get.result c.args.number c.in_ok-checked_sub.field-0 some before at is

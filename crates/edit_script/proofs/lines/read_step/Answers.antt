use Rattle.std.proofs.Common.{◌≡◌, Ok, Err, sym}
use Rattle.texts.specs.Words.{words}
use Rattle.edit_script.specs.EditLines.{step_of}
use Rattle.edit_script.proofs.StatedLineLemmas.{stated_read, read_stated}
use Rattle.edit_script.proofs.FaultLemmas.{fault_read}
use Rattle.edit_script.proofs.lines.read_step.Goals as goal

pub returns-in-Ok-clause-grammar : goal.returns-in-Ok-clause-grammar
returns-in-Ok-clause-grammar c = read_stated (words c.args.line.now) c.in-Ok.step (sym c.in-Ok.ensures)

pub returns-in-Ok-clause-every : goal.returns-in-Ok-clause-every
returns-in-Ok-clause-every c = λ stated is.
    let here : step_of (words c.args.line.now) ≡ Ok stated = stated_read stated (words c.args.line.now) is in
    let was : step_of (words c.args.line.now) ≡ Ok c.in-Ok.step = sym c.in-Ok.ensures in
    cc

pub returns-in-Err-clause-every : goal.returns-in-Err-clause-every
returns-in-Err-clause-every c = λ stated is.
    let here : step_of (words c.args.line.now) ≡ Ok stated = stated_read stated (words c.args.line.now) is in
    let was : step_of (words c.args.line.now) ≡ Err c.in-Err.kind = sym c.in-Err.ensures in
    absurd (cc)

pub returns-in-Err-clause-fault : goal.returns-in-Err-clause-fault
returns-in-Err-clause-fault c = fault_read (words c.args.line.now) c.in-Err.kind (sym c.in-Err.ensures)

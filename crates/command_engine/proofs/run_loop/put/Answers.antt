use Rattle.std.proofs.Common.{ℕ, List, refl, subst}
use Rattle.plan_port.specs.WrittenBytes.{Writes}
use Rattle.plan_port.specs.declared.written_bytes.Written.{Written}
use Rattle.plan_port.specs.declared.written_bytes.Written.TheVariants.{All, Part}
use Rattle.command_engine.proofs.run_loop.put.Goals as goal

pub returns-in-All : goal.returns-in-All
returns-in-All g c =
    (All, subst (λ (l : List ℕ). Writes (g.P.Port.seen c.args.port.now) (g.P.Port.seen c.write_all.new.port) All l) c.bytes.ensures.value c.in-All.ensures, refl)

pub returns-in-Part : goal.returns-in-Part
returns-in-Part g c =
    let part : Written = Part c.in-Part.field-0 in
    (part, subst (λ (l : List ℕ). Writes (g.P.Port.seen c.args.port.now) (g.P.Port.seen c.write_all.new.port) part l) c.bytes.ensures.value c.in-Part.ensures, refl)

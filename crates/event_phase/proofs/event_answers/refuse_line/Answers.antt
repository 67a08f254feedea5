use Rattle.std.proofs.Common.{◌≤◌, ◌<◌, ℕ, List, length, rules, sym, subst}
use Rattle.command_engine.specs.Limits.{least_capacity}
use Rattle.event_phase.proofs.SizeLemmas.{fault_short}
use Rattle.event_phase.proofs.event_answers.refuse_line.Goals as goal

pub returns-clause-size : goal.returns-clause-size
returns-clause-size c =
    let below : c.args.number < 4294967296 = search rules in
    subst (λ (text : List ℕ). length text ≤ least_capacity) (sym c.put.ensures.line) (fault_short c.args.number c.args.kind below)

use Rattle.std.proofs.Common.{◌≡◌, ◌++◌, take}
use Rattle.session_command.proofs.derivations.Derivations.follow_all.Given as goal

abbrev pub invariant-loop-edit : goal.invariant-loop-edit
invariant-loop-edit g l = (l.derivations.first ≡ l.initial.derivations.first) × (l.derivations.edits ≡ l.initial.derivations.edits ++ take l.edit-index l.edits)

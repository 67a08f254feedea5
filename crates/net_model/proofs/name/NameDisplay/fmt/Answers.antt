use Rattle.std.proofs.Common.{subst, sym}
use Rattle.std.specs.Str.{IsUtf8}
use Rattle.net_model.proofs.NameLemmas.{IsUtf8-name}
use Rattle.net_model.proofs.name.NameDisplay.fmt.Goals as goal

pub unreachable-requires : goal.unreachable-requires
unreachable-requires g c =
    c.in-Err.ensures.cases.0 (subst IsUtf8 (sym c.bytes.ensures.text) (IsUtf8-name c.args.self.now c.bytes.ensures.name))

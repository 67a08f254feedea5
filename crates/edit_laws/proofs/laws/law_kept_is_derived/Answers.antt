use Rattle.edit_laws.proofs.KeptDerived.{law_kept_is_derived}
use Rattle.edit_laws.proofs.laws.law_kept_is_derived.Goals as goal

pub returns : goal.returns
returns c = law_kept_is_derived

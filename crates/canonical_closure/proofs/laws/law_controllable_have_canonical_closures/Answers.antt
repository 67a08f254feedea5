use Rattle.canonical_closure.proofs.CanonicalClosureLemmas.{law_controllable_have_canonical_closures}
use Rattle.canonical_closure.proofs.laws.law_controllable_have_canonical_closures.Goals as goal

pub returns : goal.returns
returns c = law_controllable_have_canonical_closures

use Rattle.refutation_certificates.proofs.LawProofs.{law_refutations_have_weights}
use Rattle.refutation_certificates.proofs.laws.law_refutations_have_weights.Goals as goal

pub returns : goal.returns
returns c = law_refutations_have_weights

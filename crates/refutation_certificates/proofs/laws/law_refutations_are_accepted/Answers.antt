use Rattle.refutation_certificates.proofs.LawProofs.{law_refutations_are_accepted}
use Rattle.refutation_certificates.proofs.laws.law_refutations_are_accepted.Goals as goal

pub returns : goal.returns
returns c = law_refutations_are_accepted

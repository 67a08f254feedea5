use Rattle.refutation_certificates.proofs.OneCertificate.{certificate_one}
use Rattle.refutation_certificates.proofs.laws.law_refutations_are_one.Goals as goal

pub returns : goal.returns
returns c = certificate_one

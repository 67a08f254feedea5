use Rattle.closure_certificates.proofs.LawProofs.{law_certificates_are_one}
use Rattle.closure_certificates.proofs.laws.law_certificates_are_one.Goals as goal

pub returns : goal.returns
returns c = law_certificates_are_one

use Rattle.closure_certificates.proofs.LawProofs.{law_table_proofs_prove}
use Rattle.closure_certificates.proofs.laws.law_table_proofs_prove.Goals as goal

pub returns : goal.returns
returns c = law_table_proofs_prove

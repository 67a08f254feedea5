use Rattle.relaxation_laws.proofs.EditLemmas.{law_edits_relax}
use Rattle.relaxation_laws.proofs.laws.law_edits_relax.Goals as goal

pub returns : goal.returns
returns c = law_edits_relax

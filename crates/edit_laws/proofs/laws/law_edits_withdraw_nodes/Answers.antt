use Rattle.edit_laws.proofs.WithdrawnLemmas.{law_edits_withdraw_nodes}
use Rattle.edit_laws.proofs.laws.law_edits_withdraw_nodes.Goals as goal

pub returns : goal.returns
returns c = law_edits_withdraw_nodes

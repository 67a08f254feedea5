use Rattle.net_model.proofs.ByNameLemmas.{law_edits_change_by_names}
use Rattle.net_model.proofs.laws.law_edits_change_by_names.Goals as goal

pub returns : goal.returns
returns c = law_edits_change_by_names

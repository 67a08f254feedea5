use Rattle.edit_laws.proofs.TakenLemmas.{law_edits_take_bounds}
use Rattle.edit_laws.proofs.laws.law_edits_take_bounds.Goals as goal

pub returns : goal.returns
returns c = law_edits_take_bounds

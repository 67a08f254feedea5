use Rattle.edit_laws.proofs.ByNames.{names_renumber_all}
use Rattle.edit_laws.proofs.laws.law_names_renumber.Goals as goal

pub returns : goal.returns
returns c = names_renumber_all

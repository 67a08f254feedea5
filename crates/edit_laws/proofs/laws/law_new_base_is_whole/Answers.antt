use Rattle.edit_laws.proofs.NewBase.{new_base_is_whole_all}
use Rattle.edit_laws.proofs.laws.law_new_base_is_whole.Goals as goal

pub returns : goal.returns
returns c = new_base_is_whole_all

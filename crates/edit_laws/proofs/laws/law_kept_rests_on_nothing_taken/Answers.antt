use Rattle.edit_laws.proofs.KeptNodes.{kept_is_what_rests_on_nothing_taken}
use Rattle.edit_laws.proofs.laws.law_kept_rests_on_nothing_taken.Goals as goal

pub returns : goal.returns
returns c = kept_is_what_rests_on_nothing_taken

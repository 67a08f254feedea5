use Rattle.net_model.proofs.ShownLemmas.{shown_sound}
use Rattle.net_model.proofs.laws.law_shown_forms_are_sound.Goals as goal

pub returns : goal.returns
returns c = shown_sound

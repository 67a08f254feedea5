use Rattle.net_model.proofs.EditSoundness.{law_edits_keep_sound}
use Rattle.net_model.proofs.laws.law_edits_keep_sound.Goals as goal

pub returns : goal.returns
returns c = law_edits_keep_sound

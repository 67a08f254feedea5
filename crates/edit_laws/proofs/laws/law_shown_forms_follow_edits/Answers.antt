use Rattle.edit_laws.proofs.SameParts.{law_shown_forms_follow_edits}
use Rattle.edit_laws.proofs.laws.law_shown_forms_follow_edits.Goals as goal

pub returns : goal.returns
returns c = law_shown_forms_follow_edits

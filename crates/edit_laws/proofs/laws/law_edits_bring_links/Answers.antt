use Rattle.edit_laws.proofs.BroughtLemmas.{law_edits_bring_links}
use Rattle.edit_laws.proofs.laws.law_edits_bring_links.Goals as goal

pub returns : goal.returns
returns c = law_edits_bring_links

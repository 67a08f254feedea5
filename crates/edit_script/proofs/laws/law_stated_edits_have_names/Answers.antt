use Rattle.texts.specs.Words.{words}
use Rattle.edit_script.proofs.StatedLineLemmas.{stated_names}
use Rattle.edit_script.proofs.laws.law_stated_edits_have_names.Goals as goal

pub returns : goal.returns
returns c = λ line edit read. stated_names (words line) edit read

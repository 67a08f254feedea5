use Rattle.texts.proofs.InputLemmas.{whole_lines-append, unfinished-append}
use Rattle.texts.proofs.laws.law_lines_go_on.Goals as goal

pub returns-clause-whole : goal.returns-clause-whole
returns-clause-whole c = whole_lines-append

pub returns-clause-unfinished : goal.returns-clause-unfinished
returns-clause-unfinished c = unfinished-append

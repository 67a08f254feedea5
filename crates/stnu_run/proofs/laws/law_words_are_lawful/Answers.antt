use Rattle.stnu_run.proofs.NamedLemmas.{words_causes, words_print_one}
use Rattle.stnu_run.proofs.laws.law_words_are_lawful.Goals as goal

pub returns-clause-prints : goal.returns-clause-prints
returns-clause-prints c = words_print_one c.law_each_is_lawful.ensures.prints

pub returns-clause-causes : goal.returns-clause-causes
returns-clause-causes c = words_causes c.law_each_is_lawful.ensures.causes

use Rattle.stnu_run.proofs.NamedLemmas.{words_define_one}
use Rattle.stnu_run.proofs.laws.law_defined_run_is_one.Goals as goal

pub returns-clause-one : goal.returns-clause-one
returns-clause-one c = λ words. (words_define_one c.law_each_defines_one.ensures words).one

pub returns-clause-prefixes : goal.returns-clause-prefixes
returns-clause-prefixes c = λ words input put all status prefix. prefix.defined (words_define_one c.law_each_defines_one.ensures words).single all status

pub returns-clause-single : goal.returns-clause-single
returns-clause-single c = λ words. (words_define_one c.law_each_defines_one.ensures words).single

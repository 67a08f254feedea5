use Rattle.stnu_run.proofs.table_laws.law_runs_refuse_words_outside_the_table.Goals as goal

pub returns : goal.returns
returns c = λ words status before after caused. record {
  only = λ two. (c.law_words_are_refused_outside_the_table.ensures words).0 (caused.words two);
  there = λ outside. caused.no_words ((c.law_words_are_refused_outside_the_table.ensures words).1 outside);
}

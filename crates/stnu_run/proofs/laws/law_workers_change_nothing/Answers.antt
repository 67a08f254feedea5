use Rattle.stnu_run.proofs.laws.law_workers_change_nothing.Goals as goal

pub returns : goal.returns
returns c = record {
  other = λ program command prefix spelled others back count number spells other. (c.law_each_is_lawful.ensures.other command prefix spelled others back count number spells other).same;
  without = λ program command prefix spelled back count spells taken. ((c.law_each_is_lawful.ensures.without command prefix spelled back count spells).same taken).same;
}

use Rattle.std.proofs.Common.{◌++◌, ◌∙◌, List, subst}
use Rattle.std.proofs.lemmas.List.{length-set, drop_all}
use Rattle.forward_closure.specs.Sources.{AreWordsOfSources}
use Rattle.forward_closure.specs.declared.source.Source.{Source}
use Rattle.forward_closure.proofs.RowLemmas.{words_less}
use Rattle.forward_closure.proofs.forward_test.clear_words.Goals as goal

pub loop-source-preserved : goal.loop-source-preserved
loop-source-preserved c = record {
  long = length-set c.loop-source.words.items _ _ ∙ c.loop-source.invariant.long;
  are = λ others begin. words_less others c.args.row.now c.loop-source.words.items c.loop-source.source-index c.loop-source-test.true (c.loop-source.invariant.are others begin);
}

pub returns : goal.returns
returns c = record {
  length = c.loop-source.invariant.long;
  words = λ others begin.
      subst (λ (l : List Source). AreWordsOfSources (l ++ others) c.loop-source.words.items) (drop_all c.loop-source.source-index c.args.row.now c.loop-source-test.false) (c.loop-source.invariant.are others begin);
}

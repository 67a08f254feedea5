use Rattle.std.proofs.Common.{◌≡◌, ◌++◌, List, drop, length}
use Rattle.forward_closure.specs.Sources.{AreWordsOfSources}
use Rattle.forward_closure.specs.declared.source.Source.{Source}
use Rattle.forward_closure.proofs.forward_test.clear_words.Given as goal

abbrev pub invariant-loop-source : goal.invariant-loop-source
invariant-loop-source l = record {
  long : length l.words.items ≡ length l.initial.words.items;
  are : (others : List Source) → AreWordsOfSources (l.row ++ others) l.initial.words.items → AreWordsOfSources (drop l.source-index l.row ++ others) l.words.items;
}

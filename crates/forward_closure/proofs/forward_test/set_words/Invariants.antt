use Rattle.std.proofs.Common.{◌≡◌, ◌++◌, List, length}
use Rattle.forward_closure.specs.Sources.{AreWordsOfSources}
use Rattle.forward_closure.specs.declared.source.Source.{Source}
use Rattle.forward_closure.proofs.forward_test.set_words.Given as goal

abbrev pub invariant-loop-source : goal.invariant-loop-source
invariant-loop-source l = record {
  long : length l.words.items ≡ length l.initial.words.items;
  are : (before : List Source) → AreWordsOfSources before l.initial.words.items → AreWordsOfSources (before ++ l.row) l.words.items;
}

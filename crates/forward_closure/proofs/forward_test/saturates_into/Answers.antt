use Rattle.std.proofs.Common.{◌++◌, ◌∙◌, [], List, length, subst, sym, None}
use Rattle.std.specs.List.{All}
use Rattle.closure_model.specs.Tables.{HasEdge}
use Rattle.forward_closure.specs.ForwardTest.{SaturatesForward, AreWordsOfRow}
use Rattle.forward_closure.specs.Sources.{edge_from, list_at, AreStorable, AreWordsOfSources}
use Rattle.forward_closure.specs.declared.source.Source.{Source}
use Rattle.forward_closure.proofs.RowLemmas.{words_begin}
use Rattle.forward_closure.proofs.SaturationLemmas.{firsts_storable, negative_storable, ordinary_words, into_saturated}
use Rattle.forward_closure.proofs.forward_test.saturates_into.Goals as goal

pub set_words-requires : goal.set_words-requires
set_words-requires c =
    subst (AreStorable (length c.args.words.now.items)) (sym c.at-firsts.ensures)
    (firsts_storable c.args.net.now c.args.table.now c.requires.partial_closure c.args.rows.now c.requires.rows c.args.to (length c.args.words.now.items) c.requires.words.each_point)

pub set_words-requires-2 : goal.set_words-requires-2
set_words-requires-2 c =
    subst (AreStorable (length c.set_words.new.words.items)) (sym c.at-negative.ensures)
    (negative_storable c.args.net.now c.args.table.now c.requires.partial_closure c.args.rows.now c.requires.rows c.args.to (length c.set_words.new.words.items) (c.set_words.ensures.length ∙ c.requires.words.each_point))

pub saturates_sources-saturated-requires-clause-words : goal.saturates_sources-saturated-requires-clause-words
saturates_sources-saturated-requires-clause-words c =
    let set : AreWordsOfSources (c.at-firsts.result.now ++ c.at-negative.result.now) c.set_words-2.new.words.items =
    c.set_words-2.ensures.words c.at-firsts.result.now (c.set_words.ensures.words [] c.requires.words.none) in
    let first : AreWordsOfSources (list_at c.args.rows.now.firsts c.args.to.0 ++ c.at-negative.result.now) c.set_words-2.new.words.items =
    subst (λ (l : List Source). AreWordsOfSources (l ++ c.at-negative.result.now) c.set_words-2.new.words.items) c.at-firsts.ensures set in
    let both : AreWordsOfSources (list_at c.args.rows.now.firsts c.args.to.0 ++ list_at c.args.rows.now.negative c.args.to.0) c.set_words-2.new.words.items =
    subst (λ (l : List Source). AreWordsOfSources (list_at c.args.rows.now.firsts c.args.to.0 ++ l) c.set_words-2.new.words.items) c.at-negative.ensures first in
    subst (AreWordsOfRow c.args.net.now c.args.table.now c.args.to None) (sym c.as_slice.ensures.value)
    (ordinary_words c.args.net.now c.args.table.now c.requires.partial_closure c.args.rows.now c.requires.rows c.args.to c.set_words-2.new.words.items
    (c.set_words-2.ensures.length ∙ (c.set_words.ensures.length ∙ c.requires.words.each_point)) both)

pub saturates_sources-saturated-requires-clause-sources : goal.saturates_sources-saturated-requires-clause-sources
saturates_sources-saturated-requires-clause-sources c =
    subst (All (λ (s : Source). HasEdge c.args.table.now (edge_from s c.args.to None))) (sym c.at-negative.ensures) (c.requires.rows.of_table.negative c.args.to)

pub clear_words-requires : goal.clear_words-requires
clear_words-requires c =
    subst (AreStorable (length c.set_words-2.new.words.items)) (sym c.at-firsts.ensures)
    (firsts_storable c.args.net.now c.args.table.now c.requires.partial_closure c.args.rows.now c.requires.rows c.args.to (length c.set_words-2.new.words.items)
    (c.set_words-2.ensures.length ∙ (c.set_words.ensures.length ∙ c.requires.words.each_point)))

pub clear_words-requires-2 : goal.clear_words-requires-2
clear_words-requires-2 c =
    subst (AreStorable (length c.clear_words.new.words.items)) (sym c.at-negative.ensures)
    (negative_storable c.args.net.now c.args.table.now c.requires.partial_closure c.args.rows.now c.requires.rows c.args.to (length c.clear_words.new.words.items)
    (c.clear_words.ensures.length ∙ (c.set_words-2.ensures.length ∙ (c.set_words.ensures.length ∙ c.requires.words.each_point))))

pub returns : goal.returns
returns c = record {
  saturates = λ said. into_saturated c.args.net.now c.args.table.now c.requires.partial_closure c.args.rows.now c.requires.rows c.args.to
      (subst (All (λ (s : Source). SaturatesForward c.args.net.now c.args.table.now (edge_from s c.args.to None))) c.at-negative.ensures (c.saturates_sources-saturated.ensures said));
  words = record {
    each_point = c.clear_words-2.ensures.length ∙ (c.clear_words.ensures.length ∙ (c.set_words-2.ensures.length ∙ (c.set_words.ensures.length ∙ c.requires.words.each_point)));
    none = c.clear_words-2.ensures.words [] (words_begin c.at-negative.result.now [] c.clear_words.new.words.items
        (c.clear_words.ensures.words c.at-negative.result.now (c.set_words-2.ensures.words c.at-firsts.result.now (c.set_words.ensures.words [] c.requires.words.none))));
  };
}

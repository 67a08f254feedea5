use Rattle.std.proofs.Common.{◌≡◌, ◌<◌, ◌∙◌, [], List, length, get_or, Some, ap, subst, sym}
use Rattle.std.specs.List.{All}
use Rattle.std.specs.Prelude.{slice_get}
use Rattle.std.proofs.lemmas.Option.{slice_get-get_or}
use Rattle.net_model.specs.Network.{Plan}
use Rattle.net_model.specs.declared.ids.LinkId.{LinkId}
use Rattle.net_model.specs.declared.part.Link.{Link}
use Rattle.closure_model.specs.Tables.{HasEdge}
use Rattle.network_closure.proofs.ConsequenceLemmas.{no_link}
use Rattle.forward_closure.specs.ForwardTest.{SaturatesForward, AreWordsOfRow}
use Rattle.forward_closure.specs.Sources.{edge_from, list_at, AreStorable, AreWordsOfSources}
use Rattle.forward_closure.specs.declared.source.Source.{Source}
use Rattle.forward_closure.proofs.RowLemmas.{words_begin}
use Rattle.forward_closure.proofs.SaturationLemmas.{labelled_storable, labelled_has, labelled_words, labelled_saturated}
use Rattle.forward_closure.proofs.forward_test.saturates_labelled.Goals as goal

-- the link that is read
declared_at : (net : Plan) (links : List Link) (link : LinkId) → links ≡ net.links → link.0 < length net.links → slice_get net.links link.0 ≡ Some (get_or links link.0 no_link)
declared_at net links link same inside = slice_get-get_or net.links link.0 no_link inside ∙ ap (λ (ls : List Link). Some (get_or ls link.0 no_link)) (sym same)

pub set_words-requires : goal.set_words-requires
set_words-requires c =
    subst (AreStorable (length c.args.words.now.items)) (sym c.at-labelled.ensures)
    (labelled_storable c.args.net.now c.args.table.now c.requires.partial_closure c.args.rows.now c.requires.rows c.args.link (length c.args.words.now.items) c.requires.words.each_point)

pub saturates_sources-saturated-requires-clause-words : goal.saturates_sources-saturated-requires-clause-words
unfolding no_link
saturates_sources-saturated-requires-clause-words c =
    let link : Link = get_or c.links.result.now c.args.link.0 no_link in
    let declared : slice_get c.args.net.now.links c.args.link.0 ≡ Some link = declared_at c.args.net.now c.links.result.now c.args.link c.links.ensures.links c.requires.link in
    let set : AreWordsOfSources c.at-labelled.result.now c.set_words.new.words.items = c.set_words.ensures.words [] c.requires.words.none in
    let row : AreWordsOfSources (list_at c.args.rows.now.labelled c.args.link.0) c.set_words.new.words.items =
    subst (λ (l : List Source). AreWordsOfSources l c.set_words.new.words.items) c.at-labelled.ensures set in
    subst (AreWordsOfRow c.args.net.now c.args.table.now link.from (Some c.args.link)) (sym c.as_slice.ensures.value)
    (labelled_words c.args.net.now c.args.table.now c.requires.partial_closure c.args.rows.now c.requires.rows c.args.link link declared c.set_words.new.words.items
    (c.set_words.ensures.length ∙ c.requires.words.each_point) row)

pub saturates_sources-saturated-requires-clause-sources : goal.saturates_sources-saturated-requires-clause-sources
unfolding no_link
saturates_sources-saturated-requires-clause-sources c =
    let link : Link = get_or c.links.result.now c.args.link.0 no_link in
    let declared : slice_get c.args.net.now.links c.args.link.0 ≡ Some link = declared_at c.args.net.now c.links.result.now c.args.link c.links.ensures.links c.requires.link in
    subst (All (λ (s : Source). HasEdge c.args.table.now (edge_from s link.from (Some c.args.link)))) (sym c.at-labelled.ensures)
    (labelled_has c.args.net.now c.args.table.now c.requires.partial_closure c.args.rows.now c.requires.rows c.args.link link declared)

pub clear_words-requires : goal.clear_words-requires
clear_words-requires c =
    subst (AreStorable (length c.set_words.new.words.items)) (sym c.at-labelled.ensures)
    (labelled_storable c.args.net.now c.args.table.now c.requires.partial_closure c.args.rows.now c.requires.rows c.args.link (length c.set_words.new.words.items) (c.set_words.ensures.length ∙ c.requires.words.each_point))

pub returns : goal.returns
unfolding no_link
returns c =
    let link : Link = get_or c.links.result.now c.args.link.0 no_link in
    let declared : slice_get c.args.net.now.links c.args.link.0 ≡ Some link = declared_at c.args.net.now c.links.result.now c.args.link c.links.ensures.links c.requires.link in
    record {
      saturates = λ said. labelled_saturated c.args.net.now c.args.table.now c.requires.partial_closure c.args.rows.now c.requires.rows c.args.link link declared
          (subst (All (λ (s : Source). SaturatesForward c.args.net.now c.args.table.now (edge_from s link.from (Some c.args.link)))) c.at-labelled.ensures (c.saturates_sources-saturated.ensures said));
      words = record {
        each_point = c.clear_words.ensures.length ∙ (c.set_words.ensures.length ∙ c.requires.words.each_point);
        none = c.clear_words.ensures.words [] (words_begin c.at-labelled.result.now [] c.set_words.new.words.items (c.set_words.ensures.words [] c.requires.words.none));
      };
    }

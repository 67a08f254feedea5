use Rattle.std.proofs.Common.{ℕ, get_or, refl, subst, sym, arith}
use Rattle.std.proofs.lemmas.List.{get_or_default}
use Rattle.net_model.specs.declared.part.Edge.{Edge}
use Rattle.closure_model.specs.Tables.{HasEdge}
use Rattle.network_closure.proofs.ConsequenceLemmas.{below_next}
use Rattle.forward_closure.specs.ForwardTest.{SaturatesForward, AreWordsOfRow}
use Rattle.forward_closure.specs.Sources.{edge_from}
use Rattle.forward_closure.specs.declared.source.Source.{Source}
use Rattle.forward_closure.proofs.RowLemmas.{no_source}
use Rattle.forward_closure.proofs.forward_test.saturates_sources.Goals as goal

pub saturates-requires-clause-words : goal.saturates-requires-clause-words
saturates-requires-clause-words c = subst (λ (e : Edge). AreWordsOfRow c.args.net.now c.args.table.now e.to e.label c.args.words.now) (sym c.edge.ensures) c.requires.words

pub saturates-requires-clause-edge : goal.saturates-requires-clause-edge
saturates-requires-clause-edge c = subst (HasEdge c.args.table.now) (sym c.edge.ensures) (c.requires.sources c.loop-source.source-index no_source c.loop-source-test.true)

pub loop-source-preserved : goal.loop-source-preserved
loop-source-preserved c =
    below_next (λ (k : ℕ). (d : Source) → SaturatesForward c.args.net.now c.args.table.now (edge_from (get_or c.args.sources.now k d) c.args.to c.args.label)) c.loop-source.source-index c.loop-source.invariant (λ d.
    let here : SaturatesForward c.args.net.now c.args.table.now (edge_from (get_or c.args.sources.now c.loop-source.source-index no_source) c.args.to c.args.label) =
    subst (SaturatesForward c.args.net.now c.args.table.now) c.edge.ensures (c.if-not-saturates.ensures refl) in
    subst (λ (s : Source). SaturatesForward c.args.net.now c.args.table.now (edge_from s c.args.to c.args.label)) (get_or_default c.args.sources.now c.loop-source.source-index no_source d c.loop-source-test.true) here)

pub returns : goal.returns
returns c said k d inside = c.loop-source.invariant k (omega (arith, inside, c.loop-source-test.false)) d

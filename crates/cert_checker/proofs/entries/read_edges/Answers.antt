use Rattle.std.proofs.Common.{◌+◌, List, take, refl, sym, ap, ◌∙◌, subst}
use Rattle.std.proofs.lemmas.List.{take_all}
use Rattle.net_model.specs.declared.part.Edge.{Edge}
use Rattle.cert_format.specs.declared.entry.Entry.{Entry}
use Rattle.cert_checker.specs.TableRefusals.{ReadsEach}
use Rattle.cert_checker.specs.Tables.{entry_passes}
use Rattle.cert_checker.proofs.TestOutcomeLemmas.{fault_at, says_next}
use Rattle.cert_checker.proofs.entries.read_edges.Goals as goal

pub returns-in-Err : goal.returns-in-Err
returns-in-Err c = record {
  place = c.loop-index.index;
  number = refl;
  fault = fault_at (entry_passes c.args.net.now) c.args.entries.now c.loop-index.edges.items c.loop-index.index c.index-entries-index.result c.in-Err.why c.loop-index-test.true
      (ap (entry_passes c.args.net.now) (sym c.index-entries-index.is) ∙ (sym c.entry_passes.ensures ∙ c.in-Err.is)) c.loop-index.invariant;
}

pub loop-index-preserved : goal.loop-index-preserved
loop-index-preserved c =
    let reading = entry_passes c.args.net.now in
    let here = ap reading (sym c.index-entries-index.is) ∙ (sym c.entry_passes.ensures ∙ c.in-Ok.is) in
    let next = says_next reading c.args.entries.now c.loop-index.edges.items c.loop-index.index c.index-entries-index.result c.in-Ok.edge c.loop-index-test.true here c.loop-index.invariant in
    subst (λ (edges : List Edge). ReadsEach reading (take (c.loop-index.index + 1) c.args.entries.now) edges) (sym c.in_ok-push-in-Ok.ensures.items) next

pub returns : goal.returns
returns c = subst (λ (entries : List Entry). ReadsEach (entry_passes c.args.net.now) entries c.loop-index.edges.items) (take_all c.loop-index.index c.args.entries.now c.loop-index-test.false) c.loop-index.invariant

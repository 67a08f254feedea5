use Rattle.std.proofs.Common.{◌≡◌, ◌∙◌, ◌<◌, List, length, map, ap, sym, subst, arith}
use Rattle.std.specs.Prelude.{slice_set}
use Rattle.std.specs.declared.alloc.Global.{Global}
use Rattle.std.specs.declared.vec.Vec.{Vec}
use Rattle.std.proofs.lemmas.List.{length-map}
use Rattle.forward_closure.specs.Sources.{added_at}
use Rattle.forward_closure.specs.declared.source.Source.{Source}
use Rattle.forward_closure.proofs.RowLemmas.{added_shown}
use Rattle.forward_closure.proofs.source_lists.SourceLists.add.Goals as goal

pub returns : goal.returns
returns c =
    let lists = c.self.inside.lists.items in
    let shows : Vec Source Global → List Source = λ (list : Vec Source Global). list.items in
    let inside : c.args.place < length (map shows lists) = subst (λ (ls : List (List Source)). c.args.place < length ls) (sym c.self.view_is) c.requires in
    let within : c.args.place < length lists = (let long = length-map lists shows in omega (arith, inside, long)) in
    let put : map shows (slice_set lists c.args.place c.push.new.self) ≡ added_at (map shows lists) c.args.place c.args.source =
    added_shown shows lists c.args.place c.args.source c.index_mut.result.now c.push.new.self within c.index_mut.ensures.value c.in_ok-push.ensures.items in
    put ∙ ap (λ (ls : List (List Source)). added_at ls c.args.place c.args.source) c.self.view_is

use Rattle.std.proofs.Common.{◌≡◌, ◌∙◌, ◌<◌, List, length, map, ap, sym, subst, arith}
use Rattle.std.specs.Prelude.{slice_set}
use Rattle.std.specs.declared.alloc.Global.{Global}
use Rattle.std.specs.declared.vec.Vec.{Vec}
use Rattle.std.proofs.lemmas.List.{length-map}
use Rattle.net_model.specs.declared.ids.PointId.{PointId}
use Rattle.live_executor.specs.Wakes.{added_to_list}
use Rattle.live_executor.proofs.ListLemmas.{added_shown}
use Rattle.live_executor.proofs.point_lists.PointLists.add.Goals as goal

pub returns : goal.returns
returns c =
    let lists = c.self.inside.lists.items in
    let shows : Vec PointId Global → List PointId = λ (list : Vec PointId Global). list.items in
    let inside : c.args.place.0 < length (map shows lists) = subst (λ (ls : List (List PointId)). c.args.place.0 < length ls) (sym c.self.view_is) c.requires in
    let within : c.args.place.0 < length lists = (let long = length-map lists shows in omega (arith, inside, long)) in
    let put : map shows (slice_set lists c.args.place.0 c.push.new.self) ≡ added_to_list (map shows lists) c.args.place c.args.point =
    added_shown shows lists c.args.place c.args.point c.index_mut.result.now c.push.new.self within c.index_mut.ensures.value c.in_ok-push.ensures.items in
    put ∙ ap (λ (ls : List (List PointId)). added_to_list ls c.args.place c.args.point) c.self.view_is

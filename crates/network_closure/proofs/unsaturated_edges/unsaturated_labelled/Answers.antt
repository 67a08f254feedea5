use Rattle.std.proofs.Common.{rules, ◌≡◌, Option, Some, get_or, ap, ◌∙◌, List}
use Rattle.std.specs.Prelude.{slice_get, MatchOption}
use Rattle.std.proofs.lemmas.Option.{slice_get-get_or}
use Rattle.std.proofs.lemmas.Result.{IfOk-weaker}
use Rattle.net_model.specs.declared.part.Edge.{Edge}
use Rattle.net_model.specs.declared.part.Link.{Link}
use Rattle.closure_model.specs.Tables.{HasEdge}
use Rattle.network_closure.specs.RowTest.{SaturatesInto, SaturatesUnlessBy}
use Rattle.network_closure.specs.Saturation.{IsUnsaturated}
use Rattle.network_closure.proofs.ConsequenceLemmas.{no_link, labelled_end, match_met}
use Rattle.network_closure.proofs.unsaturated_edges.unsaturated_labelled.Goals as goal

pub returns : goal.returns
unfolding no_link
returns c =
    let link : Link = get_or c.links.result.now c.args.link.0 no_link in
    let declared : slice_get c.args.net.now.links c.args.link.0 ≡ Some link =
    slice_get-get_or c.args.net.now.links c.args.link.0 no_link c.requires.link ∙ ap (λ (links : List Link). Some (get_or links c.args.link.0 no_link)) (search rules) in
    IfOk-weaker c.unsaturated_into.result
    (λ (found : Option Edge). MatchOption found (SaturatesInto c.args.net.now c.args.sequence.is_order c.args.table.now link.from (Some c.args.link)) (IsUnsaturated c.args.net.now c.args.table.now))
    (λ (found : Option Edge). MatchOption found ((edge : Edge) → HasEdge c.args.table.now edge → edge.label ≡ Some c.args.link → SaturatesUnlessBy c.args.net.now c.args.sequence.is_order c.args.table.now edge)
    (IsUnsaturated c.args.net.now c.args.table.now))
    (λ found. match_met (SaturatesInto c.args.net.now c.args.sequence.is_order c.args.table.now link.from (Some c.args.link))
    ((edge : Edge) → HasEdge c.args.table.now edge → edge.label ≡ Some c.args.link → SaturatesUnlessBy c.args.net.now c.args.sequence.is_order c.args.table.now edge) (IsUnsaturated c.args.net.now c.args.table.now) found
    (λ into edge has labels. into edge has (labelled_end c.args.net.now c.args.table.now c.requires.partial_closure link c.args.link declared edge has labels) labels)) c.unsaturated_into.ensures

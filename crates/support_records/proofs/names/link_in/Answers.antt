-- Each answer is by what was looked up so far.
use Rattle.std.proofs.Common.{◌≡◌, length, Some, None, ap, sym, ◌∙◌, refl}
use Rattle.std.specs.Prelude.{slice_get, if◌then◌else◌}
use Rattle.std.proofs.lemmas.Option.{slice_get_read}
use Rattle.support_records.proofs.NameLemmas.{link_set, link_unset, link_placed, link_compared}
use Rattle.support_records.proofs.names.link_in.Goals as goal

pub returns-then-sets_link : goal.returns-then-sets_link
returns-then-sets_link c =
    let here : slice_get c.args.points.now.old.now.points c.args.link.now.to.0 ≡ Some c.in_ok-to.to.now =
    ap (λ points. slice_get points c.args.link.now.to.0) (sym c.points.ensures.points)
    ∙ slice_get_read c.points.result.now (length c.points.result.now) c.args.link.now.to.0 c.in_ok-to.to.now refl c.in_ok-to.ensures.lookup.3.0 c.in_ok-to.ensures.lookup.1 in
    link_set c.args.points.now.old.now c.args.edit.now c.args.points.now.new.now c.args.link.now c.in_ok-to.to.now here
    (sym c.sets_link.ensures ∙ c.if-sets_link.true)

pub returns-in_err-point : goal.returns-in_err-point
returns-in_err-point c =
    let here : slice_get c.args.points.now.old.now.points c.args.link.now.to.0 ≡ Some c.in_ok-to.to.now =
    ap (λ points. slice_get points c.args.link.now.to.0) (sym c.points.ensures.points)
    ∙ slice_get_read c.points.result.now (length c.points.result.now) c.args.link.now.to.0 c.in_ok-to.to.now refl c.in_ok-to.ensures.lookup.3.0 c.in_ok-to.ensures.lookup.1 in
    c.from_residual-in_err-point.ensures
    ∙ link_unset c.args.points.now.old.now c.args.edit.now c.args.points.now.new.now c.args.link.now c.in_ok-to.to.now here
    (sym c.sets_link.ensures ∙ c.if-sets_link.false) None (sym c.point_in.ensures ∙ c.in_err-point.was)

pub returns-in_err-place : goal.returns-in_err-place
returns-in_err-place c =
    let here : slice_get c.args.points.now.old.now.points c.args.link.now.to.0 ≡ Some c.in_ok-to.to.now =
    ap (λ points. slice_get points c.args.link.now.to.0) (sym c.points.ensures.points)
    ∙ slice_get_read c.points.result.now (length c.points.result.now) c.args.link.now.to.0 c.in_ok-to.to.now refl c.in_ok-to.ensures.lookup.3.0 c.in_ok-to.ensures.lookup.1 in
    c.from_residual-in_err-place.ensures
    ∙ link_placed c.args.points.now.old.now c.args.edit.now c.args.points.now.new.now c.args.link.now c.in_ok-to.to.now here
    (sym c.sets_link.ensures ∙ c.if-sets_link.false) c.in_ok-point.point (sym c.point_in.ensures ∙ c.in_ok-point.was)
    None (sym c.activation.ensures ∙ c.in_err-place.was)

pub returns-then-is_same_link : goal.returns-then-is_same_link
returns-then-is_same_link c =
    let here : slice_get c.args.points.now.old.now.points c.args.link.now.to.0 ≡ Some c.in_ok-to.to.now =
    ap (λ points. slice_get points c.args.link.now.to.0) (sym c.points.ensures.points)
    ∙ slice_get_read c.points.result.now (length c.points.result.now) c.args.link.now.to.0 c.in_ok-to.to.now refl c.in_ok-to.ensures.lookup.3.0 c.in_ok-to.ensures.lookup.1 in
    let there : slice_get c.args.points.now.new.now.links c.in_ok-place.place.0 ≡ Some c.in_ok-other.other.now =
    ap (λ links. slice_get links c.in_ok-place.place.0) (sym c.links.ensures.links)
    ∙ slice_get_read c.links.result.now (length c.links.result.now) c.in_ok-place.place.0 c.in_ok-other.other.now refl c.in_ok-other.ensures.lookup.3.0 c.in_ok-other.ensures.lookup.1 in
    ap (λ same. if same then Some c.in_ok-place.place else None) (sym c.if-is_same_link.true ∙ c.is_same_link.ensures)
    ∙ link_compared c.args.points.now.old.now c.args.edit.now c.args.points.now.new.now c.args.link.now c.in_ok-to.to.now here
    (sym c.sets_link.ensures ∙ c.if-sets_link.false) c.in_ok-point.point (sym c.point_in.ensures ∙ c.in_ok-point.was)
    c.in_ok-place.place (sym c.activation.ensures ∙ c.in_ok-place.was) (Some c.in_ok-other.other.now) there

pub returns-else-is_same_link : goal.returns-else-is_same_link
returns-else-is_same_link c =
    let here : slice_get c.args.points.now.old.now.points c.args.link.now.to.0 ≡ Some c.in_ok-to.to.now =
    ap (λ points. slice_get points c.args.link.now.to.0) (sym c.points.ensures.points)
    ∙ slice_get_read c.points.result.now (length c.points.result.now) c.args.link.now.to.0 c.in_ok-to.to.now refl c.in_ok-to.ensures.lookup.3.0 c.in_ok-to.ensures.lookup.1 in
    let there : slice_get c.args.points.now.new.now.links c.in_ok-place.place.0 ≡ Some c.in_ok-other.other.now =
    ap (λ links. slice_get links c.in_ok-place.place.0) (sym c.links.ensures.links)
    ∙ slice_get_read c.links.result.now (length c.links.result.now) c.in_ok-place.place.0 c.in_ok-other.other.now refl c.in_ok-other.ensures.lookup.3.0 c.in_ok-other.ensures.lookup.1 in
    ap (λ same. if same then Some c.in_ok-place.place else None) (sym c.if-is_same_link.false ∙ c.is_same_link.ensures)
    ∙ link_compared c.args.points.now.old.now c.args.edit.now c.args.points.now.new.now c.args.link.now c.in_ok-to.to.now here
    (sym c.sets_link.ensures ∙ c.if-sets_link.false) c.in_ok-point.point (sym c.point_in.ensures ∙ c.in_ok-point.was)
    c.in_ok-place.place (sym c.activation.ensures ∙ c.in_ok-place.was) (Some c.in_ok-other.other.now) there

-- Each answer is by what was looked up so far.
use Rattle.std.proofs.Common.{◌≡◌, length, Some, None, ap, sym, ◌∙◌, refl}
use Rattle.std.specs.Prelude.{slice_get}
use Rattle.std.proofs.lemmas.Option.{slice_get_read}
use Rattle.net_model.specs.Network.{point_named}
use Rattle.support_records.specs.Moves.{moves_of}
use Rattle.support_records.proofs.NameLemmas.{before_named, before_placed}
use Rattle.support_records.proofs.new_base.link_before.Goals as goal

pub returns-in_err-point : goal.returns-in_err-point
returns-in_err-point c =
    let here : slice_get c.args.moves.now.points.new.now.points c.args.link.now.to.0 ≡ Some c.in_ok-name.name.now =
    ap (λ points. slice_get points c.args.link.now.to.0) (sym c.points.ensures.points)
    ∙ slice_get_read c.points.result.now (length c.points.result.now) c.args.link.now.to.0 c.in_ok-name.name.now refl c.in_ok-name.ensures.lookup.3.0 c.in_ok-name.ensures.lookup.1 in
    c.from_residual-in_err-point.ensures
    ∙ before_named (moves_of c.args.moves.now) c.args.moves.now.points.old.now c.args.moves.now.points.new.now c.args.link.now c.in_ok-name.name.now here None
    (ap (point_named c.args.moves.now.points.old.now) (sym c.bytes.ensures.text) ∙ sym c.point.ensures ∙ c.in_err-point.was)

pub returns-in_err-id : goal.returns-in_err-id
returns-in_err-id c =
    let here : slice_get c.args.moves.now.points.new.now.points c.args.link.now.to.0 ≡ Some c.in_ok-name.name.now =
    ap (λ points. slice_get points c.args.link.now.to.0) (sym c.points.ensures.points)
    ∙ slice_get_read c.points.result.now (length c.points.result.now) c.args.link.now.to.0 c.in_ok-name.name.now refl c.in_ok-name.ensures.lookup.3.0 c.in_ok-name.ensures.lookup.1 in
    c.from_residual-in_err-id.ensures
    ∙ before_placed (moves_of c.args.moves.now) c.args.moves.now.points.old.now c.args.moves.now.points.new.now c.args.link.now c.in_ok-name.name.now here
    c.in_ok-point.point (ap (point_named c.args.moves.now.points.old.now) (sym c.bytes.ensures.text) ∙ sym c.point.ensures ∙ c.in_ok-point.was) None (sym c.activation.ensures ∙ c.in_err-id.was)

pub returns : goal.returns
returns c =
    let here : slice_get c.args.moves.now.points.new.now.points c.args.link.now.to.0 ≡ Some c.in_ok-name.name.now =
    ap (λ points. slice_get points c.args.link.now.to.0) (sym c.points.ensures.points)
    ∙ slice_get_read c.points.result.now (length c.points.result.now) c.args.link.now.to.0 c.in_ok-name.name.now refl c.in_ok-name.ensures.lookup.3.0 c.in_ok-name.ensures.lookup.1 in
    c.link.ensures
    ∙ before_placed (moves_of c.args.moves.now) c.args.moves.now.points.old.now c.args.moves.now.points.new.now c.args.link.now c.in_ok-name.name.now here
    c.in_ok-point.point (ap (point_named c.args.moves.now.points.old.now) (sym c.bytes.ensures.text) ∙ sym c.point.ensures ∙ c.in_ok-point.was) (Some c.in_ok-id.id) (sym c.activation.ensures ∙ c.in_ok-id.was)

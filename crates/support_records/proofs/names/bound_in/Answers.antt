-- Each answer is by what was looked up so far.
use Rattle.std.proofs.Common.{◌≡◌, length, Some, None, ap, sym, ◌∙◌, refl}
use Rattle.std.specs.Prelude.{slice_get, if◌then◌else◌}
use Rattle.std.proofs.lemmas.Option.{slice_get_read}
use Rattle.net_model.specs.Network.{bound_named}
use Rattle.support_records.proofs.NameLemmas.{bound_set, bound_unset, bound_compared}
use Rattle.support_records.proofs.names.bound_in.Goals as goal

pub returns-then-sets_bound : goal.returns-then-sets_bound
returns-then-sets_bound c = bound_set c.args.points.now.old.now c.args.edit.now c.args.points.now.new.now c.args.bound.now (sym c.sets_bound.ensures ∙ c.if-sets_bound.true)

pub returns-in_err-place : goal.returns-in_err-place
returns-in_err-place c =
    c.from_residual.ensures ∙ bound_unset c.args.points.now.old.now c.args.edit.now c.args.points.now.new.now c.args.bound.now (sym c.sets_bound.ensures ∙ c.if-sets_bound.false) None
    (ap (bound_named c.args.points.now.new.now) (sym c.bytes.ensures.text) ∙ sym c.bound.ensures ∙ c.in_err-place.was)

pub returns-then-is_same_bound : goal.returns-then-is_same_bound
returns-then-is_same_bound c =
    let there : slice_get c.args.points.now.new.now.bounds c.in_ok-place.place.0 ≡ Some c.in_ok-other.other.now =
    ap (λ bounds. slice_get bounds c.in_ok-place.place.0) (sym c.bounds.ensures.bounds)
    ∙ slice_get_read c.bounds.result.now (length c.bounds.result.now) c.in_ok-place.place.0 c.in_ok-other.other.now refl c.in_ok-other.ensures.lookup.3.0 c.in_ok-other.ensures.lookup.1 in
    ap (λ same. if same then Some c.in_ok-place.place else None) (sym c.if-is_same_bound.true ∙ c.is_same_bound.ensures)
    ∙ bound_compared c.args.points.now.old.now c.args.edit.now c.args.points.now.new.now c.args.bound.now (sym c.sets_bound.ensures ∙ c.if-sets_bound.false)
    c.in_ok-place.place (ap (bound_named c.args.points.now.new.now) (sym c.bytes.ensures.text) ∙ sym c.bound.ensures ∙ c.in_ok-place.was) (Some c.in_ok-other.other.now) there

pub returns-else-is_same_bound : goal.returns-else-is_same_bound
returns-else-is_same_bound c =
    let there : slice_get c.args.points.now.new.now.bounds c.in_ok-place.place.0 ≡ Some c.in_ok-other.other.now =
    ap (λ bounds. slice_get bounds c.in_ok-place.place.0) (sym c.bounds.ensures.bounds)
    ∙ slice_get_read c.bounds.result.now (length c.bounds.result.now) c.in_ok-place.place.0 c.in_ok-other.other.now refl c.in_ok-other.ensures.lookup.3.0 c.in_ok-other.ensures.lookup.1 in
    ap (λ same. if same then Some c.in_ok-place.place else None) (sym c.if-is_same_bound.false ∙ c.is_same_bound.ensures)
    ∙ bound_compared c.args.points.now.old.now c.args.edit.now c.args.points.now.new.now c.args.bound.now (sym c.sets_bound.ensures ∙ c.if-sets_bound.false)
    c.in_ok-place.place (ap (bound_named c.args.points.now.new.now) (sym c.bytes.ensures.text) ∙ sym c.bound.ensures ∙ c.in_ok-place.was) (Some c.in_ok-other.other.now) there

use Rattle.std.proofs.Common.{List, subst}
use Rattle.std.proofs.lemmas.Result.{err_from_is_err_and}
use Rattle.net_model.specs.Network.{Plan}
use Rattle.net_model.specs.declared.ids.PointId.{PointId}
use Rattle.cert_checker.specs.TestOutcomes.{IsWholeOrder, RefusesItem, RefusesOrder}
use Rattle.cert_checker.specs.TableRefusals.{HasBase, IsNone}
use Rattle.cert_checker.specs.Tables.{rises}
use Rattle.cert_checker.specs.declared.judgement.CertFault.TheVariants.{OrderBroken}
use Rattle.cert_checker.proofs.TestOutcomeLemmas.{failure_propagates, base_refuses, order_refuses, rise_refuses, open_refuses}
use Rattle.cert_checker.proofs.table.ProofTable.passes.Goals as goal

pub returns-in_err-has_base : goal.returns-in_err-has_base
returns-in_err-has_base g c = λ order entries reads first.
    let p = err_from_is_err_and c.from_residual.result c.from_residual.ensures.1 in
    rw (p.1, p.2) (failure_propagates c.in_err-has_base.field-0.0 _ _ _ _ c.in_err-has_base.ensures (λ refused is. base_refuses c.args.self.now.net order entries c.args.points.items c.args.self.now.edges reads refused is))

pub returns-in_err-order : goal.returns-in_err-order
returns-in_err-order g c = λ order entries reads first.
    let points = c.args.points.items in
    let has : HasBase c.args.self.now.net order entries points c.args.self.now.edges = record { is_read = reads; base = c.in_ok-has_base.ensures } in
    let p = err_from_is_err_and c.from_residual-in_err-order.result c.from_residual-in_err-order.ensures.1 in
    rw (p.1, p.2) (failure_propagates c.in_err-order.field-0.0 _ _ _ _ c.in_err-order.ensures (λ refused is. order_refuses c.args.self.now.net order entries points c.args.self.now.edges has refused
    (subst (λ (net : Plan). RefusesOrder net points refused) c.net.ensures.net is)))

pub returns-in_err-descends_along : goal.returns-in_err-descends_along
returns-in_err-descends_along g c = λ order entries reads first.
    let net = c.args.self.now.net in
    let edges = c.args.self.now.edges in
    let points = c.args.points.items in
    let has : HasBase net order entries points edges = record { is_read = reads; base = c.in_ok-has_base.ensures } in
    let (same, is_whole) = c.in_ok-order.ensures in
    let whole : IsWholeOrder net points = subst (λ (n : Plan). IsWholeOrder n points) c.net.ensures.net is_whole in
    let refused = c.in_err-descends_along.field-0.0 in
    let rising : RefusesItem (λ place. rises points) c.args.self.now.first OrderBroken edges refused = subst (λ (ps : List PointId). RefusesItem (λ place. rises ps) c.args.self.now.first OrderBroken edges refused) same
    c.in_err-descends_along.ensures in
    let p = err_from_is_err_and c.from_residual-in_err-descends_along.result c.from_residual-in_err-descends_along.ensures.1 in
    rw (p.1, p.2) (rise_refuses net order entries points edges (record { has_base = has; once = whole.once; complete = whole.complete }) c.args.self.now.first first refused rising)

pub returns-in_err-is_closed : goal.returns-in_err-is_closed
returns-in_err-is_closed g c = λ order entries reads first.
    let net = c.args.self.now.net in
    let edges = c.args.self.now.edges in
    let points = c.args.points.items in
    let has : HasBase net order entries points edges = record { is_read = reads; base = c.in_ok-has_base.ensures } in
    let (same, is_whole) = c.in_ok-order.ensures in
    let whole : IsWholeOrder net points = subst (λ (n : Plan). IsWholeOrder n points) c.net.ensures.net is_whole in
    let descends : IsNone (λ place. rises points) edges = subst (λ (ps : List PointId). IsNone (λ place. rises ps) edges) same c.in_ok-descends_along.ensures in
    let p = err_from_is_err_and c.from_residual-in_err-is_closed.result c.from_residual-in_err-is_closed.ensures.1 in
    rw (p.1, p.2) (open_refuses net order entries points edges (record { has_base = has; once = whole.once; complete = whole.complete }) descends c.args.self.now.first first c.in_err-is_closed.field-0.0 c.in_err-is_closed.ensures)

-- One name more.
use Rattle.std.proofs.Common.{refl, ap, ◌∙◌}
use Rattle.net_model.specs.Network.{point_named}
use Rattle.support_records.proofs.MovesLemmas.{mapped_more}
use Rattle.support_records.proofs.points.places_in.Goals as goal

pub loop-name-preserved : goal.loop-name-preserved
loop-name-preserved c =
    mapped_more (point_named c.args.new.now) c.args.names.now c.args.names.now c.loop-name.name-index c.name-item.result c.loop-name.places.items c.push.new.self.items c.point.result refl c.loop-name-test.true c.loop-name.invariant
    (c.point.ensures ∙ ap (point_named c.args.new.now) (c.bytes.ensures.text ∙ c.name-item.is)) c.in_ok-push.ensures.items

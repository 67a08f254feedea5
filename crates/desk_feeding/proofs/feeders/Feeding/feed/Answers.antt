use Rattle.std.proofs.Common.{rules, ◌≡◌, List, refl, sym, subst, ap, ◌∙◌}
use Rattle.net_model.specs.declared.ids.LinkId.{LinkId}
use Rattle.net_model.specs.declared.ids.PointId.{PointId}
use Rattle.desk_feeding.specs.Feedings.{ArePosted, FeedingSeen, FeedsAtDesk, links_to}
use Rattle.desk_feeding.specs.Ordered.{IsInOrder}
use Rattle.desk_feeding.proofs.FedLemmas.{ordered_points, may_feed, fed_in_order}
use Rattle.desk_feeding.proofs.feeders.Feeding.feed.Goals as goal

pub links_of-all-requires-clause-points : goal.links_of-all-requires-clause-points
links_of-all-requires-clause-points g c =
    let is = subst (IsInOrder c.args.listed.now) (sym c.as_slice.ensures.value) c.fill_in_order.ensures.order in
    ordered_points c.args.listed.now c.as_slice.result.now is c.args.net.now c.requires.listed.0

pub feed-requires : goal.feed-requires
feed-requires g c =
    let ordered = c.fill_in_order.new.into.items in
    may_feed c.args.listed.now ordered c.fill_in_order.ensures.order c.args.net.now c.args.executor.now c.requires.executor c.requires.listed.0 c.first_where_same.result.now (search rules)

pub returns-clause-fed : goal.returns-clause-fed
returns-clause-fed g c =
    let ordered = c.fill_in_order.new.into.items in
    fed_in_order c.args.listed.now ordered c.fill_in_order.ensures.order c.args.executor.now c.args.moment c.first_where_same.result.now (search rules) c.feed.result c.feed.new.self c.feed.ensures.fed

pub returns-clause-desk : goal.returns-clause-desk
returns-clause-desk g c =
    let net = c.args.net.now in
    let moments = c.args.executor.now.moments in
    let listed = c.args.listed.now in
    let ordered = c.fill_in_order.new.into.items in
    let inside : FeedingSeen = record { desk = c.self.inside.desk; seat = c.self.inside.seat; feeders = c.self.inside.feeders.items } in
    let after : FeedingSeen = record { desk = c.self.inside.desk; seat = c.read_open.new.seat; feeders = c.post-first.new.feeders.items } in
    let links : c.as_slice-links.result.now ≡ links_to net ordered = c.as_slice-links.ensures.value ∙ (c.links_of-all.ensures.to ∙ ap (links_to net) c.as_slice.ensures.value) in
    let feeds : FeedsAtDesk net moments c.args.moment listed inside after = record {
      ordered = ordered;
      order = c.fill_in_order.ensures.order;
      posted = subst (λ (all : List LinkId). ArePosted all c.args.moment inside.feeders after.feeders) links c.post-first.ensures.posted;
      read = c.read_open.ensures.reads;
      same = refl;
    } in
    subst (λ (before : FeedingSeen). FeedsAtDesk net moments c.args.moment listed before after) c.self.view_is feeds

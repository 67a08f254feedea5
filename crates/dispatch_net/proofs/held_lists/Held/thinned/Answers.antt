use Rattle.std.proofs.Common.{◌∙◌, ap, rules, ℤ, Bool}
use Rattle.std.specs.Prelude.{not, filter, slice_get, false, ◌||◌}
use Rattle.std.specs.List.{list_any}
use Rattle.std.specs.Option.{option_map_or}
use Rattle.std.proofs.lemmas.Fn.{filter_same}
use Rattle.net_model.specs.declared.ids.PointId.{PointId}
use Rattle.net_model.specs.declared.ids.LinkId.{LinkId}
use Rattle.dispatch_net.specs.Slim.{over_point, implied_over_link, over_end, over_wait}
use Rattle.dispatch_net.proofs.held_lists.Held.thinned.Goals as goal

pub returns : goal.returns
returns c =
    let held = c.args.self.now in
    let over : PointId × ℤ → PointId × ℤ → Bool = λ bound other. over_point held.lists bound other || implied_over_link held.links bound other in
    let wait_over : LinkId × ℤ → PointId × ℤ → Bool = λ wait other. option_map_or (over_end wait.1 other) (slice_get held.links wait.0.0) false || over_wait held.lists wait other in
    let bound : PointId × ℤ → Bool = λ one. not (list_any (over one) c.args.others.now) in
    let wait : LinkId × ℤ → Bool = λ one. not (list_any (wait_over one) c.args.others.now) in
    let bounds = c.new.ensures ∙ filter_same _ bound _ (λ x b f' k. search rules) _ _ c.retain.ensures.filtered ∙ ap (filter bound) c.into_vec-bounds.ensures
    ∙ (λ i. filter (λ one. not (c.requires (over one) i)) c.args.all.lower_bounds) in
    let waits = c.new-2.ensures ∙ filter_same _ wait _ (λ x b f' k. search rules) _ _ c.retain-2.ensures.filtered ∙ ap (filter wait) c.into_vec-waits.ensures
    ∙ (λ i. filter (λ one. not (c.requires (wait_over one) i)) c.args.all.waits) in
    λ i. record { lower_bounds = bounds i; waits = waits i }

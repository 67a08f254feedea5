-- What a network is executed by is of its points and links, and not too great.
use Rattle.std.proofs.Common.{◌≡◌, ℕ, ℤ, pos, ◌-ℤ◌, ◌<◌, ◌≤◌, ◌≤ℤ◌, Bool, true, false, List, [], ◌∷◌, cond, length, map, get_or, Option, Some, None, refl, ap, sym, subst, ◌∙◌, inl, inr, arith}
use Rattle.std.specs.Prelude.{slice_get, unsigned_abs, is_some, find, IfSome, ◌==◌, not}
use Rattle.std.specs.List.{All}
use Rattle.std.proofs.lemmas.Int.{ints}
use Rattle.std.proofs.lemmas.Bool.{leb-true}
use Rattle.std.proofs.lemmas.List.{length-map, get_or_default}
use Rattle.std.proofs.lemmas.List.Elements.{All-weaker, All-nil, All-head, All-tail, All-map, All-filter}
use Rattle.std.proofs.lemmas.Option.{slice_get_within}
use Rattle.net_model.specs.Limits.{most_size}
use Rattle.net_model.specs.Network.{Plan, IsLink, IsPoint, activation}
use Rattle.net_model.specs.declared.ids.PointId.{PointId}
use Rattle.net_model.specs.declared.ids.LinkId.{LinkId}
use Rattle.net_model.specs.declared.part.Link.{Link}
use Rattle.net_model.specs.declared.part.Edge.{Edge}
use Rattle.net_model.proofs.NetworkLemmas.{greatest-le}
use Rattle.closure_model.specs.Keys.{Shape}
use Rattle.closure_model.specs.Tables.{HasEdge}
use Rattle.dispatch_net.specs.Dispatchable.{DispatchLists, no_conditions, dispatchable, conditions_at}
use Rattle.closure_model.proofs.BaseLemmas.{all_contained}
use Rattle.dispatch_net.specs.Laws.{AreExact}
use Rattle.dispatch_net.specs.declared.dispatch.Conditions.{Conditions}
use Rattle.dispatch_net.proofs.ExecutionLemmas.{dispatchable_length, point_count}
use Rattle.dispatch_net.proofs.ExactLemmas.{law_lists_are_exact}
use Rattle.dispatch_net.specs.Held.{IsSlimOrWhole}
use Rattle.dispatch_net.specs.Slim.{is_bound_implied, is_wait_implied, slim_conditions, slimmed}
use Rattle.execution_model.specs.Execution.{Setting, link_to}
use Rattle.live_executor.specs.ExpectedPoints.{AreActivated}
use Rattle.live_executor.specs.Sound.{IsLowerBound, IsWait, IsLinkWithin, IsSoundSetting, IsDispatchOf, IsKeptWith}
use Rattle.live_executor.specs.Wakes.{WakeLists, AreWakesOf}

some_or_none : {X : Type 0} (o : Option X) (A : Type 0) → (is_some o ≡ true → A) → (is_some o ≡ false → A) → A
some_or_none (Some x) A some none = some refl
some_or_none None A some none = none refl

module _ (net : Plan) (lists : DispatchLists) (of : IsDispatchOf net lists) where
  within : (edge : Edge) → HasEdge of.table edge → unsigned_abs edge.weight ≤ most_size
  within edge has = let small = greatest-le net of.instant.sound in let low = of.may.within edge has in omega (arith, low, small)

  size_of_negated : (n : ℤ) → unsigned_abs (pos 0 -ℤ n) ≤ most_size → unsigned_abs n ≤ most_size
  size_of_negated n h = omega (arith, ints, h)

  bound_sound : (point : PointId) (conditions : Conditions) → AreExact of.table point conditions → All (IsLowerBound (length net.points)) conditions.lower_bounds
  bound_sound point conditions exact =
      all_contained (IsLowerBound (length net.points)) conditions.lower_bounds (λ bound inside.
      let has = (exact.bounds bound.0 bound.1).0 inside in
      let edge : Edge = record { from = point; to = bound.0; label = None; weight = pos 0 -ℤ bound.1 } in
      let key = of.graph.keys edge has.1 in
      record { within = (let same = point_count net of.table of.may.for_network in let low = key.to_point in omega (arith, same, low)); small = size_of_negated bound.1 (within edge has.1) })

  wait_sound : (point : PointId) (conditions : Conditions) → AreExact of.table point conditions → All (IsWait (length net.links)) conditions.waits
  wait_sound point conditions exact =
      all_contained (IsWait (length net.links)) conditions.waits (λ wait inside.
      let has = (exact.waits wait.0 wait.1).0 inside in
      let edge : Edge = record { from = point; to = has.1.0; label = Some wait.0; weight = pos 0 -ℤ wait.1 } in
      let key = of.graph.keys edge has.1.1 in
      record { within = among wait.0 has.1.0 key.labelled; small = size_of_negated wait.1 (within edge has.1.1) })
    where
      among : (link : LinkId) (to : PointId) → slice_get of.table.shape.activations link.0 ≡ Some to → link.0 < length net.links
      among link to has =
          let inside : link.0 < length of.table.shape.activations = slice_get_within of.table.shape.activations link.0 to has in
          let same : of.table.shape.activations ≡ map (λ (link : Link). link.from) net.links = ap (λ (s : Shape). s.activations) of.may.for_network in
          let long = length-map net.links (λ (link : Link). link.from) in
          omega (arith, inside, ap (length {A = PointId}) same, long)

  conditions_sound : (point : PointId) → IsPoint net point
      → All (IsLowerBound (length net.points)) (conditions_at lists.made point).lower_bounds × All (IsWait (length net.links)) (conditions_at lists.made point).waits
  conditions_sound point is_point =
      let exact = law_lists_are_exact net of.table point of.may.for_network of.graph is_point in
      rw of.made (some_or_none (activation net point) _
      (λ some. rw (exact.1 some) (All-nil (IsLowerBound (length net.points)), All-nil (IsWait (length net.links))))
      (λ none. (bound_sound point (conditions_at (dispatchable net of.table) point) (exact.0 (is_point, none)), wait_sound point (conditions_at (dispatchable net of.table) point) (exact.0 (is_point, none)))))

  count : length lists.made ≡ length net.points
  count = rw of.made (dispatchable_length net of.table of.may.for_network)

  at_index : (k : ℕ) (d : Conditions) → k < length lists.made → get_or lists.made k d ≡ conditions_at lists.made (record { 0 = k })
  at_index k d inside = get_or_default lists.made k d no_conditions inside

  low_size : (low high : ℤ) → pos 1 ≤ℤ low → low ≤ℤ high → unsigned_abs high ≤ most_size → unsigned_abs low ≤ most_size
  low_size low high first second third = omega (arith, ints, first, second, third)

  made_link_sound : (link : Link) → IsLink net link → IsLinkWithin (length lists.made) link
  made_link_sound link is = record {
    from_point = (let low = is.from_point in omega (arith, count, low));
    to_point = (let low = is.to_point in omega (arith, count, low));
    low = low_size link.low link.high is.positive is.interval (leb-true (unsigned_abs link.high) most_size is.within);
    high = leb-true (unsigned_abs link.high) most_size is.within;
  }

  pub dispatch_sound : IsSoundSetting (record { links = net.links; dispatch = lists.made })
  dispatch_sound = record {
    bounds = λ k d inside. rw (at_index k d inside, count) ((conditions_sound (record { 0 = k }) (omega (arith, inside, count))).0);
    waits = λ k d inside. rw (at_index k d inside) ((conditions_sound (record { 0 = k }) (omega (arith, inside, count))).1);
    links = All-weaker (IsLink net) (IsLinkWithin (length lists.made)) made_link_sound net.links of.instant.sound.links_sound;
    few = (let few = of.instant.sound.few_points in omega (arith, few, count));
  }

-- what is left of lists when others are left out is sound too
slim_sound : (links : List Link) (made : List Conditions) → IsSoundSetting (record { links = links; dispatch = made }) → IsSoundSetting (record { links = links; dispatch = slimmed links made })
slim_sound links made sound =
    let long : length (slimmed links made) ≡ length made = length-map made (slim_conditions links made) in
    record {
      bounds = All-map (λ (c : Conditions). All (IsLowerBound (length (slimmed links made))) c.lower_bounds) (slim_conditions links made) made (λ k d inside.
          subst (λ n. All (IsLowerBound n) (slim_conditions links made (get_or made k d)).lower_bounds) (sym long)
          (All-filter (λ bound. not (is_bound_implied links made (get_or made k d) bound)) (IsLowerBound (length made)) (get_or made k d).lower_bounds (sound.bounds k d inside)));
      waits = All-map (λ (c : Conditions). All (IsWait (length links)) c.waits) (slim_conditions links made) made (λ k d inside.
          All-filter (λ wait. not (is_wait_implied links made (get_or made k d) wait)) (IsWait (length links)) (get_or made k d).waits (sound.waits k d inside));
      links = subst (λ n. All (IsLinkWithin n) links) (sym long) sound.links;
      few = (let few = sound.few in omega (arith, long, few));
    }

pub kept_length : (lists : DispatchLists) → IsSlimOrWhole lists.links lists.made lists.kept → length lists.kept ≡ length lists.made
kept_length lists (inl whole) = ap (λ (cs : List Conditions). length cs) whole
kept_length lists (inr slim) = ap (λ (cs : List Conditions). length cs) slim ∙ length-map lists.made (slim_conditions lists.links lists.made)

module _ (net : Plan) (lists : DispatchLists) (of : IsDispatchOf net lists) (slim_or_whole : IsSlimOrWhole lists.links lists.made lists.kept) where
  pub kept_sound : IsSoundSetting (record { links = lists.links; dispatch = lists.kept })
  kept_sound = by slim_or_whole
    where
      made_sound : IsSoundSetting (record { links = lists.links; dispatch = lists.made })
      made_sound = subst (λ (links : List Link). IsSoundSetting (record { links = links; dispatch = lists.made })) (sym of.links) (dispatch_sound net lists of)

      by : IsSlimOrWhole lists.links lists.made lists.kept → IsSoundSetting (record { links = lists.links; dispatch = lists.kept })
      by (inl whole) = subst (λ (cs : List Conditions). IsSoundSetting (record { links = lists.links; dispatch = cs })) (sym whole) made_sound
      by (inr slim) = subst (λ (cs : List Conditions). IsSoundSetting (record { links = lists.links; dispatch = cs })) (sym slim) (slim_sound lists.links lists.made made_sound)

  pub kept_count : (points : ℕ) → points ≡ length net.points → points ≡ length lists.kept
  kept_count points same_points = same_points ∙ (sym (count net lists of) ∙ sym (kept_length lists slim_or_whole))

  pub kept : (points : ℕ) (wakes : WakeLists) (activated : List (List PointId)) → points ≡ length net.points → AreWakesOf (record { links = lists.links; dispatch = lists.kept }) points wakes
      → AreActivated lists.links points activated → IsKeptWith lists points wakes activated
  kept points wakes activated same_points are activates = record {
    kept = record { net = net; dispatched = of; sound = kept_sound; count = kept_count points same_points; slim_or_whole = slim_or_whole };
    wakes_are = are;
    activated_are = activates;
  }

-- what holds of each item holds of the first that passes a test
pub found_has : {X : Type 0} (P : X → Type 0) (p : X → Bool) (xs : List X) → All P xs → IfSome (find p xs) P
found_has P p [] all = tt
found_has P p (x ∷ xs) all = either P x (find p xs) (p x) (All-head P x xs all) (found_has P p xs (All-tail P x xs all))
  where
    either : {X : Type 0} (P : X → Type 0) (x : X) (later : Option X) (b : Bool) → P x → IfSome later P → IfSome (cond b (Some x) later) P
    either P x later true here there = here
    either P x later false here there = there

-- the link that ends in a point is sound
pub link_sound : (setting : Setting) (point : PointId) → IsSoundSetting setting → IfSome (link_to setting point) (IsLinkWithin (length setting.dispatch))
link_sound setting point sound = found_has (IsLinkWithin (length setting.dispatch)) (λ (link : Link). link.to.0 == point.0) setting.links sound.links

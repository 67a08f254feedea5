-- The stream that the words of a desk give shows the schedule whose completions they are.
use Rattle.std.proofs.Common.{◌≡◌, ℕ, zero, suc, ◌+◌, ◌<◌, ◌≤◌, ◌⊎◌, max, true, List, [], ◌∷◌, length, get_or, Option, Some, None, is_some, refl, ap, sym, subst, ◌∙◌, inl, inr, arith}
use Rattle.std.specs.Prelude.{fold}
use Rattle.std.specs.List.{AllPairs, Contains, IsDistinct, range_with_len}
use Rattle.std.specs.Option.{option_and_then}
use Rattle.std.proofs.lemmas.Bool.{eqb-true, eq-eqb, ne_eqb, true≢false}
use Rattle.std.proofs.lemmas.List.Elements.{All-map}
use Rattle.std.proofs.lemmas.List.FromFn.{get_or-map-range_with_len, length-map-range_with_len, get_or-range_with_len, length-range_with_len}
use Rattle.std.proofs.lemmas.List.Kept.{AllPairs-filter}
use Rattle.std.proofs.lemmas.Map.Keys.{IsDistinct-from_apart}
use Rattle.std.proofs.lemmas.Option.{none-some, same_Some}
use Rattle.net_model.specs.Network.{Plan, IsPlan, IsContingent, activation}
use Rattle.net_model.specs.declared.ids.LinkId.{LinkId}
use Rattle.net_model.specs.declared.ids.PointId.{PointId}
use Rattle.closure_model.proofs.Consequences.{ends_there}
use Rattle.closure_model.proofs.Lists.{Contains-map, Contains-map_from, Contains-filter, Contains-filter_passes}
use Rattle.strategy_model.proofs.KindLemmas.{Ending, kind_of_any}
use Rattle.strategy_model.specs.Plays.{points_of, same_point}
use Rattle.strategy_model.specs.Situations.{moment_in}
use Rattle.execution_model.specs.Streams.{Listing, Stream, IsListed, Shows}
use Rattle.execution_model.proofs.PlaceLemmas.{ending_point}
use Rattle.sensor_desk.specs.Comparison.{posted_for, listing_at, end_of, stream_of}
use Rattle.sensor_desk.specs.DeskHistory.{Entries, moment_at}
use Rattle.sensor_desk.specs.Follower.{is_now}
use Rattle.sensor_desk.specs.Words.{moment_word}
use Rattle.sensor_desk.proofs.OpenLemmas.{point_at, rise_all}

-- ---- the end of what stands
abbrev most_of : ℕ → Option ℕ → ℕ
most_of most found = max most (moment_word found)

start_within : (entries : Entries) (start : ℕ) → start ≤ fold most_of start entries
start_within [] start = omega arith
start_within (found ∷ others) start = let later = start_within others (most_of start found) in omega (arith, later)

each_within : (entries : Entries) (start k : ℕ) → k < length entries → moment_word (get_or entries k None) ≤ fold most_of start entries
each_within [] start k less = absurd (omega arith)
each_within (found ∷ others) start zero less = let later = start_within others (most_of start found) in omega (arith, later)
each_within (found ∷ others) start (suc k) less = each_within others (most_of start found) k (omega arith)

past_end : (entries : Entries) (k : ℕ) → length entries ≤ k → get_or entries k None ≡ None
past_end [] k past = refl
past_end (found ∷ others) zero past = absurd (omega arith)
past_end (found ∷ others) (suc k) past = past_end others k (omega arith)

stands_within : (entries : Entries) (link : LinkId) (moment : ℕ) → moment_at entries link ≡ Some moment → moment < end_of entries
stands_within entries link moment is = by (Rattle.std.proofs.lemmas.Bool.cases_lt link.0 (length entries))
  where
    by : (link.0 < length entries) ⊎ (length entries ≤ link.0) → moment < end_of entries
    by (inl inside) = let each = each_within entries 0 link.0 inside in let word : moment_word (moment_at entries link) ≡ moment + 1 = ap moment_word is in omega (arith, each, word)
    by (inr past) = absurd (none-some moment (sym (past_end entries link.0 past) ∙ is))

is_now_true : (moment : ℕ) (found : Option ℕ) → is_now moment found ≡ true → found ≡ Some moment
is_now_true moment None passes = absurd (true≢false (sym passes))
is_now_true moment (Some posted) passes = ap Some (eqb-true posted moment passes)

none_more : (n : ℕ) → 0 + n ≡ n
none_more n = omega arith

-- ---- the stream
module _ (net : Plan) (plan : IsPlan net) (entries : Entries) (schedule : List ℕ)
    (are : (point : PointId) (ending : Ending net point) → moment_at entries ending.name ≡ Some (moment_in schedule point)) where
  posted_is : (point : PointId) (ending : Ending net point) → posted_for net entries point ≡ Some (moment_in schedule point)
  posted_is point ending =
      ap (option_and_then (moment_at entries)) (ends_there net plan ending.name ending.link point ending.declared (sym ending.ends)) ∙ are point ending

  contingent_ends : (point : PointId) → IsContingent net point → Ending net point
  contingent_ends point contingent = by (kind_of_any net point)
    where
      by : (activation net point ≡ None) ⊎ Ending net point → Ending net point
      by (inl none) = absurd (true≢false (sym contingent ∙ ap (λ (o : Option LinkId). is_some o) none))
      by (inr ending) = ending

  -- a point that is shown at a moment is contingent, and has it
  posted_at : (point : PointId) (moment : ℕ) → posted_for net entries point ≡ Some moment → IsContingent net point × (moment_in schedule point ≡ moment)
  posted_at point moment is = by (kind_of_any net point)
    where
      by : (activation net point ≡ None) ⊎ Ending net point → IsContingent net point × (moment_in schedule point ≡ moment)
      by (inl none) = absurd (none-some moment (sym (ap (option_and_then (moment_at entries)) none) ∙ is))
      by (inr ending) = (
        ap (λ (o : Option LinkId). is_some o) (ends_there net plan ending.name ending.link point ending.declared (sym ending.ends)),
        same_Some (moment_in schedule point) moment (sym (posted_is point ending) ∙ is),
      )

  abbrev stream : Stream
  stream = stream_of net entries

  rises : AllPairs (λ (earlier later : Listing). earlier.moment < later.moment) stream.listings
  rises i j d less within =
      let inside : j < end_of entries = subst (λ (n : ℕ). j < n) (length-map-range_with_len (listing_at net entries) 0 (end_of entries)) within in
      let first = get_or-map-range_with_len (listing_at net entries) 0 (end_of entries) i i d (omega arith) (omega arith) in
      let second = get_or-map-range_with_len (listing_at net entries) 0 (end_of entries) j j d inside (omega arith) in
      subst (λ (p : Listing × Listing). p.0.moment < p.1.moment) (λ k. (sym first k, sym second k)) less

  distinct_at : (moment : ℕ) → IsDistinct same_point (listing_at net entries moment).points
  distinct_at moment =
      let rising = AllPairs-filter (λ (one other : PointId). one.0 < other.0) (λ (point : PointId). is_now moment (posted_for net entries point)) (points_of net) (rise_all (length net.points)) in
      IsDistinct-from_apart same_point (listing_at net entries moment).points
      (λ i j d less within. let apart = rising i j d less within in ne_eqb (get_or (listing_at net entries moment).points i d).0 (get_or (listing_at net entries moment).points j d).0 (λ same. omega (arith, apart, same)))

  listed : (point : PointId) (moment : ℕ) → IsListed stream point moment → IsContingent net point × (moment_in schedule point ≡ moment)
  listed point moment is =
      let (at, among, same) = Contains-map_from (listing_at net entries) (range_with_len 0 (end_of entries)) is.listing is.among in
      let named : Contains (listing_at net entries at).points point = subst (λ (l : Listing). Contains l.points point) (sym same) is.named in
      let passes = Contains-filter_passes (λ (p : PointId). is_now at (posted_for net entries p)) (points_of net) point named in
      let moment_is : at ≡ moment = ap (λ (l : Listing). l.moment) same ∙ is.at in
      posted_at point moment (is_now_true at (posted_for net entries point) passes ∙ ap Some moment_is)

  complete : (point : PointId) → IsContingent net point → IsListed stream point (moment_in schedule point)
  complete point contingent =
      let ending = contingent_ends point contingent in
      let moment : ℕ = moment_in schedule point in
      let inside = stands_within entries ending.name moment (are point ending) in
      let in_range : Contains (range_with_len 0 (end_of entries)) moment = (
        moment,
        subst (λ (n : ℕ). moment < n) (sym (length-range_with_len 0 (end_of entries))) inside,
        get_or-range_with_len 0 (end_of entries) moment moment inside
            ∙ none_more moment,
      ) in
      let point_inside : point.0 < length net.points = ending_point net plan point ending in
      let in_points : Contains (points_of net) point =
      (point.0, subst (λ (n : ℕ). point.0 < n) (sym (length-map-range_with_len point_at 0 (length net.points))) point_inside, get_or-map-range_with_len point_at 0 (length net.points) point.0 point.0 point point_inside (omega arith)) in
      record {
        listing = listing_at net entries moment;
        among = Contains-map (listing_at net entries) (range_with_len 0 (end_of entries)) moment in_range;
        at = refl;
        named = Contains-filter (λ (p : PointId). is_now moment (posted_for net entries p)) (points_of net) point in_points (ap (is_now moment) (posted_is point ending) ∙ eq-eqb moment moment refl);
      }

  pub shows : Shows net stream schedule
  shows = record {
    rises = rises;
    once = All-map (λ (l : Listing). IsDistinct same_point l.points) (listing_at net entries) (range_with_len 0 (end_of entries)) (λ k d less. distinct_at (get_or (range_with_len 0 (end_of entries)) k d));
    listed = listed;
    complete = λ point contingent gone. complete point contingent;
  }

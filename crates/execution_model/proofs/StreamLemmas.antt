-- What a stream shows of a schedule, listing by listing; and what a list of feeds that are taken comes to.
use Rattle.std.proofs.Common.{◌≡◌, ℕ, zero, suc, ◌+◌, ◌≤◌, ◌<◌, Bool, true, false, List, [], ◌∷◌, length, map, get_or, Option, Some, None, is_some, ◌⊎◌, inl, inr, refl, ap, sym, subst, ◌∙◌, arith}
use Rattle.std.specs.Prelude.{IsSome, fold, nat_le, if◌then◌else◌}
use Rattle.std.specs.List.{All, AllPairs, Contains, IsDistinct}
use Rattle.std.specs.Option.{option_map_or}
use Rattle.std.proofs.lemmas.Bool.{cases_lt, le-leb, lt-leb, false≢true}
use Rattle.std.proofs.lemmas.List.{same_lists, get_or-map, get_or_default, length-map}
use Rattle.std.proofs.lemmas.List.Elements.{All-nil, All-cons, All-head, All-tail, All-weaker, All-contains_itself}
use Rattle.std.proofs.lemmas.List.Kept.{AllPairs-cons}
use Rattle.net_model.specs.Network.{Plan, IsContingent}
use Rattle.net_model.specs.declared.ids.PointId.{PointId}
use Rattle.closure_model.specs.Tables.{Graph, IsFor}
use Rattle.closure_model.proofs.Lists.{Contains-none, Contains-head, Contains-tail, Contains-cases}
use Rattle.strategy_model.specs.Situations.{moment_in}
use Rattle.strategy_model.specs.Plays.{same_point}
use Rattle.dispatch_net.proofs.ExecutionLemmas.{dispatchable_length}
use Rattle.net_model.specs.Moments.{Moments}
use Rattle.execution_model.specs.Execution.{points_of}
use Rattle.execution_model.specs.Feeds.{Execution, started}
use Rattle.execution_model.specs.Streams.{Listing, IsListed, Shows, cut_at}
use Rattle.execution_model.specs.Laws.{setting_of, going_on, ended}
use Rattle.execution_model.proofs.MomentLemmas.{length-points}
use Rattle.execution_model.proofs.FedLemmas.{after_listing, after_all}
use Rattle.execution_model.proofs.CutLemmas.{IsCut}
use Rattle.execution_model.proofs.FittingLemmas.{IsNext, AreNext, end_of, KeepsTo}

-- what listings show of a schedule from a moment on
record ShowsFrom (net : Plan) (schedule : List ℕ) (from : ℕ) (listings : List Listing) : Type 0 where
  rises : AllPairs (λ earlier later. earlier.moment < later.moment) listings
  each : (listing : Listing) → Contains listings listing → from ≤ listing.moment
  once : All (λ (listing : Listing). IsDistinct same_point listing.points) listings
  comes : (listing : Listing) (point : PointId) → Contains listings listing → Contains listing.points point → IsContingent net point × (moment_in schedule point ≡ listing.moment)
  complete : (point : PointId) → IsContingent net point → from ≤ moment_in schedule point → (last : Listing) → Contains listings last → moment_in schedule point ≤ last.moment
      → IsListed (going_on listings) point (moment_in schedule point)

-- the first of rising listings comes before the others
first_rises : (listing : Listing) (others : List Listing) → AllPairs (λ (earlier later : Listing). earlier.moment < later.moment) (listing ∷ others) → (later : Listing)
    → Contains others later → listing.moment < later.moment
first_rises listing others rises later (k, inside, at) =
    let less : listing.moment < (get_or others k later).moment = rises 0 (suc k) later (omega arith) (omega (arith, inside)) in
    subst (λ (l : Listing). listing.moment < l.moment) at less

listed_later : (listing : Listing) (others : List Listing) (point : PointId) (moment : ℕ) → IsListed (going_on others) point moment → IsListed (going_on (listing ∷ others)) point moment
listed_later listing others point moment is = record { listing = is.listing; among = Contains-tail listing others is.listing is.among; at = is.at; named = is.named }

module _ (net : Plan) (schedule : List ℕ) where
  shows_first : (from : ℕ) (listing : Listing) (others : List Listing) → ShowsFrom net schedule from (listing ∷ others) → IsNext net schedule from listing
  shows_first from listing others shows = record {
    later = shows.each listing (Contains-head listing others);
    once = All-head (λ (l : Listing). IsDistinct same_point l.points) listing others shows.once;
    comes = λ point among. shows.comes listing point (Contains-head listing others) among;
    listed = λ point contingent at_least by_then. here point by_then (shows.complete point contingent at_least listing (Contains-head listing others) by_then);
  }
    where
      here : (point : PointId) → moment_in schedule point ≤ listing.moment → IsListed (going_on (listing ∷ others)) point (moment_in schedule point) → Contains listing.points point
      here point by_then is =
          elim (Contains-cases listing others is.listing is.among) [
            | inl same ↦ subst (λ (l : Listing). Contains l.points point) (sym same) is.named
            | inr later ↦ (let less = first_rises listing others shows.rises is.listing later in let at = is.at in absurd (omega (arith, less, at, by_then)))
          ]

  shows_others : (from : ℕ) (listing : Listing) (others : List Listing) → ShowsFrom net schedule from (listing ∷ others) → ShowsFrom net schedule (listing.moment + 1) others
  shows_others from listing others shows = record {
    rises = λ i j d less within. shows.rises (suc i) (suc j) d (omega (arith, less)) (omega (arith, within));
    each = λ later among. let less = first_rises listing others shows.rises later among in omega (arith, less);
    once = All-tail (λ (l : Listing). IsDistinct same_point l.points) listing others shows.once;
    comes = λ later point among. shows.comes later point (Contains-tail listing others later among);
    complete = λ point contingent at_least last among by_then.
        let first = shows.each listing (Contains-head listing others) in
        after point at_least (shows.complete point contingent (omega (arith, at_least, first)) last (Contains-tail listing others last among) by_then);
  }
    where
      after : (point : PointId) → listing.moment + 1 ≤ moment_in schedule point → IsListed (going_on (listing ∷ others)) point (moment_in schedule point)
          → IsListed (going_on others) point (moment_in schedule point)
      after point at_least is =
          elim (Contains-cases listing others is.listing is.among) [
            | inl same ↦ (let at = is.at in let moment = ap (λ (l : Listing). l.moment) same in absurd (omega (arith, at, moment, at_least)))
            | inr later ↦ record { listing = is.listing; among = later; at = is.at; named = is.named }
          ]

  shown_are_next : (from : ℕ) (listings : List Listing) → ShowsFrom net schedule from listings → AreNext net schedule from listings
  shown_are_next from [] shows = tt
  shown_are_next from (listing ∷ others) shows =
      (shows_first from listing others shows, shown_are_next (listing.moment + 1) others (shows_others from listing others shows))

  -- and back
  next_shown : (from : ℕ) (listing : Listing) (others : List Listing) → IsNext net schedule from listing → ShowsFrom net schedule (listing.moment + 1) others
      → ShowsFrom net schedule from (listing ∷ others)
  next_shown from listing others is shows = record {
    rises = AllPairs-cons (λ (earlier later : Listing). earlier.moment < later.moment) listing others
        (All-weaker (Contains others) (λ (later : Listing). listing.moment < later.moment) (λ later among. let above = shows.each later among in omega (arith, above)) others
        (All-contains_itself others)) shows.rises;
    each = λ one among. elim (Contains-cases listing others one among) [
      | inl same ↦ subst (λ (l : Listing). from ≤ l.moment) same is.later
      | inr later ↦ (let above = shows.each one later in let first = is.later in omega (arith, above, first))
    ];
    once = All-cons (λ (l : Listing). IsDistinct same_point l.points) listing others is.once shows.once;
    comes = comes;
    complete = complete;
  }
    where
      comes : (one : Listing) (point : PointId) → Contains (listing ∷ others) one → Contains one.points point → IsContingent net point × (moment_in schedule point ≡ one.moment)
      comes one point among named =
          elim (Contains-cases listing others one among) [
            | inl same ↦
                subst (λ (l : Listing). IsContingent net point × (moment_in schedule point ≡ l.moment)) same (is.comes point (subst (λ (l : Listing). Contains l.points point) (sym same) named))
            | inr later ↦ shows.comes one point later named
          ]

      complete : (point : PointId) → IsContingent net point → from ≤ moment_in schedule point → (last : Listing) → Contains (listing ∷ others) last
          → moment_in schedule point ≤ last.moment → IsListed (going_on (listing ∷ others)) point (moment_in schedule point)
      complete point contingent at_least last among by_then =
          elim (cases_lt listing.moment (moment_in schedule point)) [
            | inl after ↦ (elim (Contains-cases listing others last among) [
              | inl same ↦ (let moment = ap (λ (l : Listing). l.moment) same in absurd (omega (arith, moment, after, by_then)))
              | inr later ↦ listed_later listing others point (moment_in schedule point) (shows.complete point contingent (omega (arith, after)) last later by_then)
            ])
            | inr by_first ↦
                (let named = is.listed point contingent at_least by_first in
                record { listing = listing; among = Contains-head listing others; at = sym (is.comes point named).1; named = named })
          ]

  next_are_shown : (from : ℕ) (listings : List Listing) → AreNext net schedule from listings → ShowsFrom net schedule from listings
  next_are_shown from [] are = record {
    rises = λ i j d less within. absurd (omega (arith, within, less));
    each = λ listing among. absurd (Contains-none listing among);
    once = All-nil (λ (l : Listing). IsDistinct same_point l.points);
    comes = λ listing point among. absurd (Contains-none listing among);
    complete = λ point contingent at_least last among. absurd (Contains-none last among);
  }
  next_are_shown from (listing ∷ others) (is, are) = next_shown from listing others is (next_are_shown (listing.moment + 1) others are)

  -- a stream that continues shows what comes next, listing by listing
  pub shows_next : (listings : List Listing) → Shows net (going_on listings) schedule → AreNext net schedule 0 listings
  shows_next listings shows = shown_are_next 0 listings (record {
    rises = shows.rises;
    each = λ listing among. omega arith;
    once = shows.once;
    comes = λ listing point among named. shows.listed point listing.moment (record { listing = listing; among = among; at = refl; named = named });
    complete = λ point contingent at_least last among by_then. shows.complete point contingent (inr (last, among, by_then));
  })

  pub next_shows : (listings : List Listing) → AreNext net schedule 0 listings → Shows net (going_on listings) schedule
  next_shows listings are =
      let shows = next_are_shown 0 listings are in
      record {
        rises = shows.rises;
        once = shows.once;
        listed = λ point moment is. subst (λ m. IsContingent net point × (moment_in schedule point ≡ m)) is.at (shows.comes is.listing point is.among is.named);
        complete = λ point contingent gone. elim gone [
          | inl done ↦ absurd (false≢true done)
          | inr (last, among, by_then) ↦ shows.complete point contingent (omega arith) last among by_then
        ];
      }

  -- what comes before the end is listed
  pub listed_before_end : (from : ℕ) (listings : List Listing) → AreNext net schedule from listings → (point : PointId) → IsContingent net point → from ≤ moment_in schedule point
      → moment_in schedule point < end_of from listings → IsListed (going_on listings) point (moment_in schedule point)
  listed_before_end from [] are point contingent at_least before = absurd (omega (arith, at_least, before))
  listed_before_end from (listing ∷ others) (is, are) point contingent at_least before =
      elim (cases_lt listing.moment (moment_in schedule point)) [
        | inl after ↦ listed_later listing others point (moment_in schedule point) (listed_before_end (listing.moment + 1) others are point contingent (omega (arith, after)) before)
        | inr by_first ↦
            (let named = is.listed point contingent at_least by_first in
            record { listing = listing; among = Contains-head listing others; at = sym (is.comes point named).1; named = named })
      ]

  pub end_above : (from : ℕ) (listings : List Listing) → AreNext net schedule from listings → (listing : Listing) → Contains listings listing
      → (from ≤ end_of from listings) × (listing.moment < end_of from listings)
  end_above from listings are listing among = (rising from listings are, above from listings are among)
    where
      rising : (a : ℕ) (ls : List Listing) → AreNext net schedule a ls → a ≤ end_of a ls
      rising a [] are = omega arith
      rising a (l ∷ ls) (is, are) = let rest = rising (l.moment + 1) ls are in let later = is.later in omega (arith, rest, later)

      above : (a : ℕ) (ls : List Listing) → AreNext net schedule a ls → Contains ls listing → listing.moment < end_of a ls
      above a [] are among = absurd (Contains-none listing among)
      above a (l ∷ ls) (is, are) among =
          elim (Contains-cases l ls listing among) [
            | inl same ↦ (let rest = rising (l.moment + 1) ls are in let moment = ap (λ (x : Listing). x.moment) same in omega (arith, rest, moment))
            | inr later ↦ above (l.moment + 1) ls are later
          ]

  -- what a done stream shows, it also shows as one that continues
  pub done_shows : (listings : List Listing) → Shows net (ended listings) schedule → Shows net (going_on listings) schedule
  done_shows listings shows = record {
    rises = shows.rises;
    once = shows.once;
    listed = λ point moment is. shows.listed point moment (record { listing = is.listing; among = is.among; at = is.at; named = is.named });
    complete = λ point contingent gone. let is = shows.complete point contingent (inl refl) in record { listing = is.listing; among = is.among; at = is.at; named = is.named };
  }

  -- and it may be said to be done if every contingent point is listed
  pub shows_done : (listings : List Listing) → Shows net (going_on listings) schedule
      → ((point : PointId) → IsContingent net point → IsListed (going_on listings) point (moment_in schedule point))
      → Shows net (ended listings) schedule
  shows_done listings shows each = record {
    rises = shows.rises;
    once = shows.once;
    listed = λ point moment is. shows.listed point moment (record { listing = is.listing; among = is.among; at = is.at; named = is.named });
    complete = λ point contingent gone. let is = each point contingent in record { listing = is.listing; among = is.among; at = is.at; named = is.named };
  }

  -- then none comes from the end on
  pub done_before_end : (listings : List Listing) → Shows net (ended listings) schedule → (point : PointId) → IsContingent net point → moment_in schedule point < end_of 0 listings
  done_before_end listings shows point contingent =
      let is = shows.complete point contingent (inl refl) in
      let at = is.at in
      let above = (end_above 0 listings (shows_next listings (done_shows listings shows)) is.listing is.among).1 in
      omega (arith, at, above)

-- ---- what a stream fixes
cut_here : (last : Option ℕ) (m : ℕ) → m < option_map_or (λ l. l + 1) last 0 → option_map_or (nat_le m) last false ≡ true
cut_here None m below = absurd (omega (arith, below))
cut_here (Some l) m below = le-leb m l (omega (arith, below))

pub cut_later : (last : Option ℕ) (m : ℕ) → option_map_or (λ l. l + 1) last 0 ≤ m → option_map_or (nat_le m) last false ≡ false
cut_later None m above = refl
cut_later (Some l) m above = lt-leb m l (omega (arith, above))

pub cut_is : (net : Plan) (schedule : List ℕ) (moments : Moments) (last : Option ℕ) → length schedule ≡ length net.points
    → IsCut net schedule moments (option_map_or (λ l. l + 1) last 0) → moments ≡ cut_at last schedule
cut_is net schedule moments last complete cut =
    same_lists moments (cut_at last schedule) (cut.long ∙ sym complete ∙ sym (length-map schedule shown)) each
  where
    shown : ℕ → Option ℕ
    shown m = if option_map_or (nat_le m) last false then Some m else None

    each : (k : ℕ) (d : Option ℕ) → k < length moments → get_or moments k d ≡ get_or (cut_at last schedule) k d
    each k d inside =
        let long = cut.long in
        let within : k < length net.points = omega (arith, inside, long) in
        let stands : k < length schedule = omega (arith, within, complete) in
        let m : ℕ = get_or schedule k 0 in
        let point : PointId = record { 0 = k } in
        get_or_default moments k d None inside
        ∙ (elim (cases_lt m (option_map_or (λ l. l + 1) last 0)) [
          | inl less ↦ cut.known point within less ∙ sym (ap (λ (b : Bool). if b then Some m else None) (cut_here last m less))
          | inr above ↦ cut.unknown point within above ∙ sym (ap (λ (b : Bool). if b then Some m else None) (cut_later last m above))
        ])
        ∙ sym (get_or-map shown schedule k 0 d stands)

-- if every point has come, they are the whole of the schedule
pub whole_is : (net : Plan) (schedule : List ℕ) (moments : Moments) (t : ℕ) → length schedule ≡ length net.points → IsCut net schedule moments t → All IsSome moments
    → moments ≡ map Some schedule
whole_is net schedule moments t complete cut come =
    same_lists moments (map Some schedule) (cut.long ∙ sym complete ∙ sym (length-map schedule Some)) each
  where
    by : (k : ℕ) → k < length net.points → get_or moments k None ≡ Some (get_or schedule k 0) ⊎ (get_or moments k None ≡ None)
    by k within =
        elim (cases_lt (get_or schedule k 0) t) [
          | inl less ↦ inl (cut.known (record { 0 = k }) within less)
          | inr above ↦ inr (cut.unknown (record { 0 = k }) within above)
        ]

    each : (k : ℕ) (d : Option ℕ) → k < length moments → get_or moments k d ≡ get_or (map Some schedule) k d
    each k d inside =
        let long = cut.long in
        let within : k < length net.points = omega (arith, inside, long) in
        let stands : k < length schedule = omega (arith, within, complete) in
        get_or_default moments k d None inside
        ∙ (elim (by k within) [
          | inl known ↦ known
          | inr unknown ↦ absurd (false≢true (sym (ap is_some unknown) ∙ come k None inside))
        ])
        ∙ sym (get_or-map Some schedule k 0 d stands)

pub last_after : (execution : Execution) (listings : List Listing) → (after_all execution listings).last ≡ fold (λ before (listing : Listing). Some listing.moment) execution.last listings
last_after execution [] = refl
last_after execution (listing ∷ others) = last_after (after_listing execution listing) others

-- ---- the start
pub none_of_map : {X : Type 0} (xs : List X) (k : ℕ) → get_or (map (λ (x : X). let o : Option ℕ = None in o) xs) k None ≡ None
none_of_map [] k = refl
none_of_map (x ∷ xs) zero = refl
none_of_map (x ∷ xs) (suc k) = none_of_map xs k

pub start_keeps : (net : Plan) (table : Graph) (schedule : List ℕ) → IsFor net table → KeepsTo net table schedule (started (setting_of net table))
start_keeps net table schedule for =
    let setting = setting_of net table in
    record {
      setting = refl;
      cut = record {
        long = length-map (points_of setting) (λ (p : PointId). let o : Option ℕ = None in o) ∙ length-points setting ∙ dispatchable_length net table for;
        known = λ point within below. absurd (omega (arith, below));
        unknown = λ point within above. none_of_map (points_of setting) point.0;
      };
    }

-- What is promised of lines whose points are passed on in some order holds of the lines as they name their points.
use Rattle.std.proofs.Common.{◌≡◌, ◌⊎◌, ℕ, suc, ◌+◌, ◌-◌, ◌<◌, ◌≤◌, ◌≢◌, Bool, true, false, List, [], ◌∷◌, ◌++◌, length, fold, get_or, Option, Some, None, refl, sym, ap, ◌∙◌, subst, inl, inr, arith}
use Rattle.std.specs.List.{All, AllPairs, AllZip, Contains, IsDistinct}
use Rattle.std.specs.List.Sorted.{IsPermutation}
use Rattle.std.specs.Option.{option_map_or}
use Rattle.std.proofs.lemmas.Bool.{cases_eq, eq-eqb, ne_eqb}
use Rattle.std.proofs.lemmas.List.Elements.{AllZip-get_or, AllZip-push, Contains-get_or, length_all_zip}
use Rattle.std.proofs.lemmas.List.Sorted.{Contains-permutation, IsPermutation-refl, IsPermutation-sym, IsPermutation-trans}
use Rattle.std.proofs.lemmas.Map.Keys.{IsDistinct-IsPermutation}
use Rattle.texts.specs.Lines.{InputLine}
use Rattle.net_model.specs.Network.{Plan, IsContingent}
use Rattle.net_model.specs.declared.ids.PointId.{PointId}
use Rattle.strategy_model.specs.Plays.{same_point}
use Rattle.strategy_model.specs.Situations.{Satisfies, moment_in}
use Rattle.event_stream.specs.EventText.{EventLine, blank, completed, done}
use Rattle.execution_model.specs.Acts.{scheduled}
use Rattle.execution_model.specs.Laws.{going_on, ended}
use Rattle.execution_model.specs.Streams.{FitsSituation, HasGoneBy, IsFaithful, IsListed, Listing, Shows, Stream}
use Rattle.execution_model.specs.declared.feed_answers.Act.{Act}
use Rattle.command_engine.specs.Inputs.{texts}
use Rattle.command_engine.specs.declared.endings.End.{End}
use Rattle.command_engine.specs.declared.endings.End.TheVariants as ends
use Rattle.event_phase.specs.CompletionOrders.{AreInCompletionOrder, CompletionOrder, as_named, in_order, ReportsAs, ReportsEvent}
use Rattle.event_phase.specs.Day.{IsDay, StandIn, IsRefusedDay, IsUnderway, IsUnfaithfulWith, IsWholeDay, ListLines, Preamble, refused_line_number, PutsDay, PutsDayBy, PutsListings, PutsListingsBy, PutsSoFar, PutsSoFarBy}
use Rattle.event_phase.specs.Due.{ExecutesAtBy, ExecutesNone, IsDueAfter, ListsNext, moment_after_listings}
use Rattle.event_phase.specs.EventAnswers.{acts_text, complete_line, due_line}
use Rattle.event_phase.specs.ExecutionPromise.{ExecutionPromise}
use Rattle.common_answers.specs.VerdictLines.{controllable_line}
use Rattle.event_phase.proofs.CompletionOrderLemmas.{reports_something}
use Rattle.run_command.specs.NamedDays.{IsSameListing, KeepsAsNamed, ListTheSame, OrdersDecideNothing, RefusesLine}

-- ---- lists of listings that are the same but for the order of their points
same_listing : (listing : Listing) → IsSameListing listing listing
same_listing listing = record { moment = refl; points = IsPermutation-refl listing.points }

same_turned : (listing other : Listing) → IsSameListing listing other → IsSameListing other listing
same_turned listing other is = record { moment = sym is.moment; points = IsPermutation-sym listing.points other.points is.points }

turned : (listings others : List Listing) → ListTheSame listings others → ListTheSame others listings
turned [] [] same = tt
turned [] (other ∷ others) same = absurd same
turned (listing ∷ listings) [] same = absurd same
turned (listing ∷ listings) (other ∷ others) (first, rest) = (same_turned listing other first, turned listings others rest)

-- with one listing more
one_more : (listings others : List Listing) (listing other : Listing) → ListTheSame listings others → IsSameListing listing other → ListTheSame (listings ++ listing ∷ []) (others ++ other ∷ [])
one_more listings others listing other same is = AllZip-push IsSameListing listings others listing other same is

-- each listing of the one list is one of the other
record Found (listings : List Listing) (other : Listing) : Type 0 where
  pub listing : Listing
  pub among : Contains listings listing
  pub same : IsSameListing listing other

found : (listings others : List Listing) (other : Listing) → ListTheSame listings others → Contains others other → Found listings other
found listings others other same (i, inside, at) =
    let long = length_all_zip IsSameListing listings others same in
    let within : i < length listings = omega (arith, long, inside) in
    record {
      listing = get_or listings i other;
      among = Contains-get_or listings i other within;
      same = subst (IsSameListing (get_or listings i other)) at (AllZip-get_or IsSameListing listings others i other other same within);
    }

-- the first moment after them is the same
last_from : (listings others : List Listing) (before : Option ℕ) → ListTheSame listings others
    → fold (λ (last : Option ℕ) (listing : Listing). Some listing.moment) before others ≡ fold (λ (last : Option ℕ) (listing : Listing). Some listing.moment) before listings
last_from [] [] before same = refl
last_from [] (other ∷ others) before same = absurd same
last_from (listing ∷ listings) [] before same = absurd same
last_from (listing ∷ listings) (other ∷ others) before (first, rest) =
    ap (λ (m : ℕ). fold (λ (last : Option ℕ) (one : Listing). Some one.moment) (Some m) others) first.moment ∙ last_from listings others (Some listing.moment) rest

same_after : (listings others : List Listing) → ListTheSame listings others → moment_after_listings others ≡ moment_after_listings listings
same_after listings others same = ap (λ (last : Option ℕ). option_map_or suc last 0) (last_from listings others None same)

-- ---- they show the same schedules
point_flips : (one other : PointId) → same_point one other ≡ same_point other one
point_flips one other = by (cases_eq one.0 other.0)
  where
    by : (one.0 ≡ other.0) ⊎ (one.0 ≢ other.0) → same_point one other ≡ same_point other one
    by (inl is) = eq-eqb one.0 other.0 is ∙ sym (eq-eqb other.0 one.0 (sym is))
    by (inr not) = ne_eqb one.0 other.0 not ∙ sym (ne_eqb other.0 one.0 (λ is. not (sym is)))

module _ (over : Bool) where
  abbrev stream_of : List Listing → Stream
  stream_of listings = record { listings = listings; done = over }

  listed_there : (listings others : List Listing) (point : PointId) (moment : ℕ) → ListTheSame listings others → IsListed (stream_of others) point moment → IsListed (stream_of listings) point moment
  listed_there listings others point moment same is =
      let one = found listings others is.listing same is.among in
      record {
        listing = one.listing;
        among = one.among;
        at = sym one.same.moment ∙ is.at;
        named = Contains-permutation is.listing.points one.listing.points point (IsPermutation-sym one.listing.points is.listing.points one.same.points) is.named;
      }

  gone_there : (listings others : List Listing) (moment : ℕ) → ListTheSame listings others → HasGoneBy (stream_of others) moment → HasGoneBy (stream_of listings) moment
  gone_there listings others moment same (inl ended_so) = inl ended_so
  gone_there listings others moment same (inr (other, among, below)) =
      let one = found listings others other same among in
      let at = one.same.moment in
      inr (one.listing, one.among, omega (arith, at, below))

  shows_there : (net : Plan) (schedule : List ℕ) (listings others : List Listing) → ListTheSame listings others → Shows net (stream_of listings) schedule → Shows net (stream_of others) schedule
  shows_there net schedule listings others same shows = record {
    rises = rises;
    once = once;
    listed = λ point moment is. shows.listed point moment (listed_there listings others point moment same is);
    complete = λ point contingent gone. listed_there others listings point (moment_in schedule point) back (shows.complete point contingent (gone_there listings others (moment_in schedule point) same gone));
  }
    where
      back : ListTheSame others listings
      back = turned listings others same

      long : length listings ≡ length others
      long = length_all_zip IsSameListing listings others same

      rises : AllPairs (λ (earlier later : Listing). earlier.moment < later.moment) others
      rises i j d less inside =
          let later : j < length listings = omega (arith, long, inside) in
          let earlier : i < length listings = omega (arith, less, later) in
          let one = (AllZip-get_or IsSameListing listings others i d d same earlier).moment in
          let other = (AllZip-get_or IsSameListing listings others j d d same later).moment in
          let rise : (get_or listings i d).moment < (get_or listings j d).moment = shows.rises i j d less later in
          omega (arith, one, other, rise)

      once : All (λ (listing : Listing). IsDistinct same_point listing.points) others
      once i d inside =
          let within : i < length listings = omega (arith, long, inside) in
          let one = (AllZip-get_or IsSameListing listings others i d d same within).points in
          IsDistinct-IsPermutation same_point point_flips (get_or listings i d).points (get_or others i d).points one (shows.once i d within)

  abbrev fits_there : (net : Plan) (listings others : List Listing) (situation : List ℕ) → ListTheSame listings others → (fits : FitsSituation net (stream_of listings) situation)
      → (other : FitsSituation net (stream_of others) situation) × (other.schedule ≡ fits.schedule)
  fits_there net listings others situation same fits =
      (record { schedule = fits.schedule; earliest = fits.earliest; shows = shows_there net fits.schedule listings others same fits.shows }, refl)

  faithful_there : (net : Plan) (listings others : List Listing) → ListTheSame listings others → IsFaithful net (stream_of listings) → IsFaithful net (stream_of others)
  faithful_there net listings others same (situation, fits) = (situation, (fits_there net listings others situation same fits).0)

pub orders_decide_nothing : OrdersDecideNothing
orders_decide_nothing net listings others over same = (
  (faithful_there over net listings others same, faithful_there over net others listings (turned listings others same)),
  λ situation fits. fits_there over net listings others situation same fits,
)

-- ---- what lines report in one order they report in every other
abbrev SaysTheSame : EventLine → EventLine → Type 0
SaysTheSame blank other = other ≡ blank
SaysTheSame (completed moment points) other = (others : List PointId) × IsPermutation points others × (other ≡ completed moment others)
SaysTheSame done other = other ≡ done

in_some_order : (h : CompletionOrder) (named points : List PointId) → AreInCompletionOrder h named points → IsPermutation named points
in_some_order as_named named points is = subst (IsPermutation named) (sym is) (IsPermutation-refl named)
in_some_order in_order named points is = is.same

says_the_same : (h k : CompletionOrder) (read reported other : EventLine) → ReportsAs h read reported → ReportsAs k read other → SaysTheSame reported other
says_the_same h k blank reported other is also = subst (λ (r : EventLine). SaysTheSame r other) (sym is) also
says_the_same h k done reported other is also = subst (λ (r : EventLine). SaysTheSame r other) (sym is) also
says_the_same h k (completed moment named) reported other (points, are, is) (others, those, also) =
    let both = IsPermutation-trans points named others (IsPermutation-sym named points (in_some_order h named points are)) (in_some_order k named others those) in
    subst (λ (r : EventLine). SaysTheSame r other) (sym is) (others, both, also)

reports_there : (h k : CompletionOrder) (net : Plan) (reported : EventLine) (line : List ℕ) → ReportsEvent h net reported line → (other : EventLine) × ReportsEvent k net other line × SaysTheSame reported other
reports_there h k net reported line (read, statement, is) =
    let there = reports_something k read in
    (there.0, (read, statement, there.1), says_the_same h k read reported there.0 is there.1)

reports_blank : (h k : CompletionOrder) (net : Plan) (line : List ℕ) → ReportsEvent h net blank line → ReportsEvent k net blank line
reports_blank h k net line is = let there = reports_there h k net blank line is in subst (λ (r : EventLine). ReportsEvent k net r line) there.2 there.1

reports_done : (h k : CompletionOrder) (net : Plan) (line : List ℕ) → ReportsEvent h net done line → ReportsEvent k net done line
reports_done h k net line is = let there = reports_there h k net done line is in subst (λ (r : EventLine). ReportsEvent k net r line) there.2 there.1

record Completes (k : CompletionOrder) (net : Plan) (moment : ℕ) (points : List PointId) (line : List ℕ) : Type 0 where
  pub others : List PointId
  pub same : IsPermutation points others
  pub reports : ReportsEvent k net (completed moment others) line

reports_points : (h k : CompletionOrder) (net : Plan) (moment : ℕ) (points : List PointId) (line : List ℕ) → ReportsEvent h net (completed moment points) line → Completes k net moment points line
reports_points h k net moment points line is =
    let there = reports_there h k net (completed moment points) line is in
    record { others = there.2.0; same = there.2.1; reports = subst (λ (r : EventLine). ReportsEvent k net r line) there.2.2 there.1 }

-- these lines list the same in another order
record ListsThere (k : CompletionOrder) (net : Plan) (lines : List (List ℕ)) (listings : List Listing) : Type 0 where
  pub others : List Listing
  pub lists : ListLines k net lines others
  pub same : ListTheSame listings others

lists_there : (h k : CompletionOrder) (net : Plan) (lines : List (List ℕ)) (listings : List Listing) → ListLines h net lines listings → ListsThere k net lines listings
lists_there h k net [] listings is = record { others = []; lists = refl; same = subst (λ (l : List Listing). ListTheSame l []) (sym is) tt }
lists_there h k net (line ∷ lines) listings (inl (nothing, is)) =
    let rest = lists_there h k net lines listings is in
    record { others = rest.others; lists = inl (reports_blank h k net line nothing, rest.lists); same = rest.same }
lists_there h k net (line ∷ lines) listings (inr (moment, points, later, reports, all, is)) =
    let rest = lists_there h k net lines later is in
    let here = reports_points h k net moment points line reports in
    let other : Listing = record { moment = moment; points = here.others } in
    record {
      others = other ∷ rest.others;
      lists = inr (moment, here.others, rest.others, here.reports, refl, rest.lists);
      same = subst (λ (l : List Listing). ListTheSame l (other ∷ rest.others)) (sym all) (record { moment = refl; points = here.same }, rest.same);
    }

-- ---- what is put for them is the same
module _ (net : Plan) (listings others : List Listing) (same : ListTheSame listings others) where
  next_there : (moment : ℕ) (points : List PointId) (schedule : List ℕ) → ListsNext net listings moment points schedule → ListsNext net others moment points schedule
  next_there moment points schedule (situation, earliest, shows) =
      let next : Listing = record { moment = moment; points = points } in
      (situation, earliest, shows_there false net schedule (listings ++ next ∷ []) (others ++ next ∷ []) (one_more listings others next next same (same_listing next)) shows)

  none_there : (moment : ℕ) → ExecutesNone net others moment → ExecutesNone net listings moment
  none_there moment none schedule next =
      ap (λ (m : ℕ). scheduled net schedule m (suc moment - m)) (sym (same_after listings others same)) ∙ none schedule (next_there moment [] schedule next)

  at_there : (moment : ℕ) → ExecutesAtBy (ListsNext net others) net moment → ExecutesAtBy (ListsNext net listings) net moment
  at_there moment some points schedule next = some points schedule (next_there moment points schedule next)

  due_there : (due : Option ℕ) → IsDueAfter net others due → IsDueAfter net listings due
  due_there None none = λ moment. none_there moment (none moment)
  due_there (Some due) (later, none, some) =
      (subst (λ (m : ℕ). m ≤ due) (same_after listings others same) later, λ moment before. none_there moment (none moment before), at_there due some)

puts_there : (net : Plan) (schedule : List ℕ) (listings others before first : List Listing) (put : List ℕ) → ListTheSame listings others → ListTheSame before first → PutsListings net schedule first others put
    → PutsListingsBy (IsDueAfter net) net schedule before listings put
puts_there net schedule [] [] before first put same so_far puts = puts
puts_there net schedule [] (other ∷ others) before first put same so_far puts = absurd same
puts_there net schedule (listing ∷ listings) [] before first put same so_far puts = absurd same
puts_there net schedule (listing ∷ listings) (other ∷ others) before first put (is, rest) so_far (due, more, answers, all, later) =
    let now = one_more before first listing other so_far is in
    let from = same_after before first so_far in
    let text : ℕ → ℕ → List ℕ = λ m last. acts_text net (scheduled net schedule m (suc last - m)) ++ (due_line due ++ more) in (
      due,
      more,
      due_there net (before ++ listing ∷ []) (first ++ other ∷ []) now due answers.reported,
      all ∙ (λ i. text (from i) (is.moment i)),
      puts_there net schedule listings others (before ++ listing ∷ []) (first ++ other ∷ []) more rest now later,
    )

module _ (net : Plan) (schedule before : List ℕ) (listings others : List Listing) (put : List ℕ) (same : ListTheSame listings others) where
  so_far_there : PutsSoFar net schedule before others put → PutsSoFarBy (IsDueAfter net) net schedule before listings put
  so_far_there puts = record {
    first = puts.first;
    said = puts.said;
    more = puts.more;
    due = puts.due.reported;
    listed = puts_there net schedule listings others [] [] puts.said same tt puts.listed;
    all = puts.all;
  }

  day_there : (end : End) → PutsDay net schedule before others put end → PutsDayBy (IsDueAfter net) net schedule before listings put end
  day_there end puts =
      let from = same_after listings others same in
      record {
        first = puts.first;
        said = puts.said;
        count = puts.count;
        due = puts.due.reported;
        listed = puts_there net schedule listings others [] [] puts.said same tt puts.listed;
        whole = subst (λ (m : ℕ). All (λ moment. moment < m + puts.count) schedule) from puts.whole;
        all =
            puts.all
            ∙ ap (λ (m : ℕ). before ++ (controllable_line ++ (due_line puts.first ++ (puts.said ++ (acts_text net (scheduled net schedule m puts.count) ++ complete_line))))) from;
        ends = puts.ends;
      }

-- what is unfaithful in one order is so in every other
unfaithful_there : (net : Plan) (listings others : List Listing) (reported other : EventLine) → ListTheSame listings others → SaysTheSame reported other → IsUnfaithfulWith net listings reported → IsUnfaithfulWith net others other
unfaithful_there net listings others blank other same says never = absurd never
unfaithful_there net listings others (completed moment points) other same (named, are, is) never =
    let one : Listing = record { moment = moment; points = points } in
    let two : Listing = record { moment = moment; points = named } in
    let both : ListTheSame (listings ++ one ∷ []) (others ++ two ∷ []) = one_more listings others one two same (record { moment = refl; points = are }) in
    let there : IsUnfaithfulWith net others (completed moment named) = λ faithful. never (faithful_there false net (others ++ two ∷ []) (listings ++ one ∷ []) (turned (listings ++ one ∷ []) (others ++ two ∷ []) both) faithful) in
    subst (IsUnfaithfulWith net others) (sym is) there
unfaithful_there net listings others done other same is never =
    let there : IsUnfaithfulWith net others done = λ faithful. never (faithful_there true net others listings (turned listings others same) faithful) in
    subst (IsUnfaithfulWith net others) (sym is) there

-- ---- days by which the same lines open an execution, with their points in one order or in another
module _ (opens : (used rest : List InputLine) → Plan → (before : List ℕ) → Type 0) (input : List InputLine) where
  abbrev by : CompletionOrder → Preamble
  by h = record { completion_order = h; opens = opens }

  module _ (h k : CompletionOrder) (net : Plan) where
    abbrev stand_there : StandIn (by h) input net → StandIn (by k) input net
    stand_there lines = record {
      used = lines.used;
      events = lines.events;
      rest = lines.rest;
      before = lines.before;
      divided = lines.divided;
      opened = lines.opened;
      come = lines.come;
    }

    abbrev listed : (listings : List Listing) (day : IsUnderway (by h) input net listings) → ListsThere k net (texts day.lines.events) listings
    listed listings day = lists_there h k net (texts day.lines.events) listings day.lists

    abbrev underway_there : (listings : List Listing) (day : IsUnderway (by h) input net listings) → IsUnderway (by k) input net (listed listings day).others
    underway_there listings day = record { lines = stand_there day.lines; lists = (listed listings day).lists }

    abbrev day_at : (listings : List Listing) (reported other : EventLine) (day : IsDay (by h) input net listings reported) → ReportsEvent k net other day.last.text
        → IsDay (by k) input net (listed listings day.underway).others other
    day_at listings reported other day reports = record {
      underway = underway_there listings day.underway;
      last = day.last;
      others = day.others;
      next = day.next;
      comes = day.comes;
      statement = reports;
    }

    abbrev whole_there : (listings : List Listing) (whole : IsWholeDay (by h) input net listings) → IsWholeDay (by k) input net (listed listings whole.day.underway).others
    whole_there listings whole = record {
      day = day_at listings done done whole.day (reports_done h k net whole.day.last.text whole.day.statement);
      controllable = whole.controllable;
      faithful = faithful_there true net listings (listed listings whole.day.underway).others (listed listings whole.day.underway).same whole.faithful;
    }

  abbrev reported_there : (h k : CompletionOrder) (refused : IsRefusedDay (by h) input)
      → (other : EventLine) × ReportsEvent k refused.net other refused.day.last.text × SaysTheSame refused.reported other
  reported_there h k refused = reports_there h k refused.net refused.reported refused.day.last.text refused.day.statement

  abbrev refused_there : (h k : CompletionOrder) → IsRefusedDay (by h) input → IsRefusedDay (by k) input
  refused_there h k refused = record {
    net = refused.net;
    listings = (listed h k refused.net refused.listings refused.day.underway).others;
    reported = (reported_there h k refused).0;
    day = day_at h k refused.net refused.listings refused.reported (reported_there h k refused).0 refused.day (reported_there h k refused).1;
    controllable = refused.controllable;
    faithful = faithful_there false refused.net refused.listings (listed h k refused.net refused.listings refused.day.underway).others (listed h k refused.net refused.listings refused.day.underway).same refused.faithful;
    unfaithful = unfaithful_there refused.net refused.listings (listed h k refused.net refused.listings refused.day.underway).others refused.reported (reported_there h k refused).0
        (listed h k refused.net refused.listings refused.day.underway).same (reported_there h k refused).2 refused.unfaithful;
  }

  -- ---- so what is promised in one order is promised of the lines as they name their points
  module _ (k : CompletionOrder) (put : List ℕ) (end : End) (promise : ExecutionPromise (by k) input put end) where
    underway_named : (net : Plan) (listings : List Listing) (situation : List ℕ) → (day : IsUnderway (by as_named) input net listings)
        → (fits : FitsSituation net (going_on listings) situation) → PutsSoFarBy (IsDueAfter net) net fits.schedule day.lines.before listings put
    underway_named net listings situation day fits =
        let there = listed as_named k net listings day in
        let fitting = fits_there false net listings there.others situation there.same fits in
        so_far_there net fits.schedule day.lines.before listings there.others put there.same (promise.underway net there.others situation (underway_there as_named k net listings day) fitting.0)

    executes_named : (net : Plan) (listings : List Listing) (situation : List ℕ) → (whole : IsWholeDay (by as_named) input net listings)
        → (fits : FitsSituation net (ended listings) situation)
        → Satisfies net fits.schedule × PutsDayBy (IsDueAfter net) net fits.schedule whole.day.underway.lines.before listings put end
    executes_named net listings situation whole fits =
        let there = listed as_named k net listings whole.day.underway in
        let fitting = fits_there true net listings there.others situation there.same fits in
        let executed = promise.executes net there.others situation (whole_there as_named k net listings whole) fitting.0 in
        (executed.0, day_there net fits.schedule whole.day.underway.lines.before listings there.others put there.same end executed.1)

    refuses_named : (refused : IsRefusedDay (by as_named) input) → RefusesLine (refused_line_number refused) put end
    refuses_named refused = let ends_so = promise.refuses (refused_there as_named k refused) in (ends_so.words, ends_so.last, ends_so.ends_so)

    pub named_keeps : (end ≡ ends.Done → (net : Plan) × (listings : List Listing) × IsWholeDay (by k) input net listings) → (end ≡ ends.EventRefused → IsRefusedDay (by k) input)
        → KeepsAsNamed (by k) input put end
    named_keeps completes refused = record {
      underway = underway_named;
      executes = executes_named;
      refuses = refuses_named;
      completes = λ whole. let (net, listings, day) = completes whole in (net, (listed k as_named net listings day.day.underway).others, whole_there k as_named net listings day);
      refused = λ is. refused_there k as_named (refused is);
    }

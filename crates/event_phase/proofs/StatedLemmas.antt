-- What is put and decided over the shown form of a network, in terms of the network as it is stated.
use Rattle.std.proofs.Common.{◌≡◌, ℕ, suc, ◌+◌, ◌-◌, ◌<◌, List, [], ◌∷◌, ◌++◌, Option, Some, None, sym, ap, ◌∙◌, subst, arith, append-nil}
use Rattle.std.specs.List.{All}
use Rattle.std.proofs.lemmas.List.Elements.{All-cons, All-head, All-tail}
use Rattle.std.proofs.lemmas.Option.{same_Some}
use Rattle.texts.specs.Lines.{InputLine}
use Rattle.net_model.specs.Network.{Plan, IsPlan}
use Rattle.net_model.specs.ShownForm.{lag, shown_form, shown_situation}
use Rattle.net_model.specs.declared.ids.PointId.{PointId}
use Rattle.strategy_model.specs.Control.{IsControllable, IsEarliest}
use Rattle.strategy_model.specs.Plays.{points_of}
use Rattle.strategy_model.specs.ShownSchedules.{shown_moments, shown_schedule}
use Rattle.strategy_model.specs.Situations.{Satisfies}
use Rattle.strategy_model.proofs.ShownFormLemmas.{law_controllable_is_shown}
use Rattle.event_stream.specs.EventText.{EventLine, blank, completed, done}
use Rattle.execution_model.specs.Acts.{scheduled_at}
use Rattle.execution_model.specs.Laws.{going_on, ended}
use Rattle.execution_model.specs.ShownStreams.{ActsAreShown, FitsAsShown, IsFaithfulAsShown, StreamsAreShown}
use Rattle.execution_model.specs.Streams.{Listing, IsFaithful, Shows, Stream}
use Rattle.execution_model.specs.declared.feed_answers.Act.{Act}
use Rattle.command_engine.specs.declared.endings.End.{End}
use Rattle.event_phase.specs.Day.{Preamble, StandIn, IsDay, IsUnfaithfulWith, IsRefusedDay, IsWholeDay, PutsListings, PutsListingsBy, PutsSoFar, PutsDay}
use Rattle.event_phase.specs.Due.{moment_after_listings, AnswersDue, AnswersDueAsStated, ExecutesAtBy, ExecutesNone, ExecutesNoneBy, IsDueAfter, IsDueBy, ListsNext, ShowsNext}
use Rattle.event_phase.specs.EventAnswers.{acts_text, due_line, complete_line}
use Rattle.event_phase.specs.StatedDay.{IsUnfaithfulAsShownWith, IsRefusedDayAsStated, IsWholeDayAsStated, HasStatedRefusal, HasStatedWholeDay, StatedBy, PutsSoFarAsStated, PutsDayAsStated}
use Rattle.common_answers.specs.VerdictLines.{controllable_line}

-- the earliest schedule satisfies the network
pub earliest_satisfies : (net : Plan) (situation schedule : List ℕ) → IsEarliest net situation schedule → Satisfies net schedule
earliest_satisfies net situation schedule earliest =
    let controls = earliest.controls situation earliest.is_situation in
    subst (Satisfies net) (same_Some controls.0 schedule (sym controls.1 ∙ earliest.played)) controls.2

-- moments that are below an end as they are shown are below it
sooner : (net : Plan) (points : List PointId) (moments : List ℕ) (end : ℕ) → All (λ moment. moment < end) (shown_moments net points moments) → All (λ moment. moment < end) moments
sooner net [] [] end all = all
sooner net [] (m ∷ moments) end all = all
sooner net (p ∷ points) [] end all = all
sooner net (p ∷ points) (m ∷ moments) end all =
    let below : ℕ → Type 0 = λ moment. moment < end in
    let here : m + lag net p < end = All-head below (m + lag net p) (shown_moments net points moments) all in
    let lower : m < end = omega (arith, here) in
    All-cons below m moments lower (sooner net points moments end (All-tail below (m + lag net p) (shown_moments net points moments) all))

module _ (streams : StreamsAreShown) (acts : ActsAreShown) (net : Plan) (plan : IsPlan net) where
  -- ---- due moments
  next_shown : (listings : List Listing) (moment : ℕ) (points : List PointId) (schedule : List ℕ) → ShowsNext net listings moment points schedule
      → ListsNext (shown_form net) listings moment points (shown_schedule net schedule)
  next_shown listings moment points schedule (situation, earliest, lists) =
      let stream : Stream = going_on (listings ++ record { moment = moment; points = points } ∷ []) in
      let fits : FitsAsShown net stream situation = record { schedule = schedule; earliest = earliest; lists = lists } in
      let (shown, same) = (streams net stream plan).fits situation fits in (
        shown_situation net situation,
        subst (IsEarliest (shown_form net) (shown_situation net situation)) same shown.earliest,
        subst (Shows (shown_form net) stream) same shown.shows,
      )

  none_stated : (listings : List Listing) (moment : ℕ) → ExecutesNone (shown_form net) listings moment → ExecutesNoneBy (ShowsNext net listings) net listings moment
  none_stated listings moment none schedule next =
      sym (acts net schedule (moment_after_listings listings) (suc moment - moment_after_listings listings)) ∙ none (shown_schedule net schedule) (next_shown listings moment [] schedule next)

  acts_at_shown : (schedule : List ℕ) (moment : ℕ) → scheduled_at (shown_form net) (shown_schedule net schedule) moment ≡ scheduled_at net schedule moment
  acts_at_shown schedule moment =
      sym (append-nil (scheduled_at (shown_form net) (shown_schedule net schedule) moment)) ∙ (acts net schedule moment 1 ∙ append-nil (scheduled_at net schedule moment))

  at_stated : (listings : List Listing) (moment : ℕ) → ExecutesAtBy (ListsNext (shown_form net) listings) (shown_form net) moment
      → ExecutesAtBy (ShowsNext net listings) net moment
  at_stated listings moment some points schedule next empty =
      some points (shown_schedule net schedule) (next_shown listings moment points schedule next) (acts_at_shown schedule moment ∙ empty)

  due_stated : (listings : List Listing) (due : Option ℕ) → IsDueAfter (shown_form net) listings due → IsDueBy (ShowsNext net listings) net listings due
  due_stated listings None none = λ moment. none_stated listings moment (none moment)
  due_stated listings (Some due) (later, none, some) = (later, λ moment before. none_stated listings moment (none moment before), at_stated listings due some)

  answers_stated : (listings : List Listing) (due : Option ℕ) → AnswersDue (shown_form net) listings due → AnswersDueAsStated net listings due
  answers_stated listings due answers = record { answered = answers; reported = due_stated listings due answers.reported }

  -- ---- what is put
  puts_listings_stated : (schedule : List ℕ) (listings before : List Listing) (put : List ℕ) → PutsListings (shown_form net) (shown_schedule net schedule) before listings put
      → PutsListingsBy (AnswersDueAsStated net) net schedule before listings put
  puts_listings_stated schedule [] before put puts = puts
  puts_listings_stated schedule (listing ∷ others) before put (due, more, answers, is, later) = (
    due,
    more,
    answers_stated (before ++ listing ∷ []) due answers,
    is ∙ ap (λ (made : List Act). acts_text net made ++ (due_line due ++ more)) (acts net schedule (moment_after_listings before) (suc listing.moment - moment_after_listings before)),
    puts_listings_stated schedule others (before ++ listing ∷ []) more later,
  )

  pub so_far_stated : (schedule before : List ℕ) (listings : List Listing) (put : List ℕ) → PutsSoFar (shown_form net) (shown_schedule net schedule) before listings put
      → PutsSoFarAsStated net schedule before listings put
  so_far_stated schedule before listings put puts = record {
    first = puts.first;
    said = puts.said;
    more = puts.more;
    due = answers_stated [] puts.first puts.due;
    listed = puts_listings_stated schedule listings [] puts.said puts.listed;
    all = puts.all;
  }

  pub day_stated : (schedule before : List ℕ) (listings : List Listing) (put : List ℕ) (end : End) → PutsDay (shown_form net) (shown_schedule net schedule) before listings put end
      → PutsDayAsStated net schedule before listings put end
  day_stated schedule before listings put end puts = record {
    first = puts.first;
    said = puts.said;
    count = puts.count;
    due = answers_stated [] puts.first puts.due;
    listed = puts_listings_stated schedule listings [] puts.said puts.listed;
    whole = sooner net (points_of net) schedule (moment_after_listings listings + puts.count) puts.whole;
    all =
        puts.all
        ∙ ap (λ (made : List Act). before ++ (controllable_line ++ (due_line puts.first ++ (puts.said ++ (acts_text net made ++ complete_line)))))
        (acts net schedule (moment_after_listings listings) puts.count);
    ends = puts.ends;
  }

  -- ---- what is refused
  pub faithful_shown : (stream : Stream) → IsFaithfulAsShown net stream → IsFaithful (shown_form net) stream
  faithful_shown stream = (streams net stream plan).faithful.0

  faithful_stated : (stream : Stream) → IsFaithful (shown_form net) stream → IsFaithfulAsShown net stream
  faithful_stated stream = (streams net stream plan).faithful.1

  -- a stream that continues with one more listing
  abbrev with_more : List Listing → ℕ → List PointId → Stream
  with_more listings moment points = going_on (listings ++ record { moment = moment; points = points } ∷ [])

  pub unfaithful_shown : (listings : List Listing) (reported : EventLine) → IsUnfaithfulAsShownWith net listings reported → IsUnfaithfulWith (shown_form net) listings reported
  unfaithful_shown listings blank never = absurd never
  unfaithful_shown listings (completed moment points) never = λ faithful. never (faithful_stated (with_more listings moment points) faithful)
  unfaithful_shown listings done never = λ faithful. never (faithful_stated (ended listings) faithful)

  unfaithful_stated : (listings : List Listing) (reported : EventLine) → IsUnfaithfulWith (shown_form net) listings reported → IsUnfaithfulAsShownWith net listings reported
  unfaithful_stated listings blank never = absurd never
  unfaithful_stated listings (completed moment points) never = λ faithful. never (faithful_shown (with_more listings moment points) faithful)
  unfaithful_stated listings done never = λ faithful. never (faithful_shown (ended listings) faithful)

  module _ (opens : Preamble) (input : List InputLine) where
    abbrev pub refused_shown : IsRefusedDayAsStated opens input net → IsRefusedDay opens input
    refused_shown refused = record {
      net = shown_form net;
      listings = refused.listings;
      reported = refused.reported;
      day = refused.day;
      controllable = (law_controllable_is_shown net plan).0 refused.controllable;
      faithful = faithful_shown (going_on refused.listings) refused.faithful;
      unfaithful = unfaithful_shown refused.listings refused.reported refused.unfaithful;
    }

    abbrev refused_stated : (listings : List Listing) (reported : EventLine) → IsDay opens input (shown_form net) listings reported → IsControllable (shown_form net)
        → IsFaithful (shown_form net) (going_on listings) → IsUnfaithfulWith (shown_form net) listings reported → IsRefusedDayAsStated opens input net
    refused_stated listings reported day controllable faithful unfaithful = record {
      listings = listings;
      reported = reported;
      day = day;
      controllable = (law_controllable_is_shown net plan).1 controllable;
      faithful = faithful_stated (going_on listings) faithful;
      unfaithful = unfaithful_stated listings reported unfaithful;
    }

    abbrev whole_stated : (listings : List Listing) → IsDay opens input (shown_form net) listings done → IsControllable (shown_form net) → IsFaithful (shown_form net) (ended listings)
        → IsWholeDayAsStated opens input net listings
    whole_stated listings day controllable faithful =
        let fits : IsFaithfulAsShown net (ended listings) = faithful_stated (ended listings) faithful in
        record {
          day = day;
          controllable = (law_controllable_is_shown net plan).1 controllable;
          situation = fits.0;
          fits = fits.1;
          satisfied = earliest_satisfies net fits.0 fits.1.schedule fits.1.earliest;
        }

    -- ---- of a network that lines of the input state
    module _ (states : (used rest : List InputLine) → Plan → Type 0) (shown : Plan) (same : shown ≡ shown_form net) where
      -- the lines before, of the shown form, are those of a network that they state
      abbrev StatedIn : Plan → List Listing → EventLine → Type 0
      StatedIn n listings reported = (day : IsDay opens input n listings reported) × StatedBy day.underway.lines states net

      refused_of : (listings : List Listing) (reported : EventLine) (day : IsDay opens input shown listings reported) → StatedBy day.underway.lines states net → IsControllable shown
          → IsFaithful shown (going_on listings) → IsUnfaithfulWith shown listings reported → HasStatedRefusal opens states input
      refused_of listings reported day has controllable faithful unfaithful =
          let there : StatedIn (shown_form net) listings reported = subst (λ (n : Plan). StatedIn n listings reported) same (day, has) in (
            net,
            refused_stated listings reported there.0 (subst IsControllable same controllable) (subst (λ (n : Plan). IsFaithful n (going_on listings)) same faithful)
                (subst (λ (n : Plan). IsUnfaithfulWith n listings reported) same unfaithful),
            there.1,
          )

      whole_of : (listings : List Listing) (day : IsDay opens input shown listings done) → StatedBy day.underway.lines states net → IsControllable shown
          → IsFaithful shown (ended listings) → HasStatedWholeDay opens states input
      whole_of listings day has controllable faithful =
          let there : StatedIn (shown_form net) listings done = subst (λ (n : Plan). StatedIn n listings done) same (day, has) in
          (net, listings, whole_stated listings there.0 (subst IsControllable same controllable) (subst (λ (n : Plan). IsFaithful n (ended listings)) same faithful), there.1)

-- lines that open an execution of a network state a sound one of which that is the shown form
pub record ShowsStated (states : (used rest : List InputLine) → Plan → Type 0) (used rest : List InputLine) (shown : Plan) : Type 0 where
  pub stated : Plan
  pub sound : IsPlan stated
  pub has : states used rest stated
  pub same : shown ≡ shown_form stated

-- what ends a run of the shown form ends it so of the network that is stated
module _ (streams : StreamsAreShown) (acts : ActsAreShown) (opens : Preamble) (input : List InputLine) (states : (used rest : List InputLine) → Plan → Type 0)
    (stating : (used rest : List InputLine) (net : Plan) (before : List ℕ) → input ≡ used ++ rest → opens.opens used rest net before → ShowsStated states used rest net) where
  stated_there : (net : Plan) (lines : StandIn opens input net) → ShowsStated states lines.used (lines.events ++ lines.rest) net
  stated_there net lines = stating lines.used (lines.events ++ lines.rest) net lines.before lines.divided lines.opened

  pub refused_as_stated : IsRefusedDay opens input → HasStatedRefusal opens states input
  refused_as_stated refused =
      let one = stated_there refused.net refused.day.underway.lines in
      refused_of streams acts one.stated one.sound opens input states refused.net one.same refused.listings refused.reported refused.day one.has refused.controllable refused.faithful
      refused.unfaithful

  pub whole_as_stated : (net : Plan) (listings : List Listing) → IsWholeDay opens input net listings → HasStatedWholeDay opens states input
  whole_as_stated net listings whole =
      let one = stated_there net whole.day.underway.lines in
      whole_of streams acts one.stated one.sound opens input states net one.same listings whole.day one.has whole.controllable whole.faithful

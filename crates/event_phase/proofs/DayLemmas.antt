-- What an execution over a stream puts and decides, by the schedules that the stream shows.
use Rattle.std.proofs.Common.{◌≡◌, ℕ, suc, ◌+◌, ◌-◌, ◌<◌, ◌≤◌, List, [], ◌∷◌, ◌++◌, length, map, get_or, Some, None, Ok, Err, refl, sym, ap, ◌∙◌, subst, arith, inl, inr, append_assoc}
use Rattle.std.specs.List.{All}
use Rattle.std.proofs.lemmas.List.{get_or-map}
use Rattle.std.proofs.lemmas.List.Elements.{All-nil, All-cons, All-append}
use Rattle.net_model.specs.Network.{Plan}
use Rattle.net_model.specs.declared.ids.PointId.{PointId}
use Rattle.closure_model.specs.Tables.{Graph}
use Rattle.strategy_model.specs.Control.{IsEarliest}
use Rattle.dispatch_net.proofs.ExecutionLemmas.{dispatchable_length}
use Rattle.event_stream.specs.EventText.{EventLine, blank, completed, done}
use Rattle.event_stream.specs.Laws.{OneReading}
use Rattle.execution_model.specs.Acts.{scheduled, ActsAreEarliest, LastActsAreEarliest}
use Rattle.net_model.specs.Moments.{Moments, moment_of}
use Rattle.execution_model.specs.Execution.{time_runs}
use Rattle.net_model.specs.Limits.{most_moment}
use Rattle.execution_model.specs.Feeds.{Execution, started, next_moment, taken, after_feed, first_open, IsWhole}
use Rattle.canonical_closure.specs.CanonicalClosure.{IsDispatchedByClosure}
use Rattle.execution_model.specs.Laws.{setting_of, going_on, ended, AreWithinLimit, FaithfulStreamsAreTaken, DoneWhereNoneIsOpen, EndsAreEarliest}
use Rattle.execution_model.specs.ShownStreams.{ActsAreShown, StreamsAreShown}
use Rattle.execution_model.specs.Streams.{Listing, Shows, IsFaithful}
use Rattle.execution_model.specs.Timely.{fed_all}
use Rattle.execution_model.specs.declared.feed_answers.Act.{Act}
use Rattle.execution_model.specs.declared.feed_answers.Why.{Why}
use Rattle.execution_model.proofs.CutLemmas.{IsRun, cut_value}
use Rattle.execution_model.proofs.FittingLemmas.{KeepsTo}
use Rattle.execution_model.proofs.LawLemmas.{run_of, fed_keeps}
use Rattle.execution_model.proofs.MomentLemmas.{time_runs_from}
use Rattle.execution_model.proofs.StreamLemmas.{done_shows}
use Rattle.command_engine.specs.declared.endings.End.{End}
use Rattle.command_engine.specs.declared.endings.End.TheVariants as ends
use Rattle.event_phase.specs.Day.{ListLines, IsUnfaithfulWith, PutsListings}
use Rattle.event_phase.specs.Due.{moment_after_listings}
use Rattle.event_phase.specs.EventAnswers.{acts_text, due_line}
use Rattle.event_phase.specs.CompletionOrders.{CompletionOrder, ReportsEvent}
use Rattle.event_phase.proofs.EventRunLemmas.{SaysListings, Decides, fed_step, fed_stops, fed_both}
use Rattle.event_phase.proofs.CompletionOrderLemmas.{reported_within}
use Rattle.event_phase.proofs.DueLemmas.{shows_first, fed_moment, due_answered}

-- the laws on which the specification of an execution rests
pub record ExecutionLaws : Type 0 where
  pub reading : (net : Plan) (line : List (List ℕ)) → OneReading net line
  pub taken : FaithfulStreamsAreTaken
  pub done : DoneWhereNoneIsOpen
  pub ends : EndsAreEarliest
  pub acts : ActsAreEarliest
  pub last : LastActsAreEarliest
  pub streams : StreamsAreShown
  pub shown : ActsAreShown

-- lines of events list no moment beyond the limit
pub lists_within : (completion_order : CompletionOrder) (net : Plan) (lines : List (List ℕ)) (listings : List Listing) → ListLines completion_order net lines listings → AreWithinLimit listings
lists_within completion_order net [] listings lists = subst AreWithinLimit (sym lists) (All-nil (λ (listing : Listing). listing.moment ≤ most_moment))
lists_within completion_order net (line ∷ lines) listings (inl (is, lists)) = lists_within completion_order net lines listings lists
lists_within completion_order net (line ∷ lines) listings (inr (moment, points, others, is, same, lists)) =
    subst AreWithinLimit (sym same)
    (All-cons (λ (listing : Listing). listing.moment ≤ most_moment) (record { moment = moment; points = points }) others (reported_within completion_order net moment points line is) (lists_within completion_order net lines others lists))

module _ (laws : ExecutionLaws) (net : Plan) (table : Graph) (order : List PointId) (by : IsDispatchedByClosure net table order) where
  abbrev start : Execution
  start = started (setting_of net table)

  -- ---- what is put for listings, by the schedule
  module _ (situation schedule : List ℕ) (earliest : IsEarliest net situation schedule) where
    pub puts_listings : (listings before : List Listing) (execution : Execution) (said : List ℕ) → execution.refused ≡ None → fed_all start before ≡ Ok execution
        → Shows net (going_on (before ++ listings)) schedule → SaysListings net execution listings said → PutsListings net schedule before listings said
    puts_listings [] before execution said none fed shows says = says
    puts_listings (listing ∷ others) before execution said none fed shows (moments, due, more, takes, due_answer, is, says) =
        let split : before ++ listing ∷ others ≡ (before ++ listing ∷ []) ++ others = sym (append_assoc before (listing ∷ []) others) in
        let on : Shows net (going_on ((before ++ listing ∷ []) ++ others)) schedule = subst (λ (ls : List Listing). Shows net (going_on ls) schedule) split shows in
        let after : Execution = after_feed execution listing.moment moments in
        let acts = laws.acts net table order before listing execution moments situation schedule by.dispatched fed takes earliest (shows_first net schedule (before ++ listing ∷ []) others on) in
        let at = fed_moment before (setting_of net table) execution fed in
        let here : after.acts ≡ scheduled net schedule (moment_after_listings before) (suc listing.moment - moment_after_listings before) =
        subst (λ (m : ℕ). after.acts ≡ scheduled net schedule m (suc listing.moment - m)) at acts in
        let more_fed : fed_all start (before ++ listing ∷ []) ≡ Ok after = fed_both before (listing ∷ []) start execution fed ∙ fed_step execution listing [] moments takes in (
          due,
          more,
          due_answered net table order by (before ++ listing ∷ []) after more_fed none due due_answer,
          is ∙ ap (λ (acts : List Act). acts_text net acts ++ (due_line due ++ more)) here,
          puts_listings others (before ++ listing ∷ []) after more none more_fed on says,
        )

    -- ---- and what is put at the end
    module _ (listings : List Listing) (final : Execution) (fed : fed_all start listings ≡ Ok final)
        (shows : Shows net (ended listings) schedule) (after : Execution) (whole : IsWhole final after) where
      going : Shows net (going_on listings) schedule
      going = done_shows net schedule listings shows

      run : IsRun net table schedule
      run = run_of net table order by.dispatched situation schedule earliest

      keeps : KeepsTo net table schedule final
      keeps = fed_keeps net table order by.dispatched listings final fed schedule run going

      there : next_moment final ≡ moment_after_listings listings
      there = fed_moment listings (setting_of net table) final fed

      moments_are : time_runs final.setting final.moments (next_moment final) whole.count ≡ map Some schedule
      moments_are = sym (ap (λ (e : Execution). e.moments) whole.after_it) ∙ laws.ends net table order listings final after situation schedule by.dispatched fed whole earliest shows

      long : length final.moments ≡ length final.setting.dispatch
      long = keeps.cut.long ∙ sym (ap (λ setting. length setting.dispatch) keeps.setting ∙ dispatchable_length net table by.dispatched.forward.for_network)

      come_before : (k d : ℕ) → k < length schedule → get_or schedule k d < moment_after_listings listings + whole.count
      come_before k d inside =
          let point : PointId = record { 0 = k } in
          let m : ℕ = get_or schedule k d in
          let complete = run.executed.complete in
          let within : k < length net.points = omega (arith, inside, complete) in
          let come : moment_of (time_runs final.setting final.moments (next_moment final) whole.count) point ≡ Some m =
          ap (λ (ms : Moments). get_or ms k None) moments_are ∙ get_or-map Some schedule k d None inside in
          elim (time_runs_from final.setting final.moments (next_moment final) whole.count long point m come) [
            | inl before ↦ (let less = (cut_value net schedule final.moments (next_moment final) keeps.cut point m within before).1 in omega (arith, less, there))
            | inr later ↦ (let less = later.1 in omega (arith, less, there))
          ]

      pub all_come : All (λ moment. moment < moment_after_listings listings + whole.count) schedule
      all_come = come_before

      pub acts_left : after.acts ≡ scheduled net schedule (moment_after_listings listings) whole.count
      acts_left = laws.last net table order listings final after situation schedule by.dispatched fed whole earliest shows ∙ ap (λ (m : ℕ). scheduled net schedule m whole.count) there

  -- ---- what is decided
  -- a faithful stream that continues is taken
  pub faithful_fed : (listings : List Listing) → AreWithinLimit listings → IsFaithful net (going_on listings) → (final : Execution) × (fed_all start listings ≡ Ok final)
  faithful_fed listings within = (laws.taken net table order listings by.dispatched within).0.0

  pub fed_faithful : (listings : List Listing) (final : Execution) → AreWithinLimit listings → fed_all start listings ≡ Ok final → IsFaithful net (going_on listings)
  fed_faithful listings final within fed = (laws.taken net table order listings by.dispatched within).0.1 (final, fed)

  -- with one more listing
  within_more : (listings : List Listing) (moment : ℕ) (points : List PointId) → AreWithinLimit listings → moment ≤ most_moment
      → AreWithinLimit (listings ++ record { moment = moment; points = points } ∷ [])
  within_more listings moment points within small =
      let test : Listing → Type 0 = λ listing. listing.moment ≤ most_moment in
      All-append test listings (record { moment = moment; points = points } ∷ []) within (All-cons test (record { moment = moment; points = points }) [] small (All-nil test))

  pub taken_faithful : (listings : List Listing) (final : Execution) (moment : ℕ) (points : List PointId) (moments : Moments) → AreWithinLimit listings → moment ≤ most_moment
      → fed_all start listings ≡ Ok final
      → taken final moment points ≡ Ok moments → IsFaithful net (going_on (listings ++ record { moment = moment; points = points } ∷ []))
  taken_faithful listings final moment points moments within small fed takes =
      let listing : Listing = record { moment = moment; points = points } in
      fed_faithful (listings ++ listing ∷ []) (after_feed final moment moments) (within_more listings moment points within small)
      (fed_both listings (listing ∷ []) start final fed ∙ fed_step final listing [] moments takes)

  refused_unfaithful : (listings : List Listing) (final : Execution) (moment : ℕ) (points : List PointId) (cause : Why) → AreWithinLimit listings → moment ≤ most_moment
      → fed_all start listings ≡ Ok final
      → taken final moment points ≡ Err cause → IsFaithful net (going_on (listings ++ record { moment = moment; points = points } ∷ [])) → ⊥
  refused_unfaithful listings final moment points cause within small fed refuses faithful =
      let listing : Listing = record { moment = moment; points = points } in
      let all = faithful_fed (listings ++ listing ∷ []) (within_more listings moment points within small) faithful in
      let stops = fed_both listings (listing ∷ []) start final fed ∙ fed_stops final listing [] cause refuses in
      absurd (cc (stops, all.1))

  pub closed_faithful : (listings : List Listing) (final : Execution) → fed_all start listings ≡ Ok final → first_open final ≡ None → IsFaithful net (ended listings)
  closed_faithful listings final fed = (laws.done net table order listings final by.dispatched fed).1

  pub faithful_closed : (listings : List Listing) (final : Execution) → fed_all start listings ≡ Ok final → IsFaithful net (ended listings) → first_open final ≡ None
  faithful_closed listings final fed = (laws.done net table order listings final by.dispatched fed).0

  -- a run that ends by a refused event ends at a line that states what no faithful stream does
  pub unfaithful_there : (completion_order : CompletionOrder) (listings : List Listing) (final : Execution) (reported : EventLine) (line : List ℕ) (end : End) → AreWithinLimit listings → ReportsEvent completion_order net reported line
      → fed_all start listings ≡ Ok final
      → Decides final reported end → end ≡ ends.EventRefused → IsUnfaithfulWith net listings reported
  unfaithful_there completion_order listings final blank line end within is fed decides refused = absurd decides
  unfaithful_there completion_order listings final (completed moment points) line end within is fed (cause, refuses, so) refused =
      refused_unfaithful listings final moment points cause within (reported_within completion_order net moment points line is) fed refuses
  unfaithful_there completion_order listings final done line end within is fed (inl (closed, so)) refused = absurd (cc (so, refused))
  unfaithful_there completion_order listings final done line end within is fed (inr (point, opens, so)) refused =
      λ faithful. let closed = faithful_closed listings final fed faithful in absurd (cc (closed, opens))

  -- one that is whole ends when the stream is done, and the stream is faithful
  pub whole_there : (listings : List Listing) (final : Execution) (reported : EventLine) (end : End) → fed_all start listings ≡ Ok final → Decides final reported end → end ≡ ends.Done
      → (reported ≡ done) × IsFaithful net (ended listings)
  whole_there listings final blank end fed decides whole = absurd decides
  whole_there listings final (completed moment points) end fed (cause, refuses, so) whole = absurd (cc (so, whole))
  whole_there listings final done end fed (inl (closed, so)) whole = (refl, closed_faithful listings final fed closed)
  whole_there listings final done end fed (inr (point, opens, so)) whole = absurd (cc (so, whole))

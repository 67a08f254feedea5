-- A run over lines of events: where it stands after those that list a stream, and the line at which it ends.
use Rattle.std.proofs.Common.{◌≡◌, ◌⊎◌, ℕ, ◌+◌, ◌-◌, List, [], ◌∷◌, ◌++◌, length, Option, Some, None, Result, Ok, Err, refl, sym, ap, ◌∙◌, subst, arith, inl, inr, append_assoc}
use Rattle.texts.specs.Lines.{InputLine, line_size}
use Rattle.texts.specs.Words.{words}
use Rattle.net_model.specs.Network.{Plan}
use Rattle.net_model.specs.declared.ids.PointId.{PointId}
use Rattle.net_model.specs.declared.format.FormatKind.{FormatKind}
use Rattle.net_model.specs.declared.format.FormatKind.TheVariants.{NoEnd}
use Rattle.texts.specs.Limits.{most_line}
use Rattle.plan_port.specs.Lines.{Coming, Comes, TooLong, TooMuch, coming}
use Rattle.event_stream.specs.EventText.{EventLine, blank, completed, done, AreWordsOfEventLine, IsEventFault, IsEventFaultOfWords}
use Rattle.event_stream.specs.Laws.{OneReading}
use Rattle.net_model.specs.Moments.{Moments}
use Rattle.execution_model.specs.Feeds.{Execution, taken, after_feed, first_open, IsDueAnswer}
use Rattle.execution_model.specs.Streams.{Listing}
use Rattle.execution_model.specs.Timely.{fed_all}
use Rattle.execution_model.specs.declared.feed_answers.Why.{Why}
use Rattle.command_engine.specs.Runs.{Run}
use Rattle.command_engine.specs.declared.endings.End.{End}
use Rattle.command_engine.specs.declared.endings.End.TheVariants as ends
use Rattle.event_phase.specs.Day.{ListLines}
use Rattle.event_phase.specs.EventAnswers.{acts_text, due_line}
use Rattle.event_phase.specs.EventFaults.{IsNextFault}
use Rattle.event_phase.specs.EventPhase.{executing_machine}
use Rattle.common_answers.specs.Faults.{fault_end}
use Rattle.command_engine.specs.Inputs.{texts, capacity_after}
use Rattle.common_answers.specs.FormatRefusals.{Come}
use Rattle.common_answers.specs.declared.faults.Fault.{Fault}
use Rattle.common_answers.specs.declared.faults.Fault.TheVariants.{Format, LineTooLong as LongLine, InputTooMuch as MuchInput}
use Rattle.event_phase.specs.CompletionOrders.{CompletionOrder, ReportsEvent}
use Rattle.event_phase.proofs.CompletionOrderLemmas.{reports_something}
use Rattle.event_phase.proofs.EventLemmas.{at, EndsBy, no_line, too_long, too_much, one_blank, one_feed, one_refused, one_done, one_unfinished, one_fault}

-- ---- lists of feeds
-- what comes of the answer to the first feed of a list
abbrev fed_on : Execution → Listing → List Listing → Result Moments Why → Result Execution Why
fed_on execution listing others result =
    elim result [
      | Ok moments ↦ fed_all (after_feed execution listing.moment moments) others
      | Err cause ↦ Err cause
    ]

pub fed_step : (execution : Execution) (listing : Listing) (others : List Listing) (moments : Moments) → taken execution listing.moment listing.points ≡ Ok moments
    → fed_all execution (listing ∷ others) ≡ fed_all (after_feed execution listing.moment moments) others
fed_step execution listing others moments is = ap (fed_on execution listing others) is

pub fed_stops : (execution : Execution) (listing : Listing) (others : List Listing) (cause : Why) → taken execution listing.moment listing.points ≡ Err cause
    → fed_all execution (listing ∷ others) ≡ Err cause
fed_stops execution listing others cause is = ap (fed_on execution listing others) is

-- if feeds lead to an execution, more feeds continue from there
abbrev LeadsOn : List Listing → List Listing → Execution → Execution → Type 0
LeadsOn others more middle next = fed_all next others ≡ Ok middle → fed_all next (others ++ more) ≡ fed_all middle more

fed_both_by : (execution : Execution) (listing : Listing) (others more : List Listing) (middle : Execution) (result : Result Moments Why)
    → taken execution listing.moment listing.points ≡ result
    → fed_all execution (listing ∷ others) ≡ Ok middle → ((next : Execution) → LeadsOn others more middle next)
    → fed_all execution (listing ∷ others ++ more) ≡ fed_all middle more
fed_both_by execution listing others more middle (Ok moments) is fed later =
    fed_step execution listing (others ++ more) moments is ∙ later (after_feed execution listing.moment moments) (sym (fed_step execution listing others moments is) ∙ fed)
fed_both_by execution listing others more middle (Err cause) is fed later = absurd (cc (fed_stops execution listing others cause is, fed))

-- two lists of feeds, one after the other
pub fed_both : (first more : List Listing) (execution middle : Execution) → fed_all execution first ≡ Ok middle → fed_all execution (first ++ more) ≡ fed_all middle more
fed_both [] more execution middle fed = let same : execution ≡ middle = cc in ap (λ (e : Execution). fed_all e more) same
fed_both (listing ∷ first) more execution middle fed =
    fed_both_by execution listing first more middle (taken execution listing.moment listing.points) refl fed (λ next on. fed_both first more next middle on)

-- ---- over lines that list a stream
-- what an execution puts for listings: for each the acts of its feed, and a due moment
abbrev pub SaysListings : Plan → Execution → List Listing → List ℕ → Type 0
SaysListings net execution [] said = said ≡ []
SaysListings net execution (listing ∷ others) said =
    (moments : Moments) × (due : Option ℕ) × (more : List ℕ) × (taken execution listing.moment listing.points ≡ Ok moments)
    × IsDueAnswer (after_feed execution listing.moment moments) due
    × (said ≡ acts_text net (after_feed execution listing.moment moments).acts ++ (due_line due ++ more))
    × SaysListings net (after_feed execution listing.moment moments) others more

-- after lines that list a stream, the execution is fed it, and the run continues over the other lines
pub record OverEvents (completion_order : CompletionOrder) (net : Plan) (execution final : Execution) (listings : List Listing) (rest : List InputLine) (number spare_capacity : ℕ) (put : List ℕ) (end : End) : Type 0 where
  pub said : List ℕ
  pub more : List ℕ
  pub says : SaysListings net execution listings said
  pub all : put ≡ said ++ more
  pub later : Run executing_machine (at net final completion_order number spare_capacity) rest more end
  pub none : final.refused ≡ None

-- a run over lines that list a stream and others, of an execution that takes each of their feeds
pub record RunsOver (completion_order : CompletionOrder) (net : Plan) (execution final : Execution) (listings : List Listing) (events rest : List InputLine) (number spare_capacity : ℕ) (put : List ℕ) (end : End) : Type 0 where
  pub none : execution.refused ≡ None
  pub lists : ListLines completion_order net (texts events) listings
  pub fed : fed_all execution listings ≡ Ok final
  pub run : Run executing_machine (at net execution completion_order number spare_capacity) (events ++ rest) put end

over_none : (completion_order : CompletionOrder) (net : Plan) (execution final : Execution) (listings : List Listing) (rest : List InputLine) (number spare_capacity : ℕ) (put : List ℕ) (end : End)
    → execution.refused ≡ None → listings ≡ [] → fed_all execution listings ≡ Ok final
    → Run executing_machine (at net execution completion_order number spare_capacity) rest put end → OverEvents completion_order net execution final listings rest number spare_capacity put end
over_none completion_order net execution final [] rest number spare_capacity put end none nothing fed run =
    let same : execution ≡ final = cc in
    record {
      said = [];
      more = put;
      says = refl;
      all = refl;
      later = subst (λ (e : Execution). Run executing_machine (at net e completion_order number spare_capacity) rest put end) same run;
      none = subst (λ (e : Execution). e.refused ≡ None) same none;
    }
over_none completion_order net execution final (listing ∷ others) rest number spare_capacity put end none nothing fed run = absurd cc

-- the decision of a line that ends a run, by what it states
abbrev pub Decides : Execution → EventLine → End → Type 0
Decides final blank end = ⊥
Decides final (completed moment points) end = (cause : Why) × (taken final moment points ≡ Err cause) × (end ≡ ends.EventRefused)
Decides final done end = ((first_open final ≡ None) × (end ≡ ends.Done)) ⊎ ((point : PointId) × (first_open final ≡ Some point) × (end ≡ ends.EventRefused))

-- what comes next ends a run so: a line states what is decided so, or there is a fault
abbrev pub IsDecided : CompletionOrder → Plan → Execution → (number spare_capacity : ℕ) → List InputLine → End → Type 0
IsDecided completion_order net final number spare_capacity rest end =
    ((last : InputLine) × (others : List InputLine) × (reported : EventLine) × (rest ≡ last ∷ others) × (coming most_line spare_capacity last ≡ Comes) × ReportsEvent completion_order net reported last.text × Decides final reported end)
    ⊎ ((fault : Fault) × IsNextFault net (number + 1) spare_capacity rest fault × (end ≡ fault_end fault))

-- a run ends after lines that list a stream
pub record EndsAt (completion_order : CompletionOrder) (net : Plan) (lines : List InputLine) (number spare_capacity : ℕ) (execution : Execution) (end : End) : Type 0 where
  pub events : List InputLine
  pub rest : List InputLine
  pub listings : List Listing
  pub final : Execution
  pub divided : lines ≡ events ++ rest
  pub come : Come spare_capacity events
  pub lists : ListLines completion_order net (texts events) listings
  pub fed : fed_all execution listings ≡ Ok final
  pub decided : IsDecided completion_order net final (number + length events) (capacity_after spare_capacity events) rest end

module _ (reading : (net : Plan) (line : List (List ℕ)) → OneReading net line) (completion_order : CompletionOrder) (net : Plan) where
  module _ (line : InputLine) (events rest : List InputLine) (final : Execution) (number spare_capacity : ℕ) (end : End) (comes : coming most_line spare_capacity line ≡ Comes) where
    -- what the run is over the lines after one
    abbrev OverOthers : Type 0
    OverOthers =
        (others : List Listing) (next : Execution) (more : List ℕ) → RunsOver completion_order net next final others events rest (number + 1) (spare_capacity - line_size line) more end
        → OverEvents completion_order net next final others rest (number + 1 + length events) (capacity_after (spare_capacity - line_size line) events) more end

    over_line : (listings : List Listing) (execution : Execution) (put : List ℕ) → RunsOver completion_order net execution final listings (line ∷ events) rest number spare_capacity put end → OverOthers
        → OverEvents completion_order net execution final listings rest (number + 1 + length events) (capacity_after (spare_capacity - line_size line) events) put end
    over_line listings execution put over later = by_line over.lists
      where
        by_line : ListLines completion_order net (texts (line ∷ events)) listings → OverEvents completion_order net execution final listings rest (number + 1 + length events) (capacity_after (spare_capacity - line_size line) events) put end
        by_line (inl (is, lists)) =
            later listings execution put (record { none = over.none; lists = lists; fed = over.fed; run = one_blank reading net execution completion_order number spare_capacity over.none line (events ++ rest) put end comes over.run is })
        by_line (inr (moment, points, others, is, same, lists)) =
            subst (λ (ls : List Listing). OverEvents completion_order net execution final ls rest (number + 1 + length events) (capacity_after (spare_capacity - line_size line) events) put end) (sym same)
            (by (taken execution moment points) refl)
          where
            first : Listing
            first = record { moment = moment; points = points }

            all_fed : fed_all execution (first ∷ others) ≡ Ok final
            all_fed = subst (λ (ls : List Listing). fed_all execution ls ≡ Ok final) same over.fed

            by : (result : Result Moments Why) → taken execution moment points ≡ result
                → OverEvents completion_order net execution final (first ∷ others) rest (number + 1 + length events) (capacity_after (spare_capacity - line_size line) events) put end
            by (Err cause) takes = absurd (cc (fed_stops execution first others cause takes, all_fed))
            by (Ok moments) takes =
                let went = one_feed reading net execution completion_order number spare_capacity over.none line (events ++ rest) put end comes over.run moment points moments is takes in
                let on = later others (after_feed execution moment moments) went.1 (record { none = over.none; lists = lists; fed = sym (fed_step execution first others moments takes) ∙ all_fed; run = went.4 }) in
                let before : List ℕ = acts_text net (after_feed execution moment moments).acts in
                record {
                  said = before ++ (due_line went.0 ++ on.said);
                  more = on.more;
                  says = (moments, went.0, on.said, takes, went.2, refl, on.says);
                  all =
                      went.3 ∙ (ap (λ (s : List ℕ). before ++ (due_line went.0 ++ s)) on.all
                      ∙ (ap (λ (s : List ℕ). before ++ s) (sym (append_assoc (due_line went.0) on.said on.more)) ∙ sym (append_assoc before (due_line went.0 ++ on.said) on.more)));
                  later = on.later;
                  none = on.none;
                }

  -- a run over lines that list a stream whose feeds are all taken
  pub over_events : (events rest : List InputLine) (listings : List Listing) (execution final : Execution) (number spare_capacity : ℕ) (put : List ℕ) (end : End)
      → Come spare_capacity events → RunsOver completion_order net execution final listings events rest number spare_capacity put end
      → OverEvents completion_order net execution final listings rest (number + length events) (capacity_after spare_capacity events) put end
  over_events [] rest listings execution final number spare_capacity put end come over =
      let same : number ≡ number + 0 = omega arith in
      subst (λ (n : ℕ). OverEvents completion_order net execution final listings rest n spare_capacity put end) same
      (over_none completion_order net execution final listings rest number spare_capacity put end over.none over.lists over.fed over.run)
  over_events (line ∷ events) rest listings execution final number spare_capacity put end come over =
      let same : number + 1 + length events ≡ number + length (line ∷ events) = omega arith in
      subst (λ (n : ℕ). OverEvents completion_order net execution final listings rest n (capacity_after (spare_capacity - line_size line) events) put end) same
      (over_line line events rest final number spare_capacity end come.0 listings execution put over
      (λ others next more on. over_events events rest others next final (number + 1) (spare_capacity - line_size line) more end come.1 on))

  -- ---- how a run ends
  ends_here : (lines : List InputLine) (number spare_capacity : ℕ) (execution : Execution) (end : End) → IsDecided completion_order net execution number spare_capacity lines end
      → EndsAt completion_order net lines number spare_capacity execution end
  ends_here lines number spare_capacity execution end decided =
      let same : number ≡ number + 0 = omega arith in
      record {
        events = [];
        rest = lines;
        listings = [];
        final = execution;
        divided = refl;
        come = tt;
        lists = refl;
        fed = refl;
        decided = subst (λ (n : ℕ). IsDecided completion_order net execution n spare_capacity lines end) same decided;
      }

  -- one line more lists so, and one feed more is taken so
  abbrev ListsMore : InputLine → (List Listing → List Listing) → Type 0
  ListsMore line listings = (lines : List (List ℕ)) (others : List Listing) → ListLines completion_order net lines others → ListLines completion_order net (line.text ∷ lines) (listings others)

  abbrev FeedsMore : Execution → Execution → (List Listing → List Listing) → Type 0
  FeedsMore execution next listings = (others : List Listing) (final : Execution) → fed_all next others ≡ Ok final → fed_all execution (listings others) ≡ Ok final

  after_line : (line : InputLine) (lines : List InputLine) (number spare_capacity : ℕ) (execution next : Execution) (listings : List Listing → List Listing) (end : End)
      → coming most_line spare_capacity line ≡ Comes
      → ListsMore line listings → FeedsMore execution next listings → EndsAt completion_order net lines (number + 1) (spare_capacity - line_size line) next end → EndsAt completion_order net (line ∷ lines) number spare_capacity execution end
  after_line line lines number spare_capacity execution next listings end comes lists fed one =
      let same : number + 1 + length one.events ≡ number + length (line ∷ one.events) = omega arith in
      record {
        events = line ∷ one.events;
        rest = one.rest;
        listings = listings one.listings;
        final = one.final;
        divided = ap (λ (ls : List InputLine). line ∷ ls) one.divided;
        come = (comes, one.come);
        lists = lists (texts one.events) one.listings one.lists;
        fed = fed one.listings one.final one.fed;
        decided = subst (λ (n : ℕ). IsDecided completion_order net one.final n (capacity_after (spare_capacity - line_size line) one.events) one.rest end) same one.decided;
      }

  reported_here : (line : InputLine) (lines : List InputLine) (number spare_capacity : ℕ) (execution : Execution) (end : End) (reported : EventLine) → coming most_line spare_capacity line ≡ Comes
      → ReportsEvent completion_order net reported line.text
      → Decides execution reported end → EndsAt completion_order net (line ∷ lines) number spare_capacity execution end
  reported_here line lines number spare_capacity execution end reported comes is decides = ends_here (line ∷ lines) number spare_capacity execution end (inl (line, lines, reported, refl, comes, is, decides))

  -- a line states something, or has a fault
  abbrev ReportsOrFails : InputLine → Type 0
  ReportsOrFails line = ((reported : EventLine) × ReportsEvent completion_order net reported line.text) ⊎ ((kind : FormatKind) × IsEventFault net line.text kind)

  reports_or_fails : (line : InputLine) → ReportsOrFails line
  reports_or_fails line = by (reading net (words line.text)).either
    where
      by : ((reported : EventLine) × AreWordsOfEventLine net reported (words line.text)) ⊎ ((kind : FormatKind) × IsEventFaultOfWords net (words line.text) kind) → ReportsOrFails line
      by (inl (read, is)) = let reported = reports_something completion_order read in inl (reported.0, (read, is, reported.1))
      by (inr fault) = inr fault

  -- a run of an execution over lines, and how each ends over the lines after one
  abbrev Runs : Execution → ℕ → ℕ → List InputLine → List ℕ → End → Type 0
  Runs execution number spare_capacity lines put end = Run executing_machine (at net execution completion_order number spare_capacity) lines put end

  abbrev EachEnds : InputLine → List InputLine → ℕ → ℕ → End → Type 0
  EachEnds line lines number spare_capacity end =
      (next : Execution) (more : List ℕ) → next.refused ≡ None
      → Runs next (number + 1) (spare_capacity - line_size line) lines more end → EndsAt completion_order net lines (number + 1) (spare_capacity - line_size line) next end

  line_ends : (line : InputLine) (lines : List InputLine) (execution : Execution) (number spare_capacity : ℕ) (put : List ℕ) (end : End) (how : Coming)
      → execution.refused ≡ None → coming most_line spare_capacity line ≡ how
      → ReportsOrFails line → Runs execution number spare_capacity (line ∷ lines) put end → EachEnds line lines number spare_capacity end
      → EndsAt completion_order net (line ∷ lines) number spare_capacity execution end
  line_ends line lines execution number spare_capacity put end Comes none comes (inl (blank, is)) run later =
      after_line line lines number spare_capacity execution execution (λ others. others) end comes (λ lines others lists. inl (is, lists)) (λ others final fed. fed)
      (later execution put none (one_blank reading net execution completion_order number spare_capacity none line lines put end comes run is))
  line_ends line lines execution number spare_capacity put end Comes none comes (inl (completed moment points, is)) run later = by (taken execution moment points) refl
    where
      listing : Listing
      listing = record { moment = moment; points = points }

      by : (result : Result Moments Why) → taken execution moment points ≡ result → EndsAt completion_order net (line ∷ lines) number spare_capacity execution end
      by (Err cause) refuses =
          reported_here line lines number spare_capacity execution end (completed moment points) comes is
          (cause, refuses, (one_refused reading net execution completion_order number spare_capacity none line lines put end comes run moment points cause is refuses).1)
      by (Ok moments) takes =
          let went = one_feed reading net execution completion_order number spare_capacity none line lines put end comes run moment points moments is takes in
          after_line line lines number spare_capacity execution (after_feed execution moment moments) (λ others. listing ∷ others) end comes
          (λ lines others lists. inr (moment, points, others, is, refl, lists)) (λ others final fed. fed_step execution listing others moments takes ∙ fed)
          (later (after_feed execution moment moments) went.1 none went.4)
  line_ends line lines execution number spare_capacity put end Comes none comes (inl (done, is)) run later = by (first_open execution) refl
    where
      by : (first : Option PointId) → first_open execution ≡ first → EndsAt completion_order net (line ∷ lines) number spare_capacity execution end
      by None closed =
          reported_here line lines number spare_capacity execution end done comes is (inl (closed, (one_done reading net execution completion_order number spare_capacity none line lines put end comes run is closed).3))
      by (Some point) opens =
          reported_here line lines number spare_capacity execution end done comes is
          (inr (point, opens, (one_unfinished reading net execution completion_order number spare_capacity none line lines put end comes run point is opens).1))
  line_ends line lines execution number spare_capacity put end Comes none comes (inr (kind, fault)) run later =
      ends_here (line ∷ lines) number spare_capacity execution end
      (inr (Format (number + 1) kind, inr (inr (kind, comes, fault, refl)), (one_fault reading net execution completion_order number spare_capacity none line lines put end comes run kind fault).1))
  line_ends line lines execution number spare_capacity put end TooLong none comes either run later =
      ends_here (line ∷ lines) number spare_capacity execution end (inr (LongLine (number + 1), inl (comes, refl), (too_long net execution completion_order number spare_capacity line lines put end comes run).1))
  line_ends line lines execution number spare_capacity put end TooMuch none comes either run later =
      ends_here (line ∷ lines) number spare_capacity execution end (inr (MuchInput (number + 1), inr (inl (comes, refl)), (too_much net execution completion_order number spare_capacity line lines put end comes run).1))

  -- a run ends at a line of events that is decided, or by a fault
  pub ends_so : (lines : List InputLine) (execution : Execution) (number spare_capacity : ℕ) (put : List ℕ) (end : End) → execution.refused ≡ None
      → Run executing_machine (at net execution completion_order number spare_capacity) lines put end → EndsAt completion_order net lines number spare_capacity execution end
  ends_so [] execution number spare_capacity put end none run =
      ends_here [] number spare_capacity execution end (inr (Format (number + 1) NoEnd, refl, (no_line net execution completion_order number spare_capacity put end run).1))
  ends_so (line ∷ lines) execution number spare_capacity put end none run =
      line_ends line lines execution number spare_capacity put end (coming most_line spare_capacity line) none refl (reports_or_fails line) run
      (λ next more unrefused on. ends_so lines next (number + 1) (spare_capacity - line_size line) more end unrefused on)

  -- and if what comes next has a fault, it ends by that
  pub fault_there : (rest : List InputLine) (execution : Execution) (number spare_capacity : ℕ) (put : List ℕ) (end : End) (fault : Fault) → execution.refused ≡ None
      → IsNextFault net (number + 1) spare_capacity rest fault → Run executing_machine (at net execution completion_order number spare_capacity) rest put end → EndsBy fault put end
  fault_there [] execution number spare_capacity put end fault none is run = subst (λ (f : Fault). EndsBy f put end) (sym is) (no_line net execution completion_order number spare_capacity put end run)
  fault_there (line ∷ rest) execution number spare_capacity put end fault none (inl (long, is)) run =
      subst (λ (f : Fault). EndsBy f put end) (sym is) (too_long net execution completion_order number spare_capacity line rest put end long run)
  fault_there (line ∷ rest) execution number spare_capacity put end fault none (inr (inl (much, is))) run =
      subst (λ (f : Fault). EndsBy f put end) (sym is) (too_much net execution completion_order number spare_capacity line rest put end much run)
  fault_there (line ∷ rest) execution number spare_capacity put end fault none (inr (inr (kind, comes, faulty, is))) run =
      subst (λ (f : Fault). EndsBy f put end) (sym is) (one_fault reading net execution completion_order number spare_capacity none line rest put end comes run kind faulty)

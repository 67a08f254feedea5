-- An execution that lines of an input open satisfies its specification, whatever command opens it.
use Rattle.std.proofs.Common.{◌≡◌, ◌⊎◌, ℕ, ◌+◌, List, [], ◌∷◌, ◌++◌, length, Option, Some, None, Result, Ok, Err, refl, sym, ap, ◌∙◌, subst, inl, inr, append_assoc}
use Rattle.std.proofs.lemmas.List.{length-append}
use Rattle.texts.specs.Lines.{InputLine}
use Rattle.net_model.specs.Network.{Plan, IsPlan}
use Rattle.net_model.specs.ShownForm.{shown_form, shown_situation}
use Rattle.net_model.specs.declared.fault.BuildFault.TheVariants as part
use Rattle.net_model.specs.declared.format.FormatKind.TheVariants as kind
use Rattle.net_model.specs.declared.ids.PointId.{PointId}
use Rattle.closure_model.specs.Tables.{Graph}
use Rattle.strategy_model.specs.Control.{IsControllable}
use Rattle.strategy_model.specs.Situations.{Satisfies}
use Rattle.texts.specs.Limits.{most_line}
use Rattle.plan_port.specs.Lines.{Comes, coming}
use Rattle.event_stream.specs.EventText.{EventLine, blank, completed, done}
use Rattle.execution_model.specs.Acts.{scheduled}
use Rattle.net_model.specs.Moments.{Moments}
use Rattle.execution_model.specs.Feeds.{Execution, started, taken, first_open, IsDueAnswer}
use Rattle.canonical_closure.specs.CanonicalClosure.{IsDispatchedByClosure}
use Rattle.execution_model.specs.Laws.{setting_of, going_on, ended, AreWithinLimit}
use Rattle.execution_model.specs.ShownStreams.{FitsAsShown}
use Rattle.execution_model.specs.Streams.{Listing, IsFaithful, FitsSituation}
use Rattle.execution_model.specs.Timely.{fed_all}
use Rattle.execution_model.specs.declared.feed_answers.Act.{Act}
use Rattle.execution_model.specs.declared.feed_answers.Why.{Why}
use Rattle.execution_model.proofs.StreamLemmas.{done_shows}
use Rattle.command_engine.specs.Inputs.{texts, capacity_after}
use Rattle.command_engine.specs.Limits.{most_input}
use Rattle.command_engine.specs.Runs.{Run as RunOver}
use Rattle.command_engine.specs.declared.endings.End.{End}
use Rattle.command_engine.specs.declared.endings.End.TheVariants as ends
use Rattle.event_phase.specs.Day.{Preamble, IsUnderway, IsDay, IsUnfaithfulWith, IsRefusedDay, refused_line_number, IsWholeDay, PutsSoFar, PutsDay}
use Rattle.event_phase.specs.Due.{moment_after_listings, AnswersDue}
use Rattle.event_phase.specs.EventAnswers.{acts_text, due_line, complete_line, why_words, unfinished_words, event_refusal_line}
use Rattle.event_phase.specs.EventFaults.{event_refusal, IsNextFault, HasEventFault}
use Rattle.event_phase.specs.EventPhase.{executing_machine}
use Rattle.event_phase.specs.CompletionOrders.{CompletionOrder, as_named, ReportsEvent}
use Rattle.event_phase.specs.ExecutionPromise.{PutsLast, IsRefusedBy, EndsRefused, ExecutionPromise}
use Rattle.event_phase.specs.StatedDay.{PutsSoFarAsStated, PutsDayAsStated}
use Rattle.common_answers.specs.Faults.{fault_end}
use Rattle.common_answers.specs.VerdictLines.{controllable_line}
use Rattle.plan_json.specs.declared.fault.JsonFault.TheVariants as json
use Rattle.common_answers.specs.declared.faults.Fault.{Fault}
use Rattle.common_answers.specs.declared.faults.Fault.TheVariants.{Format, Part, Document, DocumentTooLong, LineTooLong, InputTooMuch, Cells, DuplicatePlan, TooManyPlans}
use Rattle.event_phase.proofs.EventRunLemmas.{OverEvents, over_events, Decides, IsDecided, EndsAt, ends_so, fault_there}
use Rattle.event_phase.proofs.DayLemmas.{ExecutionLaws, lists_within, puts_listings, all_come, acts_left, faithful_fed, fed_faithful, taken_faithful, closed_faithful, faithful_closed, unfaithful_there, whole_there}
use Rattle.event_phase.proofs.DueLemmas.{fed_by, due_answered}
use Rattle.event_phase.proofs.EventLemmas.{at, EndsRefused as RefusesSo, one_refused, one_done, one_unfinished}
use Rattle.event_phase.proofs.CompletionOrderLemmas.{reported_within}
use Rattle.event_phase.proofs.ReplyLemmas.{capacity_both}
use Rattle.event_phase.proofs.StatedLemmas.{earliest_satisfies, so_far_stated, day_stated, refused_shown}

-- a fault ends no run as one whose event is refused, or that is whole
pub fault_ends_so : (fault : Fault) → (fault_end fault ≡ ends.Limit) ⊎ (fault_end fault ≡ ends.Fault)
fault_ends_so (Format number kind.NumberLimit) = inl refl
fault_ends_so (Format number k) = inr refl
fault_ends_so (Part number (part.Limit which place)) = inl refl
fault_ends_so (Part number why) = inr refl
fault_ends_so (Document (json.NumberLimit member place)) = inl refl
fault_ends_so (Document why) = inr refl
fault_ends_so (DocumentTooLong number) = inl refl
fault_ends_so (LineTooLong number) = inl refl
fault_ends_so (InputTooMuch number) = inl refl
fault_ends_so (Cells number) = inl refl
fault_ends_so (DuplicatePlan number) = inr refl
fault_ends_so (TooManyPlans number) = inl refl

pub fault_not : (fault : Fault) (end : End) → end ≡ fault_end fault → (end ≡ ends.EventRefused) ⊎ (end ≡ ends.Done) → ⊥
fault_not fault end is so = by (fault_ends_so fault) so
  where
    by : (fault_end fault ≡ ends.Limit) ⊎ (fault_end fault ≡ ends.Fault) → (end ≡ ends.EventRefused) ⊎ (end ≡ ends.Done) → ⊥
    by (inl limit) (inl event) = absurd (cc (is, limit, event))
    by (inl limit) (inr whole) = absurd (cc (is, limit, whole))
    by (inr wrong) (inl event) = absurd (cc (is, wrong, event))
    by (inr wrong) (inr whole) = absurd (cc (is, wrong, whole))

-- a line that is decided ends no run by a fault
not_decided : (final : Execution) (reported : EventLine) (end : End) → Decides final reported end → (end ≡ ends.Fault) ⊎ (end ≡ ends.Limit) → ⊥
not_decided final blank end decides so = absurd decides
not_decided final (completed moment points) end (cause, refuses, is) (inl fault) = absurd (cc (is, fault))
not_decided final (completed moment points) end (cause, refuses, is) (inr limit) = absurd (cc (is, limit))
not_decided final done end (inl (shut, is)) (inl fault) = absurd (cc (is, fault))
not_decided final done end (inl (shut, is)) (inr limit) = absurd (cc (is, limit))
not_decided final done end (inr (point, opens, is)) (inl fault) = absurd (cc (is, fault))
not_decided final done end (inr (point, opens, is)) (inr limit) = absurd (cc (is, limit))

-- an execution is opened, in which points are fed in this order, and continues over lines of events
pub record OpenedBy (completion_order : CompletionOrder) (net : Plan) (number spare_capacity : ℕ) (rest : List InputLine) (put : List ℕ) (end : End) : Type 0 where
  pub controllable : IsControllable net
  pub table : Graph
  pub order : List PointId
  pub by_closure : IsDispatchedByClosure net table order
  pub due : Option ℕ
  pub first : IsDueAnswer (started (setting_of net table)) due
  pub more : List ℕ
  pub all : put ≡ controllable_line ++ (due_line due ++ more)
  pub later : RunOver executing_machine (at net (started (setting_of net table)) completion_order number spare_capacity) rest more end

-- one in which they are fed as a line names them
abbrev pub Opened : (net : Plan) (number spare_capacity : ℕ) (rest : List InputLine) (put : List ℕ) → End → Type 0
Opened net number spare_capacity rest put end = OpenedBy as_named net number spare_capacity rest put end

-- an execution is opened by these lines, after these bytes: of a controllable network, by its closure; and it continues over the other lines
pub record IsOpened (completion_order : CompletionOrder) (net : Plan) (used rest : List InputLine) (before put : List ℕ) (end : End) : Type 0 where
  pub controllable : IsControllable net
  pub table : Graph
  pub order : List PointId
  pub by_closure : IsDispatchedByClosure net table order
  pub due : Option ℕ
  pub first : IsDueAnswer (started (setting_of net table)) due
  pub more : List ℕ
  pub all : put ≡ before ++ (controllable_line ++ (due_line due ++ more))
  pub later : RunOver executing_machine (at net (started (setting_of net table)) completion_order (length used) (capacity_after most_input used)) rest more end

module _ (laws : ExecutionLaws) where
  -- ---- from the lines of an input
  module _ (opens : Preamble) (input : List InputLine) (put : List ℕ) (end : End)
      (leads : (used rest : List InputLine) (net : Plan) (before : List ℕ) → input ≡ used ++ rest → opens.opens used rest net before → IsControllable net → IsOpened opens.completion_order net used rest before put end) where
    module _ (net : Plan) (listings : List Listing) (day : IsUnderway opens input net listings) (controls : IsControllable net) where
      opened : IsOpened opens.completion_order net day.lines.used (day.lines.events ++ day.lines.rest) day.lines.before put end
      opened = leads day.lines.used (day.lines.events ++ day.lines.rest) net day.lines.before day.lines.divided day.lines.opened controls

      by_closure : IsDispatchedByClosure net opened.table opened.order
      by_closure = opened.by_closure

      abbrev first : Execution
      first = started (setting_of net opened.table)

      first_due : AnswersDue net [] opened.due
      first_due = due_answered net _ _ by_closure [] first refl refl opened.due opened.first

      within : AreWithinLimit listings
      within = lists_within opens.completion_order net (texts day.lines.events) listings day.lists

      -- the execution is fed the stream, and the run continues
      record FedAll : Type 0 where
        pub final : Execution
        pub fed : fed_all first listings ≡ Ok final
        pub over : OverEvents opens.completion_order net first final listings day.lines.rest (length (day.lines.used ++ day.lines.events)) (capacity_after most_input (day.lines.used ++ day.lines.events)) opened.more end

      fed_over : IsFaithful net (going_on listings) → FedAll
      fed_over faithful =
          let (final, fed) = faithful_fed laws net _ _ by_closure listings within faithful in
          let start_capacity : ℕ = capacity_after most_input day.lines.used in
          let over = over_events laws.reading opens.completion_order net day.lines.events day.lines.rest listings first final (length day.lines.used) start_capacity opened.more end day.lines.come
          (record { none = refl; lists = day.lists; fed = fed; run = opened.later }) in
          record {
            final = final;
            fed = fed;
            over =
                subst (λ (number : ℕ). OverEvents opens.completion_order net first final listings day.lines.rest number (capacity_after most_input (day.lines.used ++ day.lines.events)) opened.more end)
                (sym (length-append day.lines.used day.lines.events))
                (subst (λ (spare_capacity : ℕ). OverEvents opens.completion_order net first final listings day.lines.rest (length day.lines.used + length day.lines.events) spare_capacity opened.more end)
                (sym (capacity_both most_input day.lines.used day.lines.events)) over);
          }

      -- what is put last by the run over the other lines is put last
      put_last : (all : FedAll) (line : List ℕ) → all.over.more ≡ line → PutsLast line put
      put_last all line is =
          let said : List ℕ = all.over.said in
          let due : List ℕ = due_line opened.due in (
            day.lines.before ++ (controllable_line ++ (due ++ said)),
            opened.all ∙ (ap (λ (m : List ℕ). day.lines.before ++ (controllable_line ++ (due ++ m))) (all.over.all ∙ ap (λ (m : List ℕ). said ++ m) is)
                ∙ (ap (λ (m : List ℕ). day.lines.before ++ (controllable_line ++ m)) (sym (append_assoc due said line))
                ∙ (ap (λ (m : List ℕ). day.lines.before ++ m) (sym (append_assoc controllable_line (due ++ said) line)) ∙ sym (append_assoc day.lines.before (controllable_line ++ (due ++ said)) line)))),
          )

      -- a fault of what comes next ends the run so
      fault_next : FedAll → (fault : Fault) → IsNextFault net (length (day.lines.used ++ day.lines.events) + 1) (capacity_after most_input (day.lines.used ++ day.lines.events)) day.lines.rest fault
          → PutsLast (event_refusal fault) put × (end ≡ fault_end fault)
      fault_next all fault next =
          let ends = fault_there laws.reading opens.completion_order net day.lines.rest all.final (length (day.lines.used ++ day.lines.events)) _ all.over.more end fault all.over.none next all.over.later in
          (put_last all (event_refusal fault) ends.0, ends.1)

      puts_so_far : (situation : List ℕ) (fits : FitsSituation net (going_on listings) situation) → PutsSoFar net fits.schedule day.lines.before listings put
      puts_so_far situation fits =
          let all = fed_over (situation, fits) in
          record {
            first = opened.due;
            due = first_due;
            said = all.over.said;
            more = all.over.more;
            listed = puts_listings laws net _ _ by_closure situation fits.schedule fits.earliest listings [] first all.over.said refl refl fits.shows all.over.says;
            all = opened.all ∙ ap (λ (m : List ℕ). day.lines.before ++ (controllable_line ++ (due_line opened.due ++ m))) all.over.all;
          }

      module _ (last : InputLine) (others : List InputLine) (next : day.lines.rest ≡ last ∷ others)
          (comes : coming most_line (capacity_after most_input (day.lines.used ++ day.lines.events)) last ≡ Comes) where
        later_run : (all : FedAll)
            → RunOver executing_machine (at net all.final opens.completion_order (length (day.lines.used ++ day.lines.events)) (capacity_after most_input (day.lines.used ++ day.lines.events))) (last ∷ others) all.over.more end
        later_run all =
            let here = at net all.final opens.completion_order (length (day.lines.used ++ day.lines.events)) (capacity_after most_input (day.lines.used ++ day.lines.events)) in
            subst (λ (ls : List InputLine). RunOver executing_machine here ls all.over.more end) next all.over.later

        -- a line that states what no faithful stream does ends the run as a refused event, for this cause
        record RefusedThere (reported : EventLine) : Type 0 where
          pub all : FedAll
          pub words : List (List ℕ)
          pub why : IsRefusedBy net all.final reported words
          pub ends_so : RefusesSo (length (day.lines.used ++ day.lines.events) + 1) words all.over.more end

        refused_there : FedAll → (reported : EventLine) → ReportsEvent opens.completion_order net reported last.text → IsUnfaithfulWith net listings reported → RefusedThere reported
        refused_there all blank is unfaithful = absurd unfaithful
        refused_there all (completed moment points) is unfaithful = by (taken all.final moment points) refl
          where
            by : (result : Result Moments Why) → taken all.final moment points ≡ result → RefusedThere (completed moment points)
            by (Err cause) refuses = record {
              all = all;
              words = why_words net cause;
              why = (cause, refuses, refl);
              ends_so = one_refused laws.reading net all.final opens.completion_order (length (day.lines.used ++ day.lines.events)) _ all.over.none last others all.over.more end comes (later_run all) moment points cause is refuses;
            }
            by (Ok moments) takes = absurd (unfaithful (taken_faithful laws net _ _ by_closure listings all.final moment points moments within (reported_within opens.completion_order net moment points last.text is) all.fed takes))
        refused_there all done is unfaithful = by (first_open all.final) refl
          where
            by : (open_point : Option PointId) → first_open all.final ≡ open_point → RefusedThere done
            by (Some point) stands = record {
              all = all;
              words = unfinished_words net point;
              why = (point, stands, refl);
              ends_so = one_unfinished laws.reading net all.final opens.completion_order (length (day.lines.used ++ day.lines.events)) _ all.over.none last others all.over.more end comes (later_run all) point is stands;
            }
            by None shut = absurd (unfaithful (closed_faithful laws net _ _ by_closure listings all.final all.fed shut))

        -- the end of a faithful stream makes the execution whole
        puts_day : ReportsEvent opens.completion_order net done last.text → (situation : List ℕ) (fits : FitsSituation net (ended listings) situation) → PutsDay net fits.schedule day.lines.before listings put end
        puts_day is situation fits =
            let shows = done_shows net fits.schedule listings fits.shows in
            let all = fed_over (situation, record { schedule = fits.schedule; earliest = fits.earliest; shows = shows }) in
            let shut = faithful_closed laws net _ _ by_closure listings all.final all.fed (situation, fits) in
            let whole = one_done laws.reading net all.final opens.completion_order (length (day.lines.used ++ day.lines.events)) _ all.over.none last others all.over.more end comes (later_run all) is shut in
            let left = acts_left laws net _ _ by_closure situation fits.schedule fits.earliest listings all.final all.fed fits.shows whole.0 whole.1 in
            let rest : all.over.more ≡ acts_text net (scheduled net fits.schedule (moment_after_listings listings) whole.1.count) ++ complete_line =
            whole.2 ∙ ap (λ (acts : List Act). acts_text net acts ++ complete_line) left in
            record {
              first = opened.due;
              due = first_due;
              said = all.over.said;
              count = whole.1.count;
              listed = puts_listings laws net _ _ by_closure situation fits.schedule fits.earliest listings [] first all.over.said refl refl shows all.over.says;
              whole = all_come laws net _ _ by_closure situation fits.schedule fits.earliest listings all.final all.fed fits.shows whole.0 whole.1;
              all = opened.all ∙ ap (λ (m : List ℕ). day.lines.before ++ (controllable_line ++ (due_line opened.due ++ m))) (all.over.all ∙ ap (λ (m : List ℕ). all.over.said ++ m) rest);
              ends = whole.3;
            }

    refuses_by : (is : IsRefusedDay opens input) → EndsRefused is put end
    refuses_by is =
        let day = is.day.underway in
        let there = refused_there is.net is.listings day is.controllable is.day.last is.day.others is.day.next is.day.comes
        (fed_over is.net is.listings day is.controllable is.faithful) is.reported is.day.statement is.unfaithful in
        record {
          execution = there.all.final;
          fed = fed_by is.net _ _ (by_closure is.net is.listings day is.controllable) is.listings there.all.final there.all.fed;
          words = there.words;
          why = there.why;
          last = put_last is.net is.listings day is.controllable there.all (event_refusal_line (refused_line_number is) there.words) there.ends_so.0;
          ends_so = there.ends_so.1;
        }

    -- what is specified of the network as it is stated, by its shown form
    module _ (net : Plan) (listings : List Listing) (situation : List ℕ) (plan : IsPlan net) where
      puts_stated_so_far : (day : IsUnderway opens input (shown_form net) listings) (fits : FitsAsShown net (going_on listings) situation)
          → PutsSoFarAsStated net fits.schedule day.lines.before listings put
      puts_stated_so_far day fits =
          let (shown, same) = (laws.streams net (going_on listings) plan).fits situation fits in
          so_far_stated laws.streams laws.shown net plan fits.schedule day.lines.before listings put
          (subst (λ (schedule : List ℕ). PutsSoFar (shown_form net) schedule day.lines.before listings put) same
          (puts_so_far (shown_form net) listings day (shown.earliest.strategy, shown.earliest.controls) (shown_situation net situation) shown))

      puts_stated_day : (day : IsDay opens input (shown_form net) listings done) (fits : FitsAsShown net (ended listings) situation)
          → Satisfies net fits.schedule × PutsDayAsStated net fits.schedule day.underway.lines.before listings put end
      puts_stated_day day fits =
          let (shown, same) = (laws.streams net (ended listings) plan).fits situation fits in
          let controls : IsControllable (shown_form net) = (shown.earliest.strategy, shown.earliest.controls) in
          let puts = puts_day (shown_form net) listings day.underway controls day.last day.others day.next day.comes day.statement (shown_situation net situation) shown in (
            earliest_satisfies net situation fits.schedule fits.earliest,
            day_stated laws.streams laws.shown net plan fits.schedule day.underway.lines.before listings put end
                (subst (λ (schedule : List ℕ). PutsDay (shown_form net) schedule day.underway.lines.before listings put end) same puts),
          )

    pub execution_keeps : ExecutionPromise opens input put end
    execution_keeps = record {
      underway = λ net listings situation day fits. puts_so_far net listings day (fits.earliest.strategy, fits.earliest.controls) situation fits;
      executes = λ net listings situation whole fits. (
        earliest_satisfies net situation fits.schedule fits.earliest,
        puts_day net listings whole.day.underway whole.controllable whole.day.last whole.day.others whole.day.next whole.day.comes whole.day.statement situation fits,
      );
      refuses = refuses_by;
      faulty = λ fault has.
          fault_next has.net has.listings has.underway has.controllable (fed_over has.net has.listings has.underway has.controllable has.faithful) fault has.next;
      stated = record {
        underway = puts_stated_so_far;
        executes = puts_stated_day;
        refuses = λ net plan refused. refuses_by (refused_shown laws.streams laws.shown net plan opens input refused);
      };
    }

  -- ---- to the lines of an input
  -- an execution that was opened ended
  pub record Lasts (opens : Preamble) (input : List InputLine) (put : List ℕ) (end : End) : Type 0 where
    pub net : Plan
    pub used : List InputLine
    pub rest : List InputLine
    pub before : List ℕ
    pub divided : input ≡ used ++ rest
    pub opened : opens.opens used rest net before
    pub opened_run : IsOpened opens.completion_order net used rest before put end
    pub ending : EndsAt opens.completion_order net rest (length used) (capacity_after most_input used) (started (setting_of net opened_run.table)) end

  -- every one that is opened ends
  pub lasts : (opens : Preamble) (input used rest : List InputLine) (net : Plan) (before put : List ℕ) (end : End) → input ≡ used ++ rest → opens.opens used rest net before
      → IsOpened opens.completion_order net used rest before put end → Lasts opens input put end
  lasts opens input used rest net before put end divided opened opened_run = record {
    net = net;
    used = used;
    rest = rest;
    before = before;
    divided = divided;
    opened = opened;
    opened_run = opened_run;
    ending = ends_so laws.reading opens.completion_order net rest (started (setting_of net opened_run.table)) (length used) (capacity_after most_input used) opened_run.more end refl opened_run.later;
  }

  module _ (opens : Preamble) (input : List InputLine) (put : List ℕ) (end : End) (one : Lasts opens input put end) where
    closure_of : IsDispatchedByClosure one.net one.opened_run.table one.opened_run.order
    closure_of = one.opened_run.by_closure

    within_of : AreWithinLimit one.ending.listings
    within_of = lists_within opens.completion_order one.net (texts one.ending.events) one.ending.listings one.ending.lists

    faithful_of : IsFaithful one.net (going_on one.ending.listings)
    faithful_of = fed_faithful laws one.net _ _ closure_of one.ending.listings one.ending.final within_of one.ending.fed

    abbrev underway_of : IsUnderway opens input one.net one.ending.listings
    underway_of = record {
      lines = record {
        used = one.used;
        events = one.ending.events;
        rest = one.ending.rest;
        before = one.before;
        divided = one.divided ∙ ap (λ (ls : List InputLine). one.used ++ ls) one.ending.divided;
        opened = subst (λ (ls : List InputLine). opens.opens one.used ls one.net one.before) one.ending.divided one.opened;
        come = one.ending.come;
      };
      lists = one.ending.lists;
    }

    -- how many lines came, and how many bytes the input may still have
    abbrev number_there : ℕ
    number_there = length one.used + length one.ending.events

    abbrev capacity_there : ℕ
    capacity_there = capacity_after (capacity_after most_input one.used) one.ending.events

    left_of : capacity_there ≡ capacity_after most_input (one.used ++ one.ending.events)
    left_of = sym (capacity_both most_input one.used one.ending.events)

    counted_of : number_there + 1 ≡ length (one.used ++ one.ending.events) + 1
    counted_of = ap (λ (n : ℕ). n + 1) (sym (length-append one.used one.ending.events))

    day_of : (last : InputLine) (others : List InputLine) (reported : EventLine) → one.ending.rest ≡ last ∷ others → coming most_line capacity_there last ≡ Comes
        → ReportsEvent opens.completion_order one.net reported last.text → IsDay opens input one.net one.ending.listings reported
    day_of last others reported next comes is =
        record { underway = underway_of; last = last; others = others; next = next; comes = subst (λ (spare_capacity : ℕ). coming most_line spare_capacity last ≡ Comes) left_of comes; statement = is }

    pub whole_by : end ≡ ends.Done → IsDecided opens.completion_order one.net one.ending.final number_there capacity_there one.ending.rest end
        → IsWholeDay opens input one.net one.ending.listings
    whole_by whole (inl (last, others, reported, next, comes, is, decides)) =
        let there = whole_there laws one.net _ _ closure_of one.ending.listings one.ending.final reported end one.ending.fed decides whole in
        record { day = subst (IsDay opens input one.net one.ending.listings) there.0 (day_of last others reported next comes is); controllable = one.opened_run.controllable; faithful = there.1 }
    whole_by whole (inr (fault, next, is)) = absurd (fault_not fault end is (inr whole))

    pub refused_so : end ≡ ends.EventRefused → IsDecided opens.completion_order one.net one.ending.final number_there capacity_there one.ending.rest end
        → IsRefusedDay opens input
    refused_so refused (inl (last, others, reported, next, comes, is, decides)) = record {
      net = one.net;
      listings = one.ending.listings;
      reported = reported;
      day = day_of last others reported next comes is;
      controllable = one.opened_run.controllable;
      faithful = faithful_of;
      unfaithful = unfaithful_there laws one.net _ _ closure_of opens.completion_order one.ending.listings one.ending.final reported last.text end within_of is one.ending.fed decides refused;
    }
    refused_so refused (inr (fault, next, is)) = absurd (fault_not fault end is (inl refused))

    pub fault_so : (end ≡ ends.Fault) ⊎ (end ≡ ends.Limit)
        → IsDecided opens.completion_order one.net one.ending.final number_there capacity_there one.ending.rest end
        → (fault : Fault) × HasEventFault opens input fault
    fault_so so (inl (last, others, reported, next, comes, is, decides)) = absurd (not_decided one.ending.final reported end decides so)
    fault_so so (inr (fault, next, is)) = (
      fault,
      record {
        net = one.net;
        listings = one.ending.listings;
        underway = underway_of;
        controllable = one.opened_run.controllable;
        faithful = faithful_of;
        next =
            subst (λ (spare_capacity : ℕ). IsNextFault one.net (length (one.used ++ one.ending.events) + 1) spare_capacity one.ending.rest fault) left_of
            (subst (λ (number : ℕ). IsNextFault one.net number capacity_there one.ending.rest fault) counted_of next);
      },
    )

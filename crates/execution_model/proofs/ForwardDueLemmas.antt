-- The states that feeds lead to keep the derivable edges, and in them the same points are due by each forward closed table.
use Rattle.std.proofs.Common.{◌≡◌, ◌⊎◌, ℕ, ◌+◌, ◌≤◌, ◌<◌, ℤ, pos, Bool, true, false, List, [], ◌∷◌, ◌++◌, length, Option, Some, None, is_none, is_some, Ok, refl, ap, sym, subst, ◌∙◌, inl, inr, arith}
use Rattle.std.specs.Prelude.{◌&&◌, ◌||◌, ◌-ℤ◌, ◌≤ℤ◌, ◌<ℤ◌, unsigned_abs}
use Rattle.std.specs.Cmp.Derive.{one_truth}
use Rattle.std.specs.Option.{option_map_or}
use Rattle.std.proofs.lemmas.Bool.{cases_lt, and_from, or_left, or_right}
use Rattle.std.proofs.lemmas.Int.{ints}
use Rattle.std.proofs.lemmas.List.{get_or_past}
use Rattle.std.proofs.lemmas.Option.{same_Some}
use Rattle.net_model.specs.Edges.{IsEdge, IsLabelled, IsLinkOf}
use Rattle.net_model.specs.Moments.{Moments, moment_of}
use Rattle.net_model.specs.Network.{Plan, IsPoint, IsExecutable}
use Rattle.net_model.specs.declared.ids.LinkId.{LinkId}
use Rattle.net_model.specs.declared.ids.PointId.{PointId}
use Rattle.net_model.specs.declared.part.Edge.{Edge}
use Rattle.net_model.specs.declared.part.Link.{Link}
use Rattle.closure_model.specs.Derivable.{IsDerivable}
use Rattle.closure_model.specs.Tables.{Graph}
use Rattle.closure_model.proofs.LawProofs.{law_derivable_are_edges}
use Rattle.strategy_model.specs.Edges.{HoldsIn, TakesLongest}
use Rattle.strategy_model.specs.Situations.{moment_in}
use Rattle.strategy_model.proofs.KindLemmas.{Ending}
use Rattle.strategy_model.proofs.PlayLemmas.{link_sound}
use Rattle.closure_laws.specs.Forward.{IsDispatchedForward}
use Rattle.closure_laws.proofs.ClosureLemmas.{law_derivable_are_true}
use Rattle.dispatch_net.specs.declared.dispatch.Conditions.{Conditions}
use Rattle.dispatch_net.specs.Dispatchable.{dispatchable, conditions_at, no_conditions}
use Rattle.dispatch_net.proofs.ExecutionLemmas.{dispatchable_length}
use Rattle.execution_model.specs.Execution.{Setting, has_come, has_gone_by, link_to, meets_wait_for, meets, is_due, acted}
use Rattle.execution_model.specs.Feeds.{Execution, started, taken, after_feed}
use Rattle.execution_model.specs.Laws.{setting_of, going_on}
use Rattle.execution_model.specs.Streams.{Listing, FitsSituation}
use Rattle.execution_model.specs.Timely.{fed_all, with_completed}
use Rattle.execution_model.proofs.AlikeLemmas.{AreDueAlike}
use Rattle.execution_model.proofs.CutLemmas.{IsSeen, IsRun, lasts, seen_value}
use Rattle.execution_model.proofs.EarliestLemmas.{fed_append, run, keeps, is_next, is_of}
use Rattle.execution_model.proofs.FedLemmas.{fed_on, taken_within}
use Rattle.execution_model.proofs.FittingLemmas.{seen}
use Rattle.execution_model.proofs.KeptLemmas.{AreKept, lets_come, lets_come_by, still_lets_come, derivable_lets_come, met_if_let_come}
use Rattle.execution_model.proofs.LawLemmas.{fed_fits, fed_lasted}
use Rattle.execution_model.proofs.LinkLemmas.{none_is_executable}
use Rattle.execution_model.proofs.MomentLemmas.{length-acted, acted_keeps, acted_from, acted_contingent, due_parts, within_from_some}
use Rattle.execution_model.proofs.PlaceLemmas.{link_found, gone_by}
use Rattle.execution_model.proofs.SituationLemmas.{situation_seen, duration_seen, not_seen_lasts, seen_duration}
use Rattle.execution_model.proofs.TimelyLemmas.{taken_in_time}

-- ---- what is due
module _ (net : Plan) (one other : Graph) (one_order other_order : List PointId) (by_one : IsDispatchedForward net one one_order) (by_other : IsDispatchedForward net other other_order) where
  abbrev setting : Setting
  setting = setting_of net one

  count : length (dispatchable net other) ≡ length (dispatchable net one)
  count = dispatchable_length net other by_other.forward.for_network ∙ sym (dispatchable_length net one by_one.forward.for_network)

  module _ (moments : Moments) (kept : AreKept net moments) (t : ℕ) (point : PointId) where
    same_met : IsExecutable net point
        → meets (setting_of net other) moments t (conditions_at (dispatchable net other) point) ≡ meets setting moments t (conditions_at (dispatchable net one) point)
    same_met executable =
        one_truth (meets (setting_of net other) moments t (conditions_at (dispatchable net other) point)) (meets setting moments t (conditions_at (dispatchable net one) point))
        (λ met. met_if_let_come net one one_order by_one point executable moments kept t (derivable_lets_come net other other_order by_other point executable moments kept t met))
        (λ met. met_if_let_come net other other_order by_other point executable moments kept t (derivable_lets_come net one one_order by_one point executable moments kept t met))

    no_more : (table : Graph) → length (dispatchable net table) ≤ point.0 → conditions_at (dispatchable net table) point ≡ no_conditions
    no_more table past = get_or_past (dispatchable net table) point.0 no_conditions past

    abbrev due_by : Bool → Bool → Bool
    due_by free met = free && is_none (moment_of moments point) && met

    same_due : is_due (setting_of net other) moments t point ≡ is_due setting moments t point
    same_due = by (link_to setting point) refl (cases_lt point.0 (length (dispatchable net one)))
      where
        not_free : (a b c d : Bool) → a ≡ false → (a && b && c) ≡ (a && b && d)
        not_free true b c d none = absurd cc
        not_free false b c d none = refl

        by : (o : Option Link) → link_to setting point ≡ o → (point.0 < length (dispatchable net one)) ⊎ (length (dispatchable net one) ≤ point.0)
            → is_due (setting_of net other) moments t point ≡ is_due setting moments t point
        by (Some link) ends place =
            not_free (is_none (link_to setting point)) (is_none (moment_of moments point)) (meets (setting_of net other) moments t (conditions_at (dispatchable net other) point))
            (meets setting moments t (conditions_at (dispatchable net one) point)) (ap is_none ends)
        by None free (inl inside) =
            let within : IsPoint net point = (let long = dispatchable_length net one by_one.forward.for_network in omega (arith, inside, long)) in
            ap (due_by (is_none (link_to setting point))) (same_met (none_is_executable net setting refl by_one.instant.sound point within free))
        by None free (inr past) =
            let long = count in
            ap (λ (c : Conditions). due_by (is_none (link_to setting point)) (meets setting moments t c)) (no_more other (omega (arith, past, long)) ∙ sym (no_more one past))

  -- acts keep the derivable edges
  acts_keep : (moments : Moments) → AreKept net moments → length moments ≡ length setting.dispatch → (t : ℕ) → AreKept net (acted setting moments t)
  acts_keep moments kept long t point m come edge derivable begins negative = by (acted_from setting moments t long point m come)
    where
      still : (u : ℕ) → lets_come net moments u edge ≡ true → u ≤ m → lets_come net (acted setting moments t) m edge ≡ true
      still u met later = still_lets_come net moments (acted setting moments t) (acted_keeps setting moments t long) u m later edge.weight edge.weight (omega arith) edge.to edge.label met

      by : (moment_of moments point ≡ Some m) ⊎ ((m ≡ t) × (is_due setting moments t point ≡ true)) → lets_come net (acted setting moments t) m edge ≡ true
      by (inl before) = still m (kept point m before edge derivable begins negative) (omega arith)
      by (inr (now, due)) =
          let parts = due_parts setting moments t point due in
          let inside : point.0 < length (acted setting moments t) = within_from_some (acted setting moments t) point m come in
          let within : IsPoint net point =
          (let here = length-acted setting moments t in let size = dispatchable_length net one by_one.forward.for_network in omega (arith, inside, here, size)) in
          let executable : IsExecutable net point = none_is_executable net setting refl by_one.instant.sound point within parts.0 in
          still t (derivable_lets_come net one one_order by_one point executable moments kept t parts.2 edge derivable begins negative) (omega (arith, now))

  pub forward_due : AreDueAlike setting (dispatchable net other) (AreKept net)
  forward_due = record { count = count; due = λ moments kept t point. same_due moments kept t point; acted = acts_keep }

-- ---- a feed that is taken
-- what a negative edge says of a schedule
earlier_by : (to from : ℕ) (w : ℤ) → (pos to -ℤ pos from) ≤ℤ w → w <ℤ pos 0 → (to + unsigned_abs w ≤ from) × (1 ≤ unsigned_abs w)
earlier_by to from w holds negative = (grind (arith, ints), grind (arith, ints))

longest_is : (low high : ℤ) → pos 1 ≤ℤ low → low ≤ℤ high → pos (unsigned_abs high) ≡ high
longest_is low high positive interval = grind (arith, ints)

module _ (net : Plan) (table : Graph) (order : List PointId) (by : IsDispatchedForward net table order) (listings : List Listing) (execution : Execution)
    (went : fed_all (started (setting_of net table)) listings ≡ Ok execution) (moment : ℕ) (listed : List PointId) (moments : Moments)
    (took : taken execution moment listed ≡ Ok moments) where
  abbrev listing : Listing
  listing = record { moment = moment; points = listed }

  abbrev after : Execution
  after = after_feed execution moment moments

  pub went_on : fed_all (started (setting_of net table)) (listings ++ listing ∷ []) ≡ Ok after
  went_on = fed_append listings (listing ∷ []) (started (setting_of net table)) execution went ∙ ap (fed_on execution listing []) took

  -- it fits the situation in which each link that has not ended takes its longest
  fits : FitsSituation net (going_on (listings ++ listing ∷ [])) (situation_seen net after.moments)
  fits = fed_fits net table order by (listings ++ listing ∷ []) after went_on

  abbrev schedule : List ℕ
  schedule = fits.schedule

  its_run : IsRun net table schedule
  its_run = run net table order by listings listing execution went (situation_seen net after.moments) schedule fits.earliest fits.shows

  completed : moments ≡ with_completed execution moment listed
  completed =
      (taken_in_time net execution moment listed (is_of net table order by listings listing execution went (situation_seen net after.moments) schedule fits.earliest fits.shows)
      (taken_within execution moment listed moments took)).1 moments took

  taken_seen : IsSeen net schedule moments moment
  taken_seen =
      subst (λ (m : Moments). IsSeen net schedule m moment) (sym completed)
      (seen net table schedule its_run execution listing (keeps net table order by listings listing execution went (situation_seen net after.moments) schedule fits.earliest fits.shows)
      (is_next net table order by listings listing execution went (situation_seen net after.moments) schedule fits.earliest fits.shows))

  by_setting : execution.setting ≡ setting_of net table
  by_setting = (keeps net table order by listings listing execution went (situation_seen net after.moments) schedule fits.earliest fits.shows).setting

  pub taken_long : length moments ≡ length (setting_of net table).dispatch
  taken_long = taken_seen.long ∙ sym (dispatchable_length net table by.forward.for_network)

  -- a link that has not ended takes its longest
  takes_longest : (label : LinkId) (link : Link) → IsLinkOf net label link → moment_of moments link.to ≡ None → TakesLongest net (situation_seen net after.moments) (Some label)
  takes_longest label link declared open_still other duration is_other is_duration =
      let same : other ≡ link = same_Some other link (sym is_other ∙ declared) in
      let ending : Ending net link.to = record { name = label; link = link; declared = declared; ends = refl } in
      let long : length moments ≡ length execution.setting.dispatch = taken_long ∙ ap (λ (s : Setting). length s.dispatch) (sym by_setting) in
      let links : execution.setting.links ≡ net.links = ap (λ (s : Setting). s.links) by_setting in
      let open_after : moment_of after.moments link.to ≡ None =
      acted_contingent execution.setting moments moment long link.to link (link_found net by.instant.sound execution.setting links link.to ending) ∙ open_still in
      let lasted = fed_lasted net table order by (listings ++ listing ∷ []) after went_on in
      let lasts_so : duration ≡ unsigned_abs link.high =
      same_Some duration (duration_seen after.moments link) (sym is_duration ∙ seen_duration net by.instant.sound after.moments lasted label link declared)
      ∙ not_seen_lasts net by.instant.sound after.moments lasted link open_after in
      let sound = link_sound net by.instant.sound label.0 link declared in
      ap (λ (d : ℕ). pos d) lasts_so ∙ (longest_is link.low link.high sound.positive sound.interval ∙ ap (λ (l : Link). l.high) (sym same))

  -- derivable edges hold in the schedule
  holds : (edge : Edge) → IsDerivable net edge → TakesLongest net (situation_seen net after.moments) edge.label → HoldsIn schedule edge
  holds edge derivable longest =
      law_derivable_are_true net fits.earliest.strategy edge by.instant fits.earliest.controls derivable (situation_seen net after.moments) schedule fits.earliest.is_situation longest
      fits.earliest.played

  pub taken_kept : AreKept net moments
  taken_kept point m come edge derivable begins negative = by_label edge.label refl (law_derivable_are_edges net edge by.instant.sound derivable).labelled
    where
      is_edge : IsEdge net edge
      is_edge = law_derivable_are_edges net edge by.instant.sound derivable

      value : (m ≡ moment_in schedule point) × (m ≤ moment)
      value = seen_value net table schedule its_run moments moment taken_seen point m (subst (IsPoint net) begins is_edge.from_point) come

      -- if it holds, the point in which it ends came before
      came_before : HoldsIn schedule edge → (moment_of moments edge.to ≡ Some (moment_in schedule edge.to)) × (moment_in schedule edge.to + unsigned_abs edge.weight ≤ m)
      came_before says =
          let at : moment_in schedule edge.from ≡ moment_in schedule point = ap (moment_in schedule) begins in
          let (sooner, some) = earlier_by (moment_in schedule edge.to) (moment_in schedule edge.from) edge.weight says negative in
          let same = value.0 in
          let by_then = value.1 in
          (taken_seen.known edge.to is_edge.to_point (omega (arith, at, sooner, some, same, by_then)), omega (arith, at, sooner, same))

      goes_by : HoldsIn schedule edge → has_gone_by moments m edge.to edge.weight ≡ true
      goes_by says = let (known, within) = came_before says in gone_by moments m edge.to edge.weight (moment_in schedule edge.to) known within

      by_label : (label : Option LinkId) → edge.label ≡ label → IsLabelled net edge edge.label → lets_come net moments m edge ≡ true
      by_label None plain labelled =
          ap (lets_come_by net moments m edge.to edge.weight) plain ∙ goes_by (holds edge derivable (subst (TakesLongest net (situation_seen net after.moments)) (sym plain) tt))
      by_label (Some label) named labelled = by_link (subst (IsLabelled net edge) named labelled)
        where
          by_link : (link : Link) × IsLinkOf net label link × (edge.to ≡ link.from) → lets_come net moments m edge ≡ true
          by_link (link, declared, ends) =
              ap (lets_come_by net moments m edge.to edge.weight) named ∙ ap (λ (o : Option Link). option_map_or (meets_wait_for moments m edge.weight) o false) declared
              ∙ by_end (moment_of moments link.to) refl
            where
              by_end : (o : Option ℕ) → moment_of moments link.to ≡ o → meets_wait_for moments m edge.weight link ≡ true
              by_end (Some c) ended =
                  let sound = link_sound net by.instant.sound label.0 link declared in
                  let its = lasts net table schedule its_run label link declared in
                  let lasting = its.is in
                  let low = its.low in
                  let some = its.positive in
                  let (same, by_then) = seen_value net table schedule its_run moments moment taken_seen link.to c sound.to_point ended in
                  let active = taken_seen.known link.from sound.from_point (omega (arith, lasting, low, some, same, by_then)) in
                  and_from (has_come moments link.from) (has_come moments link.to || has_gone_by moments m link.from edge.weight) (ap is_some active)
                  (or_left (has_come moments link.to) (has_gone_by moments m link.from edge.weight) (ap is_some ended))
              by_end None open_still =
                  let says = holds edge derivable (subst (TakesLongest net (situation_seen net after.moments)) (sym named) (takes_longest label link declared open_still)) in
                  let active : moment_of moments link.from ≡ Some (moment_in schedule edge.to) = ap (moment_of moments) (sym ends) ∙ (came_before says).0 in
                  and_from (has_come moments link.from) (has_come moments link.to || has_gone_by moments m link.from edge.weight) (ap is_some active)
                  (or_right (has_come moments link.to) (has_gone_by moments m link.from edge.weight)
                  (gone_by moments m link.from edge.weight (moment_in schedule edge.to) active (came_before says).1))

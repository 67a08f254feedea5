-- What a line reports to an execution is one, and no line that states something has a fault.
use Rattle.std.proofs.Common.{◌≡◌, ◌≤◌, ℕ, List, refl, sym, ap, ◌∙◌, subst}
use Rattle.std.specs.List.{All}
use Rattle.std.proofs.lemmas.List.Sorted.{All-permutation}
use Rattle.texts.specs.Words.{words}
use Rattle.net_model.specs.Limits.{most_moment}
use Rattle.net_model.specs.Network.{Plan}
use Rattle.net_model.specs.declared.format.FormatKind.{FormatKind}
use Rattle.net_model.specs.declared.ids.PointId.{PointId}
use Rattle.desk_feeding.proofs.OrderedLemmas.{order_is_one, order_is_there}
use Rattle.event_stream.specs.EventText.{EventLine, blank, completed, done, IsEventFault, IsEventLine}
use Rattle.event_stream.specs.Laws.{OneReading}
use Rattle.event_phase.specs.EventPhase.{IsMomentWithin}
use Rattle.event_phase.specs.CompletionOrders.{CompletionOrder, as_named, in_order, AreInCompletionOrder, ReportsAs, ReportsEvent}

-- no moment is beyond the limit
pub read_within : (net : Plan) (read : EventLine) (line : List ℕ) → IsEventLine net read line → IsMomentWithin read
read_within net blank line is = tt
read_within net (completed moment points) line is = is.within
read_within net done line is = tt

pub reported_within : (completion_order : CompletionOrder) (net : Plan) (moment : ℕ) (points : List PointId) (line : List ℕ) → ReportsEvent completion_order net (completed moment points) line → moment ≤ most_moment
reported_within completion_order net moment points line (blank, is, same) = absurd (cc)
reported_within completion_order net moment points line (completed other names, is, (ordered, are, same)) = let one : other ≡ moment = cc in subst (λ (m : ℕ). m ≤ most_moment) one is.within
reported_within completion_order net moment points line (done, is, same) = absurd (cc)

-- what holds of all points that are named holds of all that are fed
pub completion_order_keeps : (completion_order : CompletionOrder) (P : PointId → Type 0) (named points : List PointId) → AreInCompletionOrder completion_order named points → All P named → All P points
completion_order_keeps as_named P named points is all = subst (All P) (sym is) all
completion_order_keeps in_order P named points is all = All-permutation P named points is.same all

-- points are fed in exactly one order
completion_order_there : (completion_order : CompletionOrder) (named : List PointId) → (points : List PointId) × AreInCompletionOrder completion_order named points
completion_order_there as_named named = (named, refl)
completion_order_there in_order named = order_is_there named

completion_order_once : (completion_order : CompletionOrder) (named one other : List PointId) → AreInCompletionOrder completion_order named one → AreInCompletionOrder completion_order named other → one ≡ other
completion_order_once as_named named one other is also = is ∙ sym also
completion_order_once in_order named one other is also = order_is_one named one other is also

-- so each line that states something reports exactly one thing to an execution
pub reports_something : (completion_order : CompletionOrder) (read : EventLine) → (reported : EventLine) × ReportsAs completion_order read reported
reports_something completion_order blank = (blank, refl)
reports_something completion_order (completed moment named) = let there = completion_order_there completion_order named in (completed moment there.0, (there.0, there.1, refl))
reports_something completion_order done = (done, refl)

pub reports_once : (completion_order : CompletionOrder) (read one other : EventLine) → ReportsAs completion_order read one → ReportsAs completion_order read other → one ≡ other
reports_once completion_order blank one other is also = is ∙ sym also
reports_once completion_order (completed moment named) one other (points, are, is) (others, those, also) = is ∙ (ap (completed moment) (completion_order_once completion_order named points others are those) ∙ sym also)
reports_once completion_order done one other is also = is ∙ sym also

module _ (reading : (net : Plan) (line : List (List ℕ)) → OneReading net line) (completion_order : CompletionOrder) (net : Plan) (line : List ℕ) where
  pub stated_once : (one other : EventLine) → ReportsEvent completion_order net one line → ReportsEvent completion_order net other line → one ≡ other
  stated_once one other (first, is, reports_as) (second, also, reports_as_too) =
      let same = (reading net (words line)).one_statement first second is also in
      reports_once completion_order second one other (subst (λ (r : EventLine). ReportsAs completion_order r one) same reports_as) reports_as_too

  pub no_fault : (reported : EventLine) (kind : FormatKind) → ReportsEvent completion_order net reported line → IsEventFault net line kind → ⊥
  no_fault reported kind (read, is, reports_as) = (reading net (words line)).not_both read kind is

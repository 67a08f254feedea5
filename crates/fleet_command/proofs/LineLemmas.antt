-- A run over the lines of a fleet after `go`: which of them are answered, and by what it ends.
use Rattle.std.proofs.Common.{◌≡◌, inl, inr, ℕ, zero, suc, ◌+◌, ◌-◌, Bool, true, false, List, [], ◌∷◌, ◌++◌, length, map, Option, Some, None, refl, sym, ap, ◌∙◌, subst, arith, append_assoc}
use Rattle.std.specs.Prelude.{codes, slice_get, slice_set}
use Rattle.std.specs.Option.{option_map}
use Rattle.std.specs.Str.{bytes_eq}
use Rattle.std.proofs.lemmas.Option.{slice_get-map}
use Rattle.std.proofs.lemmas.Slice.Eq.{bytes_eq-Decides}
use Rattle.texts.specs.Limits.{most_line}
use Rattle.texts.specs.Lines.{InputLine, line_size}
use Rattle.texts.specs.Words.{words, is_remark}
use Rattle.net_model.specs.declared.format.FormatKind.TheVariants.{NoEnd, UnknownName}
use Rattle.plan_port.specs.Lines.{Coming, Comes, TooLong, TooMuch, coming}
use Rattle.command_engine.specs.Inputs.{texts, capacity_after}
use Rattle.command_engine.specs.Runs.{Here, after_line, Answers, RepliesTo, Run as RunOver}
use Rattle.command_engine.specs.declared.endings.End.{End}
use Rattle.command_engine.specs.declared.endings.End.TheVariants as ends
use Rattle.command_engine.specs.declared.machines.Flow.{Flow}
use Rattle.command_engine.specs.declared.machines.Flow.TheVariants.{Continue, Finish}
use Rattle.command_engine.proofs.RunLemmas.{replies_to_line}
use Rattle.common_answers.specs.Faults.{fault_line, fault_end}
use Rattle.common_answers.specs.FormatRefusals.{Come}
use Rattle.common_answers.specs.declared.faults.Fault.{Fault}
use Rattle.common_answers.specs.declared.faults.Fault.TheVariants.{Format, LineTooLong as LongLine, InputTooMuch as MuchInput}
use Rattle.multiplexed_commands.specs.Merged.{Member, HasNone, TakesNamed, TakesWords, after_own, closes}
use Rattle.event_phase.specs.EventRuns.{EventRun}
use Rattle.event_phase.specs.EventPhase.{executing_machine}
use Rattle.event_phase.proofs.ReplyLemmas.{Continues, replied, last_reply}
use Rattle.fleet_command.specs.FleetCauses.{IsLineFault, IsOne, NameAll, NamesNoPlan, NamesOne}
use Rattle.fleet_command.specs.FleetCommand.{fleet_around, plans_machine}

-- the plans of a fleet after `go`
abbrev pub Members : Type 0
Members = List (Member EventRun)

name_of : Member EventRun → List ℕ
name_of member = member.name

abbrev pub names_in : Members → List (List ℕ)
names_in members = map (λ member. member.name) members

-- ---- the names stay
pub names_set : (members : Members) (place : ℕ) (old new : Member EventRun) → slice_get members place ≡ Some old → new.name ≡ old.name → names_in (slice_set members place new) ≡ names_in members
names_set [] place old new is same = absurd (cc is)
names_set (one ∷ members) zero old new is same =
    let first : one ≡ old = cc is in
    ap (λ (name : List ℕ). name ∷ names_in members) (same ∙ sym (ap (λ (m : Member EventRun). m.name) first))
names_set (one ∷ members) (suc place) old new is same = ap (λ (names : List (List ℕ)). one.name ∷ names) (names_set members place old new is same)

pub is_one : (members : Members) (place : ℕ) (member : Member EventRun) (name : List ℕ) → slice_get members place ≡ Some member → member.name ≡ name → IsOne (names_in members) name
is_one members place member name here is =
    (place, slice_get-map (λ (m : Member EventRun). m.name) members place ∙ (ap (option_map (λ (m : Member EventRun). m.name)) here ∙ ap (λ (n : List ℕ). Some n) is))

named_by : (name : List ℕ) (one : Option (Member EventRun)) → option_map (λ (m : Member EventRun). m.name) one ≡ Some name → (member : Member EventRun) × (one ≡ Some member) × (member.name ≡ name)
named_by name None is = absurd (cc is)
named_by name (Some member) is = let same : member.name ≡ name = cc is in (member, refl, same)

not_one : (members : Members) (name : List ℕ) → HasNone members name → IsOne (names_in members) name → ⊥
not_one members name none (place, is) =
    let (member, here, same) = named_by name (slice_get members place) (sym (slice_get-map (λ (m : Member EventRun). m.name) members place) ∙ is) in
    none place member here same

-- ---- the word `end` begins no remark
end_no_remark : (first : List ℕ) → bytes_eq first (codes "end") ≡ true → is_remark first ≡ false
end_no_remark [] is = absurd (cc is)
end_no_remark (byte ∷ bytes) is = ap is_remark ((bytes_eq-Decides (byte ∷ bytes) (codes "end")).0 is)

closing_no_remark : (first : List ℕ) (others : List (List ℕ)) → closes (first ∷ others) ≡ true → is_remark first ≡ false
closing_no_remark first [] is = end_no_remark first is
closing_no_remark first (second ∷ others) is = absurd (cc is)

-- ---- what a line does
-- it is answered, or passed over, and no name changes; or it closes all; or it names none
pub data Does (members : Members) (number : ℕ) (spelled : List (List ℕ)) (answer : List ℕ) (flow : Flow Members) : Type 0 where
  goes_on : (next : Members) → NamesOne (names_in members) spelled → flow ≡ Continue next → names_in next ≡ names_in members → Does members number spelled answer flow
  closes_all : closes spelled ≡ true → answer ≡ [] → flow ≡ Finish ends.Done → Does members number spelled answer flow
  names_none : NamesNoPlan (names_in members) spelled → answer ≡ fault_line (Format number UnknownName) → flow ≡ Finish ends.Fault → Does members number spelled answer flow

named_does : (members : Members) (number : ℕ) (first : List ℕ) (others : List (List ℕ)) (line answer : List ℕ) (flow : Flow Members) (remark end : Bool) → is_remark first ≡ remark → closes (first ∷ others) ≡ end
    → TakesNamed executing_machine fleet_around remark end members number first line answer flow → Does members number (first ∷ others) answer flow
named_does members number first others line answer flow true end is so (nothing, goes) = goes_on members (inl is) goes refl
named_does members number first others line answer flow false true is so (nothing, over) = closes_all so nothing over
named_does members number first others line answer flow false false is so (inl answered) =
    let next = after_own answered.member number answered.stands in
    goes_on (slice_set members answered.place next) (inr (so, is_one members answered.place answered.member first answered.here answered.is)) answered.goes
    (names_set members answered.place answered.member next answered.here refl)
named_does members number first others line answer flow false false is so (inr (none, says, over)) = names_none (is, so, not_one members first none) says over

pub does : (members : Members) (number : ℕ) (spelled : List (List ℕ)) (line answer : List ℕ) (flow : Flow Members) → TakesWords executing_machine fleet_around spelled members number line answer flow
    → Does members number spelled answer flow
does members number [] line answer flow (nothing, goes) = goes_on members tt goes refl
does members number (first ∷ others) line answer flow takes =
    named_does members number first others line answer flow (is_remark first) (closes (first ∷ others)) refl refl takes

-- a line that names one is not one that closes all
names_closes : (names : List (List ℕ)) (spelled : List (List ℕ)) → NamesOne names spelled → closes spelled ≡ true → ⊥
names_closes names [] one closing = absurd (cc closing)
names_closes names (first ∷ others) (inl remark) closing = absurd (let not_so = closing_no_remark first others closing in cc (remark, not_so))
names_closes names (first ∷ others) (inr (unclosed, one)) closing = absurd (cc (unclosed, closing))

-- nor one that names none
names_apart : (names : List (List ℕ)) (spelled : List (List ℕ)) → NamesOne names spelled → NamesNoPlan names spelled → ⊥
names_apart names [] one none = absurd none
names_apart names (first ∷ others) (inl remark) (no_remark, unclosed, none) = absurd (cc (remark, no_remark))
names_apart names (first ∷ others) (inr (unclosed, one)) (no_remark, also, none) = none one

none_closes : (names : List (List ℕ)) (spelled : List (List ℕ)) → NamesNoPlan names spelled → closes spelled ≡ true → ⊥
none_closes names [] none closing = absurd none
none_closes names (first ∷ others) (no_remark, unclosed, none) closing = absurd (cc (unclosed, closing))

-- ---- lines that are answered
-- the run goes on after these lines
pub record OverLines (here : Here Members) (lines rest : List InputLine) (put : List ℕ) (end : End) : Type 0 where
  pub there : Here Members
  pub said : List ℕ
  pub more : List ℕ
  pub answers : Answers plans_machine here lines said there
  pub all : put ≡ said ++ more
  pub later : RunOver plans_machine there rest more end
  pub names : names_in there.state ≡ names_in here.state
  pub number : there.number ≡ here.number + length lines
  pub spare_capacity : there.spare_capacity ≡ capacity_after here.spare_capacity lines

-- where a run stands after a line, by how the run goes on
goes_here : (here : Here Members) (line : InputLine) (lines : List InputLine) (put answer : List ℕ) (end : End) (flow : Flow Members) (next : Members) → flow ≡ Continue next
    → Continues plans_machine here line lines put end flow answer → (more : List ℕ) × (put ≡ answer ++ more) × RunOver plans_machine (after_line here line next) lines more end
goes_here here line lines put answer end flow next is on = subst (λ (o : Flow Members). Continues plans_machine here line lines put end o answer) is on

ends_here : (here : Here Members) (line : InputLine) (lines : List InputLine) (put answer : List ℕ) (end other : End) (flow : Flow Members) → flow ≡ Finish other
    → Continues plans_machine here line lines put end flow answer → (put ≡ answer) × (end ≡ other)
ends_here here line lines put answer end other flow is on = subst (λ (o : Flow Members). Continues plans_machine here line lines put end o answer) is on

-- the lines after one, if the run goes on over them so
abbrev OverAfter : Here Members → InputLine → (lines rest : List InputLine) → End → Type 0
OverAfter here line lines rest end =
    (next : Members) (more : List ℕ) → NameAll (names_in next) (texts lines) → RunOver plans_machine (after_line here line next) (lines ++ rest) more end → OverLines (after_line here line next) lines rest more end

over_line : (here : Here Members) (line : InputLine) (lines rest : List InputLine) (put answer : List ℕ) (end : End) (flow : Flow Members) → coming most_line here.spare_capacity line ≡ Comes
    → NamesOne (names_in here.state) (words line.text)
    → NameAll (names_in here.state) (texts lines) → RepliesTo plans_machine Comes here line.text answer flow → Continues plans_machine here line (lines ++ rest) put end flow answer
    → OverAfter here line lines rest end → Does here.state (here.number + 1) (words line.text) answer flow → OverLines here (line ∷ lines) rest put end
over_line here line lines rest put answer end flow comes named all_named replies on later (goes_on next one goes same) =
    let further = goes_here here line (lines ++ rest) put answer end flow next goes on in
    let on_named = subst (λ (names : List (List ℕ)). NameAll names (texts lines)) (sym same) all_named in
    let over = later next further.0 on_named further.2 in
    let number = over.number in
    let count : over.there.number ≡ here.number + length (line ∷ lines) = omega (arith, number) in
    record {
      there = over.there;
      said = answer ++ over.said;
      more = over.more;
      answers = (
        answer,
        over.said,
        next,
        replies_to_line plans_machine here line lines answer (Continue next) comes (subst (λ (o : Flow Members). plans_machine.takes here.state (here.number + 1) line.text answer o) goes replies),
        refl,
        over.answers,
      );
      all = further.1 ∙ (ap (λ (m : List ℕ). answer ++ m) over.all ∙ sym (append_assoc answer over.said over.more));
      later = over.later;
      names = over.names ∙ same;
      number = count;
      spare_capacity = over.spare_capacity;
    }
over_line here line lines rest put answer end flow comes named all_named replies on later (closes_all closing nothing over) =
    absurd (names_closes (names_in here.state) (words line.text) named closing)
over_line here line lines rest put answer end flow comes named all_named replies on later (names_none none says over) =
    absurd (names_apart (names_in here.state) (words line.text) named none)

pub over_lines : (lines rest : List InputLine) (here : Here Members) (put : List ℕ) (end : End) → Come here.spare_capacity lines → NameAll (names_in here.state) (texts lines)
    → RunOver plans_machine here (lines ++ rest) put end → OverLines here lines rest put end
over_lines [] rest here put end come named run =
    let same : here.number ≡ here.number + 0 = omega arith in
    record { there = here; said = []; more = put; answers = (refl, refl); all = refl; later = run; names = refl; number = same; spare_capacity = refl }
over_lines (line ∷ lines) rest here put end (comes, come) (named, all_named) run =
    let reply = replied plans_machine here line (lines ++ rest) put end Comes comes run in
    over_line here line lines rest put reply.answer end reply.flow comes named all_named reply.replies reply.on
    (λ next more on_named later. over_lines lines rest (after_line here line next) more end come on_named later)
    (does here.state (here.number + 1) (words line.text) line.text reply.answer reply.flow reply.replies)

-- ---- how a run ends
-- at a line that closes all, or by a fault of what comes next
pub data HowEnds (names : List (List ℕ)) (number spare_capacity : ℕ) (rest : List InputLine) (put : List ℕ) (end : End) : Type 0 where
  at_end : (line : InputLine) (others : List InputLine) → rest ≡ line ∷ others → coming most_line spare_capacity line ≡ Comes → closes (words line.text) ≡ true → put ≡ [] → end ≡ ends.Done → HowEnds names number spare_capacity rest put end
  by_fault : (fault : Fault) → IsLineFault names (number + 1) spare_capacity rest fault → put ≡ fault_line fault → end ≡ fault_end fault → HowEnds names number spare_capacity rest put end

-- the lines that are answered, and how it ends then
pub record EndsFleet (names : List (List ℕ)) (number spare_capacity : ℕ) (lines : List InputLine) (put : List ℕ) (end : End) : Type 0 where
  pub served : List InputLine
  pub rest : List InputLine
  pub said : List ℕ
  pub more : List ℕ
  pub divided : lines ≡ served ++ rest
  pub come : Come spare_capacity served
  pub named : NameAll names (texts served)
  pub all : put ≡ said ++ more
  pub how : HowEnds names (number + length served) (capacity_after spare_capacity served) rest more end

ends_now : (names : List (List ℕ)) (number spare_capacity : ℕ) (lines : List InputLine) (put : List ℕ) (end : End) → HowEnds names number spare_capacity lines put end → EndsFleet names number spare_capacity lines put end
ends_now names number spare_capacity lines put end how =
    let same : number ≡ number + 0 = omega arith in
    record {
      served = [];
      rest = lines;
      said = [];
      more = put;
      divided = refl;
      come = tt;
      named = tt;
      all = refl;
      how = subst (λ (n : ℕ). HowEnds names n spare_capacity lines put end) same how;
    }

ends_later : (names : List (List ℕ)) (number spare_capacity : ℕ) (line : InputLine) (lines : List InputLine) (put answer more : List ℕ) (end : End) → coming most_line spare_capacity line ≡ Comes → NamesOne names (words line.text)
    → put ≡ answer ++ more
    → EndsFleet names (number + 1) (spare_capacity - line_size line) lines more end → EndsFleet names number spare_capacity (line ∷ lines) put end
ends_later names number spare_capacity line lines put answer more end comes one all later =
    let same : number + 1 + length later.served ≡ number + length (line ∷ later.served) = omega arith in
    record {
      served = line ∷ later.served;
      rest = later.rest;
      said = answer ++ later.said;
      more = later.more;
      divided = ap (λ (ls : List InputLine). line ∷ ls) later.divided;
      come = (comes, later.come);
      named = (one, later.named);
      all = all ∙ (ap (λ (m : List ℕ). answer ++ m) later.all ∙ sym (append_assoc answer later.said later.more));
      how = subst (λ (n : ℕ). HowEnds names n (capacity_after (spare_capacity - line_size line) later.served) later.rest later.more end) same later.how;
    }

-- if no line comes
stopped : (put answer : List ℕ) (end other : End) (fault : Fault) → (put ≡ answer) × (end ≡ other) → (answer ≡ fault_line fault) × (other ≡ fault_end fault) → (put ≡ fault_line fault) × (end ≡ fault_end fault)
stopped put answer end other fault (one, two) (says, so) = (one ∙ says, two ∙ so)

-- how a run ends over the lines after one
abbrev EndsAfter : Here Members → InputLine → List InputLine → End → Type 0
EndsAfter here line lines end =
    (next : Members) (more : List ℕ) → RunOver plans_machine (after_line here line next) lines more end → EndsFleet (names_in next) (here.number + 1) (here.spare_capacity - line_size line) lines more end

ends_line : (here : Here Members) (line : InputLine) (lines : List InputLine) (put answer : List ℕ) (end : End) (flow : Flow Members) → coming most_line here.spare_capacity line ≡ Comes
    → Continues plans_machine here line lines put end flow answer → EndsAfter here line lines end → Does here.state (here.number + 1) (words line.text) answer flow
    → EndsFleet (names_in here.state) here.number here.spare_capacity (line ∷ lines) put end
ends_line here line lines put answer end flow comes on later (goes_on next one goes same) =
    let further = goes_here here line lines put answer end flow next goes on in
    ends_later (names_in here.state) here.number here.spare_capacity line lines put answer further.0 end comes one further.1
    (subst (λ (ns : List (List ℕ)). EndsFleet ns (here.number + 1) (here.spare_capacity - line_size line) lines further.0 end) same (later next further.0 further.2))
ends_line here line lines put answer end flow comes on later (closes_all closing nothing over) =
    let puts = ends_here here line lines put answer end ends.Done flow over on in
    ends_now (names_in here.state) here.number here.spare_capacity (line ∷ lines) put end (at_end line lines refl comes closing (puts.0 ∙ nothing) puts.1)
ends_line here line lines put answer end flow comes on later (names_none none says over) =
    let puts = ends_here here line lines put answer end ends.Fault flow over on in
    ends_now (names_in here.state) here.number here.spare_capacity (line ∷ lines) put end (by_fault (Format (here.number + 1) UnknownName) (inr (inr (comes, none, refl))) (puts.0 ∙ says) puts.1)

ends_by : (here : Here Members) (line : InputLine) (lines : List InputLine) (put : List ℕ) (end : End) (how : Coming) → coming most_line here.spare_capacity line ≡ how → RunOver plans_machine here (line ∷ lines) put end
    → EndsAfter here line lines end → EndsFleet (names_in here.state) here.number here.spare_capacity (line ∷ lines) put end
ends_by here line lines put end Comes comes run later =
    let reply = replied plans_machine here line lines put end Comes comes run in
    ends_line here line lines put reply.answer end reply.flow comes reply.on later (does here.state (here.number + 1) (words line.text) line.text reply.answer reply.flow reply.replies)
ends_by here line lines put end TooLong long run later =
    let reply = replied plans_machine here line lines put end TooLong long run in
    let (other, is, stops) = reply.replies in
    let puts = stopped put reply.answer end other (LongLine (here.number + 1)) (ends_here here line lines put reply.answer end other reply.flow is reply.on) stops in
    ends_now (names_in here.state) here.number here.spare_capacity (line ∷ lines) put end (by_fault (LongLine (here.number + 1)) (inl (long, refl)) puts.0 puts.1)
ends_by here line lines put end TooMuch much run later =
    let reply = replied plans_machine here line lines put end TooMuch much run in
    let (other, is, stops) = reply.replies in
    let puts = stopped put reply.answer end other (MuchInput (here.number + 1)) (ends_here here line lines put reply.answer end other reply.flow is reply.on) stops in
    ends_now (names_in here.state) here.number here.spare_capacity (line ∷ lines) put end (by_fault (MuchInput (here.number + 1)) (inr (inl (much, refl))) puts.0 puts.1)

pub ends_fleet : (lines : List InputLine) (here : Here Members) (put : List ℕ) (end : End) → RunOver plans_machine here lines put end → EndsFleet (names_in here.state) here.number here.spare_capacity lines put end
ends_fleet [] here put end run =
    let (other, is, stops) = last_reply plans_machine here put end run in
    let same : end ≡ other = cc is in
    ends_now (names_in here.state) here.number here.spare_capacity [] put end (by_fault (Format (here.number + 1) NoEnd) refl stops.0 (same ∙ stops.1))
ends_fleet (line ∷ lines) here put end run =
    ends_by here line lines put end (coming most_line here.spare_capacity line) refl run (λ next more later. ends_fleet lines (after_line here line next) more end later)

-- ---- what ends it does
pub closed_so : (here : Here Members) (last : InputLine) (others : List InputLine) (put : List ℕ) (end : End) → coming most_line here.spare_capacity last ≡ Comes → closes (words last.text) ≡ true
    → RunOver plans_machine here (last ∷ others) put end → (put ≡ []) × (end ≡ ends.Done)
closed_so here last others put end comes closing run =
    let reply = replied plans_machine here last others put end Comes comes run in
    by reply.answer reply.flow reply.on (does here.state (here.number + 1) (words last.text) last.text reply.answer reply.flow reply.replies)
  where
    by : (answer : List ℕ) (flow : Flow Members) → Continues plans_machine here last others put end flow answer → Does here.state (here.number + 1) (words last.text) answer flow → (put ≡ []) × (end ≡ ends.Done)
    by answer flow on (goes_on next one goes same) = absurd (names_closes (names_in here.state) (words last.text) one closing)
    by answer flow on (closes_all closing_too nothing over) =
        let puts = ends_here here last others put answer end ends.Done flow over on in
        (puts.0 ∙ nothing, puts.1)
    by answer flow on (names_none none says over) = absurd (none_closes (names_in here.state) (words last.text) none closing)

-- what is put for a fault, and how the run ends
abbrev PrintsFault : Fault → List ℕ → End → Type 0
PrintsFault fault put end = (put ≡ fault_line fault) × (end ≡ fault_end fault)

as_printed : (fault other : Fault) (put : List ℕ) (end : End) → fault ≡ other → PrintsFault other put end → PrintsFault fault put end
as_printed fault other put end is statement = subst (λ (f : Fault). PrintsFault f put end) (sym is) statement

pub fault_so : (here : Here Members) (rest : List InputLine) (fault : Fault) (put : List ℕ) (end : End) → IsLineFault (names_in here.state) (here.number + 1) here.spare_capacity rest fault
    → RunOver plans_machine here rest put end → (put ≡ fault_line fault) × (end ≡ fault_end fault)
fault_so here [] fault put end is run =
    let (other, ended, stops) = last_reply plans_machine here put end run in
    let same : end ≡ other = cc ended in
    as_printed fault (Format (here.number + 1) NoEnd) put end is (stops.0, same ∙ stops.1)
fault_so here (line ∷ others) fault put end (inl (long, is)) run =
    let reply = replied plans_machine here line others put end TooLong long run in
    let (other, ended, stops) = reply.replies in
    as_printed fault (LongLine (here.number + 1)) put end is
    (stopped put reply.answer end other (LongLine (here.number + 1)) (ends_here here line others put reply.answer end other reply.flow ended reply.on) stops)
fault_so here (line ∷ others) fault put end (inr (inl (much, is))) run =
    let reply = replied plans_machine here line others put end TooMuch much run in
    let (other, ended, stops) = reply.replies in
    as_printed fault (MuchInput (here.number + 1)) put end is
    (stopped put reply.answer end other (MuchInput (here.number + 1)) (ends_here here line others put reply.answer end other reply.flow ended reply.on) stops)
fault_so here (line ∷ others) fault put end (inr (inr (comes, none, is))) run =
    let reply = replied plans_machine here line others put end Comes comes run in
    as_printed fault (Format (here.number + 1) UnknownName) put end is
    (by reply.answer reply.flow reply.on (does here.state (here.number + 1) (words line.text) line.text reply.answer reply.flow reply.replies))
  where
    by : (answer : List ℕ) (flow : Flow Members) → Continues plans_machine here line others put end flow answer → Does here.state (here.number + 1) (words line.text) answer flow
        → PrintsFault (Format (here.number + 1) UnknownName) put end
    by answer flow on (goes_on next one goes same) = absurd (names_apart (names_in here.state) (words line.text) one none)
    by answer flow on (closes_all closing nothing over) = absurd (none_closes (names_in here.state) (words line.text) none closing)
    by answer flow on (names_none also says over) =
        let puts = ends_here here line others put answer end ends.Fault flow over on in
        (puts.0 ∙ says, puts.1)

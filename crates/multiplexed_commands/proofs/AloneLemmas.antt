-- What one of many says alone is a run of its command.
use Rattle.std.proofs.Common.{◌≡◌, inl, inr, ℕ, ◌+◌, ◌-◌, ◌<◌, ◌≤◌, Bool, true, false, cond, List, [], ◌∷◌, ◌++◌, length, refl, sym, ap, ◌∙◌, subst, arith, append_assoc}
use Rattle.std.proofs.lemmas.Bool.Decides.{nat_tests}
use Rattle.texts.specs.Limits.{most_line}
use Rattle.texts.specs.Lines.{InputLine, whole_line, line_size}
use Rattle.texts.specs.Words.{words, are_passed_over, is_blank}
use Rattle.texts.proofs.WordLemmas.{words-nil}
use Rattle.plan_port.specs.Lines.{Coming, Comes, coming}
use Rattle.command_engine.specs.Machine.{Machine}
use Rattle.command_engine.specs.Runs.{Here, after_line, coming_at, Answers, Replies, RepliesTo}
use Rattle.command_engine.specs.declared.endings.End.{End}
use Rattle.command_engine.specs.declared.machines.Flow.{Flow}
use Rattle.command_engine.specs.declared.machines.Flow.TheVariants.{Continue, Finish}
use Rattle.command_engine.proofs.RunLemmas.{goes_only_on_lines}
use Rattle.multiplexed_commands.specs.Alone.{MemberState, Runs, Idle, SaysTo, idle_said, stands_after}
use Rattle.multiplexed_commands.specs.Merged.{Around, Member, merged_machine}
use Rattle.multiplexed_commands.specs.NamedLines.{after_first, from_blank, comes_first, is_of}
use Rattle.multiplexed_commands.specs.Projection.{own_lines, SaysWholeLines}
use Rattle.multiplexed_commands.specs.Runs.{HasFixedLines, as_input, idles, IsAlone, RunAlone}
use Rattle.multiplexed_commands.proofs.ProjectionLemmas.{projects}

-- ---- lines that come
-- a line that comes has no more bytes than it may, and the input may still have as many
pub comes_within : (longest spare_capacity : ℕ) (line : InputLine) → coming longest spare_capacity line ≡ Comes → (length line.text ≤ longest) × (length line.text ≤ spare_capacity)
comes_within longest spare_capacity line comes = grind (arith, nat_tests)

pub whole_comes : (longest spare_capacity : ℕ) (text : List ℕ) → length text ≤ longest → length text < spare_capacity → coming longest spare_capacity (whole_line text) ≡ Comes
whole_comes longest spare_capacity text short fits = grind (arith, nat_tests)

-- ---- a line of its own is shorter than the line
blank_by : (blank : Bool) (bytes rest : List ℕ) (byte : ℕ) → length rest ≤ length bytes → length (elim blank as (λ b. List ℕ) [ true ↦ byte ∷ bytes | false ↦ rest ]) ≤ length (byte ∷ bytes)
blank_by true bytes rest byte short = omega arith
blank_by false bytes rest byte short = omega arith

from_blank_short : (bytes : List ℕ) → length (from_blank bytes) ≤ length bytes
from_blank_short [] = omega arith
from_blank_short (byte ∷ bytes) = blank_by (is_blank byte) bytes (from_blank bytes) byte (from_blank_short bytes)

first_by : (blank : Bool) (bytes : List ℕ) → length (after_first bytes) ≤ length bytes - 1 → length (elim blank as (λ b. List ℕ) [ true ↦ after_first bytes | false ↦ from_blank bytes ]) ≤ length bytes
first_by true bytes short = omega arith
first_by false bytes short = from_blank_short bytes

after_first_short : (line : List ℕ) → length (after_first line) ≤ length line - 1
after_first_short [] = omega arith
after_first_short (byte ∷ bytes) = let short = first_by (is_blank byte) bytes (after_first_short bytes) in omega (arith, short)

own_shorter : (name line : List ℕ) → is_of name line ≡ true → length (after_first line) < length line
own_shorter name [] own = absurd (cc (ap (comes_first name) words-nil, own))
own_shorter name (byte ∷ bytes) own = omega (arith, after_first_short (byte ∷ bytes))

line_at_least : (line : InputLine) → length line.text ≤ line_size line
line_at_least line = omega arith

-- lines of their own all come: each is wanted with at most 65,536 bytes
abbrev pub AllCome : ℕ → List (List ℕ) → Type 0
AllCome spare_capacity [] = Unit {0}
AllCome spare_capacity (line ∷ lines) = (coming most_line spare_capacity (whole_line line) ≡ Comes) × AllCome (spare_capacity - line_size (whole_line line)) lines

-- lines that are answered come, and so do their own lines, if the input may have as many bytes
abbrev pub LinesCome : ℕ → List InputLine → Type 0
LinesCome spare_capacity [] = Unit {0}
LinesCome spare_capacity (line ∷ lines) = (coming most_line spare_capacity line ≡ Comes) × LinesCome (spare_capacity - line_size line) lines

come_by : (own : Bool) (name : List ℕ) (line : InputLine) (owns : List (List ℕ)) (spare_capacity own_capacity : ℕ) → is_of name line.text ≡ own → spare_capacity ≤ own_capacity → coming most_line spare_capacity line ≡ Comes
    → ((next_capacity : ℕ) → spare_capacity - line_size line ≤ next_capacity → AllCome next_capacity owns) → AllCome own_capacity (cond own (after_first line.text ∷ owns) owns)
come_by true name line owns spare_capacity own_capacity own enough comes later =
    let fits = comes_within most_line spare_capacity line comes in
    let short : length (after_first line.text) < length line.text = own_shorter name line.text own in
    let size : length line.text ≤ line_size line = line_at_least line in (
      whole_comes most_line own_capacity (after_first line.text) (omega (arith, fits.0)) (omega (arith, fits.1)),
      later (own_capacity - line_size (whole_line (after_first line.text))) (omega arith),
    )
come_by false name line owns spare_capacity own_capacity own enough comes later = later own_capacity (omega arith)

pub own_come : (name : List ℕ) (lines : List InputLine) (spare_capacity own_capacity : ℕ) → spare_capacity ≤ own_capacity → LinesCome spare_capacity lines → AllCome own_capacity (own_lines name lines)
own_come name [] spare_capacity own_capacity enough come = tt
own_come name (line ∷ lines) spare_capacity own_capacity enough come =
    come_by (is_of name line.text) name line (own_lines name lines) spare_capacity own_capacity refl enough come.0 (λ next_capacity more. own_come name lines (spare_capacity - line_size line) next_capacity more come.1)

-- ---- what is said alone is what a run puts
pub idle_says : {C : Type 0} (inner : Machine C) (number : ℕ) (lines : List (List ℕ)) (said : List ℕ) (last : MemberState C) → SaysTo inner Idle number lines said last → (said ≡ idles lines) × (last ≡ Idle)
idle_says inner number [] said last (nothing, same) = (nothing, sym same)
idle_says inner number (line ∷ lines) said last (answer, more, next, (is, idle), all, later) =
    let on = idle_says inner (number + 1) lines more last (subst (λ (s : MemberState _). SaysTo inner s (number + 1) lines more last) idle later) in
    (all ∙ (ap (λ (a : List ℕ). a ++ more) is ∙ ap (λ (m : List ℕ). idle_said (are_passed_over (words line)) ++ m) on.0), on.1)

module _ {C : Type 0} (inner : Machine C) (fixed : HasFixedLines inner) where
  replies_by : (here : Here C) (line : InputLine) (rest : List InputLine) (answer : List ℕ) (flow : Flow C) → coming most_line here.spare_capacity line ≡ Comes → inner.takes here.state (here.number + 1) line.text answer flow
      → Replies inner here (line ∷ rest) answer flow
  replies_by here line rest answer flow comes takes =
      let how : coming_at inner here line ≡ Comes = ap (λ (longest : ℕ). coming longest here.spare_capacity line) (fixed here.state) ∙ comes in
      subst (λ (c : Coming). RepliesTo inner c here line.text answer flow) (sym how) takes

  -- one line more before it
  goes_after : (here : Here C) (line : List ℕ) (lines : List (List ℕ)) (answer more : List ℕ) (state : C) (said : List ℕ) (last : MemberState C) → Replies inner here (whole_line line ∷ as_input lines) answer (Continue state)
      → said ≡ answer ++ more
      → IsAlone inner (after_line here (whole_line line) state) lines more last → IsAlone inner here (line ∷ lines) said last
  goes_after here line lines answer more state said last replies all (inl (there, answers, stands)) = inl (there, (answer, more, state, replies, all, answers), stands)
  goes_after here line lines answer more state said last replies all (inr ends) =
      let one = ends.run in
      inr (record {
        put = answer ++ ends.put;
        end = ends.end;
        run = record {
          first = whole_line line ∷ one.first;
          rest = one.rest;
          said = answer ++ one.said;
          there = one.there;
          last = one.last;
          divided = ap (λ (ls : List InputLine). whole_line line ∷ ls) one.divided;
          answers = (answer, one.said, state, subst (λ (ls : List InputLine). Replies inner here (whole_line line ∷ ls) answer (Continue state)) one.divided replies, refl, one.answers);
          ends = one.ends;
          all = ap (λ (p : List ℕ). answer ++ p) one.all ∙ sym (append_assoc answer one.said one.last);
        };
        line = ends.line;
        others = ends.others;
        rest = ends.rest;
        all = all ∙ (ap (λ (m : List ℕ). answer ++ m) ends.all ∙ sym (append_assoc answer ends.put (idles ends.others)));
        idle = ends.idle;
      })

  ends_here : (here : Here C) (line : List ℕ) (lines : List (List ℕ)) (answer more said : List ℕ) (end : End) (last : MemberState C) → Replies inner here (whole_line line ∷ as_input lines) answer (Finish end) → said ≡ answer ++ more
      → SaysTo inner Idle (here.number + 1) lines more last
      → IsAlone inner here (line ∷ lines) said last
  ends_here here line lines answer more said end last replies all later =
      let on = idle_says inner (here.number + 1) lines more last later in
      inr (record {
        put = answer;
        end = end;
        run = record { first = []; rest = whole_line line ∷ as_input lines; said = []; there = here; last = answer; divided = refl; answers = (refl, refl); ends = replies; all = refl };
        line = line;
        others = lines;
        rest = refl;
        all = all ∙ ap (λ (m : List ℕ). answer ++ m) on.0;
        idle = on.1;
      })

  alone_by : (how : Flow C) (here : Here C) (line : List ℕ) (lines : List (List ℕ)) (answer more said : List ℕ) (next last : MemberState C) → coming most_line here.spare_capacity (whole_line line) ≡ Comes
      → inner.takes here.state (here.number + 1) line answer how → next ≡ stands_after how → said ≡ answer ++ more → SaysTo inner next (here.number + 1) lines more last
      → ((state : C) → SaysTo inner (Runs state) (here.number + 1) lines more last → IsAlone inner (after_line here (whole_line line) state) lines more last)
      → IsAlone inner here (line ∷ lines) said last
  alone_by (Continue state) here line lines answer more said next last comes takes is all later on =
      goes_after here line lines answer more state said last (replies_by here (whole_line line) (as_input lines) answer (Continue state) comes takes) all
      (on state (subst (λ (s : MemberState C). SaysTo inner s (here.number + 1) lines more last) is later))
  alone_by (Finish end) here line lines answer more said next last comes takes is all later on =
      ends_here here line lines answer more said end last (replies_by here (whole_line line) (as_input lines) answer (Finish end) comes takes) all
      (subst (λ (s : MemberState C). SaysTo inner s (here.number + 1) lines more last) is later)

  pub alone : (lines : List (List ℕ)) (here : Here C) (said : List ℕ) (last : MemberState C) → AllCome here.spare_capacity lines → SaysTo inner (Runs here.state) here.number lines said last → IsAlone inner here lines said last
  alone [] here said last come (nothing, same) = inl (here, (nothing, refl), sym same)
  alone (line ∷ lines) here said last come (answer, more, next, (flow, takes, is), all, later) =
      alone_by flow here line lines answer more said next last come.0 takes is all later (λ state on. alone lines (after_line here (whole_line line) state) more last come.1 on)

  module _ (whole_lines_said : SaysWholeLines inner) (around : Around) (spare_capacity : List (Member C) → ℕ) where
    pub answered_come : (lines : List InputLine) (here there : Here (List (Member C))) (put : List ℕ) → Answers (merged_machine inner around spare_capacity) here lines put there → LinesCome here.spare_capacity lines
    answered_come [] here there put answers = tt
    answered_come (line ∷ lines) here there put (answer, more, after, replies, all, later) = (
      (goes_only_on_lines (merged_machine inner around spare_capacity) here line lines answer after replies).comes,
      answered_come lines (after_line here line after) there more later,
    )

    pub run_alone : RunAlone inner around spare_capacity
    run_alone here there lines put are answers place name start is_started =
        let each = (projects inner whole_lines_said around spare_capacity lines here there put are answers).each place _ is_started in
        let is = each.2 in (
          is.said,
          is.of_it,
          (
            each.0.stands,
            (each.0, each.1, refl),
            alone (own_lines name lines) (record { state = start; number = 0; spare_capacity = here.spare_capacity }) is.said each.0.stands
                (own_come name lines here.spare_capacity here.spare_capacity (omega arith) (answered_come lines here there put answers)) is.alone,
          ),
        )

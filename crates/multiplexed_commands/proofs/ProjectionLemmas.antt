-- Each of many says what it says alone.
use Rattle.std.proofs.Common.{◌≡◌, ◌≢◌, ◌⊎◌, inl, inr, ℕ, ◌+◌, ◌≤◌, ◌==◌, Bool, true, false, List, [], ◌∷◌, ◌++◌, length, Some, zero, suc, refl, sym, ap, ◌∙◌, subst, arith}
use Rattle.std.specs.Prelude.{slice_set, slice_get, codes}
use Rattle.std.proofs.lemmas.Bool.{cond-true, cond-false, eqb-true, eq-eqb}
use Rattle.texts.specs.Lines.{InputLine}
use Rattle.texts.specs.PrintedLines.{joined}
use Rattle.texts.specs.Words.{words, are_passed_over, is_remark}
use Rattle.command_engine.specs.Machine.{Machine}
use Rattle.command_engine.specs.Runs.{Here, after_line, Answers}
use Rattle.command_engine.specs.declared.machines.Flow.TheVariants.{Continue}
use Rattle.command_engine.proofs.RunLemmas.{goes_only_on_lines}
use Rattle.multiplexed_commands.specs.Alone.{MemberState, Runs, Idle, SaysLineAlone, SaysTo, idle_said}
use Rattle.multiplexed_commands.specs.Merged.{Around, Member, AreMembers, IsAnswered, TakesWords, TakesNamed, after_own, own_number, closes, merged_machine}
use Rattle.multiplexed_commands.specs.NamedLines.{after_first, comes_first, is_of, named, of_name, IsNaming, IsOfWholeLines}
use Rattle.multiplexed_commands.specs.Projection.{own_lines, AreProjected, IsProjected, SaysWholeLines}
use Rattle.multiplexed_commands.proofs.NamedLineLemmas.{same_name, other_name, of_own_name, of_other_name, of_none, of_both, whole_both, named_none, named_both, named_whole, whole_none, unfinished_last}

-- ---- one place of a list is written
pub set_here : {A : Type 0} (xs : List A) (place : ℕ) (old new : A) → slice_get xs place ≡ Some old → slice_get (slice_set xs place new) place ≡ Some new
set_here [] place old new here = absurd cc
set_here (x ∷ xs) zero old new here = refl
set_here (x ∷ xs) (suc place) old new here = set_here xs place old new here

pub set_elsewhere : {A : Type 0} (xs : List A) (place other : ℕ) (new : A) → other ≢ place → slice_get (slice_set xs place new) other ≡ slice_get xs other
set_elsewhere [] place other new apart = refl
set_elsewhere (x ∷ xs) zero zero new apart = absurd (apart refl)
set_elsewhere (x ∷ xs) zero (suc other) new apart = refl
set_elsewhere (x ∷ xs) (suc place) zero new apart = refl
set_elsewhere (x ∷ xs) (suc place) (suc other) new apart = set_elsewhere xs place other new (λ same. apart (ap suc same))

set_back : {A : Type 0} (xs : List A) (place : ℕ) (new one : A) → slice_get (slice_set xs place new) place ≡ Some one → (one ≡ new) × ((old : A) × (slice_get xs place ≡ Some old))
set_back [] place new one is = absurd cc
set_back (x ∷ xs) zero new one is = (cc, (x, refl))
set_back (x ∷ xs) (suc place) new one is = set_back xs place new one is

-- ---- whole lines
idle_whole : (passed : Bool) → IsOfWholeLines (idle_said passed)
idle_whole true = whole_none
idle_whole false = unfinished_last (joined (codes "idle" ∷ []))

-- among no more lines than all, one more has the next number
own_next : (count number : ℕ) → count ≤ number → own_number count (number + 1) ≡ count + 1
own_next count number within = omega arith

-- after one more line of its own
abbrev pub one_more : {C : Type 0} → Member C → MemberState C → Member C
one_more member stands = record member { count = member.count + 1; stands = stands }

own_is : {C : Type 0} (member : Member C) (number : ℕ) (stands : MemberState C) → member.count ≤ number → after_own member (number + 1) stands ≡ one_more member stands
own_is {C} member number stands within =
    let with_count : ℕ → Member C = λ c. record { name = member.name; count = c; stands = stands } in
    ap with_count (own_next member.count number within)

module _ {C : Type 0} (inner : Machine C) (whole_lines_said : SaysWholeLines inner) (around : Around) (spare_capacity : List (Member C) → ℕ) where
  says_whole : (stands : MemberState C) (number : ℕ) (line said : List ℕ) (after : MemberState C) → SaysLineAlone inner stands number line said after → IsOfWholeLines said
  says_whole (Runs state) number line said after (flow, takes, is) = whole_lines_said state number line said flow takes
  says_whole Idle number line said after (is, stands) = subst IsOfWholeLines (sym is) (idle_whole (are_passed_over (words line)))

  -- ---- one line
  -- one said what it says alone to a line of its own, or the line is not its own
  record OwnStep (member : Member C) (line answer : List ℕ) (next : Member C) : Type 0 where
    pub said : List ℕ
    pub stands : MemberState C
    pub own : is_of member.name line ≡ true
    pub says : SaysLineAlone inner member.stands (member.count + 1) (after_first line) said stands
    pub put : answer ≡ named member.name said
    pub is : next ≡ one_more member stands

  record OtherStep (member : Member C) (line answer : List ℕ) (next : Member C) : Type 0 where
    pub other : is_of member.name line ≡ false
    pub none : of_name member.name answer ≡ []
    pub is : next ≡ member

  abbrev Step : Member C → List ℕ → List ℕ → Member C → Type 0
  Step member line answer next = OwnStep member line answer next ⊎ OtherStep member line answer next

  record Steps (number : ℕ) (members : List (Member C)) (line answer : List ℕ) (after : List (Member C)) : Type 0 where
    pub still : AreMembers (number + 1) after
    pub whole : IsOfWholeLines answer
    pub each : (place : ℕ) (member : Member C) → slice_get members place ≡ Some member → (next : Member C) × (slice_get after place ≡ Some next) × Step member line answer next

  -- one line more came
  later : (number : ℕ) (members : List (Member C)) → AreMembers number members → AreMembers (number + 1) members
  later number members are = record { counted = λ place member is. omega (arith, are.counted place member is); names = are.names; different = are.different }

  -- nothing is said, and nothing changes
  passed : (number : ℕ) (members : List (Member C)) (line answer : List ℕ) (after : List (Member C)) → AreMembers number members → ((name : List ℕ) → IsNaming name → is_of name line ≡ false) → answer ≡ [] → after ≡ members
      → Steps number members line answer after
  passed number members line answer after are no_one nothing goes =
      let same : members ≡ after = sym goes in
      record {
        still = subst (λ (ms : List (Member C)). AreMembers (number + 1) ms) same (later number members are);
        whole = subst IsOfWholeLines (sym nothing) whole_none;
        each = λ place member here. (
          member,
          subst (λ (ms : List (Member C)). slice_get ms place ≡ Some member) same here,
          inr (record { other = no_one member.name (are.names place member here); none = ap (of_name member.name) nothing ∙ of_none member.name; is = refl }),
        );
      }

  -- one of this name stood there, or this one more
  abbrev WasNamed : ℕ → List (Member C) → ℕ → Member C → Type 0
  WasNamed number members at one = (old : Member C) × (slice_get members at ≡ Some old) × (old.name ≡ one.name) × (one.count ≤ number + 1)

  -- after one line of one, they are members still
  kept : (number : ℕ) (members : List (Member C)) (place : ℕ) (member : Member C) (stands : MemberState C) → AreMembers number members → slice_get members place ≡ Some member
      → AreMembers (number + 1) (slice_set members place (one_more member stands))
  kept number members place member stands are here = record { counted = counted; names = names; different = different }
    where
      was_by : (at : ℕ) (one : Member C) → slice_get (slice_set members place (one_more member stands)) at ≡ Some one → (same : Bool) → (at == place) ≡ same → WasNamed number members at one
      was_by at one is true same =
          let equal : at ≡ place = eqb-true at place same in
          let there : slice_get (slice_set members place (one_more member stands)) place ≡ Some one = subst (λ (p : ℕ). slice_get (slice_set members place (one_more member stands)) p ≡ Some one) equal is in
          let back = set_back members place (one_more member stands) one there in
          let count : one.count ≡ member.count + 1 = ap (λ (m : Member C). m.count) back.0 in
          let within = are.counted place member here in
          (member, subst (λ (p : ℕ). slice_get members p ≡ Some member) (sym equal) here, ap (λ (m : Member C). m.name) (sym back.0), omega (arith, count, within))
      was_by at one is false same =
          let apart : at ≢ place = λ equal. absurd (cc (same, eq-eqb at place equal)) in
          let there : slice_get members at ≡ Some one = sym (set_elsewhere members place at (one_more member stands) apart) ∙ is in
          let within = are.counted at one there in
          (one, there, refl, omega (arith, within))

      was : (at : ℕ) (one : Member C) → slice_get (slice_set members place (one_more member stands)) at ≡ Some one → WasNamed number members at one
      was at one is = was_by at one is (at == place) refl

      counted : (at : ℕ) (one : Member C) → slice_get (slice_set members place (one_more member stands)) at ≡ Some one → one.count ≤ number + 1
      counted at one is = (was at one is).3

      names : (at : ℕ) (one : Member C) → slice_get (slice_set members place (one_more member stands)) at ≡ Some one → IsNaming one.name
      names at one is = let old = was at one is in subst IsNaming old.2 (are.names at old.0 old.1)

      different : (at other : ℕ) (one two : Member C) → slice_get (slice_set members place (one_more member stands)) at ≡ Some one → slice_get (slice_set members place (one_more member stands)) other ≡ Some two → one.name ≡ two.name
          → at ≡ other
      different at other one two is also same =
          let old = was at one is in
          let before = was other two also in
          are.different at other old.0 before.0 old.1 before.1 (old.2 ∙ (same ∙ sym before.2))

  -- the one that a line names answers it
  answered : (number : ℕ) (members : List (Member C)) (first : List ℕ) (others : List (List ℕ)) (line answer : List ℕ) (after : List (Member C)) → AreMembers number members → words line ≡ first ∷ others
      → IsAnswered inner around members (number + 1) first line answer (Continue after)
      → Steps number members line answer after
  answered number members first others line answer after are spelled one =
      let within = are.counted one.place one.member one.here in
      let goes : after ≡ slice_set members one.place (one_more one.member one.stands) = cc (one.goes) ∙ ap (slice_set members one.place) (own_is one.member number one.stands within) in
      let naming : IsNaming first = subst IsNaming one.is (are.names one.place one.member one.here) in
      let says : SaysLineAlone inner one.member.stands (one.member.count + 1) (after_first line) one.said one.stands =
      subst (λ (n : ℕ). SaysLineAlone inner one.member.stands n (after_first line) one.said one.stands) (own_next one.member.count number within) one.says in
      record {
        still = subst (λ (ms : List (Member C)). AreMembers (number + 1) ms) (sym goes) (kept number members one.place one.member one.stands are one.here);
        whole = subst IsOfWholeLines (sym one.put) (named_whole first one.said naming);
        each = λ place member here. by place member here goes naming says (place == one.place) refl;
      }
    where
      by : (place : ℕ) (member : Member C) → slice_get members place ≡ Some member → after ≡ slice_set members one.place (one_more one.member one.stands) → IsNaming first
          → SaysLineAlone inner one.member.stands (one.member.count + 1) (after_first line) one.said one.stands → (same : Bool) → (place == one.place) ≡ same
          → (next : Member C) × (slice_get after place ≡ Some next) × Step member line answer next
      by place member here goes naming says true same =
          let equal : place ≡ one.place = eqb-true place one.place same in
          let there : slice_get members one.place ≡ Some member = subst (λ (p : ℕ). slice_get members p ≡ Some member) equal here in
          let is : one.member ≡ member = cc (there, one.here) in
          let its : first ≡ member.name = sym one.is ∙ ap (λ (m : Member C). m.name) is in (
            one_more member one.stands,
            subst (λ (ms : List (Member C)). slice_get ms place ≡ Some (one_more member one.stands)) (sym goes)
                (subst (λ (p : ℕ). slice_get (slice_set members one.place (one_more one.member one.stands)) p ≡ Some (one_more member one.stands)) (sym equal)
                (set_here members one.place one.member (one_more one.member one.stands) one.here ∙ ap (λ (m : Member C). Some (one_more m one.stands)) is)),
            inl (record {
              said = one.said;
              stands = one.stands;
              own = ap (comes_first member.name) spelled ∙ same_name first member.name its;
              says = subst (λ (m : Member C). SaysLineAlone inner m.stands (m.count + 1) (after_first line) one.said one.stands) is says;
              put = one.put ∙ ap (λ (n : List ℕ). named n one.said) its;
              is = refl;
            }),
          )
      by place member here goes naming says false same =
          let apart : place ≢ one.place = λ equal. absurd (cc (same, eq-eqb place one.place equal)) in
          let differ : first ≢ member.name = λ its. apart (are.different place one.place member one.member here one.here (sym its ∙ sym one.is)) in (
            member,
            subst (λ (ms : List (Member C)). slice_get ms place ≡ Some member) (sym goes) (set_elsewhere members one.place place (one_more one.member one.stands) apart ∙ here),
            inr (record {
              other = ap (comes_first member.name) spelled ∙ other_name first member.name differ;
              none = ap (of_name member.name) one.put ∙ of_other_name first member.name one.said naming differ;
              is = refl;
            }),
          )

  -- no name begins with the sign of a remark
  no_remark_of : (line first : List ℕ) (others : List (List ℕ)) → words line ≡ first ∷ others → is_remark first ≡ true → (name : List ℕ) → IsNaming name → is_of name line ≡ false
  no_remark_of line first others spelled remark name naming =
      ap (comes_first name) spelled ∙ other_name first name (λ same. absurd (cc (remark, naming.no_remark, ap is_remark same)))

  one_named : (remark end : Bool) (number : ℕ) (members : List (Member C)) (first : List ℕ) (others : List (List ℕ)) (line answer : List ℕ) (after : List (Member C)) → AreMembers number members → words line ≡ first ∷ others
      → is_remark first ≡ remark
      → TakesNamed inner around remark end members (number + 1) first line answer (Continue after) → Steps number members line answer after
  one_named true end number members first others line answer after are spelled remark (nothing, goes) =
      passed number members line answer after are (no_remark_of line first others spelled remark) nothing (cc goes)
  one_named false true number members first others line answer after are spelled remark (nothing, goes) = absurd (cc goes)
  one_named false false number members first others line answer after are spelled remark (inl one) = answered number members first others line answer after are spelled one
  one_named false false number members first others line answer after are spelled remark (inr (none, put, goes)) = absurd (cc goes)

  one_by : (spelled : List (List ℕ)) (number : ℕ) (members : List (Member C)) (line answer : List ℕ) (after : List (Member C)) → AreMembers number members → words line ≡ spelled
      → TakesWords inner around spelled members (number + 1) line answer (Continue after) → Steps number members line answer after
  one_by [] number members line answer after are spelled (nothing, goes) = passed number members line answer after are (λ name naming. ap (comes_first name) spelled) nothing (cc goes)
  one_by (first ∷ others) number members line answer after are spelled takes =
      one_named (is_remark first) (closes (first ∷ others)) number members first others line answer after are spelled refl takes

  -- ---- one line, and those after it
  more_by : (member next last : Member C) (line : InputLine) (lines : List InputLine) (answer more : List ℕ) → IsNaming member.name → IsOfWholeLines answer → Step member line.text answer next → IsProjected inner next lines more last
      → IsProjected inner member (line ∷ lines) (answer ++ more) last
  more_by member next last line lines answer more naming whole (inl step) later =
      let is : IsProjected inner (one_more member step.stands) lines more last = subst (λ (m : Member C). IsProjected inner m lines more last) step.is later in
      let owns : own_lines member.name (line ∷ lines) ≡ after_first line.text ∷ own_lines member.name lines =
      cond-true (is_of member.name line.text) (after_first line.text ∷ own_lines member.name lines) (own_lines member.name lines) step.own in
      record {
        said = step.said ++ is.said;
        alone = subst (λ (ls : List (List ℕ)). SaysTo inner member.stands member.count ls (step.said ++ is.said) last.stands) (sym owns) (step.said, is.said, step.stands, step.says, refl, is.alone);
        of_it =
            of_both member.name answer more whole
            ∙ (ap (λ (p : List ℕ). p ++ of_name member.name more) (ap (of_name member.name) step.put ∙ (of_own_name member.name step.said naming))
            ∙ (ap (λ (p : List ℕ). named member.name step.said ++ p) is.of_it ∙ sym (named_both member.name step.said is.said (says_whole member.stands _ _ _ _ step.says))));
        name = is.name;
        count = let longer : length (own_lines member.name (line ∷ lines)) ≡ suc (length (own_lines member.name lines)) = ap length owns in omega (arith, longer, is.count);
      }
  more_by member next last line lines answer more naming whole (inr step) later =
      let is : IsProjected inner member lines more last = subst (λ (m : Member C). IsProjected inner m lines more last) step.is later in
      let owns : own_lines member.name (line ∷ lines) ≡ own_lines member.name lines = cond-false (is_of member.name line.text) (after_first line.text ∷ own_lines member.name lines) (own_lines member.name lines) step.other in
      record {
        said = is.said;
        alone = subst (λ (ls : List (List ℕ)). SaysTo inner member.stands member.count ls is.said last.stands) (sym owns) is.alone;
        of_it = of_both member.name answer more whole ∙ (ap (λ (p : List ℕ). p ++ of_name member.name more) step.none ∙ is.of_it);
        name = is.name;
        count = is.count ∙ ap (λ (ls : List (List ℕ)). member.count + length ls) (sym owns);
      }

  pub projects : (lines : List InputLine) (here there : Here (List (Member C))) (put : List ℕ) → AreMembers here.number here.state → Answers (merged_machine inner around spare_capacity) here lines put there
      → AreProjected inner here.number here.state lines put there.state
  projects [] here there put are (nothing, same) =
      let states : here.state ≡ there.state = ap (λ (h : Here (List (Member C))). h.state) same in
      record {
        members_still = let none : here.number ≡ here.number + 0 = omega arith in subst (λ (n : ℕ). AreMembers n there.state) none (subst (λ (ms : List (Member C)). AreMembers here.number ms) states are);
        whole = subst IsOfWholeLines (sym nothing) whole_none;
        each = λ place member is. (
          member,
          subst (λ (ms : List (Member C)). slice_get ms place ≡ Some member) states is,
          record { said = []; alone = (refl, refl); of_it = ap (of_name member.name) nothing ∙ (of_none member.name ∙ sym (named_none member.name)); name = refl; count = omega arith },
        );
      }
  projects (line ∷ lines) here there put are (answer, more, after, replies, all, later) =
      let takes = (goes_only_on_lines (merged_machine inner around spare_capacity) here line lines answer after replies).takes in
      let step = one_by (words line.text) here.number here.state line.text answer after are refl takes in
      let on = projects lines (after_line here line after) there more step.still later in
      record {
        members_still = let count : here.number + 1 + length lines ≡ here.number + length (line ∷ lines) = omega arith in subst (λ (n : ℕ). AreMembers n there.state) count on.members_still;
        whole = subst IsOfWholeLines (sym all) (whole_both answer more step.whole on.whole);
        each = λ place member is.
            let next = step.each place member is in
            let last = on.each place next.0 next.1 in
            (last.0, last.1, subst (λ (p : List ℕ). IsProjected inner member (line ∷ lines) p last.0) (sym all) (more_by member next.0 last.0 line lines answer more (are.names place member is) step.whole next.2 last.2));
      }

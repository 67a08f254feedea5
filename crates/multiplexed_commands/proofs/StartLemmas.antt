-- Of the beginning of many each has its part.
use Rattle.std.proofs.Common.{◌≡◌, ◌≢◌, ℕ, ◌≤◌, List, [], ◌∷◌, ◌++◌, Option, Some, None, zero, suc, refl, sym, ap, ◌∙◌, subst, arith, append-nil}
use Rattle.std.specs.Prelude.{slice_get}
use Rattle.std.specs.Option.{option_map}
use Rattle.std.proofs.lemmas.Option.{slice_get-map}
use Rattle.texts.specs.Lines.{InputLine}
use Rattle.command_engine.specs.Machine.{Machine}
use Rattle.command_engine.specs.Runs.{Here, Answers}
use Rattle.multiplexed_commands.specs.Alone.{MemberState, Runs, Idle, SaysTo}
use Rattle.multiplexed_commands.specs.Starts.{Start, AreStarts, AnsweredAlone, SaysAlone, starts_put, starting_members, initial_member_of}
use Rattle.multiplexed_commands.specs.Merged.{Around, Member, AreMembers, merged_machine}
use Rattle.multiplexed_commands.specs.NamedLines.{named, of_name, IsNaming, IsOfWholeLines}
use Rattle.multiplexed_commands.specs.Projection.{own_lines, IsProjected, SaysWholeLines}
use Rattle.multiplexed_commands.specs.Runs.{HasFixedLines}
use Rattle.multiplexed_commands.proofs.AloneLemmas.{alone, own_come, answered_come, idle_says}
use Rattle.multiplexed_commands.proofs.NamedLineLemmas.{of_own_name, of_other_name, of_none, of_both, named_both, named_whole, whole_both, whole_none}
use Rattle.multiplexed_commands.proofs.ProjectionLemmas.{projects}

module _ {C : Type 0} where
  -- ---- the beginning
  first_start : (start : Start C) (starts : List (Start C)) → AreStarts (start ∷ starts) → IsNaming start.name
  first_start start starts are = are.names 0 start refl

  others_are : (start : Start C) (starts : List (Start C)) → AreStarts (start ∷ starts) → AreStarts starts
  others_are start starts are = record {
    names = λ place one is. are.names (suc place) one is;
    whole = λ place one is. are.whole (suc place) one is;
    different = λ place other one two is also same. let up = are.different (suc place) (suc other) one two is also same in omega (arith, up);
  }

  starts_whole : (starts : List (Start C)) → AreStarts starts → IsOfWholeLines (starts_put starts)
  starts_whole [] are = whole_none
  starts_whole (start ∷ starts) are = whole_both (named start.name start.said) (starts_put starts) (named_whole start.name start.said (first_start start starts are)) (starts_whole starts (others_are start starts are))

  -- if none has a name, nothing is put that begins with it
  none_started : (name : List ℕ) (starts : List (Start C)) → AreStarts starts → ((place : ℕ) (one : Start C) → slice_get starts place ≡ Some one → one.name ≢ name) → of_name name (starts_put starts) ≡ []
  none_started name [] are none = of_none name
  none_started name (start ∷ starts) are none =
      let naming = first_start start starts are in
      of_both name (named start.name start.said) (starts_put starts) (named_whole start.name start.said naming)
      ∙ (ap (λ (p : List ℕ). p ++ of_name name (starts_put starts)) (of_other_name start.name name start.said naming (none 0 start refl))
      ∙ none_started name starts (others_are start starts are) (λ place one is. none (suc place) one is))

  pub of_start : (starts : List (Start C)) (place : ℕ) (one : Start C) → AreStarts starts → slice_get starts place ≡ Some one → of_name one.name (starts_put starts) ≡ named one.name one.said
  of_start [] place one are is = absurd cc
  of_start (start ∷ starts) zero one are is =
      let same : start ≡ one = cc is in
      let naming = first_start start starts are in
      let others : of_name start.name (starts_put starts) ≡ [] =
      none_started start.name starts (others_are start starts are) (λ place other there equal. let apart = are.different (suc place) 0 other start there refl equal in omega (arith, apart)) in
      subst (λ (s : Start C). of_name s.name (starts_put (start ∷ starts)) ≡ named s.name s.said) same
      (of_both start.name (named start.name start.said) (starts_put starts) (named_whole start.name start.said naming)
      ∙ (ap (λ (p : List ℕ). p ++ of_name start.name (starts_put starts)) (of_own_name start.name start.said naming)
      ∙ (ap (λ (p : List ℕ). named start.name start.said ++ p) others ∙ append-nil (named start.name start.said))))
  of_start (start ∷ starts) (suc place) one are is =
      let naming = first_start start starts are in
      let apart : start.name ≢ one.name = λ equal. let same = are.different 0 (suc place) start one refl is equal in omega (arith, same) in
      of_both one.name (named start.name start.said) (starts_put starts) (named_whole start.name start.said naming)
      ∙ (ap (λ (p : List ℕ). p ++ of_name one.name (starts_put starts)) (of_other_name start.name one.name start.said naming apart) ∙ of_start starts place one (others_are start starts are) is)

  -- ---- they are members
  starts_at : (o : Option (Start C)) (member : Member C) → option_map initial_member_of o ≡ Some member → (start : Start C) × (o ≡ Some start) × (initial_member_of start ≡ member)
  starts_at (Some start) member is = (start, refl, cc is)
  starts_at None member is = absurd (cc is)

  start_at : (starts : List (Start C)) (place : ℕ) (member : Member C) → slice_get (starting_members starts) place ≡ Some member → (start : Start C) × (slice_get starts place ≡ Some start) × (initial_member_of start ≡ member)
  start_at starts place member is = starts_at (slice_get starts place) member (sym (slice_get-map initial_member_of starts place) ∙ is)

  are_members : (number : ℕ) (starts : List (Start C)) → AreStarts starts → AreMembers number (starting_members starts)
  are_members number starts are = record {
    counted = λ place member is. let start = start_at starts place member is in let none : 0 ≡ member.count = ap (λ (m : Member C). m.count) start.2 in omega (arith, none);
    names = λ place member is. let start = start_at starts place member is in subst IsNaming (ap (λ (m : Member C). m.name) start.2) (are.names place start.0 start.1);
    different = λ place other member one is also same.
        let start = start_at starts place member is in
        let two = start_at starts other one also in
        are.different place other start.0 two.0 start.1 two.1 (ap (λ (m : Member C). m.name) start.2 ∙ (same ∙ sym (ap (λ (m : Member C). m.name) two.2)));
  }

module _ {C : Type 0} (inner : Machine C) (fixed : HasFixedLines inner) (whole_lines_said : SaysWholeLines inner) (around : Around) (capacity_of : List (Member C) → ℕ) where
  says_alone : (stands : MemberState C) (spare_capacity own_capacity : ℕ) (name : List ℕ) (lines : List InputLine) (said : List ℕ) (last : MemberState C) (number : ℕ) (members : List (Member C)) (there : Here (List (Member C)))
      (put : List ℕ)
      → Answers (merged_machine inner around capacity_of) (record { state = members; number = number; spare_capacity = spare_capacity }) lines put there → spare_capacity ≤ own_capacity
      → SaysTo inner stands 0 (own_lines name lines) said last → SaysAlone inner stands own_capacity (own_lines name lines) said
  says_alone (Runs state) spare_capacity own_capacity name lines said last number members there put answers enough says = (
    last,
    alone inner fixed (own_lines name lines) (record { state = state; number = 0; spare_capacity = own_capacity }) said last
        (own_come name lines spare_capacity own_capacity enough (answered_come inner fixed whole_lines_said around capacity_of lines _ there put answers)) says,
  )
  says_alone Idle spare_capacity own_capacity name lines said last number members there put answers enough says = (idle_says inner 0 (own_lines name lines) said last says).0

  pub answered_alone : AnsweredAlone inner around capacity_of
  answered_alone starts number spare_capacity own_capacity lines put there enough are answers = record { each = each }
    where
      each : (place : ℕ) (start : Start C) → slice_get starts place ≡ Some start
          → (said : List ℕ) × (of_name start.name (starts_put starts ++ put) ≡ named start.name (start.said ++ said)) × SaysAlone inner start.stands own_capacity (own_lines start.name lines) said
      each place start is =
          let here : slice_get (starting_members starts) place ≡ Some (initial_member_of start) = slice_get-map initial_member_of starts place ∙ ap (option_map initial_member_of) is in
          let one = (projects inner whole_lines_said around capacity_of lines (record { state = starting_members starts; number = number; spare_capacity = spare_capacity }) there put (are_members number starts are) answers).each place
          (initial_member_of start) here in
          let it : IsProjected inner (initial_member_of start) lines put one.0 = one.2 in (
            it.said,
            of_both start.name (starts_put starts) put (starts_whole starts are)
                ∙ (ap (λ (p : List ℕ). p ++ of_name start.name put) (of_start starts place start are is)
                ∙ (ap (λ (p : List ℕ). named start.name start.said ++ p) it.of_it ∙ sym (named_both start.name start.said it.said (are.whole place start is)))),
            says_alone start.stands spare_capacity own_capacity start.name lines it.said one.0.stands number (starting_members starts) there put answers enough it.alone,
          )

-- The bytes that a run puts are exact, if the command gives at most one reply.
use Rattle.std.proofs.Common.{◌≡◌, inl, inr, ℕ, List, [], ◌++◌, map, Option, Some, None, refl, sym, ap, ◌∙◌, subst, append_assoc}
use Rattle.std.proofs.lemmas.List.{append_cancel_left, map-append}
use Rattle.texts.specs.Lines.{InputLine, input_lines, whole_lines, unfinished, whole_line, last_line}
use Rattle.texts.proofs.InputLemmas.{input_lines_by, whole_lines-append}
use Rattle.plan_port.specs.Talk.{Piece, Seen, WhereShown}
use Rattle.command_engine.specs.Breaks.{AfterReadFault, BreaksForMemory, read_fault_line}
use Rattle.command_engine.specs.Bytes.{AnswersFirst, IsPrefixOfRun, IsToPutAfterTake, PutsExactly, BytesAreExact}
use Rattle.command_engine.specs.Machine.{Machine}
use Rattle.command_engine.specs.Runs.{begins, Run, Answered}
use Rattle.command_engine.specs.Serves.{PutsFor, Serves}
use Rattle.command_engine.specs.Single.{IsSingle}
use Rattle.command_engine.specs.declared.endings.Status.{Status}
use Rattle.command_engine.specs.declared.endings.Status.TheVariants.{Ended, ReadFault, WriteFault, NoMemory}
use Rattle.command_engine.proofs.PrefixLemmas.{runs_on, reply_prefixes}

-- the lines that come after the whole lines of the first bytes of an input
rest_after : (taken untaken : List ℕ) → List InputLine
rest_after taken untaken = map whole_line (whole_lines (unfinished taken ++ untaken)) ++ last_line (unfinished (taken ++ untaken))

lines_after : (taken untaken : List ℕ) → input_lines (taken ++ untaken) ≡ map whole_line (whole_lines taken) ++ rest_after taken untaken
unfolding rest_after
lines_after taken untaken =
    let lines : map whole_line (whole_lines (taken ++ untaken)) ≡ map whole_line (whole_lines taken) ++ map whole_line (whole_lines (unfinished taken ++ untaken)) =
    ap (λ (ls : List (List ℕ)). map whole_line ls) (whole_lines-append taken untaken) ∙ map-append whole_line (whole_lines taken) (whole_lines (unfinished taken ++ untaken)) in
    input_lines_by (taken ++ untaken)
    ∙ (ap (λ (ls : List InputLine). ls ++ last_line (unfinished (taken ++ untaken))) lines
    ∙ append_assoc (map whole_line (whole_lines taken)) (map whole_line (whole_lines (unfinished taken ++ untaken))) (last_line (unfinished (taken ++ untaken))))

-- what follows from what is shown holds if it is shown
shown : {A : Type 0} (old new : Option A) (P Q : A → A → Type 0) → ((was is : A) → P was is → Q was is) → WhereShown old new P → WhereShown old new Q
shown old None P Q follows is = tt
shown None (Some after) P Q follows is = absurd is
shown (Some before) (Some after) P Q follows is = follows before after is

module _ {C : Type 0} (machine : Machine C) (start : C) where
  -- the answers to the first lines of an input are a prefix of what a run puts for it
  first_prefix : (input put : List ℕ) → AnswersFirst machine start input put → IsPrefixOfRun machine start input put
  first_prefix input put answers = record {
    replies = inl answers;
    whole = λ single all end runs.
        let on = runs_on machine single (begins start) answers.first answers.rest put all answers.there end answers.answers
        (subst (λ (ls : List InputLine). Run machine (begins start) ls all end) answers.divided runs) in
        (on.later, on.put_is);
  }

  -- the whole lines of the first bytes of an input were answered
  pub answered_prefix : (taken untaken said : List ℕ) → Answered machine start taken said → IsPrefixOfRun machine start (taken ++ untaken) said
  answered_prefix taken untaken said answered =
      first_prefix (taken ++ untaken) said (record { first = _; rest = rest_after taken untaken; there = answered.there; divided = lines_after taken untaken; answers = answered.answers })

  -- a take failed, and something was put last
  after_take : (input untaken put last : List ℕ) → (after : AfterReadFault machine start input untaken put last) → IsToPutAfterTake machine start input untaken (after.said ++ read_fault_line)
  after_take input untaken put last after = record {
    taken = after.taken;
    said = after.said;
    all_taken = after.all_taken;
    answered = after.answered;
    prefix = subst (λ (bytes : List ℕ). IsPrefixOfRun machine start bytes after.said) (sym after.all_taken) (answered_prefix after.taken untaken after.said after.answered);
    all = refl;
  }

  memory_prefix : (input untaken put : List ℕ) (pieces : List Piece) → BreaksForMemory machine start input untaken put pieces → IsPrefixOfRun machine start input put
  memory_prefix input untaken put pieces (inl wants) =
      first_prefix input put (record { first = wants.first; rest = _; there = wants.there; divided = wants.divided; answers = wants.answers })
  memory_prefix input untaken put pieces (inr (none, nothing)) =
      first_prefix input put (record { first = []; rest = input_lines input; there = begins start; divided = refl; answers = (nothing, refl) })

  exact_by : (status : Status) (input untaken put : List ℕ) (pieces : List Piece) → PutsFor machine start status input untaken put pieces → PutsExactly machine start status input untaken put
  exact_by (Ended end) input untaken put pieces runs = runs
  exact_by ReadFault input untaken put pieces after =
      subst (λ (p : List ℕ). IsToPutAfterTake machine start input untaken p) (sym after.all) (after_take input untaken put read_fault_line after)
  exact_by WriteFault input untaken put pieces (inl within) =
      inl (record { replies = inr within; whole = λ single all end runs. reply_prefixes machine single start input put all end runs within })
  exact_by WriteFault input untaken put pieces (inr (last, part, after)) =
      inr (
        after.said ++ read_fault_line,
        after_take input untaken put last after,
        (part.0, ap (λ (l : List ℕ). after.said ++ l) part.1 ∙ (sym (append_assoc after.said last part.0) ∙ ap (λ (p : List ℕ). p ++ part.0) (sym after.all))),
      )
  exact_by NoMemory input untaken put pieces breaks = memory_prefix input untaken put pieces breaks

  pub bytes_exact : (status : Status) (before after : Seen) → Serves machine start status before after → BytesAreExact machine start status before after
  bytes_exact status before after ran =
      shown before.talk after.talk _ _ (λ was is inner.
      shown before.left after.left _ _ (λ input untaken puts put all.
      let one : puts.put ≡ put = append_cancel_left was.put puts.put put (sym puts.all ∙ all) in
      subst (λ (p : List ℕ). PutsExactly machine start status input untaken p) one (exact_by status input untaken puts.put puts.pieces puts.puts)) inner) ran.puts

-- The exit status of a run has its cause, if each run of a program's command ends by the causes in its input.
use Rattle.std.proofs.Common.{◌≡◌, ◌⊎◌, inl, inr, ℕ, zero, suc, ◌<◌, List, [], Bool, true, false, Option, Some, None, refl, sym, ap, ◌∙◌, subst, arith}
use Rattle.plan_port.specs.Talk.{Seen}
use Rattle.plan_port.specs.declared.written_bytes.Written.{Written}
use Rattle.plan_port.specs.declared.written_bytes.Written.TheVariants.{All, Part}
use Rattle.plan_port.proofs.Talks.{WhereShown-so}
use Rattle.command_engine.specs.Endings.{end_number, status_number}
use Rattle.command_engine.specs.declared.endings.End.{End}
use Rattle.command_engine.specs.declared.endings.End.TheVariants.{Done, Refused, Fault, Limit, EventRefused}
use Rattle.command_engine.specs.declared.endings.Status.{Status as Ending}
use Rattle.command_engine.specs.declared.endings.Status.TheVariants.{Ended, ReadFault, WriteFault, NoMemory}
use Rattle.command_contracts.specs.Causes.{Causes, EndsByCause, IsAnswer}
use Rattle.command_contracts.specs.ExactBytes.{BytesAreExact}
use Rattle.event_phase.specs.ExecutionPromise.{PutsLast}
use Rattle.command_contracts.specs.Programs.{Program, serves, prints, no_input_number, written_number, Defines, PrintsOne, HasCauses, RunsEndByCause, ServesProgram, when◌run◌else◌}
use Rattle.command_contracts.specs.Requests.{refuses_words, program_of_request}
use Rattle.command_contracts.specs.Statuses.{IsRefusal, HasCauseInInput, StatusHasCause}
use Rattle.command_contracts.specs.declared.status.Status.{Status}
use Rattle.command_contracts.proofs.ExactLemmas.{no_input_below}
use Rattle.command_contracts.proofs.KeptLemmas.{ending_one}

-- ---- whatever the request, each run ends by the causes in its input
pub refused_causes : RunsEndByCause refuses_words
refused_causes = tt

pub requested_program_causes : {A : Type 0} (program : A → Program) (query : Option A) → ((one : A) → RunsEndByCause (program one)) → RunsEndByCause (program_of_request program query)
requested_program_causes program (Some query) each = each query
requested_program_causes program None each = refused_causes

pub chosen_causes : (so : Bool) (one other : Program) → RunsEndByCause one → RunsEndByCause other → RunsEndByCause (when so run one else other)
chosen_causes true one other first second = first
chosen_causes false one other first second = second

-- ---- numbers
-- no run of a command ends with 2
never_two : (ending : Ending) → status_number ending ≡ 2 → ⊥
never_two (Ended Done) is = omega arith
never_two (Ended Refused) is = omega arith
never_two (Ended Fault) is = omega arith
never_two (Ended Limit) is = omega arith
never_two (Ended EventRefused) is = omega arith
never_two ReadFault is = omega arith
never_two WriteFault is = omega arith
never_two NoMemory is = omega arith

-- ends of one number are one
end_one : (end other : End) → end_number end ≡ end_number other → end ≡ other
end_one end other same = let one : Ended end ≡ Ended other = ending_one (Ended end) (Ended other) same in cc

answer_number : (end : End) → IsAnswer end → (end_number end ≡ 0) ⊎ (end_number end ≡ 1)
answer_number Done answer = inl refl
answer_number Refused answer = inr refl
answer_number Fault answer = absurd answer
answer_number Limit answer = absurd answer
answer_number EventRefused answer = absurd answer

below_three : (number : ℕ) → number < 3 → ¬ (number ≡ 2) → (number ≡ 0) ⊎ (number ≡ 1)
below_three zero less not = inl refl
below_three (suc zero) less not = inr refl
below_three (suc (suc number)) less not = let two : suc (suc number) ≡ 2 = omega arith in absurd (not two)

-- ---- the causes in an input
caused_end : (causes : Causes) (input put : List ℕ) (end other : End) → EndsByCause causes input put end → end ≡ other → (IsAnswer other → ⊥) → (line : List ℕ) × causes.refused input other line × PutsLast line put
caused_end causes input put end other ends same never = by (subst (λ (e : End). IsAnswer e ⊎ ((line : List ℕ) × causes.refused input e line × PutsLast line put)) same ends.only)
  where
    by : IsAnswer other ⊎ ((line : List ℕ) × causes.refused input other line × PutsLast line put) → (line : List ℕ) × causes.refused input other line × PutsLast line put
    by (inl answer) = absurd (never answer)
    by (inr reported) = reported

cause_by : (program : Program) (status : Status) (input put : List ℕ) → RunsEndByCause program → Defines program input put status → HasCauseInInput program status input put
cause_by (serves machine start promise) status input put law (end, is, runs) =
    let ends : EndsByCause promise.causes input put end = law input put end runs in
    let number : status.0 ≡ end_number end = ap (λ (s : Status). s.0) is in
    record {
      defined = (end, is, runs);
      fault = λ three. caused_end promise.causes input put end Fault ends (end_one end Fault (sym number ∙ three)) (λ answer. answer);
      limit = λ four. caused_end promise.causes input put end Limit ends (end_one end Limit (sym number ∙ four)) (λ answer. answer);
      event = λ seven. caused_end promise.causes input put end EventRefused ends (end_one end EventRefused (sym number ∙ seven)) (λ answer. answer);
      refused = λ other line first. number ∙ ap end_number (ends.refused other line first);
      whole = λ taken whole. subst (λ (n : ℕ). (n ≡ 0) ⊎ (n ≡ 1)) (sym number) (answer_number end (ends.whole whole));
    }
cause_by (prints answers) status input put law (end, is, answered) =
    let number : status.0 ≡ no_input_number end = ap (λ (s : Status). s.0) is in
    let few = no_input_below end in
    record {
      defined = (end, is, answered);
      fault = λ three. absurd (omega arith);
      limit = λ four. absurd (omega arith);
      event = λ seven. absurd (omega arith);
      refused = λ other line first. absurd first;
      whole = λ taken whole. below_three status.0 (omega arith) (λ two. taken (input, put, (end, ap (λ (n : ℕ). record { 0 = n }) (sym two ∙ number), answered)));
    }

-- ---- the words
words_by : (program : Program) (status : Status) (before after : Seen) → ServesProgram program status before after → status.0 ≡ 2 → IsRefusal program
words_by (serves machine start promise) status before after (ending, number, ran) two =
    absurd (never_two ending (sym (ap (λ (s : Status). s.0) number) ∙ two))
words_by (prints answers) status before after (inl reported) two = by reported.written reported.is
  where
    by : (written : Written) → status ≡ record { 0 = written_number reported.end written } → IsRefusal (prints answers)
    by All is = ([], reported.put, (reported.end, ap (λ (n : ℕ). record { 0 = n }) (sym two ∙ ap (λ (s : Status). s.0) is), reported.answered))
    by (Part count) is = let six : ◌≡◌ {A = ℕ} 6 2 = sym (ap (λ (s : Status). s.0) is) ∙ two in absurd (omega arith)
words_by (prints answers) status before after (inr (number, same)) two =
    let eight : ◌≡◌ {A = ℕ} 8 2 = sym (ap (λ (s : Status). s.0) number) ∙ two in absurd (omega arith)

no_words_by : (program : Program) (status : Status) (before after : Seen) → PrintsOne program → ServesProgram program status before after → IsRefusal program → (status.0 ≡ 2) ⊎ ((status.0 ≡ 6) ⊎ (status.0 ≡ 8))
no_words_by (serves machine start promise) status before after one ran (input, put, (end, is, runs)) =
    absurd (never_two (Ended end) (sym (ap (λ (s : Status). s.0) is)))
no_words_by (prints answers) status before after one (inl reported) (input, put, defines) = by reported.written reported.is
  where
    by : (written : Written) → status ≡ record { 0 = written_number reported.end written } → (status.0 ≡ 2) ⊎ ((status.0 ≡ 6) ⊎ (status.0 ≡ 8))
    by All is =
        let same = one.one input put reported.put (record { 0 = 2 }) (record { 0 = no_input_number reported.end }) defines (reported.end, refl, reported.answered) in
        inl (ap (λ (s : Status). s.0) (is ∙ sym same.1))
    by (Part count) is = inr (inl (ap (λ (s : Status). s.0) is))
no_words_by (prints answers) status before after one (inr (number, same)) refusal = inr (inr (ap (λ (s : Status). s.0) number))

-- whatever the program is
pub status_caused : (program : Program) (status : Status) (before after : Seen) → PrintsOne program → RunsEndByCause program → HasCauses program status before after
    → ServesProgram program status before after → BytesAreExact program status before after → StatusHasCause program status before after
status_caused program status before after one law calls served exact = record {
  calls = calls;
  words = words_by program status before after served;
  no_words = no_words_by program status before after one served;
  input = WhereShown-so before.talk after.talk _ _ (λ was is inner.
      WhereShown-so before.left after.left _ _ (λ input untaken puts put all no_take no_put memory.
      cause_by program status input put law ((puts put all).defined no_take no_put memory)) inner) exact;
}

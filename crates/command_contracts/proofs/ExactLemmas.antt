-- The bytes that the program puts are exact.
use Rattle.std.proofs.Common.{◌≡◌, inl, inr, ℕ, ◌<◌, List, [], ◌++◌, take, drop, refl, sym, ap, ◌∙◌, subst, arith, append-nil}
use Rattle.std.proofs.lemmas.List.{append_cancel_left, take-append-drop}
use Rattle.plan_port.specs.Talk.{Seen, Talk, WhereShown}
use Rattle.plan_port.specs.WrittenBytes.{after_writing}
use Rattle.plan_port.specs.declared.written_bytes.Written.{Written}
use Rattle.plan_port.specs.declared.written_bytes.Written.TheVariants.{All, Part}
use Rattle.plan_port.proofs.Talks.{WhereShown-same, WhereShown-so}
use Rattle.command_engine.specs.Bytes.{IsPrefixOfRun, IsToPutAfterTake as IsToPut, PutsExactly as PutsSo}
use Rattle.command_engine.specs.Endings.{status_number}
use Rattle.command_engine.specs.Machine.{Machine}
use Rattle.command_engine.specs.declared.endings.Status.{Status as Ending}
use Rattle.command_engine.specs.declared.endings.Status.TheVariants.{Ended, ReadFault, WriteFault, NoMemory}
use Rattle.command_engine.proofs.BytesLemmas.{bytes_exact}
use Rattle.command_contracts.specs.ExactBytes.{IsPrefixOfDefined, IsToPutAfterTake, PutsExactly, BytesAreExact}
use Rattle.command_contracts.specs.Programs.{Program, Promise, serves, prints, no_input_number, written_number, DefinesOne, PrintsOne, ServesProgram}
use Rattle.command_contracts.specs.declared.status.Status.{Status}
use Rattle.command_contracts.specs.declared.no_input.NoInputEnd.{NoInputEnd}
use Rattle.command_contracts.specs.declared.no_input.NoInputEnd.TheVariants.{Printed, Refuted, WordsRefused}
use Rattle.command_contracts.proofs.KeptLemmas.{ending_one}

module _ {C : Type 0} (machine : Machine C) (start : C) (promise : Promise) where
  prefix_of : (input put : List ℕ) → IsPrefixOfRun machine start input put → IsPrefixOfDefined (serves machine start promise) input put
  prefix_of input put prefix = record { replies = prefix.replies; defined = λ single all status defines. prefix.whole single all defines.0 defines.2 }

  to_put : (input untaken wanted : List ℕ) → IsToPut machine start input untaken wanted → IsToPutAfterTake (serves machine start promise) input untaken wanted
  to_put input untaken wanted is =
      record { taken = is.taken; said = is.said; all_taken = is.all_taken; answered = is.answered; prefix = prefix_of input is.said is.prefix; all = is.all }

  -- what an ending says of bytes, its number does
  by_number : (ending : Ending) (input untaken put : List ℕ) → PutsSo machine start ending input untaken put
      → PutsExactly (serves machine start promise) (record { 0 = status_number ending }) input untaken put
  by_number (Ended end) input untaken put runs = record {
    defined = λ no_take no_put memory. (end, refl, runs);
    failed_take = λ is. let same : Ended end ≡ ReadFault = ending_one (Ended end) ReadFault is in absurd (cc);
    failed_put = λ is. let same : Ended end ≡ WriteFault = ending_one (Ended end) WriteFault is in absurd (cc);
    no_memory = λ is. let same : Ended end ≡ NoMemory = ending_one (Ended end) NoMemory is in absurd (cc);
  }
  by_number ReadFault input untaken put is = record {
    defined = λ no_take no_put memory. absurd (no_take refl);
    failed_take = λ five. to_put input untaken put is;
    failed_put = λ five. absurd (omega arith);
    no_memory = λ five. absurd (omega arith);
  }
  by_number WriteFault input untaken put (inl prefix) = record {
    defined = λ no_take no_put memory. absurd (no_put refl);
    failed_take = λ six. absurd (omega arith);
    failed_put = λ six. inl (prefix_of input put prefix);
    no_memory = λ six. absurd (omega arith);
  }
  by_number WriteFault input untaken put (inr (wanted, is, prefix)) = record {
    defined = λ no_take no_put memory. absurd (no_put refl);
    failed_take = λ six. absurd (omega arith);
    failed_put = λ six. inr (wanted, to_put input untaken wanted is, prefix);
    no_memory = λ six. absurd (omega arith);
  }
  by_number NoMemory input untaken put prefix = record {
    defined = λ no_take no_put memory. absurd (memory refl);
    failed_take = λ eight. absurd (omega arith);
    failed_put = λ eight. absurd (omega arith);
    no_memory = λ eight. prefix_of input put prefix;
  }

-- an answer without an input that was put whole ends with a number below these
pub no_input_below : (end : NoInputEnd) → no_input_number end < 3
no_input_below Printed = omega arith
no_input_below Refuted = omega arith
no_input_below WordsRefused = omega arith

module _ (answers : List ℕ → NoInputEnd → Type 0) (one : DefinesOne (prints answers)) where
  -- nothing was put
  nothing_put : (input untaken put : List ℕ) → put ≡ [] → PutsExactly (prints answers) (record { 0 = 8 }) input untaken put
  nothing_put input untaken put nothing = record {
    defined = λ no_take no_put memory. absurd (memory refl);
    failed_take = λ eight. absurd (omega arith);
    failed_put = λ eight. absurd (omega arith);
    no_memory = λ eight. record { replies = inl nothing; defined = λ single all status defines. (all, ap (λ (p : List ℕ). p ++ all) (sym nothing)) };
  }

  -- a prefix of an answer was put
  prefix_put : (input put answer : List ℕ) (end : NoInputEnd) (count : ℕ) → answers answer end → put ≡ take count answer → IsPrefixOfDefined (prints answers) input put
  prefix_put input put answer end count answered is =
      let prefix : answer ≡ put ++ drop count answer = sym (take-append-drop count answer) ∙ ap (λ (p : List ℕ). p ++ drop count answer) (sym is) in
      record {
        replies = inr (answer, end, answered, (drop count answer, prefix));
        defined = λ single all status defines.
            let same = one.one input all answer status (record { 0 = no_input_number end }) defines (end, refl, answered) in
            (drop count answer, same.0 ∙ prefix);
      }

  written_so : (written : Written) (input untaken put answer : List ℕ) (end : NoInputEnd) (was is : Talk) → answers answer end → is ≡ after_writing written answer was → is.put ≡ was.put ++ put
      → PutsExactly (prints answers) (record { 0 = written_number end written }) input untaken put
  written_so All input untaken put answer end was is answered after all =
      let same : answer ≡ put = append_cancel_left was.put answer put (sym (ap (λ (t : Talk). t.put) after) ∙ all) in
      let few = no_input_below end in
      record {
        defined = λ no_take no_put memory. (end, refl, subst (λ (p : List ℕ). answers p end) same answered);
        failed_take = λ five. absurd (omega arith);
        failed_put = λ six. absurd (omega arith);
        no_memory = λ eight. absurd (omega arith);
      }
  written_so (Part count) input untaken put answer end was is answered after all =
      let same : take count answer ≡ put = append_cancel_left was.put (take count answer) put (sym (ap (λ (t : Talk). t.put) after) ∙ all) in
      record {
        defined = λ no_take no_put memory. absurd (no_put refl);
        failed_take = λ six. absurd (omega arith);
        failed_put = λ six. inl (prefix_put input put answer end count answered (sym same));
        no_memory = λ six. absurd (omega arith);
      }

-- whatever the program is
pub program_exact : (program : Program) (status : Status) (before after : Seen) → PrintsOne program → ServesProgram program status before after → BytesAreExact program status before after
program_exact (serves {C} machine start promise) status before after one (ending, number, ran) =
    WhereShown-so before.talk after.talk _ _ (λ was is inner.
    WhereShown-so before.left after.left _ _ (λ input untaken exact put all.
    subst (λ (s : Status). PutsExactly (serves machine start promise) s input untaken put) (sym number) (by_number machine start promise ending input untaken put (exact put all))) inner)
    (bytes_exact machine start ending before after ran)
program_exact (prints answers) status before after one (inl prints_so) =
    WhereShown-so before.talk after.talk (λ was is. is ≡ after_writing prints_so.written prints_so.put was) _ (λ was is wrote.
    let Exact : List ℕ → List ℕ → Type 0 = λ input untaken. (put : List ℕ) → is.put ≡ was.put ++ put → PutsExactly (prints answers) status input untaken put in
    let exact : (input : List ℕ) → Exact input input = λ input put all.
    subst (λ (s : Status). PutsExactly (prints answers) s input input put) (sym prints_so.is) (written_so answers one prints_so.written input input put prints_so.put prints_so.end was is prints_so.answered wrote all) in
    subst (λ left. WhereShown before.left left Exact) (sym prints_so.writes.left) (WhereShown-same before.left Exact exact)) prints_so.writes.talk
program_exact (prints answers) status before after one (inr (number, same)) =
    subst (λ (seen : Seen). BytesAreExact (prints answers) status before seen) (sym same)
    (WhereShown-same before.talk _ (λ was. WhereShown-same before.left _ (λ input put all.
    subst (λ (s : Status). PutsExactly (prints answers) s input input put) (sym number)
    (nothing_put answers one input input put (append_cancel_left was.put put [] (sym all ∙ sym (append-nil was.put)))))))

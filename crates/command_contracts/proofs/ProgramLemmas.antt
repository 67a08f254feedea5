-- A program defines at most one pair of bytes and exit status for an input, if its command has at most one reply; and without an input.
use Rattle.std.proofs.Common.{◌≡◌, ℕ, List, Bool, true, false, Option, Some, None, sym, ap, ◌∙◌}
use Rattle.command_engine.specs.AnswersOnce.{answers_once_machine}
use Rattle.command_engine.specs.Endings.{end_number}
use Rattle.command_engine.specs.Machine.{Machine}
use Rattle.command_engine.specs.Phases.{text_then_phase_machine}
use Rattle.command_engine.specs.Readers.{Reader, Refusing}
use Rattle.command_engine.specs.Single.{IsSingle, IsSingleAnswer, IsSingleAtLine}
use Rattle.command_engine.specs.declared.questions.AnswersOnce.{AnswersOnce}
use Rattle.command_engine.specs.declared.endings.End.{End}
use Rattle.command_engine.specs.declared.machines.Flow.{Flow}
use Rattle.command_engine.specs.declared.phases.TextThenPhase.{TextThenPhase}
use Rattle.command_engine.proofs.AnswersOnceLemmas.{answers_once_single}
use Rattle.command_engine.proofs.PhaseLemmas.{text_then_phase_single}
use Rattle.command_engine.proofs.SingleLemmas.{runs_same}
use Rattle.command_contracts.specs.Programs.{Program, Promise, serves, prints, no_input_number, DefinesOne, EachDefinesOne, PrintsOne, when◌run◌else◌}
use Rattle.command_contracts.specs.Requests.{RefusesWords, refuses_words, program_of_request}
use Rattle.command_contracts.specs.declared.no_input.NoInputEnd.{NoInputEnd}
use Rattle.command_contracts.specs.declared.status.Status.{Status}

pub single_defines_one : {C : Type 0} (machine : Machine C) (start : C) (promise : Promise) → IsSingle machine → DefinesOne (serves machine start promise)
single_defines_one machine start promise single = record {
  one = λ input a b x y one other.
      let same = runs_same machine single start input a b one.0 other.0 one.2 other.2 in
      let number : End → Status = λ end. record { 0 = end_number end } in
      (same.0, one.1 ∙ (ap number same.1 ∙ sym other.1));
  single = single;
}

-- a command that answers once defines one if its question has at most one answer
pub answers_once_defines_one : {Q S V F : Type 0} (answers : Q → V → ℕ → List ℕ → End → Type 0) (reader : Reader S V F) (refusing : Refusing F) (start : AnswersOnce Q S) (promise : Promise) → IsSingleAtLine answers
    → DefinesOne (serves (answers_once_machine answers reader refusing) start promise)
answers_once_defines_one answers reader refusing start promise single =
    single_defines_one (answers_once_machine answers reader refusing) start promise (answers_once_single answers reader refusing single)

-- a command of a text and a phase defines one if the phase begins in one way and has at most one reply
pub text_then_phase_defines_one : {B S V F P : Type 0} (begin : B → V → List ℕ → Flow P → Type 0) (reader : Reader S V F) (refusing : Refusing F) (phase : Machine P)
    (start : TextThenPhase B S P) (promise : Promise)
    → IsSingleAnswer begin → IsSingle phase → DefinesOne (serves (text_then_phase_machine begin reader refusing phase) start promise)
text_then_phase_defines_one begin reader refusing phase start promise begins single =
    single_defines_one (text_then_phase_machine begin reader refusing phase) start promise (text_then_phase_single begin reader refusing phase begins single)

-- a command without an input has one answer if it prints at most one, and ends in one way
pub no_input_defines_one : (answers : List ℕ → NoInputEnd → Type 0) → ((a b : List ℕ) (x y : NoInputEnd) → answers a x → answers b y → (a ≡ b) × (x ≡ y)) → DefinesOne (prints answers)
no_input_defines_one answers single = record {
  one = λ input a b x y one other.
      let same = single a b one.0 other.0 one.2 other.2 in
      let number : NoInputEnd → Status = λ end. record { 0 = no_input_number end } in
      (same.0, one.1 ∙ (ap number same.1 ∙ sym other.1));
  single = tt;
}

pub refused_defines_one : DefinesOne refuses_words
refused_defines_one = no_input_defines_one RefusesWords (λ a b x y one other. (one.0 ∙ sym other.0, one.1 ∙ sym other.1))

pub requested_program_defines_one : {A : Type 0} (program : A → Program) (query : Option A) → EachDefinesOne program → DefinesOne (program_of_request program query)
requested_program_defines_one program (Some query) ones = ones.each query
requested_program_defines_one program None ones = refused_defines_one

pub chosen_defines_one : (so : Bool) (one other : Program) → DefinesOne one → DefinesOne other → DefinesOne (when so run one else other)
chosen_defines_one true one other first second = first
chosen_defines_one false one other first second = second

-- ---- answers without an input
pub no_input_one : (answers : List ℕ → NoInputEnd → Type 0) → DefinesOne (prints answers) → PrintsOne (prints answers)
no_input_one answers one = one

pub requested_program_prints_one : {A : Type 0} (program : A → Program) (query : Option A) → ((a : A) → PrintsOne (program a)) → PrintsOne (program_of_request program query)
requested_program_prints_one program (Some query) ones = ones query
requested_program_prints_one program None ones = refused_defines_one

pub chosen_prints_one : (so : Bool) (one other : Program) → PrintsOne one → PrintsOne other → PrintsOne (when so run one else other)
chosen_prints_one true one other first second = first
chosen_prints_one false one other first second = second

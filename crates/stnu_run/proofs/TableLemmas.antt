-- Words are refused exactly if they are not in the table of commands.
use Rattle.std.proofs.Common.{◌≡◌, ◌↔◌, inl, inr, ℕ, List, [], ◌∷◌, Bool, true, false, Option, Some, None, codes, refl, ap, ◌∙◌, arith}
use Rattle.texts.specs.PrintedLines.{printed_line}
use Rattle.command_engine.specs.Endings.{end_number}
use Rattle.command_engine.specs.declared.endings.End.{End}
use Rattle.command_engine.specs.declared.endings.End.TheVariants.{Done, Refused, Fault, Limit, EventRefused}
use Rattle.stnu_run.specs.DefinedRuns.{program_named, program_of}
use Rattle.play_command.specs.ForgeCommand.{PrintsVerdict, forge_program}
use Rattle.command_contracts.specs.Programs.{Program, serves, prints, no_input_number, when◌run◌else◌}
use Rattle.command_contracts.specs.Requests.{program_of_request, refuses_words}
use Rattle.command_contracts.specs.Statuses.{IsRefusal}
use Rattle.play_command.specs.declared.forged_network.ForgeWords.{ForgeWords}
use Rattle.command_contracts.specs.declared.status.Status.{Status}
use Rattle.command_contracts.specs.declared.no_input.NoInputEnd.TheVariants.{WordsRefused}
use Rattle.stnu_run.specs.Table.{AreInTable, AreOfCommand, when◌these◌else◌}

-- ---- what is no refusal
never_two : (end : End) → ◌≡◌ {A = ℕ} 2 (end_number end) → ⊥
never_two Done is = omega arith
never_two Refused is = omega arith
never_two Fault is = omega arith
never_two Limit is = omega arith
never_two EventRefused is = omega arith

-- the program serves a command
abbrev IsServed : Program → Type 0
IsServed (serves machine start promise) = Unit {0}
IsServed (prints answers) = ⊥

pub served_is_none : (program : Program) → IsServed program → ¬ IsRefusal program
served_is_none (serves machine start promise) served (input, put, (end, is, runs)) = never_two end (ap (λ (s : Status). s.0) is)
served_is_none (prints answers) served refusal = absurd served

pub forged_is_none : (words : ForgeWords) → ¬ IsRefusal (forge_program words)
forged_is_none words (input, put, (end, is, reported)) = by reported.verdict.2
  where
    two : ◌≡◌ {A = ℕ} 2 (no_input_number end)
    two = ap (λ (s : Status). s.0) is

    by : {more : List ℕ} → PrintsVerdict reported.net more end → ⊥
    by (inl kept) = let zero : ◌≡◌ {A = ℕ} 2 0 = two ∙ ap no_input_number kept.reported in omega arith
    by (inr refuted) = let one : ◌≡◌ {A = ℕ} 2 1 = two ∙ ap no_input_number refuted.reported in omega arith

-- ---- what is one
pub refused : IsRefusal refuses_words
refused = ([], printed_line (codes "error" ∷ codes "words" ∷ []), (WordsRefused, refl, (refl, refl)))

none_is_some : {A : Type 0} (one : A) → None ≡ Some one → ⊥
none_is_some one is = absurd (cc)

-- ---- line by line of the table
pub requests_exactly : {A : Type 0} (program : A → Program) (query : Option A) (These : A → Type 0) → ((one : A) → ¬ IsRefusal (program one)) → ((one : A) → (query ≡ Some one) ↔ These one)
    → IsRefusal (program_of_request program query) ↔ ¬ ((one : A) × These one)
requests_exactly program (Some one) These never means = (λ refusal held. never one refusal, λ not. absurd (not (one, (means one).0 refl)))
requests_exactly program None These never means = (λ refusal held. none_is_some held.0 ((means held.0).1 held.1), λ not. refused)

pub chosen_exactly : (so : Bool) (one other : Program) (These Others : Type 0) → IsRefusal one ↔ ¬ These → IsRefusal other ↔ ¬ Others → IsRefusal (when so run one else other) ↔ ¬ (when so these These else Others)
chosen_exactly true one other These Others first second = first
chosen_exactly false one other These Others first second = second

pub refused_exactly : IsRefusal refuses_words ↔ ¬ ⊥
refused_exactly = (λ refusal none. none, λ not. refused)

pub words_exactly : ((command : List ℕ) (words : List (List ℕ)) → IsRefusal (program_named command words) ↔ ¬ AreOfCommand command words) → (words : List (List ℕ)) → IsRefusal (program_of words) ↔ ¬ AreInTable words
words_exactly each [] = refused_exactly
words_exactly each (program ∷ []) = refused_exactly
words_exactly each (program ∷ command ∷ words) = each command words

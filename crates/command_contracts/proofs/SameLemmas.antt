-- Words that ask the same of a command define the same.
use Rattle.std.proofs.Common.{◌≡◌, ℕ, List, [], ◌++◌, Bool, true, false, Option, Some, None, refl, sym, subst}
use Rattle.command_words.specs.Arguments.{Arguments}
use Rattle.command_words.specs.Syntax.{Syntax, Text}
use Rattle.command_contracts.specs.Programs.{Program, DefineSame, DefineSameWhereTaken, when◌run◌else◌}
use Rattle.command_contracts.specs.Requests.{requested_by, program_of_request, program_by}
use Rattle.command_contracts.specs.WorkerCounts.{SpellsWorkers, WorkersDecideNothing}
use Rattle.command_contracts.specs.declared.no_input.NoInputEnd.TheVariants.{WordsRefused}
use Rattle.command_contracts.proofs.WorkersLemmas.{request_other, request_without}

pub same_self : (program : Program) → DefineSame program program
same_self program = record { same = λ input put status. (λ defines. defines, λ defines. defines) }

pub chosen_same : (so : Bool) (one other two another : Program) → DefineSame one two → DefineSame other another → DefineSame (when so run one else other) (when so run two else another)
chosen_same true one other two another first second = first
chosen_same false one other two another first second = second

pub taken_self : (program : Program) → DefineSameWhereTaken program program
taken_self program = record { same = λ taken. same_self program }

pub chosen_taken : (so : Bool) (one other two another : Program) → DefineSameWhereTaken one two → DefineSameWhereTaken other another
    → DefineSameWhereTaken (when so run one else other) (when so run two else another)
chosen_taken true one other two another first second = first
chosen_taken false one other two another first second = second

-- requests of which each is there if the other is
one_request : {A : Type 0} (a b : Option A) → ((request : A) → a ≡ Some request → b ≡ Some request) → ((request : A) → b ≡ Some request → a ≡ Some request) → b ≡ a
one_request (Some request) b to from = to request refl
one_request None (Some request) to from = sym (from request refl)
one_request None None to from = refl

module _ {A : Type 0} (program : A → Program) where
  request_same : (one other : Option A) → other ≡ one → DefineSame (program_of_request program one) (program_of_request program other)
  request_same one other is = subst (λ (query : Option A). DefineSame (program_of_request program one) (program_of_request program query)) (sym is) (same_self (program_of_request program one))

  request_taken : (one other : Option A) → ((request : A) → one ≡ Some request → other ≡ Some request) → DefineSameWhereTaken (program_of_request program one) (program_of_request program other)
  request_taken (Some request) other to = record { same = λ taken. request_same (Some request) other (to request refl) }
  request_taken None other to = record { same = λ taken. absurd (taken [] _ (record { 0 = 2 }) (WordsRefused, refl, (refl, refl)) refl) }

  pub other_same : (command : Syntax) (query : Arguments → Option A) (prefix spelled others back : List Text) (count number : ℕ) → WorkersDecideNothing command query → SpellsWorkers count spelled → SpellsWorkers number others
      → DefineSame (program_by command query program (prefix ++ (spelled ++ back))) (program_by command query program (prefix ++ (others ++ back)))
  other_same command query prefix spelled others back count number law spells other =
      request_same (requested_by command query (prefix ++ (spelled ++ back))) (requested_by command query (prefix ++ (others ++ back)))
      (one_request (requested_by command query (prefix ++ (spelled ++ back))) (requested_by command query (prefix ++ (others ++ back)))
      (λ request is. request_other command query law request prefix spelled back count spells is number others other)
      (λ request is. request_other command query law request prefix others back number other is count spelled spells))

  pub without_same : (command : Syntax) (query : Arguments → Option A) (prefix spelled back : List Text) (count : ℕ) → WorkersDecideNothing command query → SpellsWorkers count spelled
      → DefineSameWhereTaken (program_by command query program (prefix ++ (spelled ++ back))) (program_by command query program (prefix ++ back))
  without_same command query prefix spelled back count law spells =
      request_taken (requested_by command query (prefix ++ (spelled ++ back))) (requested_by command query (prefix ++ back))
      (λ request is. request_without command query law request prefix spelled back count spells is)

-- Words of a command among which an option stands: what the same words say without it, and with another value.
use Rattle.std.proofs.Common.{◌≡◌, true, false, List, ◌∷◌, ◌++◌, Option, Some, sym, ap, ◌∙◌, subst}
use Rattle.command_words.specs.Arguments.{Arguments, arguments_by, is_given}
use Rattle.command_words.specs.SpelledWords.{Use, valued, Spells, Says}
use Rattle.command_words.specs.Syntax.{Syntax, Text, is_in, is_option_name, is_sound}
use Rattle.command_contracts.specs.Requests.{requested_by}
use Rattle.command_contracts.proofs.PlaceLemmas.{Placed, placed}
use Rattle.command_contracts.proofs.UseLemmas.{alone, says_without, says_other}
use Rattle.command_contracts.proofs.WorkersLemmas.{meant}

-- The words say uses before and after one of this option, which ask this. `single`: the option is given by that use only; `without`: the
-- words without it say the others; `with_other`: those with another value say it among them.
pub record Among {A : Type 0} (command : Syntax) (query : Arguments → Option A) (name text : Text) (prefix spelled back : List Text) (request : A) : Type 0 where
  pub before : List Use
  pub after : List Use
  pub says : Says command (prefix ++ (spelled ++ back)) (before ++ valued name text ∷ after)
  pub asks : query (arguments_by command (before ++ valued name text ∷ after)) ≡ Some request
  pub single : is_given name (before ++ after) ≡ false
  pub without : Says command (prefix ++ back) (before ++ after)
  pub with_other : (other : Text) (others : List Text) → Spells (valued name other) others → Says command (prefix ++ (others ++ back)) (before ++ valued name other ∷ after)

module _ {A : Type 0} (command : Syntax) (sound : is_sound command ≡ true) (query : Arguments → Option A) (name text : Text) (named : is_option_name name ≡ true) (no_flag : is_in name command.flags ≡ false)
    (request : A) (prefix spelled back : List Text) (spells : Spells (valued name text) spelled) (is : requested_by command query (prefix ++ (spelled ++ back)) ≡ Some request) where
  uses_meant : (uses : List Use) × Says command (prefix ++ (spelled ++ back)) uses × (query (arguments_by command uses) ≡ Some request)
  uses_meant = meant command sound query (prefix ++ (spelled ++ back)) request is

  place : Placed uses_meant.0 name text prefix back
  place = placed command sound name text named no_flag uses_meant.0 prefix spelled back uses_meant.1.spelled uses_meant.1.known spells

  says_placed : Says command (prefix ++ (spelled ++ back)) (place.before ++ valued name text ∷ place.after)
  says_placed = subst (Says command (prefix ++ (spelled ++ back))) place.is uses_meant.1

  pub among : Among command query name text prefix spelled back request
  among = record {
    before = place.before;
    after = place.after;
    says = says_placed;
    asks = ap (λ (uses : List Use). query (arguments_by command uses)) (sym place.is) ∙ uses_meant.2;
    single = alone command name text place.before place.after (prefix ++ (spelled ++ back)) says_placed;
    without = says_without command name text place.before place.after (prefix ++ (spelled ++ back)) says_placed prefix back place.spells_before place.spells_after;
    with_other = λ other others one. says_other command name text place.before place.after (prefix ++ (spelled ++ back)) says_placed other prefix others back place.spells_before one place.spells_after;
  }

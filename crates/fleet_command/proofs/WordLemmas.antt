-- The words of `fleet` are none.
use Rattle.std.proofs.Common.{◌≡◌, ◌↔◌, List, [], ◌∷◌, Some, refl, ap, ◌∙◌}
use Rattle.command_words.specs.SpelledWords.{Use, flag, valued, operand, Says}
use Rattle.command_words.specs.Syntax.{Text}
use Rattle.command_contracts.specs.Requests.{requested_by}
use Rattle.command_contracts.proofs.WorkersLemmas.{asks, meant}
use Rattle.fleet_command.specs.FleetCommand.{fleet_request, fleet_syntax}
use Rattle.fleet_command.specs.declared.fleet_question.FleetQuestion.{FleetQuestion}

no_words : (words : List Text) (uses : List Use) → Says fleet_syntax words uses → words ≡ []
no_words words [] says = says.spelled
no_words words (flag name ∷ uses) says = absurd (cc (says.known.0))
no_words words (valued name text ∷ uses) says = absurd (cc (says.known.0))
no_words words (operand name text ∷ uses) says = absurd (cc (says.known.0))

says_none : Says fleet_syntax [] []
says_none = record { spelled = refl; known = tt; once = refl; operands = refl }

pub fleet_exactly : (words : List Text) (query : FleetQuestion) → requested_by fleet_syntax fleet_request words ≡ Some query ↔ words ≡ []
fleet_exactly words query = (to, from)
  where
    to : requested_by fleet_syntax fleet_request words ≡ Some query → words ≡ []
    to is = let means = meant fleet_syntax refl fleet_request words query is in no_words words means.0 means.1

    from : words ≡ [] → requested_by fleet_syntax fleet_request words ≡ Some query
    from none = ap (requested_by fleet_syntax fleet_request) none ∙ asks fleet_syntax refl fleet_request [] [] says_none

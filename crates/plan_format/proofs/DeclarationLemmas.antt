-- The network of the parts of a plan text, or the line of the first part that is refused.
use Rattle.std.proofs.Common.{◌≡◌, ℕ, ◌+◌, ◌-◌, ◌<◌, ◌≤◌, List, ◌++◌, length, get_or, Some, Result, Ok, Err, refl, sym, ap, ◌∙◌, subst, arith}
use Rattle.std.proofs.lemmas.Option.{slice_get-get_or}
use Rattle.net_model.specs.Network.{Plan}
use Rattle.net_model.specs.BuiltNetwork.{built, place_of, Builds}
use Rattle.net_model.specs.declared.fault.BuildFault.{BuildFault}
use Rattle.net_model.specs.declared.part.Part.{Part}
use Rattle.net_model.proofs.PlaceLemmas.{refused_is}
use Rattle.plan_format.specs.declared.declaration.DeclarationFault.{DeclarationFault}
use Rattle.plan_format.specs.declared.declaration.DeclarationFault.TheVariants as declaration
use Rattle.plan_format.specs.PlanGrammar.{IsPlanText}
use Rattle.plan_format.specs.PlanNetwork.{IsRefusedPart, StatesLine, BuildsParts, AnswersDeclaration}

-- the line at the place of a part
pub states_line : (numbers : List ℕ) (fault : BuildFault) (place : ℕ) → place_of fault ≡ Some place → 0 < place → place ≤ length numbers → StatesLine (declaration.Refused (get_or numbers (place - 1) 0) fault) numbers fault
states_line numbers fault place is above within =
    let next : place ≡ place - 1 + 1 = omega arith in
    (refl, place - 1, is ∙ ap Some next, slice_get-get_or numbers (place - 1) 0 (omega arith))

-- what is stated of parts that are refused
pub builds_stated : (delay : ℕ) (parts : List Part) (numbers : List ℕ) (fault : BuildFault) (stated : DeclarationFault) → Builds (Err fault) (built parts) → StatesLine stated numbers fault → BuildsParts (Err stated) delay parts numbers
builds_stated delay parts numbers fault (declaration.Refused line f) builds statement =
    subst (λ (g : BuildFault). IsRefusedPart parts numbers line g) (sym statement.0) (record {
      index = statement.1;
      refused = refused_is fault (built parts) (statement.1 + 1) builds statement.2;
      place = statement.2;
      at_line = statement.3;
    })
builds_stated delay parts numbers fault declaration.OutOfMemory builds statement = tt

-- what the delay and the parts of a plan text build is what the lines declare
pub declared_by : (answer : Result Plan DeclarationFault) (delay : ℕ) (parts : List Part) (numbers : List ℕ) (plan rest : List (List ℕ)) → BuildsParts answer delay parts numbers → IsPlanText plan delay parts numbers
    → AnswersDeclaration answer (plan ++ rest) rest
declared_by (Ok net) delay parts numbers plan rest builds is =
    record { plan = plan; delay = delay; parts = parts; numbers = numbers; whole = refl; is_plan = is; builds = builds }
declared_by (Err (declaration.Refused line fault)) delay parts numbers plan rest builds is =
    record { plan = plan; rest = rest; delay = delay; parts = parts; numbers = numbers; whole = refl; is_plan = is; part = builds }
declared_by (Err declaration.OutOfMemory) delay parts numbers plan rest builds is = tt

-- What is made of what an input declares as a plan: the network that it builds, or the fault by which it is refused as a whole.
use Rattle.std.specs.Prelude.{◌≡◌, ℕ, ◌-◌, List, Option, Some, None, Result, Ok, Err, unwrap_or, slice_get}
use Rattle.std.specs.Option.{option_and_then}
use Rattle.net_model.specs.BuiltNetwork.{built, declared_net, place_of}
use Rattle.net_model.specs.Network.{Plan}
use Rattle.net_model.specs.declared.fault.BuildFault.{BuildFault}
use Rattle.net_model.specs.declared.part.Part.{Part}
use Rattle.plan_json.specs.Document.{Fault as Wrong, PlanParts, shape, bad_name, number_limit}
use Rattle.plan_json.specs.DocumentReading.{declared}
use Rattle.plan_json.specs.declared.fault.JsonFault.{JsonFault}
use Rattle.plan_json.specs.declared.fault.JsonFault.TheVariants as json
use Rattle.common_answers.specs.declared.faults.Fault.{Fault}
use Rattle.common_answers.specs.declared.faults.Fault.TheVariants.{Part as PartFault, Document}

-- the delay and the parts that a plan text declares, and the number of the line of each part in the input
pub record DeclaredParts : Type 0 where
  pub delay : ℕ
  pub parts : List Part
  pub lines : List ℕ

-- the number of the line of the part that is refused
abbrev pub line_of_part : List ℕ → BuildFault → ℕ
line_of_part lines fault = unwrap_or (option_and_then (λ place. slice_get lines (place - 1)) (place_of fault)) 0

-- what is built, or the part that is refused, reported by the number of its line
abbrev pub built_by : List ℕ → Result Plan BuildFault → Result Plan Fault
built_by lines (Ok net) = Ok net
built_by lines (Err why) = Err (PartFault (line_of_part lines why) why)

-- the network of a delay and of declared parts, or the first part that is refused
abbrev pub network_of_parts : DeclaredParts → Result Plan Fault
network_of_parts declared = built_by declared.lines (declared_net declared.delay declared.parts)

-- a fault of a document, as it is reported
abbrev pub reported : Wrong → JsonFault
reported (shape member place) = json.Shape member place
reported (bad_name member place) = json.BadName member place
reported (number_limit member place) = json.NumberLimit member place

-- what is built, or the part that is refused, reported by its place among the parts
abbrev pub placed_by : Result Plan BuildFault → Result Plan Fault
placed_by (Ok net) = Ok net
placed_by (Err why) = Err (PartFault (unwrap_or (place_of why) 0) why)

-- the network of a document by what its bytes say, or its fault: they have no reading, or it is that of the document, or a part is refused
abbrev pub document_by : Option (Result PlanParts Wrong) → Result Plan Fault
document_by None = Err (Document json.NotJson)
document_by (Some (Err wrong)) = Err (Document (reported wrong))
document_by (Some (Ok plan)) = placed_by (declared_net plan.delay plan.parts)

-- the network of a document of these bytes, or its fault
abbrev pub network_of_document : List ℕ → Result Plan Fault
network_of_document bytes = document_by (declared bytes)

-- The fault of a document by what its bytes say: they have no reading, or it is that of the document; or a part is refused, reported by its place among the
-- parts.
abbrev pub IsDocumentFault : Option (Result PlanParts Wrong) → Fault → Type 0
IsDocumentFault None fault = fault ≡ Document json.NotJson
IsDocumentFault (Some (Err wrong)) fault = fault ≡ Document (reported wrong)
IsDocumentFault (Some (Ok plan)) fault = (why : BuildFault) × (place : ℕ) × (built plan.parts ≡ Err why) × (place_of why ≡ Some place)
    × (fault ≡ PartFault place why)

-- a document is refused as a whole by its fault, and each part that is refused has a place
abbrev pub DocumentsAreRefusedByTheirFaults : Type 0
DocumentsAreRefusedByTheirFaults = (bytes : List ℕ) (fault : Fault) → network_of_document bytes ≡ Err fault → IsDocumentFault (declared bytes) fault

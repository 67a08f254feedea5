-- What the bytes of a document say. What a JSON text is (RFC 8259) is read as `serde_json` reads it.
use Rattle.std.specs.Prelude.{◌≡◌, ◌≤◌, ℕ, List, ◌++◌, Option, Some, None, option_map, Result, Ok, Err, if◌then◌else◌}
use Rattle.std.specs.List.{All}
use Rattle.std.specs.Str.{is_utf8}
use Rattle.net_model.specs.NetworkParts.{IsDeclarable}
use Rattle.net_model.specs.Limits.{most_delay}
use Rattle.serde_json.specs.Data.{Data}
use Rattle.serde_json.specs.Read.{read}
use Rattle.plan_json.specs.declared.fault.JsonFault.{JsonFault}
use Rattle.plan_json.specs.declared.fault.JsonFault.TheVariants.{NotJson, Shape, BadName, NumberLimit, OutOfMemory}
use Rattle.plan_json.specs.Document.{Fault, shape, bad_name, number_limit, PlanParts, document_plan, ◌>>=◌}

-- The value of the bytes, if they have a reading as a JSON text: they are UTF-8, and `serde_json` reads it of them. Of members of one name
-- the last one counts; what nests deeper than 127 has none.
abbrev pub json_value : List ℕ → Option Data
json_value bytes = if is_utf8 bytes then read bytes else None

-- the delay and the parts that the bytes declare, or the first fault of their document; none if they have no reading
abbrev pub declared : List ℕ → Option (Result PlanParts Fault)
declared bytes = option_map document_plan (json_value bytes)

-- the parts that bytes declare can be declared, and their delay is within its limit
abbrev pub DeclaredPartsAreDeclarable : Type 0
DeclaredPartsAreDeclarable = (bytes : List ℕ) (plan : PlanParts) → declared bytes ≡ Some (Ok plan) → All IsDeclarable plan.parts × (plan.delay ≤ most_delay)

-- the fault that was answered is that of what is read, unless memory ran out
abbrev pub Fails : {Y : Type 0} → JsonFault → Result Y Fault → Type 0
Fails NotJson read = ⊥
Fails (Shape list place) read = read ≡ Err (shape list place)
Fails (BadName list place) read = read ≡ Err (bad_name list place)
Fails (NumberLimit list place) read = read ≡ Err (number_limit list place)
Fails OutOfMemory read = Unit {0}

-- the answer is what is read, unless memory ran out
abbrev pub Gives : {X Y : Type 0} → (X → Y) → Result X JsonFault → Result Y Fault → Type 0
Gives seen (Ok x) read = read ≡ Ok (seen x)
Gives seen (Err fault) read = Fails fault read

-- with what came before
abbrev pub with_prefix : {X : Type 0} → List X → Result (List X) Fault → Result (List X) Fault
with_prefix prefix read = read >>= λ rest. Ok (prefix ++ rest)

-- the answer is what the bytes say, unless memory ran out
abbrev pub AnswersReading : {X : Type 0} → (X → PlanParts) → Result X JsonFault → Option (Result PlanParts Fault) → Type 0
AnswersReading seen (Ok x) said = said ≡ Some (Ok (seen x))
AnswersReading seen (Err NotJson) said = said ≡ None
AnswersReading seen (Err (Shape member place)) said = said ≡ Some (Err (shape member place))
AnswersReading seen (Err (BadName member place)) said = said ≡ Some (Err (bad_name member place))
AnswersReading seen (Err (NumberLimit member place)) said = said ≡ Some (Err (number_limit member place))
AnswersReading seen (Err OutOfMemory) said = Unit {0}

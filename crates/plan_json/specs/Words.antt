-- The words by which the faults of documents are printed.
use Rattle.std.specs.Prelude.{ℕ, List, ◌++◌, codes}
use Rattle.std.specs.Fmt.{decimal}
use Rattle.plan_json.specs.declared.fault.JsonFault.{JsonFault}
use Rattle.plan_json.specs.declared.fault.JsonFault.TheVariants.{NotJson, Shape, BadName, NumberLimit, OutOfMemory}
use Rattle.plan_json.specs.declared.fault.Member.{Member}
use Rattle.plan_json.specs.declared.fault.Member.TheVariants.{Top, Points, Bounds, Between, Links}

-- the word of a part of a document
abbrev pub member_word : Member → List ℕ
member_word Top = codes "top"
member_word Points = codes "points"
member_word Bounds = codes "bounds"
member_word Between = codes "between"
member_word Links = codes "links"

-- a fault of a document: its word, the word of the part in which it is, and the place of the item there
abbrev pub json_fault_text : JsonFault → List ℕ
json_fault_text NotJson = codes "not-json"
json_fault_text (Shape member place) = codes "shape " ++ member_word member ++ codes " " ++ decimal place
json_fault_text (BadName member place) = codes "bad-name " ++ member_word member ++ codes " " ++ decimal place
json_fault_text (NumberLimit member place) = codes "limit " ++ member_word member ++ codes " " ++ decimal place ++ codes " number"
json_fault_text OutOfMemory = codes "out of memory"

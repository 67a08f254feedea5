-- What a document declares, and its first fault, by the data of `serde_json`, as relations: what an item is says nothing of an order in
-- which it is tested.
use Rattle.std.specs.Prelude.{◌≡◌, ◌≤◌, ◌<◌, ℕ, ◌+◌, true, ℤ, List, [], ◌∷◌, ◌++◌, length, Some, codes, Result, Ok, Err}
use Rattle.net_model.specs.Names.{is_name, is_short_name}
use Rattle.net_model.specs.Between.{between_parts}
use Rattle.net_model.specs.Limits.{within_limit, most_delay}
use Rattle.net_model.specs.declared.part.Part.{Part}
use Rattle.net_model.specs.declared.part.Part.TheVariants as part
use Rattle.serde_json.specs.Data.{Data}
use Rattle.serde_json.specs.Find.{get, as_str}
use Rattle.std.specs.List.{AllByRecursion}
use Rattle.plan_json.specs.Document.{Fault, shape, bad_name, number_limit, member_of, has_members, known_members, is_version, text_at, whole_at, array_at}
use Rattle.plan_json.specs.Document.{list_or_none, number_or_none, BoundForm, BetweenForm, LinkForm, Lists, PlanParts, document_plan}
use Rattle.plan_json.specs.declared.fault.Member.TheVariants.{Top}
use Rattle.plan_json.specs.declared.place.PartList.{PartList}
use Rattle.plan_json.specs.declared.place.PartList.TheVariants as list

-- ---- the form of an item
-- a value is an object of just `name`, `from`, `to` and `most`, three texts and a whole number
pub record HasBoundForm (value : Data) (form : BoundForm) : Type 0 where
  pub just : has_members 4 value ≡ true
  pub name : text_at (codes "name") value ≡ Some form.name
  pub from : text_at (codes "from") value ≡ Some form.from
  pub to : text_at (codes "to") value ≡ Some form.to
  pub most : whole_at (codes "most") value ≡ Some form.most

-- a value is an object of just `from`, `low`, `high` and `to`, two texts and two whole numbers
pub record HasLinkForm (value : Data) (form : LinkForm) : Type 0 where
  pub just : has_members 4 value ≡ true
  pub from : text_at (codes "from") value ≡ Some form.from
  pub low : whole_at (codes "low") value ≡ Some form.low
  pub high : whole_at (codes "high") value ≡ Some form.high
  pub to : text_at (codes "to") value ≡ Some form.to

-- a value is an object of just `name`, `from`, `low`, `high` and `to`, three texts and two whole numbers
pub record HasBetweenForm (value : Data) (form : BetweenForm) : Type 0 where
  pub just : has_members 5 value ≡ true
  pub name : text_at (codes "name") value ≡ Some form.name
  pub from : text_at (codes "from") value ≡ Some form.from
  pub low : whole_at (codes "low") value ≡ Some form.low
  pub high : whole_at (codes "high") value ≡ Some form.high
  pub to : text_at (codes "to") value ≡ Some form.to

-- an item has the form of its list: a text, or an object of a bound, of two bounds or of a link. With the form come its names and its numbers, each from the
-- left, and the parts that it would declare.
pub data HasForm : PartList → Data → (names : List (List ℕ)) → (numbers : List ℤ) → List Part → Type 0 where
  point : (value : Data) (name : List ℕ) → as_str value ≡ Some name → HasForm list.Points value (name ∷ []) [] (part.Point name ∷ [])
  bound : (value : Data) (form : BoundForm) → HasBoundForm value form
      → HasForm list.Bounds value (form.name ∷ form.from ∷ form.to ∷ []) (form.most ∷ []) (part.Bound form.name form.from form.to form.most ∷ [])
  pair : (value : Data) (form : BetweenForm) → HasBetweenForm value form
      → HasForm list.Between value (form.name ∷ form.from ∷ form.to ∷ []) (form.low ∷ form.high ∷ [])
      (between_parts form.name form.from form.low form.high form.to)
  link : (value : Data) (form : LinkForm) → HasLinkForm value form
      → HasForm list.Links value (form.from ∷ form.to ∷ []) (form.low ∷ form.high ∷ []) (part.Link form.from form.low form.high form.to ∷ [])

-- these texts are names, of which that of two bounds is short; and these numbers are within the limit of a plan
abbrev pub AreAllNames : List (List ℕ) → Type 0
AreAllNames texts = AllByRecursion (λ text. is_name text ≡ true) texts

-- the first of these texts is a short name, if it is that of two bounds
abbrev pub IsFirstShort : PartList → List (List ℕ) → Type 0
IsFirstShort list.Between (name ∷ others) = is_short_name name ≡ true
IsFirstShort of texts = Unit {0}

-- these texts are names, the first of them short if it is that of two bounds
abbrev pub AreNames : PartList → List (List ℕ) → Type 0
AreNames of texts = AreAllNames texts × IsFirstShort of texts

-- these numbers are within the limit of a plan
abbrev pub AreNumbersWithin : List ℤ → Type 0
AreNumbersWithin numbers = AllByRecursion (λ number. within_limit number ≡ true) numbers

-- an item of a list declares parts
pub record DeclaresItem (of : PartList) (value : Data) (declared : List Part) : Type 0 where
  pub names : List (List ℕ)
  pub numbers : List ℤ
  pub form : HasForm of value names numbers declared
  pub named : AreNames of names
  pub within : AreNumbersWithin numbers

-- The faults of an item, by rank: it does not have the form of its list; else one of its names is none; else one of its numbers is beyond
-- the limit.
abbrev pub HasNoForm : PartList → Data → Type 0
HasNoForm of value = (names : List (List ℕ)) (numbers : List ℤ) (declared : List Part) → HasForm of value names numbers declared → ⊥

-- an item has the form of its list, and one of its names is none
pub record HasBadName (of : PartList) (value : Data) : Type 0 where
  pub names : List (List ℕ)
  pub numbers : List ℤ
  pub declared : List Part
  pub form : HasForm of value names numbers declared
  pub some : AreNames of names → ⊥

-- an item has the form of its list and its names are names, and one of its numbers is beyond the limit
pub record HasGreatNumber (of : PartList) (value : Data) : Type 0 where
  pub names : List (List ℕ)
  pub numbers : List ℤ
  pub declared : List Part
  pub form : HasForm of value names numbers declared
  pub named : AreNames of names
  pub some : AreNumbersWithin numbers → ⊥

-- the fault of an item at a place, with the member of its list
abbrev pub IsItemFault : (of : PartList) → (place : ℕ) → Data → Fault → Type 0
IsItemFault of place value (shape member number) = (member ≡ member_of of) × (number ≡ place) × HasNoForm of value
IsItemFault of place value (bad_name member number) = (member ≡ member_of of) × (number ≡ place) × HasBadName of value
IsItemFault of place value (number_limit member number) = (member ≡ member_of of) × (number ≡ place) × HasGreatNumber of value

-- ---- a list
-- the items declare these parts, in order
abbrev pub DeclareItems : PartList → List Data → List Part → Type 0
DeclareItems of [] parts = parts ≡ []
DeclareItems of (value ∷ values) parts = (first : List Part) × (rest : List Part) × DeclaresItem of value first × DeclareItems of values rest
    × (parts ≡ first ++ rest)

-- the first item with a fault: those before it declare parts. So many items come before the list.
pub record IsListFault (of : PartList) (count : ℕ) (values : List Data) (fault : Fault) : Type 0 where
  pub before : List Data
  pub value : Data
  pub after : List Data
  pub parts : List Part
  pub divided : values ≡ before ++ value ∷ after
  pub declare : DeclareItems of before parts
  pub has : IsItemFault of (count + length before + 1) value fault

-- ---- the document
-- an object of version 1 or 2, without members that are not known there, whose lists are lists and whose delay is a whole number from 0
pub record HasTop (document : Data) (lists : Lists) : Type 0 where
  pub known : has_members (known_members document) document ≡ true
  pub version : is_version document ≡ true
  pub points : array_at (codes "points") document ≡ Some lists.points
  pub bounds : list_or_none (get (codes "bounds") document) ≡ Some lists.bounds
  pub between : list_or_none (get (codes "between") document) ≡ Some lists.between
  pub links : list_or_none (get (codes "links") document) ≡ Some lists.links
  pub delay : number_or_none (get (codes "delay") document) ≡ Some lists.delay

-- a document declares a delay within its limit and parts: those of its points, of its bounds, of its pairs of bounds, of its links
pub record DeclaresPlan (document : Data) (plan : PlanParts) : Type 0 where
  pub lists : Lists
  pub top : HasTop document lists
  pub short : lists.delay ≤ most_delay
  pub points : List Part
  pub bounds : List Part
  pub between : List Part
  pub links : List Part
  pub of_points : DeclareItems list.Points lists.points points
  pub of_bounds : DeclareItems list.Bounds lists.bounds bounds
  pub of_between : DeclareItems list.Between lists.between between
  pub of_links : DeclareItems list.Links lists.links links
  pub delay : plan.delay ≡ lists.delay
  pub all : plan.parts ≡ points ++ (bounds ++ (between ++ links))

-- the first fault of a document: the form of its top, else its delay, else the first fault of its points, else of its bounds, else of its
-- pairs of bounds, else of its links
pub data IsFirstDocumentFault (document : Data) (fault : Fault) : Type 0 where
  of_top : ((lists : Lists) → HasTop document lists → ⊥) → fault ≡ shape Top 0 → IsFirstDocumentFault document fault
  of_delay : (lists : Lists) → HasTop document lists → most_delay < lists.delay → fault ≡ number_limit Top 0 → IsFirstDocumentFault document fault
  of_points : (lists : Lists) → HasTop document lists → lists.delay ≤ most_delay → IsListFault list.Points 0 lists.points fault
      → IsFirstDocumentFault document fault
  of_bounds : (lists : Lists) (points : List Part) → HasTop document lists → lists.delay ≤ most_delay → DeclareItems list.Points lists.points points
      → IsListFault list.Bounds 0 lists.bounds fault → IsFirstDocumentFault document fault
  of_between : (lists : Lists) (points bounds : List Part) → HasTop document lists → lists.delay ≤ most_delay → DeclareItems list.Points lists.points points
      → DeclareItems list.Bounds lists.bounds bounds
      → IsListFault list.Between 0 lists.between fault → IsFirstDocumentFault document fault
  of_links : (lists : Lists) (points bounds between : List Part) → HasTop document lists → lists.delay ≤ most_delay
      → DeclareItems list.Points lists.points points → DeclareItems list.Bounds lists.bounds bounds
      → DeclareItems list.Between lists.between between → IsListFault list.Links 0 lists.links fault → IsFirstDocumentFault document fault

-- a document reads as the delay and the parts that it declares, or as its first fault
abbrev pub ReadsAsDeclared : Data → Result PlanParts Fault → Type 0
ReadsAsDeclared document (Ok plan) = DeclaresPlan document plan
ReadsAsDeclared document (Err fault) = IsFirstDocumentFault document fault

-- what is read of a document is what it declares, or its first fault
abbrev pub DocumentsAreReadAsDeclared : Type 0
DocumentsAreReadAsDeclared = (document : Data) → ReadsAsDeclared document (document_plan document)

-- a document declares a plan, or has a first fault, never both, and one at most
abbrev pub DocumentsGiveOneReading : Type 0
DocumentsGiveOneReading = (document : Data) (reading other : Result PlanParts Fault) → ReadsAsDeclared document reading → ReadsAsDeclared document other
    → reading ≡ other

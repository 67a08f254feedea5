-- The delay and the parts that a JSON document declares, or its first fault, by the data of `serde_json`.
use Rattle.std.specs.Prelude.{ℕ, ◌+◌, ◌==◌, ◌||◌, Bool, false, ℤ, pos, negsuc, nat_le, List, [], ◌∷◌, ◌++◌, Option, Some, None, is_some, option_and_then}
use Rattle.std.specs.Prelude.{option_map, Result, Ok, Err, codes, if◌then◌else◌}
use Rattle.net_model.specs.Between.{between_parts}
use Rattle.net_model.specs.Names.{is_name, is_short_name}
use Rattle.net_model.specs.Limits.{within_limit, most_delay}
use Rattle.net_model.specs.declared.part.Part.{Part}
use Rattle.net_model.specs.declared.part.Part.TheVariants as part
use Rattle.serde_json.specs.Data.{Data, Items, no_items, item, Members, no_members, member}
use Rattle.serde_json.specs.Find.{get, as_i64, as_u64, as_str, as_array, as_object, as_number}
use Rattle.plan_json.specs.declared.fault.Member.{Member}
use Rattle.plan_json.specs.declared.fault.Member.TheVariants.{Top, Points, Bounds, Between, Links}
use Rattle.plan_json.specs.declared.place.Place.{Place}
use Rattle.plan_json.specs.declared.place.PartList.{PartList}
use Rattle.plan_json.specs.declared.place.PartList.TheVariants as list

-- a fault of a document, with its member and place: the form of the document or of an item, a text that is no name, a number beyond the
-- limit
pub data Fault : Type 0 where
  shape : Member → ℕ → Fault
  bad_name : Member → ℕ → Fault
  number_limit : Member → ℕ → Fault

infixl 10 ◌>>=◌
abbrev pub ◌>>=◌ : {A B : Type 0} → Result A Fault → (A → Result B Fault) → Result B Fault
(Ok x) >>= next = next x
(Err fault) >>= next = Err fault

-- the value of an option, or else this fault
abbrev pub or_fault : {A : Type 0} → Fault → Option A → Result A Fault
or_fault fault None = Err fault
or_fault fault (Some value) = Ok value

abbrev pub unless : Bool → Fault → Result (Unit {0}) Fault
unless holds fault = if holds then Ok tt else Err fault

-- ---- what the members of an object are

abbrev pub members_count : Members → ℕ
members_count no_members = 0
members_count (member key value members) = members_count members + 1

abbrev pub are_so_many : ℕ → Option Members → Bool
are_so_many count None = false
are_so_many count (Some members) = members_count members == count

-- an object of so many members
abbrev pub has_members : ℕ → Data → Bool
has_members count value = are_so_many count (as_object value)

-- the items of an array
abbrev pub list_of : Items → List Data
list_of no_items = []
list_of (item value items) = value ∷ list_of items

-- a member that is a text, a whole number that fits 64 bits, a list
abbrev pub text_at : List ℕ → Data → Option (List ℕ)
text_at key value = option_and_then as_str (get key value)

abbrev pub whole_of : Data → Option ℤ
whole_of value = option_and_then as_i64 (as_number value)

abbrev pub whole_at : List ℕ → Data → Option ℤ
whole_at key value = option_and_then whole_of (get key value)

abbrev pub array_at : List ℕ → Data → Option (List Data)
array_at key value = option_map list_of (option_and_then as_array (get key value))

-- ---- the items of the lists

abbrev pub member_of : PartList → Member
member_of list.Points = Points
member_of list.Bounds = Bounds
member_of list.Between = Between
member_of list.Links = Links

-- the place after so many items of a list
abbrev pub place_after : PartList → ℕ → Place
place_after list count = record { list = list; number = count + 1 }

abbrev pub shape_at : Place → Fault
shape_at place = shape (member_of place.list) place.number

-- the name that a text is
abbrev pub name_in : Place → List ℕ → Result (List ℕ) Fault
name_in place text = if is_name text then Ok text else Err (bad_name (member_of place.list) place.number)

-- the name that a text is, if it is short
abbrev pub short_name_in : Place → List ℕ → Result (List ℕ) Fault
short_name_in place text = if is_short_name text then Ok text else Err (bad_name (member_of place.list) place.number)

-- a number that a plan may have
abbrev pub number_in : Place → ℤ → Result (Unit {0}) Fault
number_in place number = unless (within_limit number) (number_limit (member_of place.list) place.number)

-- a point: a text
unfoldable pub point_parts : Place → Data → Result (List Part) Fault
point_parts place value = do
  text ← or_fault (shape_at place) (as_str value)
  name ← name_in place text
  Ok (part.Point name ∷ [])

-- what an item has whose form is that of a bound: an object of `name`, `from`, `to` and `most`
pub record BoundForm : Type 0 where
  pub name : List ℕ
  pub from : List ℕ
  pub to : List ℕ
  pub most : ℤ

-- what an item has that is a bound, or its fault if it has another form
unfoldable pub bound_form_at : Place → Data → Result BoundForm Fault
bound_form_at place value = do
  exact ← unless (has_members 4 value) (shape_at place)
  name ← or_fault (shape_at place) (text_at (codes "name") value)
  from ← or_fault (shape_at place) (text_at (codes "from") value)
  to ← or_fault (shape_at place) (text_at (codes "to") value)
  most ← or_fault (shape_at place) (whole_at (codes "most") value)
  Ok (record { name = name; from = from; to = to; most = most })

-- the part that a bound declares, or its first fault
unfoldable pub bound_parts : Place → Data → Result (List Part) Fault
bound_parts place value = do
  form ← bound_form_at place value
  name ← name_in place form.name
  from ← name_in place form.from
  to ← name_in place form.to
  within ← number_in place form.most
  Ok (part.Bound name from to form.most ∷ [])

-- what an item has whose form is that of a link: an object of `from`, `low`, `high` and `to`
pub record LinkForm : Type 0 where
  pub from : List ℕ
  pub low : ℤ
  pub high : ℤ
  pub to : List ℕ

-- what an item has that is a link, or its fault if it has another form
unfoldable pub link_form_at : Place → Data → Result LinkForm Fault
link_form_at place value = do
  exact ← unless (has_members 4 value) (shape_at place)
  from ← or_fault (shape_at place) (text_at (codes "from") value)
  low ← or_fault (shape_at place) (whole_at (codes "low") value)
  high ← or_fault (shape_at place) (whole_at (codes "high") value)
  to ← or_fault (shape_at place) (text_at (codes "to") value)
  Ok (record { from = from; low = low; high = high; to = to })

-- the part that a link declares, or its first fault
unfoldable pub link_parts : Place → Data → Result (List Part) Fault
link_parts place value = do
  form ← link_form_at place value
  from ← name_in place form.from
  to ← name_in place form.to
  low ← number_in place form.low
  high ← number_in place form.high
  Ok (part.Link from form.low form.high to ∷ [])

-- what an item has whose form is that of two bounds that belong together: an object of `name`, `from`, `low`, `high` and `to`
pub record BetweenForm : Type 0 where
  pub name : List ℕ
  pub from : List ℕ
  pub low : ℤ
  pub high : ℤ
  pub to : List ℕ

-- what an item has that is two bounds, or its fault if it has another form
unfoldable pub between_form_at : Place → Data → Result BetweenForm Fault
between_form_at place value = do
  exact ← unless (has_members 5 value) (shape_at place)
  name ← or_fault (shape_at place) (text_at (codes "name") value)
  from ← or_fault (shape_at place) (text_at (codes "from") value)
  low ← or_fault (shape_at place) (whole_at (codes "low") value)
  high ← or_fault (shape_at place) (whole_at (codes "high") value)
  to ← or_fault (shape_at place) (text_at (codes "to") value)
  Ok (record { name = name; from = from; low = low; high = high; to = to })

-- the two parts that two bounds declare, or their first fault
unfoldable pub two_parts : Place → Data → Result (List Part) Fault
two_parts place value = do
  form ← between_form_at place value
  name ← short_name_in place form.name
  from ← name_in place form.from
  to ← name_in place form.to
  low ← number_in place form.low
  high ← number_in place form.high
  Ok (between_parts name from form.low form.high to)

-- the parts of an item: one, or two of two bounds
abbrev pub item_parts : Place → Data → Result (List Part) Fault
item_parts place value =
    elim place.list [
      | list.Points ↦ point_parts place value
      | list.Bounds ↦ bound_parts place value
      | list.Between ↦ two_parts place value
      | list.Links ↦ link_parts place value
    ]

-- the parts of the items of a list after so many others
abbrev pub items_parts : PartList → ℕ → List Data → Result (List Part) Fault
items_parts list count [] = Ok []
items_parts list count (value ∷ values) = do
  first ← item_parts (place_after list count) value
  rest ← items_parts list (count + 1) values
  Ok (first ++ rest)

-- ---- the document

abbrev pub count_of : Option Data → ℕ
count_of found = if is_some found then 1 else 0

-- a document of this version
abbrev pub is_so_many : ℕ → Option ℕ → Bool
is_so_many number None = false
is_so_many number (Some n) = n == number

-- a document says that it is of this version
abbrev pub is_of_version : ℕ → Data → Bool
is_of_version number document = is_so_many number (option_and_then as_u64 (option_and_then as_number (get (codes "stnu") document)))

-- a document of version 1 or 2
abbrev pub is_version : Data → Bool
is_version document = is_of_version 1 document || is_of_version 2 document

-- how many of the members that version 2 has more the document has
abbrev pub second_members : Data → ℕ
second_members document = count_of (get (codes "between") document) + count_of (get (codes "delay") document)

-- how many of the members that a document of its version may have it has
abbrev pub known_members : Data → ℕ
known_members document =
    count_of (get (codes "stnu") document) + count_of (get (codes "points") document)
    + count_of (get (codes "bounds") document) + count_of (get (codes "links") document)
    + (if is_of_version 2 document then second_members document else 0)

-- a list that may be absent
abbrev pub list_or_none : Option Data → Option (List Data)
list_or_none None = Some []
list_or_none (Some value) = option_map list_of (as_array value)

-- a whole number from 0
abbrev pub from_nought : ℤ → Option ℕ
from_nought (pos n) = Some n
from_nought (negsuc n) = None

-- a whole number from 0 that may be absent
abbrev pub number_or_none : Option Data → Option ℕ
number_or_none None = Some 0
number_or_none (Some value) = option_and_then from_nought (whole_of value)

-- the delay and the lists of a document
pub record Lists : Type 0 where
  pub delay : ℕ
  pub points : List Data
  pub bounds : List Data
  pub between : List Data
  pub links : List Data

-- an object of version 1 or 2 without members unknown there, whose lists are lists and whose delay is a whole number from 0
unfoldable pub top_of : Data → Result Lists Fault
top_of document = do
  known ← unless (has_members (known_members document) document) (shape Top 0)
  version ← unless (is_version document) (shape Top 0)
  points ← or_fault (shape Top 0) (array_at (codes "points") document)
  bounds ← or_fault (shape Top 0) (list_or_none (get (codes "bounds") document))
  between ← or_fault (shape Top 0) (list_or_none (get (codes "between") document))
  links ← or_fault (shape Top 0) (list_or_none (get (codes "links") document))
  delay ← or_fault (shape Top 0) (number_or_none (get (codes "delay") document))
  Ok (record { delay = delay; points = points; bounds = bounds; between = between; links = links })

-- a delay within its limit
abbrev pub delay_in : ℕ → Result (Unit {0}) Fault
delay_in delay = unless (nat_le delay most_delay) (number_limit Top 0)

-- the parts of the points, of the bounds, of the pairs of bounds and of the links
unfoldable pub lists_parts : Lists → Result (List Part) Fault
lists_parts lists = do
  points ← items_parts list.Points 0 lists.points
  bounds ← items_parts list.Bounds 0 lists.bounds
  between ← items_parts list.Between 0 lists.between
  links ← items_parts list.Links 0 lists.links
  Ok (points ++ (bounds ++ (between ++ links)))

-- a delay and parts
pub record PlanParts : Type 0 where
  pub delay : ℕ
  pub parts : List Part

-- the delay and the parts of lists whose delay is within its limit
unfoldable pub lists_plan : Lists → Result PlanParts Fault
lists_plan lists = do
  short ← delay_in lists.delay
  parts ← lists_parts lists
  Ok (record { delay = lists.delay; parts = parts })

-- the delay and the parts that a document declares, or its first fault
abbrev pub document_plan : Data → Result PlanParts Fault
document_plan document = do
  lists ← top_of document
  lists_plan lists

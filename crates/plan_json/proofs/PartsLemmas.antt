-- The parts that a document declares can be declared: their names are names, and their numbers are within their limit, as its delay is.
use Rattle.std.proofs.Common.{◌≡◌, ◌≤◌, ℕ, ◌+◌, ℤ, neg_ℤ, nat_le, length, codes, arith, Bool, true, false, List, [], ◌∷◌, ◌++◌, Option, Some, None, Result, Ok, Err, IsTrue, refl, subst, if◌then◌else◌}
use Rattle.std.specs.List.{All}
use Rattle.std.specs.Option.{option_map}
use Rattle.std.proofs.lemmas.List.Elements.{All-nil, All-cons, All-append}
use Rattle.std.proofs.lemmas.Bool.{leb-true}
use Rattle.net_model.specs.Between.{between_parts}
use Rattle.net_model.specs.Limits.{within_limit, most_delay}
use Rattle.net_model.specs.Names.{is_name, is_short_name}
use Rattle.net_model.proofs.BetweenLemmas.{declarable_pair}
use Rattle.plan_json.specs.declared.fault.Member.TheVariants.{Top}
use Rattle.net_model.specs.declared.part.Part.{Part}
use Rattle.net_model.specs.declared.part.Part.TheVariants as part
use Rattle.plan_json.specs.Document.{Fault as Wrong, Lists, PlanParts, ◌>>=◌, bad_name, between_form_at, bound_form_at, bound_parts, delay_in, document_plan, item_parts, items_parts, link_form_at, link_parts, lists_parts, lists_plan}
use Rattle.plan_json.specs.Document.{member_of, name_in, number_in, number_limit, or_fault, place_after, point_parts, shape_at, short_name_in, top_of, two_parts, unless}
use Rattle.net_model.specs.NetworkParts.{IsDeclarable}
use Rattle.plan_json.specs.DocumentReading.{declared, json_value}
use Rattle.plan_json.specs.declared.place.PartList.{PartList}
use Rattle.plan_json.specs.declared.place.PartList.TheVariants as list
use Rattle.plan_json.specs.declared.place.Place.{Place}
use Rattle.serde_json.specs.Data.{Data}
use Rattle.serde_json.specs.Find.{as_str}

-- what gives a value gave one before
bind_ok : {A B : Type 0} (read : Result A Wrong) (next : A → Result B Wrong) (value : B) → (read >>= next) ≡ Ok value → (x : A) × (read ≡ Ok x) × (next x ≡ Ok value)
bind_ok (Ok x) next value is = (x, refl, is)
bind_ok (Err wrong) next value is = absurd (cc)

named : (place : Place) (text name : List ℕ) → name_in place text ≡ Ok name → IsTrue (is_name name)
named place text name = by (is_name text) refl
  where
    by : (test : Bool) → is_name text ≡ test → (if test then Ok text else Err (bad_name (member_of place.list) place.number)) ≡ Ok name → IsTrue (is_name name)
    by true is said = let same : text ≡ name = cc in subst (λ (n : List ℕ). is_name n ≡ true) same is
    by false is said = absurd (cc)

short : (place : Place) (text name : List ℕ) → short_name_in place text ≡ Ok name → IsTrue (is_short_name name)
short place text name = by (is_short_name text) refl
  where
    by : (test : Bool) → is_short_name text ≡ test → (if test then Ok text else Err (bad_name (member_of place.list) place.number)) ≡ Ok name → IsTrue (is_short_name name)
    by true is said = let same : text ≡ name = cc in subst (λ (n : List ℕ). is_short_name n ≡ true) same is
    by false is said = absurd (cc)

small : (place : Place) (number : ℤ) (done : Unit {0}) → number_in place number ≡ Ok done → within_limit number ≡ true
small place number done = by (within_limit number) refl
  where
    by : (test : Bool) → within_limit number ≡ test → unless test (number_limit (member_of place.list) place.number) ≡ Ok done → within_limit number ≡ true
    by true is said = is
    by false is said = absurd (cc)

All-one : (p : Part) → IsDeclarable p → All IsDeclarable (p ∷ [])
All-one p is = All-cons IsDeclarable p [] is (All-nil IsDeclarable)

declarable_point : (place : Place) (value : Data) (declared : List Part) → point_parts place value ≡ Ok declared → All IsDeclarable declared
unfolding point_parts
declarable_point place value declared is =
    let text = bind_ok (or_fault (shape_at place) (as_str value)) (λ text. name_in place text >>= λ name. Ok (part.Point name ∷ [])) declared is in
    let name = bind_ok (name_in place text.0) (λ name. Ok (part.Point name ∷ [])) declared text.2 in
    let same : part.Point name.0 ∷ [] ≡ declared = (let last = name.2 in cc) in
    subst (All IsDeclarable) same (All-one (part.Point name.0) (named place text.0 name.0 name.1))

declarable_bound : (place : Place) (value : Data) (declared : List Part) → bound_parts place value ≡ Ok declared → All IsDeclarable declared
unfolding bound_parts
declarable_bound place value declared is =
    let form = bind_ok (bound_form_at place value) (λ form. name_in place form.name >>= λ name. name_in place form.from >>= λ from. name_in place form.to >>= λ to. number_in place form.most >>= λ within. Ok
    (part.Bound name from to form.most ∷ [])) declared is in
    let name = bind_ok (name_in place form.0.name) (λ name. name_in place form.0.from >>= λ from. name_in place form.0.to >>= λ to. number_in place form.0.most >>= λ within. Ok (part.Bound name from to form.0.most ∷ [])) declared form.2 in
    let from = bind_ok (name_in place form.0.from) (λ from. name_in place form.0.to >>= λ to. number_in place form.0.most >>= λ within. Ok (part.Bound name.0 from to form.0.most ∷ [])) declared name.2 in
    let to = bind_ok (name_in place form.0.to) (λ to. number_in place form.0.most >>= λ within. Ok (part.Bound name.0 from.0 to form.0.most ∷ [])) declared from.2 in
    let within = bind_ok (number_in place form.0.most) (λ within. Ok (part.Bound name.0 from.0 to.0 form.0.most ∷ [])) declared to.2 in
    let same : part.Bound name.0 from.0 to.0 form.0.most ∷ [] ≡ declared = (let last = within.2 in cc) in
    subst (All IsDeclarable) same (All-one (part.Bound name.0 from.0 to.0 form.0.most) (
      named place form.0.name name.0 name.1,
      named place form.0.from from.0 from.1,
      named place form.0.to to.0 to.1,
      small place form.0.most within.0
          within.1,
    ))

declarable_link : (place : Place) (value : Data) (declared : List Part) → link_parts place value ≡ Ok declared → All IsDeclarable declared
unfolding link_parts
declarable_link place value declared is =
    let form = bind_ok (link_form_at place value) (λ form. name_in place form.from >>= λ from. name_in place form.to >>= λ to. number_in place form.low >>= λ low. number_in place form.high >>= λ high. Ok
    (part.Link from form.low form.high to ∷ [])) declared is in
    let from = bind_ok (name_in place form.0.from) (λ from. name_in place form.0.to >>= λ to. number_in place form.0.low >>= λ low. number_in place form.0.high >>= λ high. Ok (part.Link from form.0.low form.0.high to ∷ [])) declared
    form.2 in
    let to = bind_ok (name_in place form.0.to) (λ to. number_in place form.0.low >>= λ low. number_in place form.0.high >>= λ high. Ok (part.Link from.0 form.0.low form.0.high to ∷ [])) declared from.2 in
    let low = bind_ok (number_in place form.0.low) (λ low. number_in place form.0.high >>= λ high. Ok (part.Link from.0 form.0.low form.0.high to.0 ∷ [])) declared to.2 in
    let high = bind_ok (number_in place form.0.high) (λ high. Ok (part.Link from.0 form.0.low form.0.high to.0 ∷ [])) declared low.2 in
    let same : part.Link from.0 form.0.low form.0.high to.0 ∷ [] ≡ declared = (let last = high.2 in cc) in
    subst (All IsDeclarable) same (All-one (part.Link from.0 form.0.low form.0.high to.0) (named place form.0.from from.0 from.1, small place form.0.low low.0 low.1, small place form.0.high high.0 high.1, named place form.0.to to.0 to.1))

declarable_two : (place : Place) (value : Data) (declared : List Part) → two_parts place value ≡ Ok declared → All IsDeclarable declared
unfolding two_parts
declarable_two place value declared is =
    let form = bind_ok (between_form_at place value) (λ form. short_name_in place form.name >>= λ name. name_in place form.from >>= λ from. name_in place form.to >>= λ to. number_in place form.low >>= λ low. number_in place form.high >>= λ
    high. Ok (between_parts name from form.low form.high to)) declared is in
    let name = bind_ok (short_name_in place form.0.name) (λ name. name_in place form.0.from >>= λ from. name_in place form.0.to >>= λ to. number_in place form.0.low >>= λ low. number_in place form.0.high >>= λ high. Ok
    (between_parts name from form.0.low form.0.high to)) declared form.2 in
    let from = bind_ok (name_in place form.0.from) (λ from. name_in place form.0.to >>= λ to. number_in place form.0.low >>= λ low. number_in place form.0.high >>= λ high. Ok (between_parts name.0 from form.0.low form.0.high to)) declared
    name.2 in
    let to = bind_ok (name_in place form.0.to) (λ to. number_in place form.0.low >>= λ low. number_in place form.0.high >>= λ high. Ok (between_parts name.0 from.0 form.0.low form.0.high to)) declared from.2 in
    let low = bind_ok (number_in place form.0.low) (λ low. number_in place form.0.high >>= λ high. Ok (between_parts name.0 from.0 form.0.low form.0.high to.0)) declared to.2 in
    let high = bind_ok (number_in place form.0.high) (λ high. Ok (between_parts name.0 from.0 form.0.low form.0.high to.0)) declared low.2 in
    let same : between_parts name.0 from.0 form.0.low form.0.high to.0 ≡ declared = (let last = high.2 in cc) in
    subst (All IsDeclarable) same (declarable_pair name.0 from.0 form.0.low form.0.high to.0 (short place form.0.name name.0 name.1) (named place form.0.from from.0 from.1) (small place form.0.low low.0 low.1)
    (small place form.0.high high.0 high.1) (named place form.0.to to.0 to.1))

declarable_item : (of : PartList) (count : ℕ) (value : Data) (declared : List Part) → item_parts (place_after of count) value ≡ Ok declared → All IsDeclarable declared
declarable_item list.Points count value declared is = declarable_point (place_after list.Points count) value declared is
declarable_item list.Bounds count value declared is = declarable_bound (place_after list.Bounds count) value declared is
declarable_item list.Between count value declared is = declarable_two (place_after list.Between count) value declared is
declarable_item list.Links count value declared is = declarable_link (place_after list.Links count) value declared is

declarable_items : (of : PartList) (count : ℕ) (values : List Data) (parts : List Part) → items_parts of count values ≡ Ok parts → All IsDeclarable parts
declarable_items of count [] parts is = let same : [] ≡ parts = cc in subst (All IsDeclarable) same (All-nil IsDeclarable)
declarable_items of count (value ∷ values) parts is =
    let first = bind_ok (item_parts (place_after of count) value) (λ first. items_parts of (count + 1) values >>= λ rest. Ok (first ++ rest)) parts is in
    let rest = bind_ok (items_parts of (count + 1) values) (λ rest. Ok (first.0 ++ rest)) parts first.2 in
    let same : first.0 ++ rest.0 ≡ parts = (let last = rest.2 in cc) in
    subst (All IsDeclarable) same (All-append IsDeclarable first.0 rest.0 (declarable_item of count value first.0 first.1) (declarable_items of (count + 1) values rest.0 rest.1))

declarable_lists : (lists : Lists) (parts : List Part) → lists_parts lists ≡ Ok parts → All IsDeclarable parts
unfolding lists_parts
declarable_lists lists parts is =
    let points = bind_ok (items_parts list.Points 0 lists.points) (λ points. items_parts list.Bounds 0 lists.bounds >>= λ bounds. items_parts list.Between 0 lists.between >>= λ between. items_parts list.Links 0 lists.links >>= λ links. Ok
    (points ++ (bounds ++ (between ++ links)))) parts is in
    let bounds = bind_ok (items_parts list.Bounds 0 lists.bounds) (λ bounds. items_parts list.Between 0 lists.between >>= λ between. items_parts list.Links 0 lists.links >>= λ links. Ok (points.0 ++ (bounds ++ (between ++ links)))) parts
    points.2 in
    let between = bind_ok (items_parts list.Between 0 lists.between) (λ between. items_parts list.Links 0 lists.links >>= λ links. Ok (points.0 ++ (bounds.0 ++ (between ++ links)))) parts bounds.2 in
    let links = bind_ok (items_parts list.Links 0 lists.links) (λ links. Ok (points.0 ++ (bounds.0 ++ (between.0 ++ links)))) parts between.2 in
    let same : points.0 ++ (bounds.0 ++ (between.0 ++ links.0)) ≡ parts = (let last = links.2 in cc) in
    subst (All IsDeclarable) same (All-append IsDeclarable points.0 (bounds.0 ++ (between.0 ++ links.0)) (declarable_items list.Points 0 lists.points points.0 points.1)
    (All-append IsDeclarable bounds.0 (between.0 ++ links.0) (declarable_items list.Bounds 0 lists.bounds bounds.0 bounds.1)
    (All-append IsDeclarable between.0 links.0 (declarable_items list.Between 0 lists.between between.0 between.1) (declarable_items list.Links 0 lists.links links.0 links.1))))

short_delay : (delay : ℕ) (done : Unit {0}) → delay_in delay ≡ Ok done → delay ≤ most_delay
short_delay delay done = by (nat_le delay most_delay) refl
  where
    by : (test : Bool) → nat_le delay most_delay ≡ test → unless test (number_limit Top 0) ≡ Ok done → delay ≤ most_delay
    by true is said = leb-true delay most_delay is
    by false is said = absurd (cc)

declarable_plan : (lists : Lists) (plan : PlanParts) → lists_plan lists ≡ Ok plan → All IsDeclarable plan.parts × (plan.delay ≤ most_delay)
unfolding lists_plan
declarable_plan lists plan is =
    let short = bind_ok (delay_in lists.delay) (λ short. lists_parts lists >>= λ parts. Ok (record { delay = lists.delay; parts = parts })) plan is in
    let parts = bind_ok (lists_parts lists) (λ parts. Ok (record { delay = lists.delay; parts = parts })) plan short.2 in
    let made : PlanParts = record { delay = lists.delay; parts = parts.0 } in
    let same : made ≡ plan = (let last : Ok made ≡ Ok plan = parts.2 in cc) in
    subst (λ (p : PlanParts). All IsDeclarable p.parts × (p.delay ≤ most_delay)) same (declarable_lists lists parts.0 parts.1, short_delay lists.delay short.0 short.1)

declarable_document : (document : Data) (plan : PlanParts) → document_plan document ≡ Ok plan → All IsDeclarable plan.parts × (plan.delay ≤ most_delay)
declarable_document document plan is = let lists = bind_ok (top_of document) lists_plan plan is in declarable_plan lists.0 plan lists.2

-- the parts that bytes declare can be declared, and their delay is within its limit
pub said_declarable : (bytes : List ℕ) (plan : PlanParts) → declared bytes ≡ Some (Ok plan) → All IsDeclarable plan.parts × (plan.delay ≤ most_delay)
said_declarable bytes plan = by (json_value bytes)
  where
    by : (value : Option Data) → option_map document_plan value ≡ Some (Ok plan) → All IsDeclarable plan.parts × (plan.delay ≤ most_delay)
    by None is = absurd (cc)
    by (Some document) is = let same : document_plan document ≡ Ok plan = cc in declarable_document document plan same

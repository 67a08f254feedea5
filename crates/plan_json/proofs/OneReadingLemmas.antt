-- A document is read as one thing at most: what it declares, or its first fault.
use Rattle.std.proofs.Common.{◌≡◌, ◌≤◌, ◌<◌, Bool, ℕ, ◌+◌, ℤ, List, [], ◌∷◌, ◌++◌, length, Some, Result, Ok, Err, refl, sym, ap, ◌∙◌, subst, arith}
use Rattle.std.proofs.lemmas.Bool.{le-leb, lt-leb}
use Rattle.net_model.specs.Between.{between_parts}
use Rattle.net_model.specs.Limits.{most_delay}
use Rattle.net_model.specs.declared.part.Part.{Part}
use Rattle.net_model.specs.declared.part.Part.TheVariants as part
use Rattle.plan_json.specs.Document.{Fault as Wrong, shape, bad_name, number_limit, BoundForm, BetweenForm, LinkForm, Lists, PlanParts, ◌>>=◌, delay_in, document_plan, item_parts, items_parts, lists_parts, lists_plan, top_of, unless}
use Rattle.plan_json.specs.DocumentGrammar.{HasBoundForm, HasBetweenForm, HasLinkForm, HasForm, point, bound, pair, link, AreNames, AreNumbersWithin, DeclaresItem, HasNoForm, HasBadName, HasGreatNumber, IsItemFault, DeclareItems}
use Rattle.plan_json.specs.DocumentGrammar.{IsListFault, HasTop, DeclaresPlan, IsFirstDocumentFault, of_top, of_delay, of_points, of_bounds, of_between, of_links, ReadsAsDeclared}
use Rattle.plan_json.specs.declared.place.PartList.{PartList}
use Rattle.plan_json.specs.declared.place.PartList.TheVariants as list
use Rattle.plan_json.specs.declared.fault.Member.TheVariants.{Top}
use Rattle.plan_json.proofs.GrammarLemmas.{ItemReads, TopReads, item_reads, top_reads}
use Rattle.serde_json.specs.Data.{Data}

some_inj : {X : Type 0} {x y : X} → Some x ≡ Some y → x ≡ y
some_inj same = cc

-- ---- an item has one form
record SameForm (names others : List (List ℕ)) (numbers more : List ℤ) (declared other : List Part) : Type 0 where
  names_are : names ≡ others
  numbers_are : numbers ≡ more
  parts_are : declared ≡ other

same_bound : (value : Data) (form other : BoundForm) → HasBoundForm value form → HasBoundForm value other → form ≡ other
same_bound value form other a b = λ i. record {
  name = some_inj (sym a.name ∙ b.name) i;
  from = some_inj (sym a.from ∙ b.from) i;
  to = some_inj (sym a.to ∙ b.to) i;
  most = some_inj (sym a.most ∙ b.most) i;
}

same_between : (value : Data) (form other : BetweenForm) → HasBetweenForm value form → HasBetweenForm value other → form ≡ other
same_between value form other a b = λ i. record {
  name = some_inj (sym a.name ∙ b.name) i;
  from = some_inj (sym a.from ∙ b.from) i;
  low = some_inj (sym a.low ∙ b.low) i;
  high = some_inj (sym a.high ∙ b.high) i;
  to = some_inj (sym a.to ∙ b.to) i;
}

same_link : (value : Data) (form other : LinkForm) → HasLinkForm value form → HasLinkForm value other → form ≡ other
same_link value form other a b = λ i. record {
  from = some_inj (sym a.from ∙ b.from) i;
  low = some_inj (sym a.low ∙ b.low) i;
  high = some_inj (sym a.high ∙ b.high) i;
  to = some_inj (sym a.to ∙ b.to) i;
}

same_form : (of : PartList) (value : Data) (names others : List (List ℕ)) (numbers more : List ℤ) (declared other : List Part)
    → HasForm of value names numbers declared → HasForm of value others more other → SameForm names others numbers more declared other
same_form list.Points value _ _ _ _ _ _ (point _ name is) (point _ other was) =
    let same : name ≡ other = some_inj (sym is ∙ was) in
    record { names_are = ap (λ (n : List ℕ). n ∷ []) same; numbers_are = refl; parts_are = ap (λ (n : List ℕ). part.Point n ∷ []) same }
same_form list.Bounds value _ _ _ _ _ _ (bound _ form is) (bound _ other was) =
    let same : form ≡ other = same_bound value form other is was in
    record {
      names_are = ap (λ (f : BoundForm). f.name ∷ f.from ∷ f.to ∷ []) same;
      numbers_are = ap (λ (f : BoundForm). f.most ∷ []) same;
      parts_are = ap (λ (f : BoundForm). part.Bound f.name f.from f.to f.most ∷ []) same;
    }
same_form list.Between value _ _ _ _ _ _ (pair _ form is) (pair _ other was) =
    let same : form ≡ other = same_between value form other is was in
    record {
      names_are = ap (λ (f : BetweenForm). f.name ∷ f.from ∷ f.to ∷ []) same;
      numbers_are = ap (λ (f : BetweenForm). f.low ∷ f.high ∷ []) same;
      parts_are = ap (λ (f : BetweenForm). between_parts f.name f.from f.low f.high f.to) same;
    }
same_form list.Links value _ _ _ _ _ _ (link _ form is) (link _ other was) =
    let same : form ≡ other = same_link value form other is was in
    record {
      names_are = ap (λ (f : LinkForm). f.from ∷ f.to ∷ []) same;
      numbers_are = ap (λ (f : LinkForm). f.low ∷ f.high ∷ []) same;
      parts_are = ap (λ (f : LinkForm). part.Link f.from f.low f.high f.to ∷ []) same;
    }

-- ---- an item is read as one thing
no_form_declares : (of : PartList) (value : Data) (declared : List Part) → DeclaresItem of value declared → HasNoForm of value → ⊥
no_form_declares of value declared is none = none is.names is.numbers declared is.form

bad_name_declares : (of : PartList) (value : Data) (declared : List Part) → DeclaresItem of value declared → HasBadName of value → ⊥
bad_name_declares of value declared is bad =
    let same = same_form of value is.names bad.names is.numbers bad.numbers declared bad.declared is.form bad.form in
    bad.some (subst (AreNames of) same.names_are is.named)

great_declares : (of : PartList) (value : Data) (declared : List Part) → DeclaresItem of value declared → HasGreatNumber of value → ⊥
great_declares of value declared is great =
    let same = same_form of value is.names great.names is.numbers great.numbers declared great.declared is.form great.form in
    great.some (subst AreNumbersWithin same.numbers_are is.within)

bad_name_great : (of : PartList) (value : Data) → HasBadName of value → HasGreatNumber of value → ⊥
bad_name_great of value bad great =
    let same = same_form of value great.names bad.names great.numbers bad.numbers great.declared bad.declared great.form bad.form in
    bad.some (subst (AreNames of) same.names_are great.named)

no_fault_declares : (of : PartList) (number : ℕ) (value : Data) (declared : List Part) (fault : Wrong) → DeclaresItem of value declared → IsItemFault of number value fault → ⊥
no_fault_declares of number value declared (shape member place) is (_, _, none) = no_form_declares of value declared is none
no_fault_declares of number value declared (bad_name member place) is (_, _, bad) = bad_name_declares of value declared is bad
no_fault_declares of number value declared (number_limit member place) is (_, _, great) = great_declares of value declared is great

one_fault : (of : PartList) (number : ℕ) (value : Data) (fault other : Wrong) → IsItemFault of number value fault → IsItemFault of number value other → fault ≡ other
one_fault of number value (shape m p) (shape n q) (mm, pp, _) (nn, qq, _) = λ i. shape ((mm ∙ sym nn) i) ((pp ∙ sym qq) i)
one_fault of number value (shape m p) (bad_name n q) (_, _, none) (_, _, bad) = absurd (none bad.names bad.numbers bad.declared bad.form)
one_fault of number value (shape m p) (number_limit n q) (_, _, none) (_, _, great) = absurd (none great.names great.numbers great.declared great.form)
one_fault of number value (bad_name m p) (shape n q) (_, _, bad) (_, _, none) = absurd (none bad.names bad.numbers bad.declared bad.form)
one_fault of number value (bad_name m p) (bad_name n q) (mm, pp, _) (nn, qq, _) = λ i. bad_name ((mm ∙ sym nn) i) ((pp ∙ sym qq) i)
one_fault of number value (bad_name m p) (number_limit n q) (_, _, bad) (_, _, great) = absurd (bad_name_great of value bad great)
one_fault of number value (number_limit m p) (shape n q) (_, _, great) (_, _, none) = absurd (none great.names great.numbers great.declared great.form)
one_fault of number value (number_limit m p) (bad_name n q) (_, _, great) (_, _, bad) = absurd (bad_name_great of value bad great)
one_fault of number value (number_limit m p) (number_limit n q) (mm, pp, _) (nn, qq, _) = λ i. number_limit ((mm ∙ sym nn) i) ((pp ∙ sym qq) i)

item_one : (of : PartList) (number : ℕ) (value : Data) (read other : Result (List Part) Wrong) → ItemReads of number value read → ItemReads of number value other → read ≡ other
item_one of number value (Ok declared) (Ok other) is was =
    ap Ok (same_form of value is.names was.names is.numbers was.numbers declared other is.form was.form).parts_are
item_one of number value (Ok declared) (Err fault) is was = absurd (no_fault_declares of number value declared fault is was)
item_one of number value (Err fault) (Ok declared) is was = absurd (no_fault_declares of number value declared fault was is)
item_one of number value (Err fault) (Err other) is was = ap Err (one_fault of number value fault other is was)

item_is : (of : PartList) (number : ℕ) (value : Data) (read : Result (List Part) Wrong) → ItemReads of number value read → item_parts (record { list = of; number = number }) value ≡ read
item_is of number value read is = item_one of number value (item_parts (record { list = of; number = number }) value) read (item_reads of number value) is

-- ---- a list is read as one thing
abbrev after_first : Result (List Part) Wrong → Result (List Part) Wrong → Result (List Part) Wrong
after_first first rest = first >>= λ first. rest >>= λ rest. Ok (first ++ rest)

declared_is : (of : PartList) (count : ℕ) (values : List Data) (parts : List Part) → DeclareItems of values parts → items_parts of count values ≡ Ok parts
declared_is of count [] parts is = ap Ok (sym is)
declared_is of count (value ∷ values) parts (first, rest, here, there, whole) =
    (λ i. after_first (item_is of (count + 1) value (Ok first) here i) (declared_is of (count + 1) values rest there i)) ∙ ap Ok (sym whole)

same_place : (count : ℕ) → count + 0 + 1 ≡ count + 1
same_place count = omega arith

later_place : (count : ℕ) (value : Data) (before : List Data) → count + length (value ∷ before) + 1 ≡ count + 1 + length before + 1
later_place count value before = omega arith

fault_is : (of : PartList) (count : ℕ) (before : List Data) (value : Data) (after : List Data) (parts : List Part) (fault : Wrong) → DeclareItems of before parts
    → IsItemFault of (count + length before + 1) value fault → items_parts of count (before ++ value ∷ after) ≡ Err fault
fault_is of count [] value after parts fault declare has =
    let here = item_is of (count + 1) value (Err fault) (subst (λ (n : ℕ). IsItemFault of n value fault) (same_place count) has) in
    ap (λ (first : Result (List Part) Wrong). after_first first (items_parts of (count + 1) after)) here
fault_is of count (one ∷ before) value after parts fault (first, rest, here, there, whole) has =
    let there_too = fault_is of (count + 1) before value after rest fault there (subst (λ (n : ℕ). IsItemFault of n value fault) (later_place count one before) has) in
    λ i. after_first (item_is of (count + 1) one (Ok first) here i) (there_too i)

list_fault_is : (of : PartList) (values : List Data) (fault : Wrong) → IsListFault of 0 values fault → items_parts of 0 values ≡ Err fault
list_fault_is of values fault is =
    ap (items_parts of 0) is.divided ∙ fault_is of 0 is.before is.value is.after is.parts fault is.declare is.has

-- ---- a document is read as one thing
same_lists : (document : Data) (lists other : Lists) → HasTop document lists → HasTop document other → lists ≡ other
same_lists document lists other a b = λ i. record {
  delay = some_inj (sym a.delay ∙ b.delay) i;
  points = some_inj (sym a.points ∙ b.points) i;
  bounds = some_inj (sym a.bounds ∙ b.bounds) i;
  between = some_inj (sym a.between ∙ b.between) i;
  links = some_inj (sym a.links ∙ b.links) i;
}

top_is : (document : Data) (lists : Lists) → HasTop document lists → top_of document ≡ Ok lists
top_is document lists top = by (top_of document) (top_reads document)
  where
    by : (read : Result Lists Wrong) → TopReads document read → read ≡ Ok lists
    by (Ok other) is = ap Ok (same_lists document other lists is top)
    by (Err wrong) (none, is) = absurd (none lists top)

no_top_is : (document : Data) → ((lists : Lists) → HasTop document lists → ⊥) → top_of document ≡ Err (shape Top 0)
no_top_is document none = by (top_of document) (top_reads document)
  where
    by : (read : Result Lists Wrong) → TopReads document read → read ≡ Err (shape Top 0)
    by (Ok lists) top = absurd (none lists top)
    by (Err wrong) (other, is) = ap Err is

abbrev joined : (points bounds between links : Result (List Part) Wrong) → Result (List Part) Wrong
joined points bounds between links = points >>= λ points. bounds >>= λ bounds. between >>= λ between. links >>= λ links. Ok (points ++ (bounds ++ (between ++ links)))

abbrev plan_in_lists : ℕ → Result (Unit {0}) Wrong → Result (List Part) Wrong → Result PlanParts Wrong
plan_in_lists delay short parts = short >>= λ short. parts >>= λ parts. Ok (record { delay = delay; parts = parts })

joined_is : (lists : Lists) → lists_plan lists ≡ plan_in_lists lists.delay (delay_in lists.delay) (joined (items_parts list.Points 0 lists.points) (items_parts list.Bounds 0 lists.bounds) (items_parts list.Between 0 lists.between)
    (items_parts list.Links 0 lists.links))
unfolding lists_parts lists_plan
joined_is lists = refl

after_top : (document : Data) (lists : Lists) → HasTop document lists
    → document_plan document ≡ plan_in_lists lists.delay (delay_in lists.delay) (joined (items_parts list.Points 0 lists.points) (items_parts list.Bounds 0 lists.bounds) (items_parts list.Between 0 lists.between)
    (items_parts list.Links 0 lists.links))
after_top document lists top = ap (λ (read : Result Lists Wrong). read >>= lists_plan) (top_is document lists top) ∙ joined_is lists

short_is : (delay : ℕ) → delay ≤ most_delay → delay_in delay ≡ Ok tt
short_is delay short = ap (λ (b : Bool). unless b (number_limit Top 0)) (le-leb delay most_delay short)

long_is : (delay : ℕ) → most_delay < delay → delay_in delay ≡ Err (number_limit Top 0)
long_is delay long = ap (λ (b : Bool). unless b (number_limit Top 0)) (lt-leb delay most_delay long)

after_delay : (document : Data) (lists : Lists) (read : Result (List Part) Wrong) → HasTop document lists → lists.delay ≤ most_delay
    → joined (items_parts list.Points 0 lists.points) (items_parts list.Bounds 0 lists.bounds) (items_parts list.Between 0 lists.between) (items_parts list.Links 0 lists.links) ≡ read
    → document_plan document ≡ plan_in_lists lists.delay (Ok tt) read
after_delay document lists read top short is =
    after_top document lists top ∙ (λ i. plan_in_lists lists.delay (short_is lists.delay short i) (is i))

first_fault_is : (document : Data) (fault : Wrong) → IsFirstDocumentFault document fault → document_plan document ≡ Err fault
first_fault_is document fault (of_top none is) = ap (λ (read : Result Lists Wrong). read >>= lists_plan) (no_top_is document none) ∙ ap Err (sym is)
first_fault_is document fault (of_delay lists top long is) =
    after_top document lists top
    ∙ (ap (λ (short : Result (Unit {0}) Wrong). plan_in_lists lists.delay short (joined (items_parts list.Points 0 lists.points) (items_parts list.Bounds 0 lists.bounds) (items_parts list.Between 0 lists.between)
    (items_parts list.Links 0 lists.links))) (long_is lists.delay long)
    ∙ ap Err (sym is))
first_fault_is document fault (of_points lists top short points) =
    after_delay document lists (Err fault) top short
    (ap (λ (p : Result (List Part) Wrong). joined p (items_parts list.Bounds 0 lists.bounds) (items_parts list.Between 0 lists.between) (items_parts list.Links 0 lists.links)) (list_fault_is list.Points lists.points fault points))
first_fault_is document fault (of_bounds lists points top short declared bounds) =
    after_delay document lists (Err fault) top short
    (λ i. joined (declared_is list.Points 0 lists.points points declared i) (list_fault_is list.Bounds lists.bounds fault bounds i) (items_parts list.Between 0 lists.between) (items_parts list.Links 0 lists.links))
first_fault_is document fault (of_between lists points bounds top short declared others between) =
    after_delay document lists (Err fault) top short
    (λ i. joined (declared_is list.Points 0 lists.points points declared i) (declared_is list.Bounds 0 lists.bounds bounds others i) (list_fault_is list.Between lists.between fault between i) (items_parts list.Links 0 lists.links))
first_fault_is document fault (of_links lists points bounds between top short declared others more links) =
    after_delay document lists (Err fault) top short
    (λ i. joined (declared_is list.Points 0 lists.points points declared i) (declared_is list.Bounds 0 lists.bounds bounds others i) (declared_is list.Between 0 lists.between between more i)
    (list_fault_is list.Links lists.links fault links i))

declares_is : (document : Data) (plan : PlanParts) → DeclaresPlan document plan → document_plan document ≡ Ok plan
declares_is document plan is =
    after_delay document is.lists (Ok (is.points ++ (is.bounds ++ (is.between ++ is.links)))) is.top is.short
    (λ i. joined (declared_is list.Points 0 is.lists.points is.points is.of_points i) (declared_is list.Bounds 0 is.lists.bounds is.bounds is.of_bounds i) (declared_is list.Between 0 is.lists.between is.between is.of_between i)
    (declared_is list.Links 0 is.lists.links is.links is.of_links i))
    ∙ (λ i. Ok (record { delay = (sym is.delay) i; parts = (sym is.all) i }))

reading_is : (document : Data) (reading : Result PlanParts Wrong) → ReadsAsDeclared document reading → document_plan document ≡ reading
reading_is document (Ok plan) is = declares_is document plan is
reading_is document (Err fault) is = first_fault_is document fault is

pub one_reading : (document : Data) (reading other : Result PlanParts Wrong) → ReadsAsDeclared document reading → ReadsAsDeclared document other → reading ≡ other
one_reading document reading other is was = sym (reading_is document reading is) ∙ reading_is document other was

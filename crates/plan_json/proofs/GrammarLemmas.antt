-- What is read of a document is what it declares, or its first fault.
use Rattle.std.proofs.Common.{◌≡◌, ◌≤◌, nat_le, ◌⊎◌, inl, inr, ℕ, ◌+◌, ℤ, Bool, true, false, List, [], ◌∷◌, ◌++◌, length, Option, Some, None, Result, Ok, Err, refl, sym, ap, ◌∙◌, subst, codes, arith, if◌then◌else◌}
use Rattle.std.proofs.lemmas.Bool.{and_parts, leb-true, leb-false}
use Rattle.net_model.specs.Between.{between_parts}
use Rattle.net_model.specs.Limits.{within_limit, most_delay}
use Rattle.net_model.specs.Names.{is_name, is_short_name, most_short}
use Rattle.net_model.specs.declared.part.Part.{Part}
use Rattle.net_model.specs.declared.part.Part.TheVariants as part
use Rattle.plan_json.specs.Document.{Fault as Wrong, shape, bad_name, number_limit, BoundForm, BetweenForm, LinkForm, Lists, ◌>>=◌, between_form_at, bound_form_at, bound_parts, document_plan, item_parts, items_parts, link_form_at}
use Rattle.plan_json.specs.Document.{link_parts, lists_parts, lists_plan, member_of, number_or_none, or_fault, place_after, point_parts, shape_at, top_of, two_parts, unless, has_members, known_members, is_version, text_at, whole_at}
use Rattle.plan_json.specs.Document.{array_at, list_or_none}
use Rattle.plan_json.specs.DocumentGrammar.{HasBoundForm, HasBetweenForm, HasLinkForm, point, bound, pair, link, AreNames, AreNumbersWithin, DeclaresItem, HasNoForm, HasBadName, HasGreatNumber, IsItemFault, DeclareItems, IsListFault}
use Rattle.plan_json.specs.DocumentGrammar.{HasTop, of_top, of_delay, of_points, of_bounds, of_between, of_links, ReadsAsDeclared}
use Rattle.plan_json.specs.declared.place.PartList.{PartList}
use Rattle.plan_json.specs.declared.place.PartList.TheVariants as list
use Rattle.plan_json.specs.declared.place.Place.{Place}
use Rattle.plan_json.specs.declared.fault.Member.TheVariants.{Top, Points, Bounds, Between, Links}
use Rattle.serde_json.specs.Data.{Data}
use Rattle.serde_json.specs.Find.{get, as_str}

not_both : (b : Bool) → b ≡ false → b ≡ true → ⊥
not_both b off on = absurd (let same : ◌≡◌ {A = Bool} false true = sym off ∙ on in cc)

-- ---- the forms of items
abbrev bound_by : Wrong → Bool → (name from to : Option (List ℕ)) → Option ℤ → Result BoundForm Wrong
bound_by wrong just name from to most =
    unless just wrong >>= λ exact. or_fault wrong name >>= λ n. or_fault wrong from >>= λ x. or_fault wrong to >>= λ y. or_fault wrong most >>= λ w. Ok (record { name = n; from = x; to = y; most = w })

bound_is : (place : Place) (value : Data) → bound_form_at place value ≡ bound_by (shape_at place) (has_members 4 value) (text_at (codes "name") value) (text_at (codes "from") value) (text_at (codes "to") value)
    (whole_at (codes "most") value)
unfolding bound_form_at
bound_is place value = refl

-- the form is there, or every fault is this one
bound_or : (wrong : Wrong) (just : Bool) (name from to : Option (List ℕ)) (most : Option ℤ)
    → ((form : BoundForm) × (bound_by wrong just name from to most ≡ Ok form) × (just ≡ true) × (name ≡ Some form.name) × (from ≡ Some form.from) × (to ≡ Some form.to) × (most ≡ Some form.most))
    ⊎ ((bound_by wrong just name from to most ≡ Err wrong) × ((form : BoundForm) → just ≡ true → name ≡ Some form.name → from ≡ Some form.from → to ≡ Some form.to → most ≡ Some form.most → ⊥))
bound_or wrong false name from to most = inr (refl, λ form a b c d e. absurd (cc))
bound_or wrong true None from to most = inr (refl, λ form a b c d e. absurd (cc))
bound_or wrong true (Some n) None to most = inr (refl, λ form a b c d e. absurd (cc))
bound_or wrong true (Some n) (Some x) None most = inr (refl, λ form a b c d e. absurd (cc))
bound_or wrong true (Some n) (Some x) (Some y) None = inr (refl, λ form a b c d e. absurd (cc))
bound_or wrong true (Some n) (Some x) (Some y) (Some w) = inl (record { name = n; from = x; to = y; most = w }, refl, refl, refl, refl, refl, refl)

abbrev link_by : Wrong → Bool → (from : Option (List ℕ)) → (low high : Option ℤ) → (to : Option (List ℕ)) → Result LinkForm Wrong
link_by wrong just from low high to =
    unless just wrong >>= λ exact. or_fault wrong from >>= λ a. or_fault wrong low >>= λ x. or_fault wrong high >>= λ y. or_fault wrong to >>= λ c. Ok (record { from = a; low = x; high = y; to = c })

link_is : (place : Place) (value : Data) → link_form_at place value ≡ link_by (shape_at place) (has_members 4 value) (text_at (codes "from") value) (whole_at (codes "low") value) (whole_at (codes "high") value) (text_at (codes "to") value)
unfolding link_form_at
link_is place value = refl

link_or : (wrong : Wrong) (just : Bool) (from : Option (List ℕ)) (low high : Option ℤ) (to : Option (List ℕ))
    → ((form : LinkForm) × (link_by wrong just from low high to ≡ Ok form) × (just ≡ true) × (from ≡ Some form.from) × (low ≡ Some form.low) × (high ≡ Some form.high) × (to ≡ Some form.to))
    ⊎ ((link_by wrong just from low high to ≡ Err wrong) × ((form : LinkForm) → just ≡ true → from ≡ Some form.from → low ≡ Some form.low → high ≡ Some form.high → to ≡ Some form.to → ⊥))
link_or wrong false from low high to = inr (refl, λ form a b c d e. absurd (cc))
link_or wrong true None low high to = inr (refl, λ form a b c d e. absurd (cc))
link_or wrong true (Some a) None high to = inr (refl, λ form a b c d e. absurd (cc))
link_or wrong true (Some a) (Some x) None to = inr (refl, λ form a b c d e. absurd (cc))
link_or wrong true (Some a) (Some x) (Some y) None = inr (refl, λ form a b c d e. absurd (cc))
link_or wrong true (Some a) (Some x) (Some y) (Some c) = inl (record { from = a; low = x; high = y; to = c }, refl, refl, refl, refl, refl, refl)

abbrev between_by : Wrong → Bool → (name from : Option (List ℕ)) → (low high : Option ℤ) → (to : Option (List ℕ)) → Result BetweenForm Wrong
between_by wrong just name from low high to =
    unless just wrong >>= λ exact. or_fault wrong name >>= λ n. or_fault wrong from >>= λ x. or_fault wrong low >>= λ l. or_fault wrong high >>= λ h. or_fault wrong to >>= λ y. Ok (record { name = n; from = x; low = l; high = h; to = y })

between_or : (wrong : Wrong) (just : Bool) (name from : Option (List ℕ)) (low high : Option ℤ) (to : Option (List ℕ))
    → ((form : BetweenForm) × (between_by wrong just name from low high to ≡ Ok form) × (just ≡ true) × (name ≡ Some form.name) × (from ≡ Some form.from) × (low ≡ Some form.low) × (high ≡ Some form.high) × (to ≡ Some form.to))
    ⊎ ((between_by wrong just name from low high to ≡ Err wrong) × ((form : BetweenForm) → just ≡ true → name ≡ Some form.name → from ≡ Some form.from → low ≡ Some form.low → high ≡ Some form.high → to ≡ Some form.to → ⊥))
between_or wrong false name from low high to = inr (refl, λ form a b c d e f. absurd (cc))
between_or wrong true None from low high to = inr (refl, λ form a b c d e f. absurd (cc))
between_or wrong true (Some n) None low high to = inr (refl, λ form a b c d e f. absurd (cc))
between_or wrong true (Some n) (Some x) None high to = inr (refl, λ form a b c d e f. absurd (cc))
between_or wrong true (Some n) (Some x) (Some l) None to = inr (refl, λ form a b c d e f. absurd (cc))
between_or wrong true (Some n) (Some x) (Some l) (Some h) None = inr (refl, λ form a b c d e f. absurd (cc))
between_or wrong true (Some n) (Some x) (Some l) (Some h) (Some y) = inl (record { name = n; from = x; low = l; high = h; to = y }, refl, refl, refl, refl, refl, refl, refl)

-- ---- an item is read as it is
abbrev pub ItemReads : PartList → ℕ → Data → Result (List Part) Wrong → Type 0
ItemReads of number value (Ok declared) = DeclaresItem of value declared
ItemReads of number value (Err fault) = IsItemFault of number value fault

abbrev name_if : Bool → PartList → ℕ → List ℕ → Result (List ℕ) Wrong
name_if test of number name = if test then Ok name else Err (bad_name (member_of of) number)

abbrev number_if : Bool → PartList → ℕ → Result (Unit {0}) Wrong
number_if test of number = unless test (number_limit (member_of of) number)

no_point : (value : Data) → ((name : List ℕ) → as_str value ≡ Some name → ⊥) → HasNoForm list.Points value
no_point value none names numbers declared (point _ name is) = none name is

no_bound : (value : Data) → ((form : BoundForm) → HasBoundForm value form → ⊥) → HasNoForm list.Bounds value
no_bound value none names numbers declared (bound _ form is) = none form is

no_between : (value : Data) → ((form : BetweenForm) → HasBetweenForm value form → ⊥) → HasNoForm list.Between value
no_between value none names numbers declared (pair _ form is) = none form is

no_link : (value : Data) → ((form : LinkForm) → HasLinkForm value form → ⊥) → HasNoForm list.Links value
no_link value none names numbers declared (link _ form is) = none form is

-- a point
point_tested : (number : ℕ) (value : Data) (name : List ℕ) → as_str value ≡ Some name → (a : Bool) → is_name name ≡ a
    → ItemReads list.Points number value (name_if a list.Points number name >>= λ name. Ok (part.Point name ∷ []))
point_tested number value name has true is = record { names = name ∷ []; numbers = []; form = point value name has; named = ((is, tt), tt); within = tt }
point_tested number value name has false is = (refl, refl, record { names = name ∷ []; numbers = []; declared = part.Point name ∷ []; form = point value name has; some = λ named. not_both (is_name name) is named.0.0 })

point_reads : (number : ℕ) (value : Data) → ItemReads list.Points number value (point_parts (record { list = list.Points; number = number }) value)
unfolding point_parts
point_reads number value = by (as_str value) refl
  where
    by : (text : Option (List ℕ)) → as_str value ≡ text → ItemReads list.Points number value (or_fault (shape Points number) text >>= λ text. name_if (is_name text) list.Points number text >>= λ name. Ok (part.Point name ∷ []))
    by None is = (refl, refl, no_point value (λ name has. absurd (let both : ◌≡◌ {A = Option (List ℕ)} None (Some name) = sym is ∙ has in cc)))
    by (Some name) is = point_tested number value name is (is_name name) refl

-- a bound
abbrev bound_next : (a b c d : Bool) → ℕ → BoundForm → Result (List Part) Wrong
bound_next a b c d number form = name_if a list.Bounds number form.name >>= λ name. name_if b list.Bounds number form.from >>= λ from. name_if c list.Bounds number form.to >>= λ to. number_if d list.Bounds number >>= λ within. Ok
    (part.Bound name from to form.most ∷ [])

bad_bound : (number : ℕ) (value : Data) (form : BoundForm) → HasBoundForm value form → (AreNames list.Bounds (form.name ∷ form.from ∷ form.to ∷ []) → ⊥) → HasBadName list.Bounds value
bad_bound number value form has some = record { names = form.name ∷ form.from ∷ form.to ∷ []; numbers = form.most ∷ []; declared = part.Bound form.name form.from form.to form.most ∷ []; form = bound value form has; some = some }

bound_tested : (number : ℕ) (value : Data) (form : BoundForm) → HasBoundForm value form → (a b c d : Bool) → is_name form.name ≡ a → is_name form.from ≡ b → is_name form.to ≡ c → within_limit form.most ≡ d
    → ItemReads list.Bounds number value (bound_next a b c d number form)
bound_tested number value form has false b c d ia ib ic id = (refl, refl, bad_bound number value form has (λ named. not_both (is_name form.name) ia named.0.0))
bound_tested number value form has true false c d ia ib ic id = (refl, refl, bad_bound number value form has (λ named. not_both (is_name form.from) ib named.0.1.0))
bound_tested number value form has true true false d ia ib ic id = (refl, refl, bad_bound number value form has (λ named. not_both (is_name form.to) ic named.0.1.1.0))
bound_tested number value form has true true true false ia ib ic id = (
  refl,
  refl,
  record {
    names = form.name ∷ form.from ∷ form.to ∷ [];
    numbers = form.most ∷ [];
    declared = part.Bound form.name form.from form.to form.most ∷ [];
    form = bound value form has;
    named = ((ia, (ib, (ic, tt))), tt);
    some = λ within. not_both (within_limit form.most) id within.0;
  },
)
bound_tested number value form has true true true true ia ib ic id =
    record { names = form.name ∷ form.from ∷ form.to ∷ []; numbers = form.most ∷ []; form = bound value form has; named = ((ia, (ib, (ic, tt))), tt); within = (id, tt) }

bound_reads : (number : ℕ) (value : Data) → ItemReads list.Bounds number value (bound_parts (record { list = list.Bounds; number = number }) value)
unfolding bound_parts bound_form_at
bound_reads number value = by (bound_or (shape Bounds number) (has_members 4 value) (text_at (codes "name") value) (text_at (codes "from") value) (text_at (codes "to") value) (whole_at (codes "most") value))
  where
    Read : Result BoundForm Wrong → Type 0
    Read form = ItemReads list.Bounds number value (form >>= λ form. bound_next (is_name form.name) (is_name form.from) (is_name form.to) (within_limit form.most) number form)

    found : Result BoundForm Wrong
    found = bound_by (shape Bounds number) (has_members 4 value) (text_at (codes "name") value) (text_at (codes "from") value) (text_at (codes "to") value) (whole_at (codes "most") value)

    by : ((form : BoundForm) × (found ≡ Ok form) × (has_members 4 value ≡ true) × (text_at (codes "name") value ≡ Some form.name) × (text_at (codes "from") value ≡ Some form.from) × (text_at (codes "to") value ≡ Some form.to)
        × (whole_at (codes "most") value ≡ Some form.most))
        ⊎ ((found ≡ Err (shape Bounds number)) × ((form : BoundForm) → has_members 4 value ≡ true → text_at (codes "name") value ≡ Some form.name → text_at (codes "from") value ≡ Some form.from → text_at (codes "to") value ≡ Some form.to
        → whole_at (codes "most") value ≡ Some form.most → ⊥))
        → Read found
    by (inl (form, is, just, name, from, to, most)) = subst Read (sym is)
        (bound_tested number value form (record { just = just; name = name; from = from; to = to; most = most }) (is_name form.name) (is_name form.from) (is_name form.to) (within_limit form.most) refl refl refl refl)
    by (inr (is, none)) = subst Read (sym is) (refl, refl, no_bound value (λ form has. none form has.just has.name has.from has.to has.most))

-- two bounds
abbrev short_if : Bool → ℕ → List ℕ → Result (List ℕ) Wrong
short_if test number name = if test then Ok name else Err (bad_name Between number)

abbrev between_next : (a b c d e : Bool) → ℕ → BetweenForm → Result (List Part) Wrong
between_next a b c d e number form = short_if a number form.name >>= λ name. name_if b list.Between number form.from >>= λ from. name_if c list.Between number form.to >>= λ to. number_if d list.Between number >>= λ low. number_if e
    list.Between number >>= λ high. Ok (between_parts name from form.low form.high to)

bad_between : (number : ℕ) (value : Data) (form : BetweenForm) → HasBetweenForm value form → (AreNames list.Between (form.name ∷ form.from ∷ form.to ∷ []) → ⊥) → HasBadName list.Between value
bad_between number value form has some = record {
  names = form.name ∷ form.from ∷ form.to ∷ [];
  numbers = form.low ∷ form.high ∷ [];
  declared = between_parts form.name form.from form.low form.high form.to;
  form = pair value form has;
  some = some;
}

great_between : (number : ℕ) (value : Data) (form : BetweenForm) → HasBetweenForm value form → AreNames list.Between (form.name ∷ form.from ∷ form.to ∷ []) → (AreNumbersWithin (form.low ∷ form.high ∷ []) → ⊥)
    → HasGreatNumber list.Between value
great_between number value form has named some = record {
  names = form.name ∷ form.from ∷ form.to ∷ [];
  numbers = form.low ∷ form.high ∷ [];
  declared = between_parts form.name form.from form.low form.high form.to;
  form = pair value form has;
  named = named;
  some = some;
}

-- a short name is a name
short_is_name : (name : List ℕ) → is_short_name name ≡ true → is_name name ≡ true
short_is_name name short = (and_parts (is_name name) (nat_le (length name) most_short) short).0

between_tested : (number : ℕ) (value : Data) (form : BetweenForm) → HasBetweenForm value form → (a b c d e : Bool) → is_short_name form.name ≡ a → is_name form.from ≡ b → is_name form.to ≡ c → within_limit form.low ≡ d
    → within_limit form.high ≡ e
    → ItemReads list.Between number value (between_next a b c d e number form)
between_tested number value form has false b c d e ia ib ic id ie = (refl, refl, bad_between number value form has (λ named. not_both (is_short_name form.name) ia named.1))
between_tested number value form has true false c d e ia ib ic id ie = (refl, refl, bad_between number value form has (λ named. not_both (is_name form.from) ib named.0.1.0))
between_tested number value form has true true false d e ia ib ic id ie = (refl, refl, bad_between number value form has (λ named. not_both (is_name form.to) ic named.0.1.1.0))
between_tested number value form has true true true false e ia ib ic id ie =
    (refl, refl, great_between number value form has ((short_is_name form.name ia, (ib, (ic, tt))), ia) (λ within. not_both (within_limit form.low) id within.0))
between_tested number value form has true true true true false ia ib ic id ie =
    (refl, refl, great_between number value form has ((short_is_name form.name ia, (ib, (ic, tt))), ia) (λ within. not_both (within_limit form.high) ie within.1.0))
between_tested number value form has true true true true true ia ib ic id ie =
    record { names = form.name ∷ form.from ∷ form.to ∷ []; numbers = form.low ∷ form.high ∷ []; form = pair value form has; named = ((short_is_name form.name ia, (ib, (ic, tt))), ia); within = (id, (ie, tt)) }

between_reads : (number : ℕ) (value : Data) → ItemReads list.Between number value (two_parts (record { list = list.Between; number = number }) value)
unfolding two_parts between_form_at
between_reads number value = by (between_or (shape Between number) (has_members 5 value) (text_at (codes "name") value) (text_at (codes "from") value) (whole_at (codes "low") value) (whole_at (codes "high") value)
    (text_at (codes "to") value))
  where
    Read : Result BetweenForm Wrong → Type 0
    Read form = ItemReads list.Between number value (form >>= λ form. between_next (is_short_name form.name) (is_name form.from) (is_name form.to) (within_limit form.low) (within_limit form.high) number form)

    found : Result BetweenForm Wrong
    found = between_by (shape Between number) (has_members 5 value) (text_at (codes "name") value) (text_at (codes "from") value) (whole_at (codes "low") value) (whole_at (codes "high") value) (text_at (codes "to") value)

    by : ((form : BetweenForm) × (found ≡ Ok form) × (has_members 5 value ≡ true) × (text_at (codes "name") value ≡ Some form.name) × (text_at (codes "from") value ≡ Some form.from) × (whole_at (codes "low") value ≡ Some form.low)
        × (whole_at (codes "high") value ≡ Some form.high) × (text_at (codes "to") value ≡ Some form.to))
        ⊎ ((found ≡ Err (shape Between number)) × ((form : BetweenForm) → has_members 5 value ≡ true → text_at (codes "name") value ≡ Some form.name → text_at (codes "from") value ≡ Some form.from
        → whole_at (codes "low") value ≡ Some form.low → whole_at (codes "high") value ≡ Some form.high → text_at (codes "to") value ≡ Some form.to → ⊥))
        → Read found
    by (inl (form, is, just, name, from, low, high, to)) = subst Read (sym is)
        (between_tested number value form (record { just = just; name = name; from = from; low = low; high = high; to = to }) (is_short_name form.name) (is_name form.from) (is_name form.to) (within_limit form.low)
        (within_limit form.high) refl refl refl refl refl)
    by (inr (is, none)) = subst Read (sym is) (refl, refl, no_between value (λ form has. none form has.just has.name has.from has.low has.high has.to))

-- a link
abbrev link_next : (a b c d : Bool) → ℕ → LinkForm → Result (List Part) Wrong
link_next a b c d number form = name_if a list.Links number form.from >>= λ from. name_if b list.Links number form.to >>= λ to. number_if c list.Links number >>= λ low. number_if d list.Links number >>= λ high. Ok
    (part.Link from form.low form.high to ∷ [])

bad_link : (number : ℕ) (value : Data) (form : LinkForm) → HasLinkForm value form → (AreNames list.Links (form.from ∷ form.to ∷ []) → ⊥) → HasBadName list.Links value
bad_link number value form has some = record { names = form.from ∷ form.to ∷ []; numbers = form.low ∷ form.high ∷ []; declared = part.Link form.from form.low form.high form.to ∷ []; form = link value form has; some = some }

great_link : (number : ℕ) (value : Data) (form : LinkForm) → HasLinkForm value form → AreNames list.Links (form.from ∷ form.to ∷ []) → (AreNumbersWithin (form.low ∷ form.high ∷ []) → ⊥) → HasGreatNumber list.Links value
great_link number value form has named some = record {
  names = form.from ∷ form.to ∷ [];
  numbers = form.low ∷ form.high ∷ [];
  declared = part.Link form.from form.low form.high form.to ∷ [];
  form = link value form has;
  named = named;
  some = some;
}

link_tested : (number : ℕ) (value : Data) (form : LinkForm) → HasLinkForm value form → (a b c d : Bool) → is_name form.from ≡ a → is_name form.to ≡ b → within_limit form.low ≡ c → within_limit form.high ≡ d
    → ItemReads list.Links number value (link_next a b c d number form)
link_tested number value form has false b c d ia ib ic id = (refl, refl, bad_link number value form has (λ named. not_both (is_name form.from) ia named.0.0))
link_tested number value form has true false c d ia ib ic id = (refl, refl, bad_link number value form has (λ named. not_both (is_name form.to) ib named.0.1.0))
link_tested number value form has true true false d ia ib ic id = (refl, refl, great_link number value form has ((ia, (ib, tt)), tt) (λ within. not_both (within_limit form.low) ic within.0))
link_tested number value form has true true true false ia ib ic id = (refl, refl, great_link number value form has ((ia, (ib, tt)), tt) (λ within. not_both (within_limit form.high) id within.1.0))
link_tested number value form has true true true true ia ib ic id =
    record { names = form.from ∷ form.to ∷ []; numbers = form.low ∷ form.high ∷ []; form = link value form has; named = ((ia, (ib, tt)), tt); within = (ic, (id, tt)) }

link_reads : (number : ℕ) (value : Data) → ItemReads list.Links number value (link_parts (record { list = list.Links; number = number }) value)
unfolding link_parts link_form_at
link_reads number value = by (link_or (shape Links number) (has_members 4 value) (text_at (codes "from") value) (whole_at (codes "low") value) (whole_at (codes "high") value) (text_at (codes "to") value))
  where
    Read : Result LinkForm Wrong → Type 0
    Read form = ItemReads list.Links number value (form >>= λ form. link_next (is_name form.from) (is_name form.to) (within_limit form.low) (within_limit form.high) number form)

    found : Result LinkForm Wrong
    found = link_by (shape Links number) (has_members 4 value) (text_at (codes "from") value) (whole_at (codes "low") value) (whole_at (codes "high") value) (text_at (codes "to") value)

    by : ((form : LinkForm) × (found ≡ Ok form) × (has_members 4 value ≡ true) × (text_at (codes "from") value ≡ Some form.from) × (whole_at (codes "low") value ≡ Some form.low) × (whole_at (codes "high") value ≡ Some form.high)
        × (text_at (codes "to") value ≡ Some form.to))
        ⊎ ((found ≡ Err (shape Links number)) × ((form : LinkForm) → has_members 4 value ≡ true → text_at (codes "from") value ≡ Some form.from → whole_at (codes "low") value ≡ Some form.low → whole_at (codes "high") value ≡ Some form.high
        → text_at (codes "to") value ≡ Some form.to → ⊥))
        → Read found
    by (inl (form, is, just, from, low, high, to)) = subst Read (sym is)
        (link_tested number value form (record { just = just; from = from; low = low; high = high; to = to }) (is_name form.from) (is_name form.to) (within_limit form.low) (within_limit form.high) refl refl refl refl)
    by (inr (is, none)) = subst Read (sym is) (refl, refl, no_link value (λ form has. none form has.just has.from has.low has.high has.to))

pub item_reads : (of : PartList) (number : ℕ) (value : Data) → ItemReads of number value (item_parts (record { list = of; number = number }) value)
item_reads list.Points number value = point_reads number value
item_reads list.Bounds number value = bound_reads number value
item_reads list.Between number value = between_reads number value
item_reads list.Links number value = link_reads number value

-- ---- a list is read as it is
abbrev pub ItemsRead : PartList → ℕ → List Data → Result (List Part) Wrong → Type 0
ItemsRead of count values (Ok parts) = DeclareItems of values parts
ItemsRead of count values (Err fault) = IsListFault of count values fault

first_place : (count : ℕ) → count + 1 ≡ count + 0 + 1
first_place count = omega arith

next_place : (count : ℕ) (value : Data) (before : List Data) → count + 1 + length before + 1 ≡ count + length (value ∷ before) + 1
next_place count value before = omega arith

items_read : (of : PartList) (count : ℕ) (values : List Data) → ItemsRead of count values (items_parts of count values)
items_read of count [] = refl
items_read of count (value ∷ values) = by (item_parts (place_after of count) value) (items_parts of (count + 1) values) (item_reads of (count + 1) value) (items_read of (count + 1) values)
  where
    by : (first : Result (List Part) Wrong) (rest : Result (List Part) Wrong) → ItemReads of (count + 1) value first → ItemsRead of (count + 1) values rest
        → ItemsRead of count (value ∷ values) (first >>= λ first. rest >>= λ rest. Ok (first ++ rest))
    by (Ok first) (Ok rest) a b = (first, rest, a, b, refl)
    by (Ok first) (Err wrong) a b = record {
      before = value ∷ b.before;
      value = b.value;
      after = b.after;
      parts = first ++ b.parts;
      divided = ap (λ (l : List Data). value ∷ l) b.divided;
      declare = (first, b.parts, a, b.declare, refl);
      has = subst (λ (n : ℕ). IsItemFault of n b.value wrong) (next_place count value b.before) b.has;
    }
    by (Err wrong) rest a b = record { before = []; value = value; after = values; parts = []; divided = refl; declare = refl; has = subst (λ (n : ℕ). IsItemFault of n value wrong) (first_place count) a }

-- ---- the document is read as it is
abbrev pub TopReads : Data → Result Lists Wrong → Type 0
TopReads document (Ok lists) = HasTop document lists
TopReads document (Err wrong) = ((lists : Lists) → HasTop document lists → ⊥) × (wrong ≡ shape Top 0)

abbrev top_by : (known version : Bool) → (points bounds between links : Option (List Data)) → Option ℕ → Result Lists Wrong
top_by known version points bounds between links delay =
    unless known (shape Top 0) >>= λ k. unless version (shape Top 0) >>= λ v. or_fault (shape Top 0) points >>= λ p. or_fault (shape Top 0) bounds >>= λ b. or_fault (shape Top 0) between >>= λ t. or_fault
    (shape Top 0) links >>= λ l. or_fault (shape Top 0) delay >>= λ d. Ok (record { delay = d; points = p; bounds = b; between = t; links = l })

-- a member is there, and another is required
none_there : {X : Type 0} (found : Option X) (x : X) → found ≡ None → found ≡ Some x → ⊥
none_there {X} found x none some = absurd (let both : ◌≡◌ {A = Option X} None (Some x) = sym none ∙ some in cc)

top_tested : (document : Data) (known version : Bool) (points bounds between links : Option (List Data)) (delay : Option ℕ) → has_members (known_members document) document ≡ known → is_version document ≡ version
    → array_at (codes "points") document ≡ points
    → list_or_none (get (codes "bounds") document) ≡ bounds → list_or_none (get (codes "between") document) ≡ between → list_or_none (get (codes "links") document) ≡ links → number_or_none (get (codes "delay") document) ≡ delay
    → TopReads document (top_by known version points bounds between links delay)
top_tested document false version points bounds between links delay ik iv ip ib it il id = ((λ lists top. not_both (has_members (known_members document) document) ik top.known), refl)
top_tested document true false points bounds between links delay ik iv ip ib it il id = ((λ lists top. not_both (is_version document) iv top.version), refl)
top_tested document true true None bounds between links delay ik iv ip ib it il id = ((λ lists top. none_there (array_at (codes "points") document) lists.points ip top.points), refl)
top_tested document true true (Some p) None between links delay ik iv ip ib it il id = ((λ lists top. none_there (list_or_none (get (codes "bounds") document)) lists.bounds ib top.bounds), refl)
top_tested document true true (Some p) (Some b) None links delay ik iv ip ib it il id = ((λ lists top. none_there (list_or_none (get (codes "between") document)) lists.between it top.between), refl)
top_tested document true true (Some p) (Some b) (Some t) None delay ik iv ip ib it il id = ((λ lists top. none_there (list_or_none (get (codes "links") document)) lists.links il top.links), refl)
top_tested document true true (Some p) (Some b) (Some t) (Some l) None ik iv ip ib it il id = ((λ lists top. none_there (number_or_none (get (codes "delay") document)) lists.delay id top.delay), refl)
top_tested document true true (Some p) (Some b) (Some t) (Some l) (Some d) ik iv ip ib it il id = record { known = ik; version = iv; points = ip; bounds = ib; between = it; links = il; delay = id }

pub top_reads : (document : Data) → TopReads document (top_of document)
unfolding top_of
top_reads document = top_tested document (has_members (known_members document) document) (is_version document) (array_at (codes "points") document) (list_or_none (get (codes "bounds") document))
    (list_or_none (get (codes "between") document)) (list_or_none (get (codes "links") document)) (number_or_none (get (codes "delay") document)) refl refl refl refl refl refl refl

lists_read : (document : Data) (lists : Lists) → HasTop document lists → ReadsAsDeclared document (lists_plan lists)
unfolding lists_parts lists_plan
lists_read document lists top = short (nat_le lists.delay most_delay) refl
  where
    by : lists.delay ≤ most_delay → (points bounds between links : Result (List Part) Wrong) → ItemsRead list.Points 0 lists.points points → ItemsRead list.Bounds 0 lists.bounds bounds → ItemsRead list.Between 0 lists.between between
        → ItemsRead list.Links 0 lists.links links
        → ReadsAsDeclared document ((points >>= λ points. bounds >>= λ bounds. between >>= λ between. links >>= λ links. Ok (points ++ (bounds ++ (between ++ links)))) >>= λ parts. Ok (record { delay = lists.delay; parts = parts }))
    by small (Err wrong) bounds between links p b t l = of_points lists top small p
    by small (Ok points) (Err wrong) between links p b t l = of_bounds lists points top small p b
    by small (Ok points) (Ok bounds) (Err wrong) links p b t l = of_between lists points bounds top small p b t
    by small (Ok points) (Ok bounds) (Ok between) (Err wrong) p b t l = of_links lists points bounds between top small p b t l
    by small (Ok points) (Ok bounds) (Ok between) (Ok links) p b t l =
        record { lists = lists; top = top; short = small; points = points; bounds = bounds; between = between; links = links; of_points = p; of_bounds = b; of_between = t; of_links = l; delay = refl; all = refl }

    read : lists.delay ≤ most_delay → ReadsAsDeclared document (lists_parts lists >>= λ parts. Ok (record { delay = lists.delay; parts = parts }))
    read small = by small (items_parts list.Points 0 lists.points) (items_parts list.Bounds 0 lists.bounds) (items_parts list.Between 0 lists.between) (items_parts list.Links 0 lists.links)
        (items_read list.Points 0 lists.points) (items_read list.Bounds 0 lists.bounds) (items_read list.Between 0 lists.between) (items_read list.Links 0 lists.links)

    short : (test : Bool) → nat_le lists.delay most_delay ≡ test → ReadsAsDeclared document (unless test (number_limit Top 0) >>= λ done. lists_parts lists >>= λ parts. Ok (record { delay = lists.delay; parts = parts }))
    short true is = read (leb-true lists.delay most_delay is)
    short false is = of_delay lists top (leb-false lists.delay most_delay is) refl

pub document_read : (document : Data) → ReadsAsDeclared document (document_plan document)
document_read document = by (top_of document) (top_reads document)
  where
    by : (lists : Result Lists Wrong) → TopReads document lists → ReadsAsDeclared document (lists >>= lists_plan)
    by (Ok lists) top = lists_read document lists top
    by (Err wrong) top = of_top top.0 top.1

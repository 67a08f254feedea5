-- What a list of parts builds.
use Rattle.std.proofs.Common.{◌≡◌, ◌≢◌, ◌∷◌, [], ℕ, ℤ, ◌+◌, ◌<◌, ◌≤◌, ◌≤ℤ◌, inl, inr, unsigned_abs, Bool, true, false, List, Option, Some, None, Result, Ok, Err, IfOk, IsTrue, refl, sym, ap, ◌∙◌, subst, arith, rules, not, is_some, nat_le}
use Rattle.std.proofs.Common.{int_lt, pos, ◌==◌, ◌||◌, length, position}
use Rattle.std.specs.Prelude.{unwrap_or}
use Rattle.std.specs.List.{All}
use Rattle.std.specs.Option.{option_map}
use Rattle.std.specs.Result.{IfErr}
use Rattle.std.specs.Str.{bytes_eq}
use Rattle.std.proofs.lemmas.Bool.Decides.{nat_tests}
use Rattle.std.proofs.lemmas.Int.{ints}
use Rattle.std.proofs.lemmas.List.Elements.{All-nil, All-cons, All-append, All-head, All-tail}
use Rattle.std.proofs.lemmas.List.Quantifiers.{position-Some}
use Rattle.std.proofs.lemmas.Map.Keys.{IsDistinct-from_apart}
use Rattle.net_model.specs.Limits.{most_points, most_links, most_bounds, most_delay, within_limit, within_size}
use Rattle.net_model.specs.Names.{is_name}
use Rattle.net_model.specs.Network.{Plan, IsPlan, IsBound, IsLink, HasPlanNumbers, point_named, bound_named, activation, empty}
use Rattle.net_model.specs.BuiltNetwork.{◌>>=◌, refuse_if, named, with_point, with_bound, with_link, with_part, with_parts, built, declared_net, at_place, place_of}
use Rattle.net_model.specs.declared.ids.PointId.{PointId}
use Rattle.net_model.specs.declared.part.Bound.{Bound}
use Rattle.net_model.specs.declared.part.Link.{Link}
use Rattle.net_model.specs.declared.part.Part.{Part}
use Rattle.net_model.specs.declared.part.Part.TheVariants as part
use Rattle.net_model.specs.declared.fault.BuildFault.{BuildFault}
use Rattle.net_model.proofs.EditLemmas.{shown_within_limit}
use Rattle.net_model.proofs.NetworkLemmas.{IsPlan-more_points, IsPlan-more_bounds, IsPlan-more_links}
use Rattle.net_model.proofs.DelayLemmas.{delayed_ok, sound_with_delay}
use Rattle.net_model.proofs.BetweenLemmas.{declarable_pair}
use Rattle.net_model.proofs.PlanNumbers.{built_numbers}
use Rattle.plan_format.specs.PlanGrammar.{IsPartialPlan, header, blank, delays, declares, Declares}
use Rattle.plan_format.specs.declared.version.PlanStage.{PlanStage}
use Rattle.plan_format.specs.declared.version.PlanStage.TheVariants.{Opened}
use Rattle.plan_format.specs.declared.version.PlanVersion.{PlanVersion}
use Rattle.plan_format.specs.PlanNetwork.{DeclaresNetwork}
use Rattle.net_model.specs.NetworkParts.{IsDeclarable}

-- why a part is refused
abbrev ErrorOf : {A E : Type 0} → Result A E → Type 0
ErrorOf {A} {E} answer = E

abbrev PartFault : Type 0
PartFault = ErrorOf (named empty [])

-- ---- a refused part has a place
abbrev IsPlaced : PartFault → Type 0
IsPlaced fault = (n : ℕ) → place_of (at_place n fault) ≢ None

abbrev HasPlace : {A : Type 0} → Result A PartFault → Type 0
HasPlace answer = IfErr answer IsPlaced

unless : {A : Type 0} (test : Bool) (fault : PartFault) (otherwise : Result A PartFault) → IsPlaced fault → HasPlace otherwise → HasPlace (refuse_if test fault otherwise)
unless true fault otherwise has rest = has
unless false fault otherwise has rest = rest

then : {A B : Type 0} (read : Result A PartFault) (next : A → Result B PartFault) → HasPlace read → ((x : A) → HasPlace (next x)) → HasPlace (read >>= next)
then (Ok x) next first rest = rest x
then (Err fault) next first rest = first

-- the point that was found, or the fault of a name that is none
abbrev named_by : Option PointId → Result PointId PartFault
named_by found = elim found [ Some point ↦ Ok point | None ↦ named empty [] ]

named_has : (net : Plan) (name : List ℕ) → HasPlace (named net name)
named_has net name = by (point_named net name)
  where
    by : (found : Option PointId) → HasPlace (named_by found)
    by (Some point) = tt
    by None = λ n same. absurd (cc)

point_has : (net : Plan) (name : List ℕ) → HasPlace (with_point net name)
unfolding with_point
point_has net name = unless (is_some (point_named net name)) _ _ (λ n same. absurd (cc)) (unless (nat_le most_points (length net.points)) _ _ (λ n same. absurd (cc)) tt)

bound_has : (net : Plan) (name from to : List ℕ) (most : ℤ) → HasPlace (with_bound net name from to most)
unfolding with_bound
bound_has net name from to most =
    unless (is_some (bound_named net name)) _ _ (λ n same. absurd (cc))
    (then (named net from) _ (named_has net from) (λ x.
    then (named net to) _ (named_has net to) (λ y.
    unless (not (within_limit most)) _ _ (λ n same. absurd (cc))
    (unless (nat_le most_bounds (length net.bounds)) _ _ (λ n same. absurd (cc)) tt))))

link_has : (net : Plan) (from : List ℕ) (low high : ℤ) (to : List ℕ) → HasPlace (with_link net from low high to)
unfolding with_link
link_has net from low high to =
    then (named net from) _ (named_has net from) (λ a.
    then (named net to) _ (named_has net to) (λ c.
    unless (a.0 == c.0) _ _ (λ n same. absurd (cc))
    (unless (is_some (activation net c)) _ _ (λ n same. absurd (cc))
    (unless (int_lt low (pos 1) || int_lt high low) _ _ (λ n same. absurd (cc))
    (unless (not (within_limit high)) _ _ (λ n same. absurd (cc))
    (unless (nat_le most_links (length net.links)) _ _ (λ n same. absurd (cc)) tt))))))

part_has : (net : Plan) (part : Part) → HasPlace (with_part net part)
part_has net (part.Point name) = point_has net name
part_has net (part.Bound name from to most) = bound_has net name from to most
part_has net (part.Link from low high to) = link_has net from low high to

-- what is built from the answer to a part on
abbrev continued : ℕ → List Part → Result Plan PartFault → Result Plan BuildFault
continued place parts taken = elim taken [ Ok more ↦ with_parts (place + 1) more parts | Err fault ↦ Err (at_place (place + 1) fault) ]

parts_by : (place : ℕ) (parts : List Part) (taken : Result Plan PartFault) (why : BuildFault) → HasPlace taken → ((more : Plan) → with_parts (place + 1) more parts ≡ Err why → place_of why ≡ None → ⊥)
    → continued place parts taken ≡ Err why → place_of why ≡ None → ⊥
parts_by place parts (Ok more) why has rest refused none = rest more refused none
parts_by place parts (Err fault) why has rest refused none =
    let same : why ≡ at_place (place + 1) fault = cc in
    has (place + 1) (rw same at none)

parts_have : (place : ℕ) (net : Plan) (parts : List Part) (why : BuildFault) → with_parts place net parts ≡ Err why → place_of why ≡ None → ⊥
parts_have place net [] why refused none = absurd (cc)
parts_have place net (part ∷ parts) why refused none =
    parts_by place parts (with_part net part) why (part_has net part) (λ more. parts_have (place + 1) more parts why) refused none

-- a refused part has a place
pub no_memory : (parts : List Part) (why : BuildFault) → built parts ≡ Err why → place_of why ≡ None → ⊥
no_memory parts why refused none = parts_have 0 empty parts why refused none

-- ---- what is built of parts that can be spelled is sound
unless_refused : {A : Type 0} (P : A → Type 0) (test : Bool) (fault : PartFault) (otherwise : Result A PartFault) → (test ≡ false → IfOk otherwise P) → IfOk (refuse_if test fault otherwise) P
unless_refused P true fault otherwise keeps = tt
unless_refused P false fault otherwise keeps = keeps refl

whatever_came : {A B : Type 0} (P : B → Type 0) (read : Result A PartFault) (next : A → Result B PartFault) → ((x : A) → read ≡ Ok x → IfOk (next x) P) → IfOk (read >>= next) P
whatever_came P (Ok x) next keeps = keeps x refl
whatever_came P (Err fault) next keeps = tt

none_is : {A : Type 0} (found : Option A) → is_some found ≡ false → found ≡ None
none_is (Some x) is = absurd (cc)
none_is None is = refl

fits : (n : ℤ) (b : Bool) → within_limit n ≡ b → not b ≡ false → within_size n ≡ true
fits n true is small = grind (arith, nat_tests)
fits n false is small = absurd (cc)

in_limit : (n : ℤ) (b : Bool) → within_limit n ≡ b → not b ≡ false → within_limit n ≡ true
in_limit n true is small = is
in_limit n false is small = absurd (cc)

place_within : {X : Type 0} (test : X → Bool) (xs : List X) (d : X) (found : Option ℕ) (point : PointId) → position test xs ≡ found → option_map (λ k. record { 0 = k }) found ≡ Some point → point.0 < length xs
place_within test xs d (Some k) point is same =
    let at : k ≡ point.0 = ap (λ (p : Option PointId). unwrap_or (option_map (λ (i : PointId). i.0) p) 0) same in
    let within = position-Some test xs k d is in
    omega (arith, within.0, at)
place_within test xs d None point is same = absurd (cc)

named_within_by : (net : Plan) (name : List ℕ) (found : Option PointId) (point : PointId) → point_named net name ≡ found → named_by found ≡ Ok point → point.0 < length net.points
named_within_by net name (Some other) point is same =
    let one : other ≡ point = cc in
    place_within (bytes_eq name) net.points [] (position (bytes_eq name) net.points) point refl (is ∙ ap (λ (p : PointId). Some p) one)
named_within_by net name None point is same = absurd (no_point (named empty []) point refl same)
  where
    no_point : (answer : Result PointId PartFault) (point : PointId) → named empty [] ≡ answer → answer ≡ Ok point → ⊥
    no_point answer point is same = absurd (cc)

named_within : (net : Plan) (name : List ℕ) (point : PointId) → named net name ≡ Ok point → point.0 < length net.points
named_within net name point same = named_within_by net name (point_named net name) point refl same

point_sound : (net : Plan) (name : List ℕ) → IsTrue (is_name name) → IsPlan net → IfOk (with_point net name) IsPlan
unfolding with_point
point_sound net name named sound =
    unless_refused IsPlan (is_some (point_named net name)) _ _ (λ not_taken.
    unless_refused IsPlan (nat_le most_points (length net.points)) _ _ (λ roomy.
    IsPlan-more_points net name sound named (none_is (point_named net name) not_taken) (grind (arith, nat_tests))))

bound_sound : (net : Plan) (name from to : List ℕ) (most : ℤ) → IsTrue (is_name name) → IsPlan net → IfOk (with_bound net name from to most) IsPlan
unfolding with_bound
bound_sound net name from to most is sound =
    unless_refused IsPlan (is_some (bound_named net name)) _ _ (λ not_taken.
    whatever_came IsPlan (named net from) _ (λ x begins.
    whatever_came IsPlan (named net to) _ (λ y ends.
    unless_refused IsPlan (not (within_limit most)) _ _ (λ fitting.
    unless_refused IsPlan (nat_le most_bounds (length net.bounds)) _ _ (λ roomy.
    let bound : Bound = record { name = name; from = x; to = y; most = most } in
    let good : IsBound net bound = record {
      named = is;
      from_point = named_within net from x begins;
      to_point = named_within net to y ends;
      within = fits most (within_limit most) refl fitting;
      shown_within = shown_within_limit most net.delay sound.short_delay (in_limit most (within_limit most) refl fitting);
    } in
    IsPlan-more_bounds net bound sound good (none_is (bound_named net name) not_taken) (grind (arith, nat_tests)))))))

interval_is : (low high : ℤ) → (int_lt low (pos 1) || int_lt high low) ≡ false → (pos 1 ≤ℤ low) × (low ≤ℤ high)
interval_is low high good = (grind (arith, ints, nat_tests), grind (arith, ints, nat_tests))

link_sound : (net : Plan) (from : List ℕ) (low high : ℤ) (to : List ℕ) → IsPlan net → IfOk (with_link net from low high to) IsPlan
unfolding with_link
link_sound net from low high to sound =
    whatever_came IsPlan (named net from) _ (λ a begins.
    whatever_came IsPlan (named net to) _ (λ c ends.
    unless_refused IsPlan (a.0 == c.0) _ _ (λ other.
    unless_refused IsPlan (is_some (activation net c)) _ _ (λ first.
    unless_refused IsPlan (int_lt low (pos 1) || int_lt high low) _ _ (λ interval.
    unless_refused IsPlan (not (within_limit high)) _ _ (λ fitting.
    unless_refused IsPlan (nat_le most_links (length net.links)) _ _ (λ roomy.
    let link : Link = record { from = a; low = low; high = high; to = c } in
    let durations = interval_is low high interval in
    let good : IsLink net link = record {
      from_point = named_within net from a begins;
      to_point = named_within net to c ends;
      apart = λ same. grind (arith, nat_tests);
      positive = durations.0;
      interval = durations.1;
      within = fits high (within_limit high) refl fitting;
      shown_within = shown_within_limit high net.delay sound.short_delay (in_limit high (within_limit high) refl fitting);
    } in
    IsPlan-more_links net link sound good (none_is (activation net c) first) (grind (arith, nat_tests)))))))))

part_sound : (net : Plan) (part : Part) → IsDeclarable part → IsPlan net → IfOk (with_part net part) IsPlan
part_sound net (part.Point name) spelled sound = point_sound net name spelled sound
part_sound net (part.Bound name from to most) spelled sound = bound_sound net name from to most spelled.0 sound
part_sound net (part.Link from low high to) spelled sound = link_sound net from low high to sound

sound_by : (place : ℕ) (parts : List Part) (taken : Result Plan PartFault) (net : Plan) → IfOk taken IsPlan → ((more : Plan) → IsPlan more → with_parts (place + 1) more parts ≡ Ok net → IsPlan net) → continued place parts taken ≡ Ok net
    → IsPlan net
sound_by place parts (Ok more) net sound later builds = later more sound builds
sound_by place parts (Err fault) net sound later builds = absurd (cc)

parts_sound : (place : ℕ) (net made : Plan) (parts : List Part) → All IsDeclarable parts → IsPlan net → with_parts place net parts ≡ Ok made → IsPlan made
parts_sound place net made [] spelled sound builds = let same : net ≡ made = cc in subst IsPlan same sound
parts_sound place net made (part ∷ parts) spelled sound builds =
    sound_by place parts (with_part net part) made (part_sound net part (All-head IsDeclarable part parts spelled) sound)
    (λ more also rest. parts_sound (place + 1) more made parts (All-tail IsDeclarable part parts spelled) also rest) builds

-- the parts of a plan text can be spelled
spelled_line : (version : PlanVersion) (line : List ℕ) (parts : List Part) → Declares version line parts → All IsDeclarable parts
spelled_line version line parts (inl one) =
    subst (All IsDeclarable) (sym one.1) (All-cons IsDeclarable one.0 [] one.2.1 (All-nil IsDeclarable))
spelled_line version line parts (inr (name, from, low, high, to, two, is)) =
    subst (All IsDeclarable) (sym two) (declarable_pair name from low high to is.2.0 is.2.1 is.2.2 is.2.3 is.2.4)

spelled_parts : (version : PlanVersion) (stage : PlanStage) (lines : List (List ℕ)) (delay : ℕ) (parts : List Part) (numbers : List ℕ) → IsPartialPlan version stage lines delay parts numbers → All IsDeclarable parts
spelled_parts version stage lines delay parts numbers (header blanks first all is) = All-nil IsDeclarable
spelled_parts version stage lines delay parts numbers (blank same before next d ps ns begins is) = spelled_parts version stage before delay parts numbers begins
spelled_parts version stage lines delay parts numbers (delays before next was d ps ns begins is) = spelled_parts version Opened before was parts numbers begins
spelled_parts version stage lines delay parts numbers (declares was before next d ps more ns begins declared) =
    All-append IsDeclarable ps more (spelled_parts version was before delay ps ns begins) (spelled_line version next more declared)

-- the delay of a plan text is within its limit
short_start : (version : PlanVersion) (stage : PlanStage) (lines : List (List ℕ)) (delay : ℕ) (parts : List Part) (numbers : List ℕ) → IsPartialPlan version stage lines delay parts numbers → delay ≤ most_delay
short_start version stage lines delay parts numbers (header blanks first all is) = omega arith
short_start version stage lines delay parts numbers (blank same before next d ps ns begins is) = short_start version stage before delay parts numbers begins
short_start version stage lines delay parts numbers (delays before next was d ps ns begins is) =
    let same : delay ≡ is.1 = ap unsigned_abs is.2 in
    omega (arith, same, is.4)
short_start version stage lines delay parts numbers (declares was before next d ps more ns begins declared) = short_start version was before delay ps ns begins

empty_sound : IsPlan empty
empty_sound = record {
  points_named = All-nil (λ name. IsTrue (is_name name));
  points_apart = IsDistinct-from_apart bytes_eq [] (λ i j d below inside. absurd (omega arith));
  bounds_sound = All-nil (IsBound empty);
  bounds_apart = IsDistinct-from_apart bytes_eq [] (λ i j d below inside. absurd (omega arith));
  links_sound = All-nil (IsLink empty);
  links_apart = search rules;
  few_points = omega arith;
  few_bounds = omega arith;
  few_links = omega arith;
  short_delay = omega arith;
}

-- what parts build that can be spelled is sound
built_sound : (parts : List Part) (net : Plan) → All IsDeclarable parts → built parts ≡ Ok net → IsPlan net
built_sound parts net spelled builds = parts_sound 0 empty net parts spelled empty_sound builds

-- a sound network of which the numbers are those that a plan may have
pub record IsGiven (net : Plan) : Type 0 where
  pub plan : IsPlan net
  pub numbers : HasPlanNumbers net

numbers_of : (net : Plan) (answer : Result Plan BuildFault) → IfOk answer HasPlanNumbers → answer ≡ Ok net → HasPlanNumbers net
numbers_of net (Ok made) numbers is = let same : made ≡ net = cc in subst HasPlanNumbers same numbers
numbers_of net (Err why) numbers is = absurd (cc)

with_delay_given : (net : Plan) (delay : ℕ) → IsPlan net → HasPlanNumbers net → delay ≤ most_delay → IsGiven (record net { delay = delay })
with_delay_given net delay plan numbers short = record {
  plan = sound_with_delay net delay plan numbers short;
  numbers = record { bounds = numbers.bounds; links = numbers.links };
}

-- what a delay within its limit and parts that can be spelled declare is so
pub declared_given : (delay : ℕ) (parts : List Part) (net : Plan) → delay ≤ most_delay → All IsDeclarable parts → declared_net delay parts ≡ Ok net → IsGiven net
declared_given delay parts net short spelled builds =
    let made = delayed_ok delay (built parts) net builds in
    let numbers = numbers_of made.0 (built parts) (built_numbers parts) made.1 in
    subst IsGiven (sym made.2) (with_delay_given made.0 delay (built_sound parts made.0 spelled made.1) numbers short)

-- and a network that lines declare
pub lines_given : (lines : List (List ℕ)) (net : Plan) (rest : List (List ℕ)) → DeclaresNetwork lines net rest → IsGiven net
lines_given lines net rest is =
    let begins = is.is_plan.begins in
    let version = is.is_plan.version in
    let stage = is.is_plan.stage in
    declared_given is.delay is.parts net (short_start version stage is.is_plan.initial is.delay is.parts is.numbers begins) (spelled_parts version stage is.is_plan.initial is.delay is.parts is.numbers begins) is.builds

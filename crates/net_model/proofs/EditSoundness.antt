-- What an accepted edit makes of a sound network is sound, and has the numbers of a plan if that one has them.
use Rattle.std.proofs.Common.{◌≡◌, ℕ, ℤ, ◌==◌, ◌||◌, Bool, true, false, not, List, [], ◌∷◌, ◌++◌, length, Option, Some, None, is_some, nat_le, slice_get, pos, int_lt, ◌≤ℤ◌, Result, Ok, Err, IfOk, IsTrue, refl, subst, arith}
use Rattle.std.proofs.lemmas.Bool.Decides.{nat_tests}
use Rattle.std.proofs.lemmas.Int.{ints}
use Rattle.std.proofs.lemmas.List.Elements.{All-set, All-map}
use Rattle.net_model.specs.BuiltNetwork.{◌>>=◌, refuse_if, named, with_point, with_bound, with_link}
use Rattle.net_model.specs.EditLaws.{HasNames, EditsKeepSound}
use Rattle.net_model.specs.EditedNetwork.{Edits, edited, added, known, unused, user_of, without_point, with_number, with_interval}
use Rattle.net_model.specs.Limits.{most_points, most_bounds, most_links, within_limit}
use Rattle.net_model.specs.Names.{is_name}
use Rattle.net_model.specs.Network.{Plan, IsPlan, IsPoint, HasPlanNumbers, point_named, bound_named, activation, link_named}
use Rattle.net_model.specs.declared.edit.Edit.{Edit}
use Rattle.net_model.specs.declared.edit.Edit.TheVariants as edits
use Rattle.net_model.specs.declared.edit.EditFault.{EditFault}
use Rattle.net_model.specs.declared.edit.EditFault.TheVariants as fault
use Rattle.net_model.specs.declared.edit.User.{User}
use Rattle.net_model.specs.declared.fault.PartFault.{PartFault}
use Rattle.net_model.specs.declared.fault.PartFault.TheVariants.{DuplicateName, UnknownName, TwoLinksOnPoint, LinkToItself, BadInterval, Limit}
use Rattle.net_model.specs.declared.ids.PointId.{PointId}
use Rattle.net_model.specs.declared.part.Bound.{Bound}
use Rattle.net_model.specs.declared.part.Link.{Link}
use Rattle.net_model.specs.declared.part.Part.TheVariants as part
use Rattle.net_model.specs.declared.part.Which.TheVariants.{Points, Links, Bounds, Number}
use Rattle.net_model.proofs.EditLemmas.{All-remove, shown_within_limit, within_sizes, declared_bound, bound_within, link_within, point_within, sound_without_bound, sound_without_link, sound_without_point, sound_with_number}
use Rattle.net_model.proofs.EditLemmas.{sound_with_interval}
use Rattle.net_model.proofs.NetworkLemmas.{IsPlan-more_points, IsPlan-more_bounds, IsPlan-more_links}
use Rattle.net_model.proofs.PlanNumbers.{unless_refused, fits, part_keeps}

-- ---- what an answer keeps
pub kept_added : (P : Plan → Type 0) (answer : Result Plan PartFault) → IfOk answer P → IfOk (added answer) P
kept_added P (Ok net) kept = kept
kept_added P (Err cause) kept = tt

pub if_known : {A : Type 0} (P : Plan → Type 0) (found : Option A) (next : A → Result Plan EditFault) → ((x : A) → found ≡ Some x → IfOk (next x) P) → IfOk (known found next) P
if_known P (Some x) next keeps = keeps x refl
if_known P None next keeps = tt

pub if_unused : (P : Plan → Type 0) (user : Option User) (net : Plan) → (user ≡ None → P net) → IfOk (unused user (Ok net)) P
if_unused P (Some user) net keeps = tt
if_unused P None net keeps = keeps refl

pub if_passed : (P : Plan → Type 0) (test : Bool) (cause : EditFault) (otherwise : Result Plan EditFault) → (test ≡ false → IfOk otherwise P) → IfOk (refuse_if test cause otherwise) P
if_passed P true cause otherwise keeps = tt
if_passed P false cause otherwise keeps = keeps refl

if_named : (P : Plan → Type 0) (net : Plan) (name : List ℕ) (next : PointId → Result Plan PartFault) → ((point : PointId) → IsPoint net point → IfOk (next point) P) → IfOk (named net name >>= next) P
if_named P net name next keeps = by (point_named net name) refl
  where
    by : (found : Option PointId) → point_named net name ≡ found → IfOk ((elim found [ Some point ↦ Ok point | None ↦ Err UnknownName ]) >>= next) P
    by (Some point) is = keeps point (point_within net name point is)
    by None is = tt

-- ---- numbers of a plan
pub edited_numbers : (net : Plan) (edit : Edit) → HasPlanNumbers net → IfOk (edited net edit) HasPlanNumbers
edited_numbers net (edits.AddPoint name) numbers = kept_added HasPlanNumbers (with_point net name) (part_keeps net (part.Point name) numbers)
edited_numbers net (edits.AddBound name from to most) numbers = kept_added HasPlanNumbers (with_bound net name from to most) (part_keeps net (part.Bound name from to most) numbers)
edited_numbers net (edits.AddLink from low high to) numbers = kept_added HasPlanNumbers (with_link net from low high to) (part_keeps net (part.Link from low high to) numbers)
edited_numbers net (edits.DropPoint name) numbers =
    if_known HasPlanNumbers (point_named net name) (λ point. unused (user_of net point) (Ok (without_point net point)))
    (λ point named. if_unused HasPlanNumbers (user_of net point) (without_point net point) (λ free. record {
      bounds = All-map (λ (b : Bound). within_limit b.most ≡ true) _ net.bounds numbers.bounds;
      links = All-map (λ (l : Link). within_limit l.high ≡ true) _ net.links numbers.links;
    }))
edited_numbers net (edits.DropBound name) numbers =
    if_known HasPlanNumbers (bound_named net name) _ (λ id named. record { bounds = All-remove (λ (b : Bound). within_limit b.most ≡ true) net.bounds id.0 numbers.bounds; links = numbers.links })
edited_numbers net (edits.SetBound name most) numbers =
    if_known HasPlanNumbers (bound_named net name) _ (λ id named.
    if_known HasPlanNumbers (slice_get net.bounds id.0) _ (λ bound at.
    if_passed HasPlanNumbers (not (within_limit most)) (fault.Limit Number) (Ok (with_number net id most bound)) (λ small. record {
      bounds = All-set (λ (b : Bound). within_limit b.most ≡ true) net.bounds id.0 (record bound { most = most }) (fits most small) numbers.bounds;
      links = numbers.links;
    })))
edited_numbers net (edits.DropLink to) numbers =
    if_known HasPlanNumbers (link_named net to) _ (λ id named. record { bounds = numbers.bounds; links = All-remove (λ (l : Link). within_limit l.high ≡ true) net.links id.0 numbers.links })
edited_numbers net (edits.SetLink to low high) numbers =
    if_known HasPlanNumbers (link_named net to) _ (λ id named.
    if_known HasPlanNumbers (slice_get net.links id.0) _ (λ link at.
    if_passed HasPlanNumbers (int_lt low (pos 1) || int_lt high low) fault.BadInterval (refuse_if (not (within_limit high)) (fault.Limit Number) (Ok (with_interval net id low high link))) (λ good.
    if_passed HasPlanNumbers (not (within_limit high)) (fault.Limit Number) (Ok (with_interval net id low high link)) (λ small. record {
      bounds = numbers.bounds;
      links = All-set (λ (l : Link). within_limit l.high ≡ true) net.links id.0 (record link { low = low; high = high }) (fits high small) numbers.links;
    }))))

-- what is answered has what the edit makes has
pub numbers_of : (answer : Result Plan EditFault) → IfOk answer HasPlanNumbers → (result : Result Plan EditFault) → Edits result answer → IfOk result HasPlanNumbers
numbers_of answer kept (Ok net) edits = let stated : Result Plan EditFault → Type 0 = λ r. IfOk r HasPlanNumbers in subst stated edits kept
numbers_of answer kept (Err cause) edits = tt

-- ---- soundness
none_of : {A : Type 0} (found : Option A) → is_some found ≡ false → found ≡ None
none_of (Some x) is = absurd (cc)
none_of None is = refl

interval_of : (low high : ℤ) → (int_lt low (pos 1) || int_lt high low) ≡ false → (pos 1 ≤ℤ low) × (low ≤ℤ high)
interval_of low high good = (grind (arith, ints), grind (arith, ints))

point_sound : (net : Plan) (name : List ℕ) → IsPlan net → IsTrue (is_name name) → IfOk (with_point net name) IsPlan
unfolding with_point
point_sound net name sound is =
    let more : Plan = record net { points = net.points ++ name ∷ [] } in
    let spare_capacity : Result Plan PartFault = refuse_if (nat_le most_points (length net.points)) (Limit Points) (Ok more) in
    unless_refused IsPlan (is_some (point_named net name)) DuplicateName spare_capacity (λ not_taken.
    unless_refused IsPlan (nat_le most_points (length net.points)) (Limit Points) (Ok more) (λ roomy.
    IsPlan-more_points net name sound is (none_of (point_named net name) not_taken) (grind (arith, nat_tests))))

bound_sound : (net : Plan) (name from to : List ℕ) (most : ℤ) → IsPlan net → IsTrue (is_name name) → IfOk (with_bound net name from to most) IsPlan
unfolding with_bound
bound_sound net name from to most sound is =
    let bound : PointId → PointId → Bound = λ x y. record { name = name; from = x; to = y; most = most } in
    let more : PointId → PointId → Plan = λ x y. record net { bounds = net.bounds ++ bound x y ∷ [] } in
    let spare_capacity : PointId → PointId → Result Plan PartFault = λ x y. refuse_if (nat_le most_bounds (length net.bounds)) (Limit Bounds) (Ok (more x y)) in
    let small : PointId → PointId → Result Plan PartFault = λ x y. refuse_if (not (within_limit most)) (Limit Number) (spare_capacity x y) in
    unless_refused IsPlan (is_some (bound_named net name)) DuplicateName (named net from >>= (λ x. named net to >>= (λ y. small x y))) (λ not_taken.
    if_named IsPlan net from (λ x. named net to >>= (λ y. small x y)) (λ x x_held.
    if_named IsPlan net to (λ y. small x y) (λ y y_held.
    unless_refused IsPlan (not (within_limit most)) (Limit Number) (spare_capacity x y) (λ fitting.
    unless_refused IsPlan (nat_le most_bounds (length net.bounds)) (Limit Bounds) (Ok (more x y)) (λ roomy.
    IsPlan-more_bounds net (bound x y) sound (declared_bound net sound (bound x y) is x_held y_held (fits most fitting)) (none_of (bound_named net name) not_taken) (grind (arith, nat_tests)))))))

link_sound : (net : Plan) (from : List ℕ) (low high : ℤ) (to : List ℕ) → IsPlan net → IfOk (with_link net from low high to) IsPlan
unfolding with_link
link_sound net from low high to sound =
    let link : PointId → PointId → Link = λ a c. record { from = a; low = low; high = high; to = c } in
    let more : PointId → PointId → Plan = λ a c. record net { links = net.links ++ link a c ∷ [] } in
    let spare_capacity : PointId → PointId → Result Plan PartFault = λ a c. refuse_if (nat_le most_links (length net.links)) (Limit Links) (Ok (more a c)) in
    let small : PointId → PointId → Result Plan PartFault = λ a c. refuse_if (not (within_limit high)) (Limit Number) (spare_capacity a c) in
    let interval : PointId → PointId → Result Plan PartFault = λ a c. refuse_if (int_lt low (pos 1) || int_lt high low) BadInterval (small a c) in
    let free : PointId → PointId → Result Plan PartFault = λ a c. refuse_if (is_some (activation net c)) TwoLinksOnPoint (interval a c) in
    let apart : PointId → PointId → Result Plan PartFault = λ a c. refuse_if (a.0 == c.0) LinkToItself (free a c) in
    if_named IsPlan net from (λ a. named net to >>= (λ c. apart a c)) (λ a a_held.
    if_named IsPlan net to (λ c. apart a c) (λ c c_held.
    unless_refused IsPlan (a.0 == c.0) LinkToItself (free a c) (λ other.
    unless_refused IsPlan (is_some (activation net c)) TwoLinksOnPoint (interval a c) (λ first.
    unless_refused IsPlan (int_lt low (pos 1) || int_lt high low) BadInterval (small a c) (λ good.
    unless_refused IsPlan (not (within_limit high)) (Limit Number) (spare_capacity a c) (λ fitting.
    unless_refused IsPlan (nat_le most_links (length net.links)) (Limit Links) (Ok (more a c)) (λ roomy.
    IsPlan-more_links net (link a c) sound (record {
      from_point = a_held;
      to_point = c_held;
      apart = grind (arith, nat_tests);
      positive = (interval_of low high good).0;
      interval = (interval_of low high good).1;
      within = within_sizes high (fits high fitting);
      shown_within = shown_within_limit high net.delay sound.short_delay (fits high fitting);
    }) (none_of (activation net c) first) (grind (arith, nat_tests)))))))))

pub edited_sound : (net : Plan) (edit : Edit) → IsPlan net → HasNames edit → IfOk (edited net edit) IsPlan
edited_sound net (edits.AddPoint name) sound names = kept_added IsPlan (with_point net name) (point_sound net name sound names)
edited_sound net (edits.AddBound name from to most) sound names = kept_added IsPlan (with_bound net name from to most) (bound_sound net name from to most sound names.0)
edited_sound net (edits.AddLink from low high to) sound names = kept_added IsPlan (with_link net from low high to) (link_sound net from low high to sound)
edited_sound net (edits.DropPoint name) sound names =
    if_known IsPlan (point_named net name) (λ point. unused (user_of net point) (Ok (without_point net point)))
    (λ point named. if_unused IsPlan (user_of net point) (without_point net point) (λ free. sound_without_point net sound point (point_within net name point named) free))
edited_sound net (edits.DropBound name) sound names = if_known IsPlan (bound_named net name) _ (λ id named. sound_without_bound net sound id.0 (bound_within net name id named))
edited_sound net (edits.SetBound name most) sound names =
    if_known IsPlan (bound_named net name) _ (λ id named.
    if_known IsPlan (slice_get net.bounds id.0) _ (λ bound at.
    if_passed IsPlan (not (within_limit most)) (fault.Limit Number) (Ok (with_number net id most bound)) (λ small. sound_with_number net sound id most bound at (fits most small))))
edited_sound net (edits.DropLink to) sound names = if_known IsPlan (link_named net to) _ (λ id named. sound_without_link net sound id.0 (link_within net to id named))
edited_sound net (edits.SetLink to low high) sound names =
    if_known IsPlan (link_named net to) _ (λ id named.
    if_known IsPlan (slice_get net.links id.0) _ (λ link at.
    if_passed IsPlan (int_lt low (pos 1) || int_lt high low) fault.BadInterval (refuse_if (not (within_limit high)) (fault.Limit Number) (Ok (with_interval net id low high link))) (λ good.
    if_passed IsPlan (not (within_limit high)) (fault.Limit Number) (Ok (with_interval net id low high link)) (λ small.
    sound_with_interval net sound id low high link at (interval_of low high good).0 (interval_of low high good).1 (fits high small)))))

pub law_edits_keep_sound : EditsKeepSound
law_edits_keep_sound net edit new is = record {
  sound = λ sound names. subst (λ (answer : Result Plan EditFault). IfOk answer IsPlan) is (edited_sound net edit sound names);
  numbers = λ numbers. subst (λ (answer : Result Plan EditFault). IfOk answer HasPlanNumbers) is (edited_numbers net edit numbers);
}

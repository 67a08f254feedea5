-- The moments that points have so far: of two parts of a partial schedule the first decides, and the second if the first has no moment;
-- points that are executed at a moment have it, and are executable; and the schedule that is made of all moments has one for each point.
use Rattle.std.proofs.Common.{◌≡◌, ℕ, zero, suc, ◌+◌, ◌<◌, ◌&&◌, Bool, true, false, cond, not, List, [], ◌∷◌, ◌++◌, length, map, Option, Some, None, ◌⊎◌, inl, inr, refl, sym, ap, subst, ◌∙◌, arith}
use Rattle.std.specs.Prelude.{slice_get, is_none, nat_lt, filter}
use Rattle.std.specs.List.{list_any, range_with_len, position_or_len, slice_index}
use Rattle.std.specs.Option.{option_map}
use Rattle.std.specs.Cmp.Lexicographic.{pointwise, pointwise_decides}
use Rattle.std.proofs.lemmas.Bool.{lt-ltb, cond_both, eqb-true, eq-eqb, and_parts}
use Rattle.std.proofs.lemmas.Option.{none-some, same_Some, slice_get-map, slice_get-get_or}
use Rattle.std.proofs.lemmas.List.{length-map}
use Rattle.std.proofs.lemmas.List.FromFn.{length-range_with_len, get_or-range_with_len}
use Rattle.net_model.specs.Network.{Plan, activation}
use Rattle.net_model.specs.declared.ids.PointId.{PointId}
use Rattle.net_model.specs.declared.ids.LinkId.{LinkId}
use Rattle.net_model.specs.declared.part.Link.{Link}
use Rattle.strategy_model.specs.Plays.{PartialSchedule, same_point, moment_so_far, at_moment, points_of, may_act, all_some, schedule_made}

-- which side of a choice was taken
pub pick : {A : Type 0} (b : Bool) (x y z : A) → cond b x y ≡ z → ((b ≡ true) × (x ≡ z)) ⊎ ((b ≡ false) × (y ≡ z))
pick true x y z made = inl (refl, made)
pick false x y z made = inr (refl, made)

-- points with one number are one point
pub same_from_number : (p q : PointId) → p.0 ≡ q.0 → p ≡ q
same_from_number p q same = λ i. record { 0 = same i }

pub same_from_test : (p q : PointId) → same_point p q ≡ true → p ≡ q
same_from_test p q same = same_from_number p q (eqb-true p.0 q.0 same)

pub test_from_same : (p q : PointId) → p ≡ q → same_point p q ≡ true
test_from_same p q same = eq-eqb p.0 q.0 (ap (λ (x : PointId). x.0) same)

pub same_points : (xs ys : List PointId) → pointwise same_point xs ys ≡ true → xs ≡ ys
same_points xs ys same = (pointwise_decides (λ p q. (same_from_test p q, test_from_same p q)) xs ys).0 same

-- the moment of a point among entries whose first is of point q
pub head_cases : (q p : PointId) (u m : ℕ) (rest : PartialSchedule) → moment_so_far ((q, u) ∷ rest) p ≡ Some m → ((q ≡ p) × (u ≡ m)) ⊎ (moment_so_far rest p ≡ Some m)
head_cases q p u m rest found =
    elim (pick (same_point q p) (Some u) (moment_so_far rest p) (Some m) found) [
      | inl here ↦ inl (same_from_test q p here.0, same_Some u m here.1)
      | inr later ↦ inr later.1
    ]

stays_at_head : (b : Bool) (o x y : Option ℕ) (m : ℕ) → (x ≡ Some m → y ≡ Some m) → cond b o x ≡ Some m → cond b o y ≡ Some m
stays_at_head true o x y m stays here = here
stays_at_head false o x y m stays later = stays later

pub found_first : (xs ys : PartialSchedule) (p : PointId) (m : ℕ) → moment_so_far xs p ≡ Some m → moment_so_far (xs ++ ys) p ≡ Some m
found_first [] ys p m found = absurd (none-some m found)
found_first (entry ∷ xs) ys p m found =
    stays_at_head (same_point entry.0 p) (Some entry.1) (moment_so_far xs p) (moment_so_far (xs ++ ys) p) m (found_first xs ys p m) found

missing_at_head : (b : Bool) (u : ℕ) (x y z : Option ℕ) → (x ≡ None → y ≡ z) → cond b (Some u) x ≡ None → cond b (Some u) y ≡ z
missing_at_head true u x y z later here = absurd (none-some u (sym here))
missing_at_head false u x y z later missing = later missing

pub found_later : (xs ys : PartialSchedule) (p : PointId) → moment_so_far xs p ≡ None → moment_so_far (xs ++ ys) p ≡ moment_so_far ys p
found_later [] ys p missing = refl
found_later (entry ∷ xs) ys p missing =
    missing_at_head (same_point entry.0 p) entry.1 (moment_so_far xs p) (moment_so_far (xs ++ ys) p) (moment_so_far ys p) (found_later xs ys p) missing

-- points that get moment t have moment t
pub moment_is : (t : ℕ) (points : List PointId) (p : PointId) (m : ℕ) → moment_so_far (at_moment t points) p ≡ Some m → t ≡ m
moment_is t [] p m found = absurd (none-some m found)
moment_is t (q ∷ points) p m found =
    elim (head_cases q p t m (at_moment t points) found) [ inl here ↦ here.1 | inr later ↦ moment_is t points p m later ]

-- among the points that pass a test only those have a moment
pub passes_test : (test : PointId → Bool) (t : ℕ) (points : List PointId) (p : PointId) (m : ℕ) → moment_so_far (at_moment t (filter test points)) p ≡ Some m → test p ≡ true
passes_test test t [] p m found = absurd (none-some m found)
passes_test test t (q ∷ points) p m found =
    elim (pick (test q) (q ∷ filter test points) (filter test points) (filter test (q ∷ points)) refl) [
      | inl kept ↦ elim (head_cases q p t m (at_moment t (filter test points)) (subst (λ (qs : List PointId). moment_so_far (at_moment t qs) p ≡ Some m) (sym kept.1) found)) [
        | inl here ↦ subst (λ (x : PointId). test x ≡ true) here.0 kept.0
        | inr later ↦ passes_test test t points p m later
      ]
      | inr left ↦ passes_test test t points p m (subst (λ (qs : List PointId). moment_so_far (at_moment t qs) p ≡ Some m) (sym left.1) found)
    ]

-- acts are executable
pub acts_executable : (net : Plan) (so_far : PartialSchedule) (t : ℕ) (acts : List PointId) (p : PointId) (m : ℕ) → may_act net so_far acts ≡ true → moment_so_far (at_moment t acts) p ≡ Some m → is_none (activation net p) ≡ true
acts_executable net so_far t [] p m may found = absurd (none-some m found)
acts_executable net so_far t (act ∷ acts) p m may found =
    let a = nat_lt act.0 (length net.points) in
    let b = is_none (activation net act) in
    let c = is_none (moment_so_far so_far act) in
    let d = not (list_any (same_point act) acts) in
    let e = may_act net so_far acts in
    let before_e = and_parts (a && b && c && d) e may in
    let before_d = and_parts (a && b && c) d before_e.0 in
    let before_c = and_parts (a && b) c before_d.0 in
    let before_b = and_parts a b before_c.0 in
    elim (head_cases act p t m (at_moment t acts) found) [
      | inl here ↦ subst (λ (x : PointId). is_none (activation net x) ≡ true) here.0 before_b.1
      | inr later ↦ acts_executable net so_far t acts p m before_e.1 later
    ]

-- a point in which a link ends is not executable
passes_within : (test : Link → Bool) (links : List Link) (i : ℕ) (link : Link) → slice_get links i ≡ Some link → test link ≡ true → position_or_len test links < length links
passes_within test [] i link found passes = absurd (none-some link found)
passes_within test (l ∷ links) zero link found passes =
    let here : test l ≡ true = subst (λ (x : Link). test x ≡ true) (sym (same_Some l link found)) passes in
    subst (λ (b : Bool). cond (not b) (1 + position_or_len test links) 0 < suc (length links)) (sym here) (omega arith)
passes_within test (l ∷ links) (suc i) link found passes =
    let later = passes_within test links i link found passes in
    cond_both (not (test l)) (1 + position_or_len test links) 0 (λ n. n < suc (length links)) (λ _. omega arith) (λ _. omega arith)

pub contingent : (net : Plan) (i : ℕ) (link : Link) → slice_get net.links i ≡ Some link → is_none (activation net link.to) ≡ false
contingent net i link found =
    let test : Link → Bool = λ l. same_point l.to link.to in
    let passes : test link ≡ true = test_from_same link.to link.to refl in
    let within = lt-ltb (position_or_len test net.links) (length net.links) (passes_within test net.links i link found passes) in
    subst (λ (b : Bool). is_none (option_map (λ k. let label : LinkId = record { 0 = k } in label) (cond b (Some (position_or_len test net.links)) None)) ≡ false) (sym within) refl

-- all of the options are there only if they are those of the list
all_there : (options : List (Option ℕ)) (xs : List ℕ) → all_some options ≡ Some xs → options ≡ map Some xs
all_there [] xs made = ap (map Some) (same_Some [] xs made)
all_there (None ∷ options) xs made = absurd (none-some xs made)
all_there (Some x ∷ options) xs made = go (all_some options) refl made (λ ys is. all_there options ys is)
  where
    go : (others : Option (List ℕ)) → all_some options ≡ others → option_map (λ ys. x ∷ ys) others ≡ Some xs → ((ys : List ℕ) → all_some options ≡ Some ys → options ≡ map Some ys) → Some x ∷ options ≡ map Some xs
    go None is made rest = absurd (none-some xs made)
    go (Some ys) is made rest =
        ap (λ (os : List (Option ℕ)). Some x ∷ os) (rest ys is) ∙ ap (map Some) (same_Some (x ∷ ys) xs made)

-- a schedule that was made has one moment for each point
pub made_length : (net : Plan) (so_far : PartialSchedule) (schedule : List ℕ) → schedule_made net so_far ≡ Some schedule → length schedule ≡ length net.points
made_length net so_far schedule made =
    let options = map (moment_so_far so_far) (points_of net) in
    let there : options ≡ map Some schedule = all_there options schedule made in
    let numbers = range_with_len 0 (length net.points) in
    let mapped : length (map (moment_so_far so_far) (points_of net)) ≡ length (points_of net) = length-map (points_of net) (moment_so_far so_far) in
    let points : length (points_of net) ≡ length numbers = length-map numbers (λ (k : ℕ). let point : PointId = record { 0 = k } in point) in
    omega (arith, ap length there, length-map {A = ℕ} {B = Option ℕ} schedule (λ x. Some x), mapped, points, length-range_with_len 0 (length net.points))

number_at : (n k : ℕ) → k < n → slice_get (range_with_len 0 n) k ≡ Some k
number_at n k within =
    let size = length-range_with_len 0 n in
    let here : 0 + k ≡ k = omega arith in
    slice_get-get_or (range_with_len 0 n) k 0 (omega arith) ∙ ap (λ (x : ℕ). Some x) (get_or-range_with_len 0 n k 0 within ∙ here)

pub point_at : (net : Plan) (p : PointId) → p.0 < length net.points → slice_get (points_of net) p.0 ≡ Some p
point_at net p within =
    let numbers = range_with_len 0 (length net.points) in
    let point_of : ℕ → PointId = λ k. record { 0 = k } in
    slice_get-map point_of numbers p.0 ∙ ap (option_map point_of) (number_at (length net.points) p.0 within)

-- in the schedule that was made each point has its moment
pub made_at : (net : Plan) (so_far : PartialSchedule) (schedule : List ℕ) → schedule_made net so_far ≡ Some schedule → (p : PointId) → p.0 < length net.points → moment_so_far so_far p ≡ Some (slice_index schedule p.0)
made_at net so_far schedule made p within =
    let options = map (moment_so_far so_far) (points_of net) in
    let there : options ≡ map Some schedule = all_there options schedule made in
    let size = made_length net so_far schedule made in
    let known = slice_get-map (moment_so_far so_far) (points_of net) p.0 ∙ ap (option_map (moment_so_far so_far)) (point_at net p within) in
    let moments = slice_get-map (λ (x : ℕ). Some x) schedule p.0 ∙ ap (option_map (λ (x : ℕ). Some x)) (slice_get-get_or schedule p.0 0 (omega arith)) in
    same_Some (moment_so_far so_far p) (Some (slice_index schedule p.0)) (sym known ∙ ap (λ (os : List (Option ℕ)). slice_get os p.0) there ∙ moments)

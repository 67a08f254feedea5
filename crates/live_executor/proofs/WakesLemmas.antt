-- Gathered from the lower bounds and waits, point after point, the lists have each point as often as it is fixed.
use Rattle.std.proofs.Common.{◌≡◌, ◌≢◌, ℕ, ◌+◌, ◌<◌, ◌≤◌, ℤ, Bool, true, false, cond, List, [], ◌∷◌, ◌++◌, length, get_or, take, Option, Some, None, refl, ap, sym, subst, ◌∙◌, inl, inr, arith}
use Rattle.std.specs.Prelude.{◌==◌, IfSome, slice_get, replicate}
use Rattle.std.specs.List.{All, Contains, count_by}
use Rattle.std.specs.Option.{option_map, option_map_or}
use Rattle.std.proofs.lemmas.Bool.{cases_lt, eqb-true, true≢false}
use Rattle.std.proofs.lemmas.Bool.Decides.{nat_tests}
use Rattle.std.proofs.lemmas.List.{get_or_past, get_or-set_same, get_or-set_other, length-set, get_or-take, length-take, get_or-replicate, length-replicate, take_all, take_more, get_or_default}
use Rattle.std.proofs.lemmas.List.Elements.{All-append, All-nil, All-cons}
use Rattle.std.proofs.lemmas.List.Sums.{sum_by-append, sum_by-cons, fold-append}
use Rattle.std.proofs.lemmas.Option.{none-some, same_Some, slice_get_cases}
use Rattle.closure_model.specs.Orders.{contains_point}
use Rattle.closure_model.proofs.Lists.{Contains-head, Contains-tail}
use Rattle.net_model.specs.declared.ids.PointId.{PointId}
use Rattle.net_model.specs.declared.ids.LinkId.{LinkId}
use Rattle.net_model.specs.declared.part.Link.{Link}
use Rattle.dispatch_net.specs.declared.dispatch.Conditions.{Conditions}
use Rattle.dispatch_net.specs.Dispatchable.{conditions_at, no_conditions}
use Rattle.execution_model.specs.Execution.{Setting}
use Rattle.live_executor.specs.WokenPoints.{times, is_bound_after, is_wait_from, count_fixed_by, AreWoken}
use Rattle.live_executor.specs.Wakes.{WakeLists, list_at, added_to_list, gathered, bound_place, wait_place, with_point_wakes, is_wait_to, AreWakesOf}
use Rattle.live_executor.proofs.WakeLemmas.{count_cons, count_zero, is_among_times}

abbrev one_if : Bool → ℕ
one_if b = cond b 1 0

-- ---- one point more
times_push : (points : List PointId) (point other : PointId) → times (points ++ point ∷ []) other ≡ times points other + cond (point.0 == other.0) 1 0
times_push points point other =
    let one : PointId → ℕ = λ (p : PointId). cond (p.0 == other.0) 1 0 in
    let both : times (points ++ point ∷ []) other ≡ times points other + times (point ∷ []) other = sum_by-append one points (point ∷ []) in
    let last : times (point ∷ []) other ≡ cond (point.0 == other.0) 1 0 + 0 = sum_by-cons one point [] in
    omega (arith, both, last)

times_same : (points : List PointId) (point : PointId) → times (points ++ point ∷ []) point ≡ times points point + 1
times_same points point = times_push points point point ∙ ap (λ (b : Bool). times points point + cond b 1 0) (let same : point.0 == point.0 ≡ true = grind (arith, nat_tests) in same)

times_differs : (points : List PointId) (point other : PointId) → point.0 == other.0 ≡ false → times (points ++ point ∷ []) other ≡ times points other
times_differs points point other differs =
    let push = times_push points point other in
    let none : one_if (point.0 == other.0) ≡ 0 = ap one_if differs in
    omega (arith, push, none)

pub length-added_to_list : (lists : List (List PointId)) (place point : PointId) → length (added_to_list lists place point) ≡ length lists
length-added_to_list lists place point = length-set lists place.0 (list_at lists place ++ point ∷ [])

module _ (lists : List (List PointId)) (place point : PointId) (inside : place.0 < length lists) where
  here : list_at (added_to_list lists place point) place ≡ list_at lists place ++ point ∷ []
  here = get_or-set_same lists place.0 (list_at lists place ++ point ∷ []) [] inside

  elsewhere : (p : PointId) → place.0 == p.0 ≡ false → list_at (added_to_list lists place point) p ≡ list_at lists p
  elsewhere p differs = get_or-set_other lists place.0 p.0 (list_at lists place ++ point ∷ []) [] (let apart : p.0 ≢ place.0 = grind (arith, nat_tests) in apart)

  at_place : (P : PointId → Type 0) (p : PointId) → place.0 == p.0 ≡ true → P place → P p
  at_place P p same holds = subst (λ (k : ℕ). P (record { 0 = k })) (eqb-true place.0 p.0 same) holds

  pub added_same : (p : PointId) → times (list_at (added_to_list lists place point) p) point ≡ times (list_at lists p) point + cond (place.0 == p.0) 1 0
  added_same p = by (place.0 == p.0) refl
    where
      by : (b : Bool) → place.0 == p.0 ≡ b → times (list_at (added_to_list lists place point) p) point ≡ times (list_at lists p) point + cond b 1 0
      by true same =
          at_place (λ (q : PointId). times (list_at (added_to_list lists place point) q) point ≡ times (list_at lists q) point + 1) p same
          (ap (λ (ps : List PointId). times ps point) here ∙ times_same (list_at lists place) point)
      by false differs = (let kept = ap (λ (ps : List PointId). times ps point) (elsewhere p differs) in omega (arith, kept))

  pub added_other : (p other : PointId) → point.0 == other.0 ≡ false → times (list_at (added_to_list lists place point) p) other ≡ times (list_at lists p) other
  added_other p other apart = by (place.0 == p.0) refl
    where
      by : (b : Bool) → place.0 == p.0 ≡ b → times (list_at (added_to_list lists place point) p) other ≡ times (list_at lists p) other
      by true same =
          at_place (λ (q : PointId). times (list_at (added_to_list lists place point) q) other ≡ times (list_at lists q) other) p same
          (ap (λ (ps : List PointId). times ps other) here ∙ times_differs (list_at lists place) point other apart)
      by false differs = ap (λ (ps : List PointId). times ps other) (elsewhere p differs)

  pub added_inside : (n : ℕ) → point.0 < n → (p : PointId) → All (λ (other : PointId). other.0 < n) (list_at lists p) → All (λ (other : PointId). other.0 < n) (list_at (added_to_list lists place point) p)
  added_inside n below p before = by (place.0 == p.0) refl
    where
      by : (b : Bool) → place.0 == p.0 ≡ b → All (λ (other : PointId). other.0 < n) (list_at (added_to_list lists place point) p)
      by true same =
          let at : place ≡ p = at_place (λ (q : PointId). place ≡ q) p same refl in
          subst (λ (q : PointId). All (λ (other : PointId). other.0 < n) (list_at (added_to_list lists place point) q)) at
          (subst (λ (ps : List PointId). All (λ (other : PointId). other.0 < n) ps) (sym here)
          (All-append (λ (other : PointId). other.0 < n) (list_at lists place) (point ∷ []) (subst (λ (q : PointId). All (λ (other : PointId). other.0 < n) (list_at lists q)) (sym at) before)
          (All-cons (λ (other : PointId). other.0 < n) point [] below (All-nil (λ (other : PointId). other.0 < n)))))
      by false differs = subst (λ (ps : List PointId). All (λ (other : PointId). other.0 < n) ps) (sym (elsewhere p differs)) before

-- ---- the items of a point
module _ {X : Type 0} (place : X → Option PointId) (stands : PointId → X → Bool) (says : (p : PointId) (x : X) → stands p x ≡ option_map_or (λ (at : PointId). at.0 == p.0) (place x) false) (point : PointId) where
  abbrev next_lists : List (List PointId) → Option PointId → List (List PointId)
  next_lists lists o = option_map_or (λ (at : PointId). added_to_list lists at point) o lists

  next_length : (lists : List (List PointId)) (o : Option PointId) → length (next_lists lists o) ≡ length lists
  next_length lists None = refl
  next_length lists (Some at) = length-set lists at.0 (list_at lists at ++ point ∷ [])

  next_same : (lists : List (List PointId)) (o : Option PointId) (p : PointId) → IfSome o (λ at. at.0 < length lists)
      → times (list_at (next_lists lists o) p) point ≡ times (list_at lists p) point + cond (option_map_or (λ (at : PointId). at.0 == p.0) o false) 1 0
  next_same lists None p inside = omega arith
  next_same lists (Some at) p inside = added_same lists at point inside p

  next_other : (lists : List (List PointId)) (o : Option PointId) (p other : PointId) → IfSome o (λ at. at.0 < length lists) → point.0 == other.0 ≡ false
      → times (list_at (next_lists lists o) p) other ≡ times (list_at lists p) other
  next_other lists None p other inside apart = refl
  next_other lists (Some at) p other inside apart = added_other lists at point inside p other apart

  next_inside : (lists : List (List PointId)) (o : Option PointId) (n : ℕ) → IfSome o (λ at. at.0 < length lists) → point.0 < n → ((p : PointId) → All (λ (other : PointId). other.0 < n) (list_at lists p))
      → (p : PointId) → All (λ (other : PointId). other.0 < n) (list_at (next_lists lists o) p)
  next_inside lists None n inside below before p = before p
  next_inside lists (Some at) n inside below before p = added_inside lists at point inside n below p (before p)

  pub gathered_length : (lists : List (List PointId)) (items : List X) → length (gathered place point lists items) ≡ length lists
  gathered_length lists [] = refl
  gathered_length lists (x ∷ xs) = gathered_length (next_lists lists (place x)) xs ∙ next_length lists (place x)

  rest_inside : (lists : List (List PointId)) (x : X) (xs : List X) → ((y : X) → Contains (x ∷ xs) y → IfSome (place y) (λ at. at.0 < length lists))
      → (y : X) → Contains xs y → IfSome (place y) (λ at. at.0 < length (next_lists lists (place x)))
  rest_inside lists x xs inside y among = subst (λ n. IfSome (place y) (λ at. at.0 < n)) (sym (next_length lists (place x))) (inside y (Contains-tail x xs y among))

  pub gathered_same : (lists : List (List PointId)) (items : List X) (p : PointId) → ((x : X) → Contains items x → IfSome (place x) (λ at. at.0 < length lists))
      → times (list_at (gathered place point lists items) p) point ≡ times (list_at lists p) point + count_by (stands p) items
  gathered_same lists [] p inside = omega arith
  gathered_same lists (x ∷ xs) p inside =
      let rest = gathered_same (next_lists lists (place x)) xs p (rest_inside lists x xs inside) in
      let first = next_same lists (place x) p (inside x (Contains-head x xs)) in
      let is : one_if (option_map_or (λ (at : PointId). at.0 == p.0) (place x) false) ≡ one_if (stands p x) = ap one_if (sym (says p x)) in
      let counts = count_cons (stands p) x xs in
      omega (arith, rest, first, is, counts)

  pub gathered_other : (lists : List (List PointId)) (items : List X) (p other : PointId) → point.0 == other.0 ≡ false → ((x : X) → Contains items x → IfSome (place x) (λ at. at.0 < length lists))
      → times (list_at (gathered place point lists items) p) other ≡ times (list_at lists p) other
  gathered_other lists [] p other apart inside = refl
  gathered_other lists (x ∷ xs) p other apart inside =
      gathered_other (next_lists lists (place x)) xs p other apart (rest_inside lists x xs inside) ∙ next_other lists (place x) p other (inside x (Contains-head x xs)) apart

  pub gathered_inside : (lists : List (List PointId)) (items : List X) (n : ℕ) → point.0 < n → ((x : X) → Contains items x → IfSome (place x) (λ at. at.0 < length lists))
      → ((p : PointId) → All (λ (other : PointId). other.0 < n) (list_at lists p)) → (p : PointId) → All (λ (other : PointId). other.0 < n) (list_at (gathered place point lists items) p)
  gathered_inside lists [] n below inside before p = before p
  gathered_inside lists (x ∷ xs) n below inside before p =
      gathered_inside (next_lists lists (place x)) xs n below (rest_inside lists x xs inside) (next_inside lists (place x) n (inside x (Contains-head x xs)) below before) p

-- ---- item by item
module _ {X : Type 0} (place : X → Option PointId) (point : PointId) where
  pub gathered_more : (lists : List (List PointId)) (items : List X) (i : ℕ) (d : X) (at : PointId) → i < length items → place (get_or items i d) ≡ Some at
      → gathered place point lists (take (i + 1) items) ≡ added_to_list (gathered place point lists (take i items)) at point
  gathered_more lists items i d at inside is =
      let before = gathered place point lists (take i items) in
      ap (gathered place point lists) (take_more items i d inside)
      ∙ (fold-append (λ (now : List (List PointId)) (item : X). option_map_or (λ (p : PointId). added_to_list now p point) (place item) now) lists (take i items) (get_or items i d ∷ [])
      ∙ ap (λ (o : Option PointId). option_map_or (λ (p : PointId). added_to_list before p point) o before) is)

pub got_inside : (links : List Link) (k : ℕ) (d : Link) → k < length links → slice_get links k ≡ Some (get_or links k d)
got_inside links k d inside = elim (slice_get_cases links k).1 [
  | inl (x, within, got, at) ↦ got ∙ ap Some (sym at ∙ get_or_default links k x d inside)
  | inr (past, none) ↦ absurd (omega (arith, past, inside))
]

pub bound_says : (p : PointId) (bound : PointId × ℤ) → is_bound_after p bound ≡ option_map_or (λ (at : PointId). at.0 == p.0) (bound_place bound) false
bound_says p bound = refl

pub from_says : (links : List Link) (p : PointId) (wait : LinkId × ℤ) → is_wait_from links p wait ≡ option_map_or (λ (at : PointId). at.0 == p.0) (wait_place (λ link. link.from) links wait) false
from_says links p wait = by (slice_get links wait.0.0)
  where
    by : (o : Option Link) → option_map_or (λ (link : Link). link.from.0 == p.0) o false ≡ option_map_or (λ (at : PointId). at.0 == p.0) (option_map (λ (link : Link). link.from) o) false
    by None = refl
    by (Some link) = refl

pub to_says : (links : List Link) (p : PointId) (wait : LinkId × ℤ) → is_wait_to links p wait ≡ option_map_or (λ (at : PointId). at.0 == p.0) (wait_place (λ link. link.to) links wait) false
to_says links p wait = by (slice_get links wait.0.0)
  where
    by : (o : Option Link) → option_map_or (λ (link : Link). link.to.0 == p.0) o false ≡ option_map_or (λ (at : PointId). at.0 == p.0) (option_map (λ (link : Link). link.to) o) false
    by None = refl
    by (Some link) = refl

contains_got : (links : List Link) (k : ℕ) (link : Link) → slice_get links k ≡ Some link → Contains links link
contains_got links k link is = elim (slice_get_cases links k).1 [
  | inl (x, inside, got, at) ↦ (let same : x ≡ link = same_Some x link (sym got ∙ is) in (k, inside, subst (λ (l : Link). get_or links k l ≡ l) same at))
  | inr (past, none) ↦ absurd (none-some link (sym none ∙ is))
]

-- the ends of links are among the points
pub place_inside : (end : Link → PointId) (n : ℕ) (links : List Link) (wait : LinkId × ℤ) → ((link : Link) → Contains links link → (end link).0 < n) → IfSome (wait_place end links wait) (λ at. at.0 < n)
place_inside end n links wait each = by (slice_get links wait.0.0) refl
  where
    by : (o : Option Link) → slice_get links wait.0.0 ≡ o → IfSome (option_map end o) (λ at. at.0 < n)
    by None is = tt
    by (Some link) is = each link (contains_got links wait.0.0 link is)

-- ---- point after point
abbrev first_of : Setting → ℕ → Setting
first_of setting i = record { links = setting.links; dispatch = take i setting.dispatch }

conditions_before : (dispatch : List Conditions) (i : ℕ) (other : PointId) → other.0 ≢ i → conditions_at (take (i + 1) dispatch) other ≡ conditions_at (take i dispatch) other
conditions_before dispatch i other apart = elim (cases_lt other.0 i) [
  | inl less ↦ get_or-take (i + 1) dispatch other.0 no_conditions (omega (arith, less)) ∙ sym (get_or-take i dispatch other.0 no_conditions less)
  | inr past ↦
      (let short = length-take (i + 1) dispatch in
      let shorter = length-take i dispatch in
      get_or_past (take (i + 1) dispatch) other.0 no_conditions (omega (arith, past, short, apart)) ∙ sym (get_or_past (take i dispatch) other.0 no_conditions (omega (arith, past, shorter))))
]

module _ (setting : Setting) (points i : ℕ) (wakes : WakeLists) (before : AreWakesOf (first_of setting i) points wakes) (within : i < points) where
  abbrev point : PointId
  point = record { 0 = i }

  abbrev its : Conditions
  its = conditions_at setting.dispatch point

  abbrev from_place : LinkId × ℤ → Option PointId
  from_place = wait_place (λ link. link.from) setting.links

  abbrev to_place : LinkId × ℤ → Option PointId
  to_place = wait_place (λ link. link.to) setting.links

  none_yet : conditions_at (take i setting.dispatch) point ≡ no_conditions
  none_yet = (let short = length-take i setting.dispatch in get_or_past (take i setting.dispatch) i no_conditions (omega (arith, short)))

  its_now : conditions_at (take (i + 1) setting.dispatch) point ≡ its
  its_now = get_or-take (i + 1) setting.dispatch i no_conditions (omega arith)

  module _ (bounds_inside : (x : PointId × ℤ) → Contains its.lower_bounds x → IfSome (bound_place x) (λ at. at.0 < points))
      (from_inside : (x : LinkId × ℤ) → Contains its.waits x → IfSome (from_place x) (λ at. at.0 < points))
      (to_inside : (x : LinkId × ℤ) → Contains its.waits x → IfSome (to_place x) (λ at. at.0 < points)) where
    abbrev after_bounds : List (List PointId)
    after_bounds = gathered bound_place point wakes.fixes its.lower_bounds

    bounds_in : (x : PointId × ℤ) → Contains its.lower_bounds x → IfSome (bound_place x) (λ at. at.0 < length wakes.fixes)
    bounds_in x among = subst (λ n. IfSome (bound_place x) (λ at. at.0 < n)) (sym before.fixes_count) (bounds_inside x among)

    long : length after_bounds ≡ points
    long = gathered_length bound_place is_bound_after bound_says point wakes.fixes its.lower_bounds ∙ before.fixes_count

    from_in : (x : LinkId × ℤ) → Contains its.waits x → IfSome (from_place x) (λ at. at.0 < length after_bounds)
    from_in x among = subst (λ n. IfSome (from_place x) (λ at. at.0 < n)) (sym long) (from_inside x among)

    to_in : (x : LinkId × ℤ) → Contains its.waits x → IfSome (to_place x) (λ at. at.0 < length wakes.ends)
    to_in x among = subst (λ n. IfSome (to_place x) (λ at. at.0 < n)) (sym before.ends_count) (to_inside x among)

    abbrev new : WakeLists
    new = with_point_wakes setting.links wakes point its

    fixed_here : (p : PointId) → p.0 < points → times (list_at new.fixes p) point ≡ count_fixed_by (first_of setting (i + 1)) p (conditions_at (take (i + 1) setting.dispatch) point)
    fixed_here p inside =
        let a = gathered_same bound_place is_bound_after bound_says point wakes.fixes its.lower_bounds p bounds_in in
        let b = gathered_same from_place (is_wait_from setting.links) (from_says setting.links) point after_bounds its.waits p from_in in
        let c = before.fixed p inside point in
        let d : count_fixed_by setting p (conditions_at (take i setting.dispatch) point) ≡ 0 = ap (count_fixed_by setting p) none_yet in
        let e : count_fixed_by setting p (conditions_at (take (i + 1) setting.dispatch) point) ≡ count_fixed_by setting p its = ap (count_fixed_by setting p) its_now in
        omega (arith, a, b, c, d, e)

    fixed_there : (p other : PointId) → p.0 < points → i == other.0 ≡ false → times (list_at new.fixes p) other ≡ count_fixed_by (first_of setting (i + 1)) p (conditions_at (take (i + 1) setting.dispatch) other)
    fixed_there p other inside apart =
        gathered_other from_place (is_wait_from setting.links) (from_says setting.links) point after_bounds its.waits p other apart from_in
        ∙ (gathered_other bound_place is_bound_after bound_says point wakes.fixes its.lower_bounds p other apart bounds_in
        ∙ (before.fixed p inside other ∙ ap (count_fixed_by setting p) (sym (conditions_before setting.dispatch i other (let differs : other.0 ≢ i = grind (arith, nat_tests) in differs)))))

    abbrev ended_by : PointId → Conditions → ℕ
    ended_by p c = count_by (is_wait_to setting.links p) c.waits

    ended_here : (p : PointId) → p.0 < points → times (list_at new.ends p) point ≡ ended_by p (conditions_at (take (i + 1) setting.dispatch) point)
    ended_here p inside =
        let b = gathered_same to_place (is_wait_to setting.links) (to_says setting.links) point wakes.ends its.waits p to_in in
        let c = before.ended p inside point in
        let d : ended_by p (conditions_at (take i setting.dispatch) point) ≡ 0 = ap (ended_by p) none_yet in
        let e : ended_by p (conditions_at (take (i + 1) setting.dispatch) point) ≡ ended_by p its = ap (ended_by p) its_now in
        omega (arith, b, c, d, e)

    ended_there : (p other : PointId) → p.0 < points → i == other.0 ≡ false → times (list_at new.ends p) other ≡ ended_by p (conditions_at (take (i + 1) setting.dispatch) other)
    ended_there p other inside apart =
        gathered_other to_place (is_wait_to setting.links) (to_says setting.links) point wakes.ends its.waits p other apart to_in
        ∙ (before.ended p inside other ∙ ap (ended_by p) (sym (conditions_before setting.dispatch i other (let differs : other.0 ≢ i = grind (arith, nat_tests) in differs))))

    at_point : (P : PointId → Type 0) (other : PointId) → i == other.0 ≡ true → P point → P other
    at_point P other same holds = subst (λ (k : ℕ). P (record { 0 = k })) (eqb-true i other.0 same) holds

    pub one_point_more : AreWakesOf (first_of setting (i + 1)) points new
    one_point_more = record {
      fixes_count = gathered_length from_place (is_wait_from setting.links) (from_says setting.links) point after_bounds its.waits ∙ long;
      ends_count = gathered_length to_place (is_wait_to setting.links) (to_says setting.links) point wakes.ends its.waits ∙ before.ends_count;
      fixed = λ p inside other. fixed_by_case p inside other (i == other.0) refl;
      ended = λ p inside other. ended_by_case p inside other (i == other.0) refl;
      fixes_inside = gathered_inside from_place (is_wait_from setting.links) (from_says setting.links) point after_bounds its.waits points within from_in
          (gathered_inside bound_place is_bound_after bound_says point wakes.fixes its.lower_bounds points within bounds_in before.fixes_inside);
      ends_inside = gathered_inside to_place (is_wait_to setting.links) (to_says setting.links) point wakes.ends its.waits points within to_in before.ends_inside;
    }
      where
        fixed_by_case : (p : PointId) → p.0 < points → (other : PointId) (b : Bool) → i == other.0 ≡ b
            → times (list_at new.fixes p) other ≡ count_fixed_by (first_of setting (i + 1)) p (conditions_at (take (i + 1) setting.dispatch) other)
        fixed_by_case p inside other true same =
            at_point (λ (q : PointId). times (list_at new.fixes p) q ≡ count_fixed_by (first_of setting (i + 1)) p (conditions_at (take (i + 1) setting.dispatch) q)) other same (fixed_here p inside)
        fixed_by_case p inside other false apart = fixed_there p other inside apart

        ended_by_case : (p : PointId) → p.0 < points → (other : PointId) (b : Bool) → i == other.0 ≡ b
            → times (list_at new.ends p) other ≡ ended_by p (conditions_at (take (i + 1) setting.dispatch) other)
        ended_by_case p inside other true same =
            at_point (λ (q : PointId). times (list_at new.ends p) q ≡ ended_by p (conditions_at (take (i + 1) setting.dispatch) q)) other same (ended_here p inside)
        ended_by_case p inside other false apart = ended_there p other inside apart

-- ---- before the first point, and after the last
pub no_points : (setting : Setting) (points : ℕ) (wakes : WakeLists) → wakes.fixes ≡ replicate points [] → wakes.ends ≡ replicate points [] → AreWakesOf (first_of setting 0) points wakes
no_points setting points wakes fixes ends = record {
  fixes_count = ap (λ (ls : List (List PointId)). length ls) fixes ∙ length-replicate points [];
  ends_count = ap (λ (ls : List (List PointId)). length ls) ends ∙ length-replicate points [];
  fixed = λ point inside other. ap (λ (ps : List PointId). times ps other) (empty wakes.fixes fixes point) ∙ sym (ap (count_fixed_by setting point) (none other));
  ended = λ point inside other. ap (λ (ps : List PointId). times ps other) (empty wakes.ends ends point)
      ∙ sym (ap (λ (c : Conditions). count_by (is_wait_to setting.links point) c.waits) (none other));
  fixes_inside = λ point. subst (λ (ps : List PointId). All (λ (other : PointId). other.0 < points) ps) (sym (empty wakes.fixes fixes point)) (All-nil (λ (other : PointId). other.0 < points));
  ends_inside = λ point. subst (λ (ps : List PointId). All (λ (other : PointId). other.0 < points) ps) (sym (empty wakes.ends ends point)) (All-nil (λ (other : PointId). other.0 < points));
}
  where
    empty : (lists : List (List PointId)) → lists ≡ replicate points [] → (point : PointId) → list_at lists point ≡ []
    empty lists is point = ap (λ (ls : List (List PointId)). list_at ls point) is ∙ elim (cases_lt point.0 points) [
      | inl inside ↦ get_or-replicate points point.0 [] [] inside
      | inr past ↦ get_or_past (replicate points []) point.0 [] (let long = length-replicate {A = List PointId} points [] in omega (arith, past, long))
    ]

    none : (other : PointId) → conditions_at (take 0 setting.dispatch) other ≡ no_conditions
    none other = get_or_past [] other.0 no_conditions (omega arith)

pub all_points : (setting : Setting) (points i : ℕ) (wakes : WakeLists) → length setting.dispatch ≤ i → AreWakesOf (first_of setting i) points wakes → AreWakesOf setting points wakes
all_points setting points i wakes whole are =
    let same : take i setting.dispatch ≡ setting.dispatch = take_all i setting.dispatch whole in
    subst (λ (dispatch : List Conditions). AreWakesOf (record { links = setting.links; dispatch = dispatch }) points wakes) same are

-- ---- which points a point wakes
none_among : (points : List PointId) (point : PointId) → times points point ≡ 0 → contains_point points point ≡ false
none_among [] point none = refl
none_among (p ∷ ps) point none = by (none_among ps point) (p.0 == point.0) refl (count_cons (λ (other : PointId). other.0 == point.0) p ps)
  where
    by : (times ps point ≡ 0 → contains_point ps point ≡ false) → (b : Bool) → p.0 == point.0 ≡ b → times (p ∷ ps) point ≡ cond b 1 0 + times ps point → contains_point (p ∷ ps) point ≡ false
    by rest true is counts = absurd (omega (arith, none, counts))
    by rest false is counts = rw is (rest (omega (arith, none, counts)))

pub woken : (setting : Setting) (points : ℕ) (wakes : WakeLists) → AreWakesOf setting points wakes → (point : PointId) → point.0 < points
    → AreWoken setting point (list_at wakes.fixes point) (list_at wakes.ends point)
woken setting points wakes are point inside = record { fixed = are.fixed point inside; ended = ended }
  where
    ended : (other : PointId) (wait : LinkId × ℤ) (link : Link) → Contains (conditions_at setting.dispatch other).waits wait → slice_get setting.links wait.0.0 ≡ Some link
        → link.to.0 ≡ point.0 → contains_point (list_at wakes.ends point) other ≡ true
    ended other wait link among declared at = by (contains_point (list_at wakes.ends point) other) refl
      where
        stands : is_wait_to setting.links point wait ≡ true
        stands = ap (λ (o : Option Link). option_map_or (λ (l : Link). l.to.0 == point.0) o false) declared ∙ (let same : link.to.0 == point.0 ≡ true = grind (arith, nat_tests) in same)

        by : (b : Bool) → contains_point (list_at wakes.ends point) other ≡ b → b ≡ true
        by true is = refl
        by false absent =
            let none : count_by (is_wait_to setting.links point) (conditions_at setting.dispatch other).waits ≡ 0 = sym (are.ended point inside other) ∙ is_among_times (list_at wakes.ends point) other absent in
            absurd (true≢false (sym stands ∙ count_zero (is_wait_to setting.links point) (conditions_at setting.dispatch other).waits none wait among))

-- The plans of a fleet are opened, each at its place.
use Rattle.std.proofs.Common.{◌≡◌, ◌⊎◌, inl, inr, ℕ, ◌+◌, ◌<◌, ◌≤◌, zero, suc, List, [], ◌∷◌, ◌++◌, length, map, get_or, Some, None, Result, Ok, Err, IfOk, refl, sym, ap, ◌∙◌, subst, arith}
use Rattle.std.specs.Prelude.{slice_get}
use Rattle.std.specs.Option.{option_map}
use Rattle.std.specs.List.{AllZip, range_with_len}
use Rattle.std.proofs.lemmas.Slice.Zip.{AllZip-long}
use Rattle.std.proofs.lemmas.List.{length-map, length_push, map-append}
use Rattle.std.proofs.lemmas.Option.{same_Some, slice_get-map, slice_get_cases, slice_get_within, get_or_from_slice_get}
use Rattle.net_model.specs.Network.{Plan}
use Rattle.plan_fleet.specs.FleetPlans.{FleetPlan, OpensTo}
use Rattle.plan_fleet.specs.Fleets.{AreOpened}
use Rattle.plan_fleet.specs.FleetStart.{AllDecided, AreNumbered, DecidesEach, DecidesTo, IsDecided, OpensDecided, nets_given, nets_of}
use Rattle.plan_fleet.specs.declared.fleet_start.Decided.{Decided}
use Rattle.plan_fleet.specs.declared.fleet_start.Job.{Job}

push_one : {E : Type 0} (xs : List (Result Decided E)) (ys : List FleetPlan) (one : Result Decided E) (member : FleetPlan) → AllZip OpensDecided xs ys → OpensDecided one member → AllZip OpensDecided (xs ++ one ∷ []) (ys ++ member ∷ [])
push_one [] [] one member zip here = (here, tt)
push_one [] (y ∷ ys) one member zip here = absurd zip
push_one (x ∷ xs) [] one member zip here = absurd zip
push_one (x ∷ xs) (y ∷ ys) one member zip here = (zip.0, push_one xs ys one member zip.1 here)

-- one more is opened
pub one_more : {E : Type 0} (before : List (Result Decided E)) (members after : List FleetPlan) (one : Result Decided E) (decided : Decided) (member : FleetPlan) → AllZip OpensDecided before members → one ≡ Ok decided
    → OpensTo decided.net member → after ≡ members ++ member ∷ []
    → AllZip OpensDecided (before ++ one ∷ []) after
one_more {E} before members after one decided member so_far is opens pushed =
    subst (λ (cs : List FleetPlan). AllZip OpensDecided (before ++ one ∷ []) cs) (sym pushed) (push_one before members one member so_far (subst (λ (r : Result Decided E). OpensDecided r member) (sym is) opens))

zip_at : {E : Type 0} (xs : List (Result Decided E)) (ys : List FleetPlan) (place : ℕ) (x : Result Decided E) → AllZip OpensDecided xs ys → slice_get xs place ≡ Some x → (y : FleetPlan) × (slice_get ys place ≡ Some y) × OpensDecided x y
zip_at {E} [] ys place x zip is = absurd (cc is)
zip_at {E} (one ∷ xs) [] place x zip is = absurd zip
zip_at {E} (one ∷ xs) (y ∷ ys) zero x zip is = let same : one ≡ x = cc is in (y, refl, subst (λ (r : Result Decided E). OpensDecided r y) same zip.0)
zip_at {E} (one ∷ xs) (y ∷ ys) (suc place) x zip is = zip_at xs ys place x zip.1 is

-- some item stands within a list
some_at : {A : Type 0} (xs : List A) (place : ℕ) → place < length xs → (x : A) × (slice_get xs place ≡ Some x)
some_at {A} xs place inside = by (slice_get_cases xs place).1
  where
    by : ((x : A) × (place < length xs) × (slice_get xs place ≡ Some x) × (get_or xs place x ≡ x)) ⊎ ((length xs ≤ place) × (slice_get xs place ≡ None)) → (x : A) × (slice_get xs place ≡ Some x)
    by (inl (x, within, found, got)) = (x, found)
    by (inr (past, none)) = absurd (omega (arith, inside, past))

decided_one : {E : Type 0} (net : Plan) (one : Result Decided E) → IfOk one (DecidesTo net) → IfOk one IsDecided
decided_one net (Ok decided) is = is.1
decided_one net (Err error) is = tt

pub all_decided : {E : Type 0} (jobs : List Job) (all : List (Result Decided E)) → length all ≡ length jobs → DecidesEach jobs all → AllDecided all
all_decided jobs all count each = λ place one inside.
    let within : place < length jobs = omega (arith, count, inside) in
    let job = some_at jobs place within in
    decided_one _ _ (each place job.0 one within)

opened_one : {E : Type 0} (net : Plan) (one : Result Decided E) (member : FleetPlan) → IfOk one (DecidesTo net) → OpensDecided one member → OpensTo net member
opened_one net (Ok decided) member is opens = subst (λ (n : Plan). OpensTo n member) is.0 opens
opened_one net (Err error) member is opens = absurd opens

pub are_opened : {E : Type 0} (jobs : List Job) (nets : List Plan) (all : List (Result Decided E)) (members : List FleetPlan) → nets_of jobs ≡ nets → length all ≡ length jobs → DecidesEach jobs all
    → AllZip OpensDecided all members → AreOpened nets members
are_opened {E} jobs nets all members given count each zip = record {
  count = AllZip-long OpensDecided all members zip ∙ (count ∙ many);
  each = each_of;
}
  where
    many : length jobs ≡ length nets
    many = sym (length-map jobs (λ (job : Job). job.net)) ∙ ap (λ (ns : List Plan). length ns) given

    each_of : (place : ℕ) (net : Plan) → slice_get nets place ≡ Some net → (member : FleetPlan) × (slice_get members place ≡ Some member) × OpensTo net member
    each_of place net at =
        let within : place < length nets = slice_get_within nets place net at in
        let inside : place < length jobs = omega (arith, many, within) in
        let job = some_at jobs place inside in
        let one = some_at all place (omega (arith, count, inside)) in
        let member = zip_at all members place one.0 zip one.1 in
        let here : IfOk (get_or all place one.0) (DecidesTo (get_or jobs place job.0).net) = each place job.0 one.0 inside in
        let its : get_or jobs place job.0 ≡ job.0 = get_or_from_slice_get jobs place job.0 job.0 job.1 in
        let got : get_or all place one.0 ≡ one.0 = get_or_from_slice_get all place one.0 one.0 one.1 in
        let decided : IfOk one.0 (DecidesTo job.0.net) =
        subst (λ (j : Job). IfOk one.0 (DecidesTo j.net)) its (subst (λ (r : Result Decided E). IfOk r (DecidesTo (get_or jobs place job.0).net)) got here) in
        let is_net : job.0.net ≡ net =
        same_Some job.0.net net
        (sym (ap (option_map (λ (j : Job). j.net)) job.1) ∙ (sym (slice_get-map (λ (j : Job). j.net) jobs place) ∙ (ap (λ (ns : List Plan). slice_get ns place) given ∙ at))) in
        (member.0, member.1, subst (λ (n : Plan). OpensTo n member.0) is_net (opened_one job.0.net one.0 member.0 decided member.2))

-- ---- the places of jobs
one_place_more : (first count : ℕ) → range_with_len first (suc count) ≡ range_with_len first count ++ (first + count) ∷ []
one_place_more first zero = let at : first ≡ first + 0 = omega arith in ap (λ (n : ℕ). n ∷ []) at
one_place_more first (suc count) =
    let at : first + 1 + count ≡ first + suc count = omega arith in
    ap (λ (ns : List ℕ). first ∷ ns) (one_place_more (first + 1) count ∙ ap (λ (n : ℕ). range_with_len (first + 1) count ++ n ∷ []) at)

-- one job more, whose place is their number
pub numbered_more : (jobs after : List Job) (job : Job) → AreNumbered jobs → job.place ≡ length jobs → after ≡ jobs ++ job ∷ [] → AreNumbered after
numbered_more jobs after job so_far at pushed =
    let place : Job → ℕ = λ one. one.place in
    let count : ℕ = length jobs in
    let long = length_push jobs job in
    let next : suc count ≡ length (jobs ++ job ∷ []) = omega (arith, long) in
    let number : 0 + count ≡ count = omega arith in
    let before : range_with_len 0 (suc count) ≡ range_with_len 0 count ++ count ∷ [] = one_place_more 0 count ∙ ap (λ (n : ℕ). range_with_len 0 count ++ n ∷ []) number in
    let more : map place (jobs ++ job ∷ []) ≡ range_with_len 0 (length (jobs ++ job ∷ [])) =
    map-append place jobs (job ∷ []) ∙ ((λ i. so_far i ++ at i ∷ []) ∙ (sym before ∙ ap (range_with_len 0) next)) in
    subst AreNumbered (sym pushed) more

-- and whose network is the next of those that were given
pub nets_more : {N : Type 0} (jobs after : List Job) (job : Job) (plans : List (N × Plan)) (plan : N × Plan) → nets_of jobs ≡ nets_given plans → job.net ≡ plan.1
    → after ≡ jobs ++ job ∷ [] → nets_of after ≡ nets_given (plans ++ plan ∷ [])
nets_more {N} jobs after job plans plan so_far is pushed =
    let net : Job → Plan = λ one. one.net in
    let given : N × Plan → Plan = λ one. one.1 in
    ap nets_of pushed ∙ (map-append net jobs (job ∷ []) ∙ ((λ i. so_far i ++ is i ∷ []) ∙ sym (map-append given plans (plan ∷ []))))

pub as_many : {N : Type 0} (jobs after : List Job) (job : Job) (plans : List (N × Plan)) (plan : N × Plan) → length jobs ≡ length plans → after ≡ jobs ++ job ∷ []
    → length after ≡ length (plans ++ plan ∷ [])
as_many jobs after job plans plan so_far pushed =
    let one = length_push jobs job in
    let other = length_push plans plan in
    let all : length (jobs ++ job ∷ []) ≡ length (plans ++ plan ∷ []) = omega (arith, one, other, so_far) in
    ap (λ (js : List Job). length js) pushed ∙ all

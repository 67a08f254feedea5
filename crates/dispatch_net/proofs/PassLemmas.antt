-- The lower bounds and waits of the points are made one after another, over plain variables.
use Rattle.std.proofs.Common.{◌≡◌, ℕ, ◌+◌, ◌<◌, List, [], ◌∷◌, ◌++◌, map, length, get_or, ap, sym, ◌∙◌, arith}
use Rattle.std.specs.List.{enumerate_from, range_with_len}
use Rattle.std.proofs.lemmas.List.{get_or_default, length-append, length-map, map-append}
use Rattle.std.proofs.lemmas.List.FromFn.{get_or-enumerate_from, length-enumerate_from, length-range_with_len, map-range_with_len_more}
use Rattle.net_model.specs.Network.{Plan}
use Rattle.net_model.specs.declared.ids.PointId.{PointId}
use Rattle.closure_model.specs.Tables.{Graph, edges_of, IsGraph}
use Rattle.dispatch_net.specs.declared.dispatch.Conditions.{Conditions}
use Rattle.dispatch_net.specs.Dispatchable.{no_conditions, conditions_in, conditions_at}
use Rattle.dispatch_net.specs.Outgoing.{conditions_from, AreOutgoing}

-- the points below a number, and one more
pub points_more : (k : ℕ) → map (λ (n : ℕ). let p : PointId = record { 0 = n } in p) (range_with_len 0 (k + 1)) ≡ map (λ (n : ℕ). let p : PointId = record { 0 = n } in p) (range_with_len 0 k) ++ record { 0 = k } ∷ []
points_more k = map-range_with_len_more (λ (n : ℕ). let p : PointId = record { 0 = n } in p) 0 k k (omega arith)

-- the conditions of so many points
abbrev pub made_before : Plan → Graph → ℕ → List Conditions
made_before net table k = map (conditions_in net table) (map (λ n. record { 0 = n }) (range_with_len 0 k))

-- what was gathered for a point, and its conditions
pub own_yielded : (net : Plan) (table : Graph) → IsGraph table → (points : ℕ) (gathered : List Conditions) → AreOutgoing points (edges_of table) gathered → (k : ℕ) (one : ℕ × Conditions)
    → k < length (enumerate_from 0 gathered) → one ≡ get_or (enumerate_from 0 gathered) k one
    → (new : Conditions) → (one.1 ≡ conditions_from (edges_of table) (record { 0 = one.0 }) → new ≡ conditions_in net table (record { 0 = one.0 })) → new ≡ conditions_in net table (record { 0 = k })
own_yielded net table sound points gathered are k one before at new gives =
    let inside : k < length gathered = let long = length-enumerate_from 0 gathered in omega (arith, before, long) in
    let is = at ∙ get_or-enumerate_from 0 gathered k one inside in
    let place : one.0 ≡ k = let same = ap (λ (p : ℕ × Conditions). p.0) is in omega (arith, same) in
    let own : one.1 ≡ conditions_at gathered (record { 0 = k }) = ap (λ (p : ℕ × Conditions). p.1) is ∙ get_or_default gathered k one.1 no_conditions inside in
    let within : k < points = let count = are.count in omega (arith, inside, count) in
    let outgoing_here : one.1 ≡ conditions_from (edges_of table) (record { 0 = one.0 }) = own ∙ are.each (record { 0 = k }) within ∙ ap (λ (n : ℕ). conditions_from (edges_of table) (record { 0 = n })) (sym place) in
    gives outgoing_here ∙ ap (λ (n : ℕ). conditions_in net table (record { 0 = n })) place

-- the conditions of one more point
pub conditions_pushed : (net : Plan) (table : Graph) (done : List (ℕ × Conditions)) (one : ℕ × Conditions) (before after : List Conditions) (new : Conditions)
    → before ≡ made_before net table (length done)
    → after ≡ before ++ new ∷ []
    → new ≡ conditions_in net table (record { 0 = length done })
    → after ≡ made_before net table (length (done ++ one ∷ []))
conditions_pushed net table done one before after new held pushed is =
    let points : List PointId = map (λ n. record { 0 = n }) (range_with_len 0 (length done)) in
    let long : length done + 1 ≡ length (done ++ one ∷ []) = let all = length-append done (one ∷ []) in omega (arith, all) in
    pushed ∙ (λ i. held i ++ is i ∷ []) ∙ sym (map-append (conditions_in net table) points (record { 0 = length done } ∷ [])) ∙ ap (map (conditions_in net table)) (sym (points_more (length done)))
    ∙ ap (made_before net table) long

-- those of all points
pub all_yielded : (net : Plan) (table : Graph) (gathered : List Conditions) (done : List (ℕ × Conditions)) (made : List Conditions) → length gathered ≡ length net.points → length done ≡ length (enumerate_from 0 gathered)
    → made ≡ made_before net table (length done) → length made ≡ length net.points
all_yielded net table gathered done made count end are =
    let points : List PointId = map (λ n. record { 0 = n }) (range_with_len 0 (length done)) in
    ap (λ (cs : List Conditions). length cs) are ∙ length-map points (conditions_in net table) ∙ length-map (range_with_len 0 (length done)) (λ n. record { 0 = n }) ∙ length-range_with_len 0 (length done)
    ∙ end ∙ length-enumerate_from 0 gathered ∙ count

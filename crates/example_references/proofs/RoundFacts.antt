-- The steps of the loops of rounds.
use Rattle.std.proofs.Common.{◌≡◌, ◌≢◌, ℕ, suc, ◌+◌, ◌==◌, true, false, not, List, [], ◌∷◌, ◌++◌, length, fold, Option, Some, None, refl, ap, sym, subst, ◌∙◌, arith}
use Rattle.std.specs.Option.{option_map_or}
use Rattle.std.proofs.lemmas.Bool.Decides.{nat_tests}
use Rattle.net_model.specs.Network.{Plan}
use Rattle.net_model.specs.declared.ids.PointId.{PointId}
use Rattle.closure_model.specs.Derivations.{Support, with_node}
use Rattle.closure_model.specs.Orders.{lowest_unplaced, placed_points, cycle_from}
use Rattle.closure_model.specs.ReferenceRound.{rule_for, with_one, round_made, after_round}
use Rattle.closure_model.specs.ReferenceRounds.{Ending, closed, looped, RoundsEnd, in_cycle, in_order, after_one}
use Rattle.closure_model.specs.Tables.{Graph}
use Rattle.closure_model.specs.declared.derivation.Node.{Node}
use Rattle.closure_model.specs.declared.derivation.Rule.{Rule}
use Rattle.closure_model.specs.declared.rows.Made.{Made}
use Rattle.example_references.specs.Ends.{sought_in, sought_from}
use Rattle.example_references.specs.NodeTables.{support_in}
use Rattle.example_references.proofs.NodeFacts.{support_pushed}
use Rattle.example_references.specs.declared.ending.Ending.TheVariants.{Closed, Looped}

-- ---- one node more
pub one_pushed : (net : Plan) (before nodes after : List Node) (made : Made) (rule : Rule) → Some rule ≡ rule_for before nodes made.why → after ≡ nodes ++ record { rule = rule; edge = made.edge } ∷ []
    → support_in net after ≡ with_one before (support_in net nodes) made
one_pushed net before nodes after made rule some is =
    ap (support_in net) is ∙ (support_pushed net nodes (record { rule = rule; edge = made.edge })
    ∙ ap (λ (o : Option Rule). option_map_or (λ r. with_node (support_in net nodes) (record { rule = r; edge = made.edge })) o (support_in net nodes)) some)

pub none_pushed : (net : Plan) (before nodes : List Node) (made : Made) → None ≡ rule_for before nodes made.why → support_in net nodes ≡ with_one before (support_in net nodes) made
none_pushed net before nodes made none = ap (λ (o : Option Rule). option_map_or (λ r. with_node (support_in net nodes) (record { rule = r; edge = made.edge })) o (support_in net nodes)) none

-- ---- what was sought
sought_cycle : (table : Graph) (cycle : List PointId) → Looped cycle ≡ sought_in table → (first : PointId) × (lowest_unplaced table ≡ Some first) × (cycle ≡ cycle_from table first)
sought_cycle table cycle is = by (lowest_unplaced table) refl is
  where
    by : (o : Option PointId) → lowest_unplaced table ≡ o → Looped cycle ≡ sought_from table o → (first : PointId) × (lowest_unplaced table ≡ Some first) × (cycle ≡ cycle_from table first)
    by None none is = absurd cc
    by (Some first) some is = (first, some, cc)

sought_order : (table : Graph) (order : List PointId) → Closed order ≡ sought_in table → (lowest_unplaced table ≡ None) × (order ≡ placed_points table)
sought_order table order is = by (lowest_unplaced table) refl is
  where
    by : (o : Option PointId) → lowest_unplaced table ≡ o → Closed order ≡ sought_from table o → (lowest_unplaced table ≡ None) × (order ≡ placed_points table)
    by None none is = (none, cc)
    by (Some first) some is = absurd cc

-- ---- whether anything improved
nothing_improved : (made : List Made) → length made ≡ 0 → made ≡ []
nothing_improved [] none = refl
nothing_improved (one ∷ made) none = absurd (omega arith)

improved_is : (made : List Made) → true ≡ not (length made == 0) → made ≢ []
improved_is made improved none = let zero_long : length made ≡ 0 = ap length none in grind (arith, nat_tests)

none_is : (made : List Made) → false ≡ not (length made == 0) → made ≡ []
none_is made improved = nothing_improved made (grind (arith, nat_tests))

-- ---- the rounds so far
abbrev pub GoesOn : Plan → Support → Support → ℕ → Type 0
GoesOn net start now count = (more : ℕ) (after : Support) (ending : Ending) → RoundsEnd net now more after ending → RoundsEnd net start (count + more) after ending

pub goes_first : (net : Plan) (start : Support) → GoesOn net start start 0
goes_first net start more after ending ends = let same : more ≡ 0 + more = omega arith in subst (λ (n : ℕ). RoundsEnd net start n after ending) same ends

pub goes_more : (net : Plan) (start now next : Support) (count : ℕ) (order : List PointId) → GoesOn net start now count → Closed order ≡ sought_in now.table → next ≡ after_round net now → true ≡ not (length (round_made net now.table) == 0)
    → GoesOn net start next (count + 1)
goes_more net start now next count order progress sought is improved more after ending ends =
    let (left, placed) = sought_order now.table order sought in
    let same : count + suc more ≡ count + 1 + more = omega arith in
    subst (λ (n : ℕ). RoundsEnd net start n after ending) same
    (progress (suc more) after ending (after_one now after more ending left (improved_is (round_made net now.table) improved) (subst (λ (s : Support). RoundsEnd net s more after ending) is ends)))

pub goes_closed : (net : Plan) (start now next : Support) (count : ℕ) (order : List PointId) → GoesOn net start now count → Closed order ≡ sought_in now.table → next ≡ after_round net now
    → false ≡ not (length (round_made net now.table) == 0)
    → RoundsEnd net start (count + 1) next (closed order)
goes_closed net start now next count order progress sought is improved =
    let (left, placed) = sought_order now.table order sought in
    let none = none_is (round_made net now.table) improved in
    let same : after_round net now ≡ now = ap (fold (with_one now.nodes) now) none in
    subst (λ (s : Support). RoundsEnd net start (count + 1) s (closed order)) (sym (is ∙ same))
    (progress 1 now (closed order) (subst (λ (points : List PointId). RoundsEnd net now 1 now (closed points)) (sym placed) (in_order now left none)))

pub goes_looped : (net : Plan) (start now : Support) (count : ℕ) (cycle : List PointId) → GoesOn net start now count → Looped cycle ≡ sought_in now.table → RoundsEnd net start count now (looped cycle)
goes_looped net start now count cycle progress sought =
    let (first, left, met) = sought_cycle now.table cycle sought in
    let same : count + 0 ≡ count = omega arith in
    subst (λ (n : ℕ). RoundsEnd net start n now (looped cycle)) same
    (progress 0 now (looped cycle) (subst (λ (points : List PointId). RoundsEnd net now 0 now (looped points)) (sym met) (in_cycle now first left)))

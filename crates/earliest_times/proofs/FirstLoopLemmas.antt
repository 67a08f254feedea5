-- Edges have one first loop at most.
use Rattle.std.proofs.Common.{◌≡◌, ◌≢◌, ℕ, zero, suc, ◌+◌, ◌-◌, ◌<◌, ◌≤◌, List, [], ◌∷◌, ◌++◌, map, length, take, drop, get_or, refl, ap, sym, subst, ◌∙◌, inl, inr, append_assoc, arith}
use Rattle.std.proofs.lemmas.Bool.{cases_lt}
use Rattle.std.proofs.lemmas.List.{length-append, get_or_append_left, get_or-append_right, take_at, drop_at}
use Rattle.net_model.specs.declared.ids.PointId.{PointId}
use Rattle.net_model.specs.declared.part.Edge.{Edge}
use Rattle.strategy_model.specs.Edges.{IsWalk}
use Rattle.strategy_model.proofs.MomentLemmas.{same_from_number}
use Rattle.earliest_times.specs.Rounds.{edge_at_place}
use Rattle.earliest_times.specs.Least.{begins}
use Rattle.earliest_times.specs.FirstLoops.{IsNotAfter, IsShortestWalk, IsFirstShortestWalk, IsFirstLoopOn, IsTurnedToLowest, FirstLoopIsOne}

-- ---- the first shortest walk
not_after_either : (one other : List ℕ) → IsNotAfter one other → IsNotAfter other one → one ≡ other
not_after_either [] [] before after = refl
not_after_either [] (y ∷ other) before after = absurd after
not_after_either (x ∷ one) [] before after = absurd before
not_after_either (x ∷ one) (y ∷ other) (inl less) (inl more) = absurd (omega (arith, less, more))
not_after_either (x ∷ one) (y ∷ other) (inl less) (inr (same, rest)) = absurd (omega (arith, less, same))
not_after_either (x ∷ one) (y ∷ other) (inr (same, rest)) (inl more) = absurd (omega (arith, more, same))
not_after_either (x ∷ one) (y ∷ other) (inr (same, rest)) (inr (back, more)) =
    ap (λ (n : ℕ). n ∷ one) same ∙ ap (λ (ns : List ℕ). y ∷ ns) (not_after_either one other rest more)

same_walk : (points : ℕ) (edges : List Edge) (one other : List ℕ) → IsFirstShortestWalk points edges one → IsFirstShortestWalk points edges other → one ≡ other
same_walk points edges one other first second =
    let below = first.lowest second.start other second.longer in
    let above = second.lowest first.start one first.longer in
    let start : first.start ≡ second.start = same_from_number first.start second.start (omega (arith, below, above)) in
    not_after_either one other (first.first other (subst (λ (p : PointId). IsShortestWalk edges p (suc points) other) (sym start) second.shortest))
    (second.first one (subst (λ (p : PointId). IsShortestWalk edges p (suc points) one) start first.shortest))

-- ---- the points of a walk
walk_begins : (edges : List Edge) (places : List ℕ) (from to : PointId) → IsWalk from (map (edge_at_place edges) places) to → 0 < length places → begins edges (get_or places 0 0) ≡ from.0
walk_begins edges [] from to walk some = absurd (omega (arith, some))
walk_begins edges (place ∷ places) from to walk some = ap (λ (p : PointId). p.0) walk.0

walk_meets : (edges : List Edge) (places : List ℕ) (from to : PointId) → IsWalk from (map (edge_at_place edges) places) to → (k : ℕ) → suc k < length places
    → begins edges (get_or places (suc k) 0) ≡ (edge_at_place edges (get_or places k 0)).to.0
walk_meets edges [] from to walk k inside = absurd (omega (arith, inside))
walk_meets edges (place ∷ []) from to walk k inside = absurd (omega (arith, inside))
walk_meets edges (place ∷ next ∷ places) from to walk zero inside = ap (λ (p : PointId). p.0) walk.1.0
walk_meets edges (place ∷ next ∷ places) from to walk (suc k) inside = walk_meets edges (next ∷ places) (edge_at_place edges place).to to walk.1 k (omega (arith, inside))

walk_ends : (edges : List Edge) (places : List ℕ) (from to : PointId) → IsWalk from (map (edge_at_place edges) places) to → (k : ℕ) → suc k ≡ length places → (edge_at_place edges (get_or places k 0)).to ≡ to
walk_ends edges [] from to walk k last = absurd (omega (arith, last))
walk_ends edges (place ∷ []) from to walk zero last = walk.1
walk_ends edges (place ∷ []) from to walk (suc k) last = absurd (omega (arith, last))
walk_ends edges (place ∷ next ∷ places) from to walk zero last = absurd (omega (arith, last))
walk_ends edges (place ∷ next ∷ places) from to walk (suc k) last = walk_ends edges (next ∷ places) (edge_at_place edges place).to to walk.1 k (omega (arith, last))

-- ---- the first loop on a walk
module _ (edges : List Edge) (walk : List ℕ) where
  at : ℕ → ℕ
  at k = begins edges (get_or walk k 0)

  module _ (loop : List ℕ) (first : IsFirstLoopOn edges walk loop) where
    pub from : ℕ
    from = length first.before

    pub upto : ℕ
    upto = length first.before + length loop

    together : walk ≡ (first.before ++ loop) ++ first.after
    together = first.parts ∙ sym (append_assoc first.before loop first.after)

    upto_size : upto ≤ length walk
    unfolding upto
    upto_size =
        let whole : length walk ≡ length ((first.before ++ loop) ++ first.after) = ap (λ (ns : List ℕ). length ns) together in
        let both = length-append (first.before ++ loop) first.after in
        let part = length-append first.before loop in
        omega (arith, whole, both, part)

    rises : from < upto
    unfolding from upto
    rises = let some = first.some in omega (arith, some)

    in_part : (k : ℕ) → k < upto → at k ≡ begins edges (get_or (first.before ++ loop) k 0)
    unfolding at upto
    in_part k inside =
        let part = length-append first.before loop in
        ap (λ (ns : List ℕ). begins edges (get_or ns k 0)) together ∙ ap (begins edges) (get_or_append_left (first.before ++ loop) first.after 0 k (omega (arith, inside, part)))

    -- no point comes twice up to the loop's end
    apart : (i j : ℕ) → i < j → j < upto → at i ≢ at j
    unfolding upto
    apart i j less inside same =
        let part = length-append first.before loop in
        first.once i j 0 less (omega (arith, inside, part)) (sym (in_part i (omega (arith, less, inside))) ∙ same ∙ in_part j inside)

    in_loop : (k : ℕ) → k < length loop → get_or walk (from + k) 0 ≡ get_or loop k 0
    unfolding from
    in_loop k inside =
        let back : from + k - from ≡ k = omega arith in
        ap (λ (ns : List ℕ). get_or ns (from + k) 0) first.parts ∙ get_or-append_right first.before (loop ++ first.after) from (from + k) 0 refl (omega arith)
        ∙ ap (λ (n : ℕ). get_or (loop ++ first.after) n 0) back ∙ get_or_append_left loop first.after 0 k inside

    begins_at : at from ≡ first.point.0
    unfolding at
    begins_at =
        let start : get_or walk from 0 ≡ get_or loop 0 0 = ap (λ (n : ℕ). get_or walk n 0) (omega arith) ∙ in_loop 0 first.some in
        ap (begins edges) start ∙ walk_begins edges loop first.point first.point first.closed first.some

    ends_at : (k : ℕ) → suc k ≡ upto → (edge_at_place edges (get_or walk k 0)).to ≡ first.point
    unfolding upto from
    ends_at k last =
        let some = first.some in
        let end : get_or walk k 0 ≡ get_or loop (length loop - 1) 0 = ap (λ (n : ℕ). get_or walk n 0) (omega (arith, last, some)) ∙ in_loop (length loop - 1) (omega (arith, some)) in
        ap (λ (n : ℕ). (edge_at_place edges n).to) end ∙ walk_ends edges loop first.point first.point first.closed (length loop - 1) (omega (arith, some))

    loop_is : loop ≡ take (upto - from) (drop from walk)
    unfolding from upto
    loop_is =
        let rest : drop from walk ≡ loop ++ first.after = ap (drop from) first.parts ∙ drop_at first.before (loop ++ first.after) from refl in
        sym (ap (take (upto - from)) rest ∙ take_at loop first.after (upto - from) (omega arith))

  module _ (start end : PointId) (walks : IsWalk start (map (edge_at_place edges) walk) end) where
    -- a loop that ends sooner leaves the other's points not apart
    not_sooner : (loop other : List ℕ) (first : IsFirstLoopOn edges walk loop) (second : IsFirstLoopOn edges walk other) → upto loop first < upto other second → ⊥
    unfolding at
    not_sooner loop other first second sooner =
        let rise = rises loop first in
        let size = upto_size other second in
        let last = upto loop first - 1 in
        let next : suc last ≡ upto loop first = omega (arith, rise) in
        let here : at (suc last) ≡ first.point.0 = walk_meets edges walk start end walks last (omega (arith, next, sooner, size)) ∙ ap (λ (p : PointId). p.0) (ends_at loop first last next) in
        apart other second (from loop first) (upto loop first) rise sooner (begins_at loop first ∙ sym here ∙ ap at next)

    not_before : (loop other : List ℕ) (first : IsFirstLoopOn edges walk loop) (second : IsFirstLoopOn edges walk other) → upto loop first ≡ upto other second → from loop first < from other second → ⊥
    not_before loop other first second ends before =
        let rise = rises loop first in
        let rise_other = rises other second in
        let last = upto loop first - 1 in
        let next : suc last ≡ upto loop first = omega (arith, rise) in
        let point : first.point ≡ second.point = sym (ends_at loop first last next) ∙ ends_at other second last (next ∙ ends) in
        apart loop first (from loop first) (from other second) before (omega (arith, rise_other, ends)) (begins_at loop first ∙ ap (λ (p : PointId). p.0) point ∙ sym (begins_at other second))

    pub same_loop : (loop other : List ℕ) → IsFirstLoopOn edges walk loop → IsFirstLoopOn edges walk other → loop ≡ other
    same_loop loop other first second =
        let to : upto loop first ≡ upto other second = (elim (cases_lt (upto loop first) (upto other second)) [
          | inl less ↦ absurd (not_sooner loop other first second less)
          | inr most ↦ elim (cases_lt (upto other second) (upto loop first)) [ inl more ↦ absurd (not_sooner other loop second first more) | inr least ↦ omega (arith, most, least) ]
        ]) in
        let start_at : from loop first ≡ from other second = (elim (cases_lt (from loop first) (from other second)) [
          | inl less ↦ absurd (not_before loop other first second to less)
          | inr most ↦ elim (cases_lt (from other second) (from loop first)) [ inl more ↦ absurd (not_before other loop second first (sym to) more) | inr least ↦ omega (arith, most, least) ]
        ]) in
        loop_is loop first ∙ (λ i. take (to i - start_at i) (drop (start_at i) walk)) ∙ sym (loop_is other second)

-- ---- from its lowest point on
same_turned : (edges : List Edge) (walk loop one other : List ℕ) → IsFirstLoopOn edges walk loop → IsTurnedToLowest edges loop one → IsTurnedToLowest edges loop other → one ≡ other
same_turned edges walk loop one other first turned also =
    let same : turned.at ≡ also.at = (elim (cases_lt turned.at also.at) [
      | inl less ↦
          absurd (apart_in turned.at also.at less also.lowest.inside (lowest_same turned.at also.at (turned.lowest.least also.at also.lowest.inside) (also.lowest.least turned.at turned.lowest.inside)))
      | inr most ↦ elim (cases_lt also.at turned.at) [
        | inl more ↦
            absurd (apart_in also.at turned.at more turned.lowest.inside (lowest_same also.at turned.at (also.lowest.least turned.at turned.lowest.inside) (turned.lowest.least also.at also.lowest.inside)))
        | inr least ↦ omega (arith, most, least)
      ]
    ]) in
    turned.is ∙ ap (λ (n : ℕ). drop n loop ++ take n loop) same ∙ sym also.is
  where
    lowest_same : (i j : ℕ) → begins edges (get_or loop i 0) ≤ begins edges (get_or loop j 0) → begins edges (get_or loop j 0) ≤ begins edges (get_or loop i 0) → begins edges (get_or loop i 0) ≡ begins edges (get_or loop j 0)
    lowest_same i j below above = omega (arith, below, above)

    shifted : (k : ℕ) → get_or (first.before ++ loop) (length first.before + k) 0 ≡ get_or loop k 0
    shifted k =
        let back : length first.before + k - length first.before ≡ k = omega arith in
        get_or-append_right first.before loop (length first.before) (length first.before + k) 0 refl (omega arith) ∙ ap (λ (n : ℕ). get_or loop n 0) back

    apart_in : (i j : ℕ) → i < j → j < length loop → begins edges (get_or loop i 0) ≢ begins edges (get_or loop j 0)
    apart_in i j less inside same =
        let size = length-append first.before loop in
        first.once (length first.before + i) (length first.before + j) 0 (omega (arith, less)) (omega (arith, size, inside)) (ap (begins edges) (shifted i) ∙ same ∙ ap (begins edges) (sym (shifted j)))

pub law_first_loop_is_one : FirstLoopIsOne
law_first_loop_is_one points edges one other first second =
    let walk : first.first.walk ≡ second.first.walk = same_walk points edges first.first.walk second.first.walk first.first.is second.first.is in
    let walks = first.first.is.longer.walks in
    let second_on = subst (λ (w : List ℕ). IsFirstLoopOn edges w second.loop) (sym walk) second.first.first in
    let loop : first.loop ≡ second.loop = same_loop edges first.first.walk first.first.is.start walks.to walks.walk first.loop second.loop first.first.first second_on in
    same_turned edges first.first.walk first.loop one other first.first.first first.turned (subst (λ (ns : List ℕ). IsTurnedToLowest edges ns other) (sym loop) second.turned)

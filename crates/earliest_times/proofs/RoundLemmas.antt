-- A round, edge by edge.
use Rattle.std.proofs.Common.{◌≡◌, ◌≢◌, ℕ, ◌+◌, ◌<◌, ◌≤◌, List, Option, Some, None, length, get_or, set, replicate, refl, ap, sym, subst, ◌∙◌, inl, inr, arith}
use Rattle.std.specs.List.{slice_index_or}
use Rattle.std.proofs.lemmas.Bool.{cases_eq, cases_lt}
use Rattle.std.proofs.lemmas.List.{length-set, length-replicate, get_or-replicate, get_or-set_same, get_or-set_other}
use Rattle.net_model.specs.declared.part.Edge.{Edge}
use Rattle.strategy_model.specs.Situations.{moment_in}
use Rattle.earliest_times.specs.Rounds.{edge_at_place, required_moment, Became, IsRoundOver}

-- before any edge
pub round_begins : (edges : List Edge) (before : List ℕ) → IsRoundOver edges 0 before before (replicate (length before) None)
round_begins edges before =
    record {
      after_length = refl;
      raised_length = length-replicate (length before) None;
      asks = λ place below. absurd (omega (arith, below));
      became = λ point inside. subst (Became edges before before point) (sym (get_or-replicate (length before) point None None inside)) refl;
    }

-- a point is never lowered
became_later : (edges : List Edge) (before after : List ℕ) (point : ℕ) (by : Option ℕ) → Became edges before after point by → slice_index_or before point 0 ≤ slice_index_or after point 0
became_later edges before after point None same = omega (arith, same)
became_later edges before after point (Some place) raised = let more = raised.more in omega (arith, more)

pub round_later : (edges : List Edge) (count : ℕ) (before after : List ℕ) (raised : List (Option ℕ)) → IsRoundOver edges count before after raised → (point : ℕ) → point < length before
    → slice_index_or before point 0 ≤ slice_index_or after point 0
round_later edges count before after raised round point inside =
    became_later edges before after point (slice_index_or raised point None) (round.became point inside)

-- an edge that requires nothing more
pub round_stays : (edges : List Edge) (place : ℕ) (before after : List ℕ) (raised : List (Option ℕ)) → IsRoundOver edges place before after raised
    → required_moment before (edge_at_place edges place) ≤ moment_in after (edge_at_place edges place).from
    → IsRoundOver edges (place + 1) before after raised
round_stays edges place before after raised round met =
    record {
      after_length = round.after_length;
      raised_length = round.raised_length;
      asks = λ other below. elim (cases_lt other place) [
        | inl earlier ↦ round.asks other earlier
        | inr late ↦ let here : other ≡ place = omega (arith, below, late) in subst (λ (k : ℕ). required_moment before (edge_at_place edges k) ≤ moment_in after (edge_at_place edges k).from) (sym here) met
      ];
      became = round.became;
    }

-- an edge that raises its first point
pub round_raises : (edges : List Edge) (place : ℕ) (before after : List ℕ) (raised : List (Option ℕ)) → IsRoundOver edges place before after raised → place < length edges → (edge_at_place edges place).from.0 < length before
    → moment_in after (edge_at_place edges place).from < required_moment before (edge_at_place edges place)
    → IsRoundOver edges (place + 1) before (set after (edge_at_place edges place).from.0 (required_moment before (edge_at_place edges place))) (set raised (edge_at_place edges place).from.0 (Some place))
round_raises edges place before after raised round inside point_inside less =
    record {
      after_length = length-set after from new ∙ round.after_length;
      raised_length = length-set raised from (Some place) ∙ round.raised_length;
      asks = asks;
      became = became;
    }
  where
    from : ℕ
    from = (edge_at_place edges place).from.0

    new : ℕ
    new = required_moment before (edge_at_place edges place)

    size : from < length after
    size = let same = round.after_length in omega (arith, point_inside, same)

    size' : from < length raised
    size' = let same = round.raised_length in omega (arith, point_inside, same)

    here : get_or (set after from new) from 0 ≡ new
    here = get_or-set_same after from new 0 size

    at_other : (point : ℕ) → point ≢ from → get_or (set after from new) point 0 ≡ get_or after point 0
    at_other point different = get_or-set_other after from point new 0 different

    asks : (other : ℕ) → other < place + 1 → required_moment before (edge_at_place edges other) ≤ moment_in (set after from new) (edge_at_place edges other).from
    asks other below = elim (cases_lt other place) [
      | inr late ↦
          let same : other ≡ place = omega (arith, below, late) in
          subst (λ (k : ℕ). required_moment before (edge_at_place edges k) ≤ moment_in (set after from new) (edge_at_place edges k).from) (sym same) (omega (arith, here))
      | inl earlier ↦ elim (cases_eq (edge_at_place edges other).from.0 from) [
        | inl same ↦
            let its = round.asks other earlier in
            let moved : get_or after (edge_at_place edges other).from.0 0 ≡ get_or after from 0 = ap (λ (k : ℕ). get_or after k 0) same in
            let now : get_or (set after from new) (edge_at_place edges other).from.0 0 ≡ get_or (set after from new) from 0 = ap (λ (k : ℕ). get_or (set after from new) k 0) same in
            omega (arith, its, moved, now, here, less)
        | inr different ↦
            let its = round.asks other earlier in
            let same = at_other (edge_at_place edges other).from.0 different in
            omega (arith, its, same)
      ]
    ]

    kept : (point : ℕ) → point ≢ from → (by : Option ℕ) → Became edges before after point by → Became edges before (set after from new) point by
    kept point different None same = at_other point different ∙ same
    kept point different (Some k) its =
        let same = at_other point different in
        let more = its.more in
        record {
          within = its.within;
          begins = its.begins;
          reached = same ∙ its.reached;
          more = omega (arith, more, same);
          first = λ other earlier begins. let below = its.first other earlier begins in omega (arith, below, same);
        }

    not_before : (other : ℕ) → other < place → (edge_at_place edges other).from.0 ≡ from → required_moment before (edge_at_place edges other) < new
    not_before other earlier begins =
        let its = round.asks other earlier in
        let at : get_or after (edge_at_place edges other).from.0 0 ≡ get_or after from 0 = ap (λ (k : ℕ). get_or after k 0) begins in
        omega (arith, its, at, less)

    became : (point : ℕ) → point < length before → Became edges before (set after from new) point (get_or (set raised from (Some place)) point None)
    became point within = elim (cases_eq point from) [
      | inl same ↦
          let mark : get_or (set raised from (Some place)) point None ≡ Some place = ap (λ (k : ℕ). get_or (set raised from (Some place)) k None) same ∙ get_or-set_same raised from (Some place) None size' in
          let now : get_or (set after from new) point 0 ≡ new = ap (λ (k : ℕ). get_or (set after from new) k 0) same ∙ here in
          let grown = round_later edges place before after raised round from point_inside in
          let old : get_or before point 0 ≡ get_or before from 0 = ap (λ (k : ℕ). get_or before k 0) same in
          let first = λ (other : ℕ) (earlier : other < place) (begins : (edge_at_place edges other).from.0 ≡ point). not_before other earlier (begins ∙ same) in
          subst (Became edges before (set after from new) point) (sym mark)
          (record { within = inside; begins = sym same; reached = now; more = omega (arith, now, grown, old, less); first = λ other earlier begins. let below = first other earlier begins in omega (arith, below, now) })
      | inr different ↦
          let mark : get_or (set raised from (Some place)) point None ≡ get_or raised point None = get_or-set_other raised from point (Some place) None different in
          subst (Became edges before (set after from new) point) (sym mark) (kept point different (get_or raised point None) (round.became point within))
    ]

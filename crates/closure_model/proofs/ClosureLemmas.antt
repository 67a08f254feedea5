-- A closed table is at most every derivable edge; so the closure is the weakest closed table, closed itself, and one.
use Rattle.std.proofs.Common.{◌≡◌, ℤ, pos, ◌≤ℤ◌, ◌-ℤ◌, Option, Some, None, refl, ap, sym, ◌∙◌, subst, arith}
use Rattle.std.specs.Prelude.{MatchOption}
use Rattle.std.specs.Int.{int_max}
use Rattle.std.specs.List.{Contains}
use Rattle.std.specs.FinMap as map_of
use Rattle.std.proofs.lemmas.Int.{ints}
use Rattle.net_model.proofs.AppliedRuleLemmas.{no_case_applies, upper_case_applies, lower_case_applies, cross_case_applies, removal_applies}
use Rattle.net_model.proofs.RuleLemmas.{no_case_gives, upper_case_gives, lower_case_gives, cross_case_gives, removal_gives}
use Rattle.net_model.specs.Network.{Plan}
use Rattle.net_model.specs.Rules.{joined_weight, moved_to_activation}
use Rattle.net_model.specs.Rules as rules_of
use Rattle.net_model.specs.declared.part.Edge.{Edge}
use Rattle.closure_model.specs.Keys.{Key, key_of, edge_of}
use Rattle.closure_model.specs.Tables.{Graph, weight_of, HasAtMost, edges_of, IsFor, IsClosed, IsAtMost}
use Rattle.closure_model.specs.Derivable.{IsDerivable, IsDerivableFor, IsLeastDerivable, by_bound, by_link, by_no_case, by_upper_case, by_lower_case, by_cross_case, by_removal}
use Rattle.closure_model.specs.Closure.{IsClosure, HoldsDerivable}
use Rattle.closure_model.proofs.KeyOrder.{key_total, same_key}
use Rattle.closure_model.proofs.TableLemmas.{edge_listed, listed_edge, at_most_gives, at_most_from}
use Rattle.closure_model.proofs.RuleMonotonicity.{below_zero, joined_less, moved_less, without_label_less}
use Rattle.closure_model.proofs.DerivableEdges.{follows_derivable}

-- an edge of the same key and no lesser weight
eased : (table : Graph) (least edge : Edge) → key_of least ≡ key_of edge → least.weight ≤ℤ edge.weight → HasAtMost table least → HasAtMost table edge
eased table least edge same less has =
    let (weight, is, under) = at_most_gives table least has in
    let here : weight_of table (key_of edge) ≡ Some weight = ap (weight_of table) (sym same) ∙ is in
    at_most_from table edge weight here (omega (arith, ints))

-- the edge that a table has in place of another one
record Had (table : Graph) (edge : Edge) : Type 0 where
  weight : ℤ
  listed : Contains (edges_of table) (edge_of (key_of edge) weight)
  less : weight ≤ℤ edge.weight

had : (table : Graph) (edge : Edge) → HasAtMost table edge → Had table edge
had table edge has =
    let (weight, is, less) = at_most_gives table edge has in
    record { weight = weight; listed = edge_listed table (edge_of (key_of edge) weight) is; less = less }

module _ (net : Plan) (table : Graph) (closed : IsClosed net table) where
  pub at_most_derivable : (edge : Edge) → IsDerivable net edge → HasAtMost table edge
  at_most_derivable edge (by_bound place bound e declared is) = closed edge (rules_of.by_bound place bound declared is)
  at_most_derivable edge (by_link name link e declared is) = closed edge (rules_of.by_link name link declared is)
  at_most_derivable edge (by_no_case first second e one two gave) =
      let gives = no_case_gives first second edge gave in
      let f : Had table first = had table first (at_most_derivable first one) in
      let s : Had table second = had table second (at_most_derivable second two) in
      let first_had : Edge = edge_of (key_of first) f.weight in
      let second_had : Edge = edge_of (key_of second) s.weight in
      let made : Edge = record { from = first.from; to = second.to; label = None; weight = joined_weight first_had second_had } in
      let stated : Edge = record { from = first.from; to = second.to; label = None; weight = joined_weight first second } in
      let gave' = no_case_applies first_had second_had gives.first_ordinary gives.second_ordinary gives.meeting (below_zero s.weight second.weight s.less gives.negative) in
      let has : HasAtMost table made = closed made (rules_of.by_no_case first_had second_had f.listed s.listed gave') in
      subst (HasAtMost table) gives.is (eased table made stated refl (joined_less f.weight first.weight s.weight second.weight f.less s.less) has)
  at_most_derivable edge (by_upper_case first second e one two gave) =
      let gives = upper_case_gives first second edge gave in
      let f : Had table first = had table first (at_most_derivable first one) in
      let s : Had table second = had table second (at_most_derivable second two) in
      let first_had : Edge = edge_of (key_of first) f.weight in
      let second_had : Edge = edge_of (key_of second) s.weight in
      let made : Edge = record { from = first.from; to = second.to; label = second.label; weight = joined_weight first_had second_had } in
      let stated : Edge = record { from = first.from; to = second.to; label = second.label; weight = joined_weight first second } in
      let gave' = upper_case_applies first_had second_had gives.label gives.first_ordinary gives.second_labelled gives.meeting (below_zero s.weight second.weight s.less gives.negative) in
      let has : HasAtMost table made = closed made (rules_of.by_upper_case first_had second_had f.listed s.listed gave') in
      subst (HasAtMost table) gives.is (eased table made stated refl (joined_less f.weight first.weight s.weight second.weight f.less s.less) has)
  at_most_derivable edge (by_lower_case name second e one gave) =
      let gives = lower_case_gives net name second edge gave in
      let s : Had table second = had table second (at_most_derivable second one) in
      let second_had : Edge = edge_of (key_of second) s.weight in
      let made : Edge = moved_to_activation gives.link second_had in
      let stated : Edge = moved_to_activation gives.link second in
      let gave' = lower_case_applies net name gives.link second_had gives.declared gives.second_ordinary gives.begins (below_zero s.weight second.weight s.less gives.negative) in
      let has : HasAtMost table made = closed made (rules_of.by_lower_case name second_had s.listed gave') in
      subst (HasAtMost table) gives.is (eased table made stated refl (moved_less gives.link.low s.weight second.weight s.less) has)
  at_most_derivable edge (by_cross_case name second e one gave) =
      let gives = cross_case_gives net name second edge gave in
      let s : Had table second = had table second (at_most_derivable second one) in
      let second_had : Edge = edge_of (key_of second) s.weight in
      let made : Edge = moved_to_activation gives.link second_had in
      let stated : Edge = moved_to_activation gives.link second in
      let gave' = cross_case_applies net name gives.link second_had gives.label gives.declared gives.second_labelled gives.another gives.begins (below_zero s.weight second.weight s.less gives.negative) in
      let has : HasAtMost table made = closed made (rules_of.by_cross_case name second_had s.listed gave') in
      subst (HasAtMost table) gives.is (eased table made stated refl (moved_less gives.link.low s.weight second.weight s.less) has)
  at_most_derivable edge (by_removal premise e one gave) =
      let gives = removal_gives net premise edge gave in
      let s : Had table premise = had table premise (at_most_derivable premise one) in
      let premise_had : Edge = edge_of (key_of premise) s.weight in
      let made : Edge = record premise_had { label = None; weight = int_max s.weight (pos 0 -ℤ gives.link.low) } in
      let stated : Edge = record premise { label = None; weight = int_max premise.weight (pos 0 -ℤ gives.link.low) } in
      let gave' = removal_applies net premise_had gives.name gives.link gives.declared gives.labelled in
      let has : HasAtMost table made = closed made (rules_of.by_removal premise_had s.listed gave') in
      subst (HasAtMost table) gives.is (eased table made stated refl (without_label_less gives.link.low s.weight premise.weight s.less) has)

-- ---- the closure
module _ (net : Plan) (table : Graph) (closure : IsClosure net table) where
  pub closure_derivable : HoldsDerivable net table
  closure_derivable edge has = by (weight_of table (key_of edge)) has (closure.weights (key_of edge))
    where
      by : (o : Option ℤ) → o ≡ Some edge.weight → MatchOption o ((weight : ℤ) → ¬ IsDerivableFor net (key_of edge) weight) (IsLeastDerivable net (key_of edge)) → IsDerivable net edge
      by None is what = absurd cc
      by (Some weight) is what = let same : weight ≡ edge.weight = cc in subst (IsDerivableFor net (key_of edge)) same what.derivable

  pub closure_at_most : (edge : Edge) → IsDerivable net edge → HasAtMost table edge
  closure_at_most edge derivable = by (weight_of table (key_of edge)) refl (closure.weights (key_of edge))
    where
      by : (o : Option ℤ) → weight_of table (key_of edge) ≡ o → MatchOption o ((weight : ℤ) → ¬ IsDerivableFor net (key_of edge) weight) (IsLeastDerivable net (key_of edge)) → HasAtMost table edge
      by None is what = absurd (what edge.weight derivable)
      by (Some weight) is what = at_most_from table edge weight is (what.least edge.weight derivable)

  pub closure_closed : IsClosed net table
  closure_closed edge follows = closure_at_most edge (follows_derivable net (edges_of table) (λ e inside. closure_derivable e (listed_edge table e inside)) edge follows)

  pub closure_weakest : (other : Graph) → IsClosed net other → IsAtMost other table
  closure_weakest other closed edge has = at_most_derivable net other closed edge (closure_derivable edge has)

-- a closed table of derivable edges is the closure
pub closed_derivable_closure : (net : Plan) (table : Graph) → IsFor net table → IsClosed net table → HoldsDerivable net table → IsClosure net table
closed_derivable_closure net table for closed holds = record { for_network = for; weights = λ key. by key (weight_of table key) refl }
  where
    by : (key : Key) (o : Option ℤ) → weight_of table key ≡ o → MatchOption o ((weight : ℤ) → ¬ IsDerivableFor net key weight) (IsLeastDerivable net key)
    by key None is = λ weight derivable.
        let (held, there, less) = at_most_gives table (edge_of key weight) (at_most_derivable net table closed (edge_of key weight) derivable) in
        let none : None ≡ Some held = sym is ∙ there in
        absurd cc
    by key (Some weight) is = record {
      derivable = holds (edge_of key weight) is;
      least = λ other derivable.
          let (held, there, less) = at_most_gives table (edge_of key other) (at_most_derivable net table closed (edge_of key other) derivable) in
          let same : Some weight ≡ Some held = sym is ∙ there in
          let equal : weight ≡ held = cc in
          omega (arith, ints);
    }

-- two closures have the same weights
same_weights : (net : Plan) (one two : Graph) → IsClosure net one → IsClosure net two → (key : Key) → weight_of one key ≡ weight_of two key
same_weights net one two first second key = by (weight_of one key) (weight_of two key) (first.weights key) (second.weights key)
  where
    by : (o p : Option ℤ) → MatchOption o ((weight : ℤ) → ¬ IsDerivableFor net key weight) (IsLeastDerivable net key) → MatchOption p ((weight : ℤ) → ¬ IsDerivableFor net key weight) (IsLeastDerivable net key) → o ≡ p
    by None None a b = refl
    by None (Some w) a b = absurd (a w b.derivable)
    by (Some v) None a b = absurd (b v a.derivable)
    by (Some v) (Some w) a b =
        let under : v ≤ℤ w = a.least w b.derivable in
        let over : w ≤ℤ v = b.least v a.derivable in
        let equal : v ≡ w = omega (arith, ints) in
        ap Some equal

pub closure_one : (net : Plan) (one two : Graph) → IsClosure net one → IsClosure net two → one ≡ two
closure_one net one two first second =
    let shape : one.shape ≡ two.shape = first.for_network ∙ sym second.for_network in
    let weights : one.weights ≡ two.weights = map_of.same_map key_total same_key one.weights two.weights (same_weights net one two first second) in
    λ i. record { shape = shape i; weights = weights i }

-- What rules give from derivable edges is derivable, and what of it is saturated.
use Rattle.std.proofs.Common.{◌≡◌, ℕ, ◌+◌, ◌<◌, ◌≤◌, ℤ, pos, ◌≤ℤ◌, ◌<ℤ◌, ◌⊎◌, length, Option, Some, None, IfSome, refl, ap, sym, subst, ◌∙◌, inl, inr, arith}
use Rattle.std.specs.Prelude.{MatchOption, slice_get}
use Rattle.std.proofs.lemmas.Option.{slice_get_within, slice_get-map}
use Rattle.std.specs.Option.{option_map}
use Rattle.std.proofs.lemmas.Int.{ints}
use Rattle.net_model.specs.Network.{Plan, IsPlan, activation}
use Rattle.net_model.specs.Edges.{IsLabelled}
use Rattle.labelled_graph.specs.Words.{SaturatesHeld}
use Rattle.net_model.specs.Rules.{joined_weight, no_case, upper_case, lower_case, cross_case, removal}
use Rattle.net_model.specs.declared.ids.LinkId.{LinkId}
use Rattle.net_model.specs.declared.ids.PointId.{PointId}
use Rattle.net_model.specs.declared.part.Edge.{Edge}
use Rattle.net_model.proofs.RuleLemmas.{no_case_gives, upper_case_gives, lower_case_gives, cross_case_gives}
use Rattle.closure_model.specs.Derivable.{IsDerivable, by_no_case, by_upper_case, by_lower_case, by_cross_case, by_removal}
use Rattle.closure_model.specs.Keys.{Shape, shape_of, key_of, ordinary_key}
use Rattle.closure_model.specs.Tables.{Graph, weight_of, HasEdge, HasAtMost}
use Rattle.closure_model.proofs.Consequences.{ends_there}
use Rattle.network_closure.specs.Saturation.{IsPartialClosure, IsOverLinks, IsAfter, IsEdgeBetween, SaturatesRemoval, SaturatesOverLinks, SaturatesAfter}
use Rattle.net_model.specs.declared.part.Link.{Link}
use Rattle.network_closure.proofs.PartialClosureLemmas.{derivable_is}

pub if_given : {A : Type 0} (P : A → Type 0) (o : Option A) → ((x : A) → o ≡ Some x → P x) → IfSome o P
if_given P None each = tt
if_given P (Some x) each = each x refl

pub given_if : {A : Type 0} (P : A → Type 0) (o : Option A) (x : A) → IfSome o P → o ≡ Some x → P x
given_if {A = A} P o x holds is = subst (λ (o : Option A). IfSome o P) is holds

same_label : (one other : LinkId) → Some one ≡ Some other → one ≡ other
same_label one other is = cc

pub label_known : (net : Plan) → IsPlan net → (edge : Edge) → IsDerivable net edge → IfSome edge.label (λ (name : LinkId). name.0 < length net.links)
label_known net plan edge derivable = if_given (λ (name : LinkId). name.0 < length net.links) edge.label known
  where
    known : (name : LinkId) → edge.label ≡ Some name → name.0 < length net.links
    known name is = let (link, declared, ends) = subst (IsLabelled net edge) is (derivable_is net plan edge derivable).labelled in slice_get_within net.links name.0 link declared

pub without_label_derivable : (net : Plan) (edge : Edge) (given : Option Edge) → IsDerivable net edge → given ≡ removal net edge → IfSome given (IsDerivable net)
without_label_derivable net edge given derivable is = if_given (IsDerivable net) given (λ gives some. by_removal edge gives derivable (sym is ∙ some))

module _ (net : Plan) (plan : IsPlan net) (edge : Edge) where
  no_other : (name : LinkId) (gives : Edge) → activation net edge.from ≡ None → lower_case net name edge ≡ Some gives → ⊥
  no_other name gives none is = let g = lower_case_gives net name edge gives is in let some = ends_there net plan name g.link edge.from g.declared g.begins in absurd cc

  no_cross : (name : LinkId) (gives : Edge) → activation net edge.from ≡ None → cross_case net name edge ≡ Some gives → ⊥
  no_cross name gives none is = let g = cross_case_gives net name edge gives is in let some = ends_there net plan name g.link edge.from g.declared g.begins in absurd cc

  pub over_none : (given : Option Edge) → activation net edge.from ≡ None → given ≡ None → IsOverLinks net edge given
  over_none given none is = subst (IsOverLinks net edge) (sym is) (record {
    derivable = tt;
    lower_case = λ name gives given. absurd (no_other name gives none given);
    cross_case = λ name gives given. absurd (no_cross name gives none given);
  })

  pub over_lower : (link : LinkId) (given : Option Edge) → IsDerivable net edge → activation net edge.from ≡ Some link → edge.label ≡ None → given ≡ lower_case net link edge → IsOverLinks net edge given
  over_lower link given derivable some ordinary is = record {
    derivable = if_given (IsDerivable net) given (λ gives one. by_lower_case link edge gives derivable (sym is ∙ one));
    lower_case = λ name gives one. (let g = lower_case_gives net name edge gives one in let same = same_label link name (sym some ∙ ends_there net plan name g.link edge.from g.declared g.begins) in
        is ∙ (ap (λ (n : LinkId). lower_case net n edge) same ∙ one));
    cross_case = λ name gives one. (let g = cross_case_gives net name edge gives one in let both : None ≡ Some g.label = sym ordinary ∙ g.second_labelled in absurd cc);
  }

  pub over_cross : (link label : LinkId) (given : Option Edge) → IsDerivable net edge → activation net edge.from ≡ Some link → edge.label ≡ Some label → given ≡ cross_case net link edge → IsOverLinks net edge given
  over_cross link label given derivable some labelled is = record {
    derivable = if_given (IsDerivable net) given (λ gives one. by_cross_case link edge gives derivable (sym is ∙ one));
    lower_case = λ name gives one. (let g = lower_case_gives net name edge gives one in let both : None ≡ Some label = sym g.second_ordinary ∙ labelled in absurd cc);
    cross_case = λ name gives one. (let g = cross_case_gives net name edge gives one in let same = same_label link name (sym some ∙ ends_there net plan name g.link edge.from g.declared g.begins) in
        is ∙ (ap (λ (n : LinkId). cross_case net n edge) same ∙ one));
  }

pub after_ordinary : (net : Plan) (first edge : Edge) (given : Option Edge) → IsDerivable net first → IsDerivable net edge → edge.label ≡ None → given ≡ no_case first edge → IsAfter net first edge given
after_ordinary net first edge given one two ordinary is = record {
  derivable = if_given (IsDerivable net) given (λ gives some. by_no_case first edge gives one two (sym is ∙ some));
  no_case = λ gives some. is ∙ some;
  upper_case = λ gives some. (let g = upper_case_gives first edge gives some in let both : None ≡ Some g.label = sym ordinary ∙ g.second_labelled in absurd cc);
}

pub after_labelled : (net : Plan) (first edge : Edge) (label : LinkId) (given : Option Edge) → IsDerivable net first → IsDerivable net edge → edge.label ≡ Some label → given ≡ upper_case first edge → IsAfter net first edge given
after_labelled net first edge label given one two labelled is = record {
  derivable = if_given (IsDerivable net) given (λ gives some. by_upper_case first edge gives one two (sym is ∙ some));
  no_case = λ gives some. (let g = no_case_gives first edge gives some in let both : None ≡ Some label = sym g.second_ordinary ∙ labelled in absurd cc);
  upper_case = λ gives some. is ∙ some;
}

-- ---- what is saturated
pub saturates_removal : (net : Plan) (table : Graph) (edge : Edge) (given : Option Edge) → given ≡ removal net edge → IfSome given (HasAtMost table) → SaturatesRemoval net table edge
saturates_removal net table edge given is met gives one = given_if (HasAtMost table) given gives met (is ∙ one)

pub saturates_over_links : (net : Plan) (table : Graph) (edge : Edge) (given : Option Edge) → IsOverLinks net edge given → IfSome given (HasAtMost table) → SaturatesOverLinks net table edge
saturates_over_links net table edge given over met = record {
  lower_case = λ name gives one. given_if (HasAtMost table) given gives met (over.lower_case name gives one);
  cross_case = λ name gives one. given_if (HasAtMost table) given gives met (over.cross_case name gives one);
}

-- an edge of a weight of 0 or more has nothing that follows with an edge before it
pub saturates_no_firsts : (table : Graph) (edge : Edge) → pos 0 ≤ℤ edge.weight → (first : Edge) → SaturatesAfter table first edge
saturates_no_firsts table edge high first = record {
  no_case = λ gives one. (let g = no_case_gives first edge gives one in let low = g.negative in absurd (not_both edge.weight high low));
  upper_case = λ gives one. (let g = upper_case_gives first edge gives one in let low = g.negative in absurd (not_both edge.weight high low));
}
  where
    not_both : (w : ℤ) → pos 0 ≤ℤ w → w <ℤ pos 0 → ⊥
    not_both w high low = grind (arith, ints)

-- no edge is before it from a point
pub saturates_none_from : (table : Graph) (from : PointId) (edge : Edge) → weight_of table (ordinary_key from edge.from) ≡ None → (first : Edge) → HasEdge table first → first.from ≡ from → SaturatesAfter table first edge
saturates_none_from table from edge none first has begins = record {
  no_case = λ gives one. (let g = no_case_gives first edge gives one in absurd (not_there g.first_ordinary g.meeting));
  upper_case = λ gives one. (let g = upper_case_gives first edge gives one in absurd (not_there g.first_ordinary g.meeting));
}
  where
    not_there : first.label ≡ None → first.to ≡ edge.from → ⊥
    not_there ordinary meeting =
        let same : key_of first ≡ ordinary_key from edge.from = λ i. record { to = meeting i; from = begins i; label = ordinary i } in
        let both : None ≡ Some first.weight = sym none ∙ (ap (weight_of table) (sym same) ∙ has) in
        absurd cc

-- the edge that is before it from a point
pub saturates_one_from : (net : Plan) (table : Graph) (from : PointId) (edge one : Edge) (given : Option Edge) → IsEdgeBetween table from edge.from None one → IsAfter net one edge given → IfSome given (HasAtMost table)
    → (first : Edge) → HasEdge table first → first.from ≡ from → SaturatesAfter table first edge
saturates_one_from net table from edge one given held after met first has begins = record {
  no_case = λ gives is. (let g = no_case_gives first edge gives is in let same = it_is g.first_ordinary g.meeting in
      given_if (HasAtMost table) given gives met (after.no_case gives (subst (λ (e : Edge). no_case e edge ≡ Some gives) same is)));
  upper_case = λ gives is. (let g = upper_case_gives first edge gives is in let same = it_is g.first_ordinary g.meeting in
      given_if (HasAtMost table) given gives met (after.upper_case gives (subst (λ (e : Edge). upper_case e edge ≡ Some gives) same is)));
}
  where
    weight_is : (v w : ℤ) → Some v ≡ Some w → v ≡ w
    weight_is v w is = cc

    it_is : first.label ≡ None → first.to ≡ edge.from → first ≡ one
    it_is ordinary meeting =
        let to_same : first.to ≡ one.to = meeting ∙ sym held.to_is in
        let from_same : first.from ≡ one.from = begins ∙ sym held.from_is in
        let label_same : first.label ≡ one.label = ordinary ∙ sym held.label_is in
        let keys : key_of first ≡ key_of one = λ i. record { to = to_same i; from = from_same i; label = label_same i } in
        let weights : first.weight ≡ one.weight = weight_is first.weight one.weight (sym has ∙ (ap (weight_of table) keys ∙ held.has)) in
        λ i. record { from = from_same i; to = to_same i; label = label_same i; weight = weights i }

pub match_given : {A : Type 0} (P : Type 0) (Q R : A → Type 0) (o : Option A) → ((x : A) → o ≡ Some x → Q x → R x) → MatchOption o P Q → IfSome o R
match_given P Q R None each holds = tt
match_given P Q R (Some x) each holds = each x refl holds

pub match_met : {A : Type 0} (P P' : Type 0) (Q : A → Type 0) (o : Option A) → (P → P') → MatchOption o P Q → MatchOption o P' Q
match_met P P' Q None each holds = each holds
match_met P P' Q (Some x) each holds = holds

pub found_has : (table : Graph) (from : PointId) (to : PointId) (label : Option LinkId) (P : Type 0) (found : Option Edge) → MatchOption found P (IsEdgeBetween table from to label) → IfSome found (HasEdge table)
found_has table from to label P found is = match_given P (IsEdgeBetween table from to label) (HasEdge table) found (λ edge some held. held.has) is

pub held_one : (table : Graph) (from : PointId) (to : PointId) (label : Option LinkId) (one edge : Edge) → IsEdgeBetween table from to label one → HasEdge table edge → edge.from ≡ from → edge.to ≡ to → edge.label ≡ label → one ≡ edge
held_one table from to label one edge held has begins ends labels =
    let to_same : one.to ≡ edge.to = held.to_is ∙ sym ends in
    let from_same : one.from ≡ edge.from = held.from_is ∙ sym begins in
    let label_same : one.label ≡ edge.label = held.label_is ∙ sym labels in
    let keys : key_of one ≡ key_of edge = λ i. record { to = to_same i; from = from_same i; label = label_same i } in
    let weights : one.weight ≡ edge.weight = weight_is one.weight edge.weight (sym held.has ∙ (ap (weight_of table) keys ∙ has)) in
    λ i. record { from = from_same i; to = to_same i; label = label_same i; weight = weights i }
  where
    weight_is : (v w : ℤ) → Some v ≡ Some w → v ≡ w
    weight_is v w is = cc

pub below_next : (P : ℕ → Type 0) (n : ℕ) → ((k : ℕ) → k < n → P k) → P n → (k : ℕ) → k < n + 1 → P k
below_next P n before here k below = by (nat_cases k n below)
  where
    nat_cases : (k n : ℕ) → k < n + 1 → (k < n) ⊎ (k ≡ n)
    nat_cases k n below = grind arith

    by : (k < n) ⊎ (k ≡ n) → P k
    by (inl less) = before k less
    by (inr same) = subst P (sym same) here

-- what holds below a number holds below one that is no greater
pub up_to : (P : ℕ → Type 0) (n most : ℕ) → most ≤ n → ((k : ℕ) → k < n → P k) → (k : ℕ) → k < most → P k
up_to P n most less each k below = each k (omega (arith, less, below))

module _ (net : Plan) (table : Graph) (partial_closure : IsPartialClosure net table) where
  pub labelled_end : (link : Link) (name : LinkId) → slice_get net.links name.0 ≡ Some link → (edge : Edge) → HasEdge table edge → edge.label ≡ Some name → edge.to ≡ link.from
  labelled_end link name declared edge has labels =
      let (other, there, ends) = subst (IsLabelled net edge) labels (derivable_is net partial_closure.plan edge (partial_closure.derivable edge has)).labelled in
      let same : other ≡ link = link_is other link (sym there ∙ declared) in
      ends ∙ ap (λ (l : Link). l.from) same
    where
      link_is : (a b : Link) → Some a ≡ Some b → a ≡ b
      link_is a b is = cc

  pub from_point : (edge : Edge) → HasEdge table edge → edge.from.0 < length net.points
  from_point edge has = (derivable_is net partial_closure.plan edge (partial_closure.derivable edge has)).from_point

  pub saturates_firsts : (edge : Edge) → ((k : ℕ) → k < length net.points → (first : Edge) → HasEdge table first → first.from ≡ record { 0 = k } → SaturatesAfter table first edge) → (first : Edge) → HasEdge table first
      → SaturatesAfter table first edge
  saturates_firsts edge each first has = each first.from.0 (derivable_is net partial_closure.plan first (partial_closure.derivable first has)).from_point first has refl

unfoldable pub no_link : Link
no_link = record { from = record { 0 = 0 }; low = pos 0; high = pos 0; to = record { 0 = 0 } }

pub activation_at : (net : Plan) (table : Graph) (name : ℕ) (link : Link) → table.shape ≡ shape_of net → slice_get net.links name ≡ Some link → slice_get table.shape.activations name ≡ Some link.from
activation_at net table name link fits declared =
    subst (λ (s : Shape). slice_get s.activations name ≡ Some link.from) (sym fits) (slice_get-map (λ (l : Link). l.from) net.links name ∙ ap (option_map (λ (l : Link). l.from)) declared)

-- what a test of the table says: an edge before it makes nothing unsaturated
module _ (net : Plan) (table : Graph) (partial_closure : IsPartialClosure net table) (edge : Edge)
    (test : (first : PointId) → first.0 < length net.points → SaturatesHeld (weight_of table (ordinary_key first edge.from)) (weight_of table (record { to = edge.to; from = first; label = edge.label })) edge.weight) where
  joined_met : (first gives : Edge) → HasEdge table first → first.label ≡ None → first.to ≡ edge.from → record { from = first.from; to = edge.to; label = edge.label; weight = joined_weight first edge } ≡ gives → HasAtMost table gives
  joined_met first gives has ordinary meeting is =
      let same : ordinary_key first.from edge.from ≡ key_of first = λ i. record { to = sym meeting i; from = first.from; label = sym ordinary i } in
      let there : weight_of table (ordinary_key first.from edge.from) ≡ Some first.weight = ap (weight_of table) same ∙ has in
      subst (HasAtMost table) is
      (subst (λ (o : Option ℤ). SaturatesHeld o (weight_of table (record { to = edge.to; from = first.from; label = edge.label })) edge.weight) there
      (test first.from (derivable_is net partial_closure.plan first (partial_closure.derivable first has)).from_point))

  pub saturates_by_test : (first : Edge) → HasEdge table first → SaturatesAfter table first edge
  saturates_by_test first has = record {
    no_case = λ gives one. (let g = no_case_gives first edge gives one in joined_met first gives has g.first_ordinary g.meeting
        (subst (λ (label : Option LinkId). record { from = first.from; to = edge.to; label = label; weight = joined_weight first edge } ≡ gives) (sym g.second_ordinary) g.is));
    upper_case = λ gives one. (let g = upper_case_gives first edge gives one in joined_met first gives has g.first_ordinary g.meeting g.is);
  }

-- What a rule requires of its premises if it gives an edge, and that a certificate may state what an exact rule gives.
use Rattle.std.proofs.Common.{◌≡◌, ◌≢◌, ℕ, ℤ, pos, ◌≤ℤ◌, ◌<ℤ◌, ◌+ℤ◌, ◌-ℤ◌, ◌==◌, ◌&&◌, not, Bool, true, false, cond, List, Option, Some, None, refl, ap, sym, ◌∙◌, subst, arith, is_some, is_none}
use Rattle.std.specs.Prelude.{slice_get}
use Rattle.std.specs.Int.{int_max}
use Rattle.std.specs.Option.{option_and_then}
use Rattle.std.specs.List.{Contains, AllByRecursion}
use Rattle.std.proofs.lemmas.Int.{ints, int_max_is}
use Rattle.std.proofs.lemmas.Bool.{eqb-true}
use Rattle.std.proofs.lemmas.Option.{cond_some}
use Rattle.std.proofs.lemmas.List.Elements.{All-from_recursion}
use Rattle.net_model.specs.Network.{Plan}
use Rattle.net_model.specs.Edges.{IsLinkOf, IsLabelled, IsEdge}
use Rattle.net_model.specs.Rules.{is_ordinary, is_labelled, is_labelled_by, meet, is_negative, joined_weight, no_case, upper_case, goes_on_from, moved_to_activation, lower_case, cross_case, removal, bound_edge, link_edge}
use Rattle.net_model.specs.Rules as exact
use Rattle.net_model.specs.LooseRules as loose
use Rattle.net_model.specs.Laws.{ExactMayBeStated}
use Rattle.net_model.specs.declared.ids.PointId.{PointId}
use Rattle.net_model.specs.declared.ids.LinkId.{LinkId}
use Rattle.net_model.specs.declared.part.Edge.{Edge}
use Rattle.net_model.specs.declared.part.Link.{Link}

-- ---- tests
both : (a b : Bool) → (a && b) ≡ true → (a ≡ true) × (b ≡ true)
both true b holds = (refl, holds)
both false b holds = absurd cc

pub none_is : {A : Type 0} (o : Option A) → is_none o ≡ true → o ≡ None
none_is None holds = refl
none_is (Some x) holds = absurd cc

pub some_is : {A : Type 0} (o : Option A) → is_some o ≡ true → (x : A) × (o ≡ Some x)
some_is None holds = absurd cc
some_is (Some x) holds = (x, refl)

pub two_steps : {A B : Type 0} (f : A → Option B) (o : Option A) (y : B) → option_and_then f o ≡ Some y → (x : A) × (o ≡ Some x) × (f x ≡ Some y)
two_steps f None y holds = absurd cc
two_steps f (Some x) y holds = (x, refl, holds)

same_point : (p q : PointId) → (p.0 == q.0) ≡ true → p ≡ q
same_point p q holds = ap (λ (k : ℕ). record { 0 = k }) (eqb-true p.0 q.0 holds)

negative_is : (edge : Edge) → is_negative edge ≡ true → edge.weight <ℤ pos 0
negative_is edge holds = grind (arith, ints)

another_is : (name : LinkId) (edge : Edge) (label : LinkId) → edge.label ≡ Some label → not (is_labelled_by name edge) ≡ true → label ≢ name
another_is name edge label labelled other same =
    let is : is_labelled_by name edge ≡ (label.0 == name.0) = rw labelled refl in
    by (label.0 == name.0) refl is
  where
    by : (b : Bool) → (label.0 == name.0) ≡ b → is_labelled_by name edge ≡ (label.0 == name.0) → ⊥
    by true equal is = let both : not (is_labelled_by name edge) ≡ false = rw (is, equal) refl in absurd cc
    by false equal is = let equal' : (label.0 == label.0) ≡ false = ap (λ (l : LinkId). label.0 == l.0) same ∙ equal in grind (arith, ints)

-- ---- what a rule requires
pub record NoCaseGives (first second edge : Edge) : Type 0 where
  pub first_ordinary : first.label ≡ None
  pub second_ordinary : second.label ≡ None
  pub meeting : first.to ≡ second.from
  pub negative : second.weight <ℤ pos 0
  pub is : record { from = first.from; to = second.to; label = None; weight = joined_weight first second } ≡ edge

pub no_case_gives : (first second edge : Edge) → no_case first second ≡ Some edge → NoCaseGives first second edge
unfolding no_case
no_case_gives first second edge gave =
    let (applies, is) = cond_some (is_ordinary first && is_ordinary second && meet first second && is_negative second) (record { from = first.from; to = second.to; label = None; weight = joined_weight first second }) edge gave in
    let (three, negative) = both (is_ordinary first && is_ordinary second && meet first second) (is_negative second) applies in
    let (two, meeting) = both (is_ordinary first && is_ordinary second) (meet first second) three in
    let (one, other) = both (is_ordinary first) (is_ordinary second) two in
    record {
      first_ordinary = none_is first.label one;
      second_ordinary = none_is second.label other;
      meeting = same_point first.to second.from meeting;
      negative = negative_is second negative;
      is = is;
    }

pub record UpperCaseGives (first second edge : Edge) : Type 0 where
  pub label : LinkId
  pub first_ordinary : first.label ≡ None
  pub second_labelled : second.label ≡ Some label
  pub meeting : first.to ≡ second.from
  pub negative : second.weight <ℤ pos 0
  pub is : record { from = first.from; to = second.to; label = second.label; weight = joined_weight first second } ≡ edge

pub upper_case_gives : (first second edge : Edge) → upper_case first second ≡ Some edge → UpperCaseGives first second edge
unfolding upper_case
upper_case_gives first second edge gave =
    let (applies, is) = cond_some (is_ordinary first && is_labelled second && meet first second && is_negative second) (record { from = first.from; to = second.to; label = second.label; weight = joined_weight first second }) edge gave in
    let (three, negative) = both (is_ordinary first && is_labelled second && meet first second) (is_negative second) applies in
    let (two, meeting) = both (is_ordinary first && is_labelled second) (meet first second) three in
    let (one, other) = both (is_ordinary first) (is_labelled second) two in
    let (label, labelled) = some_is second.label other in
    record {
      label = label;
      first_ordinary = none_is first.label one;
      second_labelled = labelled;
      meeting = same_point first.to second.from meeting;
      negative = negative_is second negative;
      is = is;
    }

pub record LowerCaseGives (net : Plan) (name : LinkId) (second edge : Edge) : Type 0 where
  pub link : Link
  pub declared : IsLinkOf net name link
  pub second_ordinary : second.label ≡ None
  pub begins : second.from ≡ link.to
  pub negative : second.weight <ℤ pos 0
  pub is : moved_to_activation link second ≡ edge

pub lower_case_gives : (net : Plan) (name : LinkId) (second edge : Edge) → lower_case net name second ≡ Some edge → LowerCaseGives net name second edge
unfolding lower_case
lower_case_gives net name second edge gave =
    let (link, declared, here) = two_steps (λ (link : Link). cond (is_ordinary second && goes_on_from link second) (Some (moved_to_activation link second)) None) (slice_get net.links name.0) edge gave in
    let (applies, is) = cond_some (is_ordinary second && goes_on_from link second) (moved_to_activation link second) edge here in
    let (one, goes) = both (is_ordinary second) (goes_on_from link second) applies in
    let (begins, negative) = both (second.from.0 == link.to.0) (is_negative second) goes in
    record {
      link = link;
      declared = declared;
      second_ordinary = none_is second.label one;
      begins = same_point second.from link.to begins;
      negative = negative_is second negative;
      is = is;
    }

pub record CrossCaseGives (net : Plan) (name : LinkId) (second edge : Edge) : Type 0 where
  pub link : Link
  pub label : LinkId
  pub declared : IsLinkOf net name link
  pub another : label ≢ name
  pub second_labelled : second.label ≡ Some label
  pub begins : second.from ≡ link.to
  pub negative : second.weight <ℤ pos 0
  pub is : moved_to_activation link second ≡ edge

pub cross_case_gives : (net : Plan) (name : LinkId) (second edge : Edge) → cross_case net name second ≡ Some edge → CrossCaseGives net name second edge
unfolding cross_case
cross_case_gives net name second edge gave =
    let (link, declared, here) = two_steps (λ (link : Link). cond (is_labelled second && not (is_labelled_by name second) && goes_on_from link second) (Some (moved_to_activation link second)) None) (slice_get net.links name.0) edge gave in
    let (applies, is) = cond_some (is_labelled second && not (is_labelled_by name second) && goes_on_from link second) (moved_to_activation link second) edge here in
    let (two, goes) = both (is_labelled second && not (is_labelled_by name second)) (goes_on_from link second) applies in
    let (one, other) = both (is_labelled second) (not (is_labelled_by name second)) two in
    let (begins, negative) = both (second.from.0 == link.to.0) (is_negative second) goes in
    let (label, labelled) = some_is second.label one in
    record {
      link = link;
      label = label;
      declared = declared;
      another = another_is name second label labelled other;
      second_labelled = labelled;
      begins = same_point second.from link.to begins;
      negative = negative_is second negative;
      is = is;
    }

pub record RemovalGives (net : Plan) (premise edge : Edge) : Type 0 where
  pub name : LinkId
  pub link : Link
  pub declared : IsLinkOf net name link
  pub labelled : premise.label ≡ Some name
  pub is : record premise { label = None; weight = int_max premise.weight (pos 0 -ℤ link.low) } ≡ edge

pub removal_gives : (net : Plan) (premise edge : Edge) → removal net premise ≡ Some edge → RemovalGives net premise edge
unfolding removal
removal_gives net premise edge gave =
    let (name, labelled, there) = two_steps (λ (name : LinkId). option_and_then (λ (link : Link). Some (record premise { label = None; weight = int_max premise.weight (pos 0 -ℤ link.low) })) (slice_get net.links name.0)) premise.label edge
    gave in
    let (link, declared, here) = two_steps (λ (link : Link). Some (record premise { label = None; weight = int_max premise.weight (pos 0 -ℤ link.low) })) (slice_get net.links name.0) edge there in
    record { name = name; link = link; declared = declared; labelled = labelled; is = some_inj here }
  where
    some_inj : {x y : Edge} → Some x ≡ Some y → x ≡ y
    some_inj same = cc

-- ---- what an exact rule gives may be stated
max_left : (x y : ℤ) → x ≤ℤ int_max x y
max_left x y = grind (arith, ints, int_max_is)

max_right : (x y : ℤ) → y ≤ℤ int_max x y
max_right x y = grind (arith, ints, int_max_is)

self : (x : ℤ) → x ≤ℤ x
self x = grind (arith, ints)

joined : (first second : Edge) → (first.weight +ℤ second.weight) ≤ℤ joined_weight first second
joined first second = let more = max_left first.weight (pos 0) in grind (arith, ints)

module _ (net : Plan) (earlier : List Edge) where
  no_case_stated : (first second edge : Edge) → Contains earlier first → Contains earlier second → NoCaseGives first second edge → loose.FollowsLoosely net earlier edge
  no_case_stated first second edge one two gives =
      subst (loose.FollowsLoosely net earlier) gives.is (loose.by_no_case first second one two (record {
        first_ordinary = gives.first_ordinary;
        second_ordinary = gives.second_ordinary;
        meet = gives.meeting;
        from = refl;
        to = refl;
        ordinary = refl;
        looser = joined first second;
      }))

  upper_case_stated : (first second edge : Edge) → Contains earlier first → Contains earlier second → UpperCaseGives first second edge → loose.FollowsLoosely net earlier edge
  upper_case_stated first second edge one two gives =
      subst (loose.FollowsLoosely net earlier) gives.is (loose.by_upper_case first second one two (record {
        label = gives.label;
        first_ordinary = gives.first_ordinary;
        second_labelled = gives.second_labelled;
        meet = gives.meeting;
        from = refl;
        to = refl;
        labelled = gives.second_labelled;
        looser = joined first second;
      }))

  lower_case_stated : (name : LinkId) (second edge : Edge) → Contains earlier second → LowerCaseGives net name second edge → loose.FollowsLoosely net earlier edge
  lower_case_stated name second edge one gives =
      subst (loose.FollowsLoosely net earlier) gives.is (loose.by_lower_case second one (record {
        name = name;
        link = gives.link;
        declared = gives.declared;
        second_ordinary = gives.second_ordinary;
        begins = gives.begins;
        negative = gives.negative;
        from = refl;
        to = refl;
        ordinary = gives.second_ordinary;
        looser = self (gives.link.low +ℤ second.weight);
      }))

  cross_case_stated : (name : LinkId) (second edge : Edge) → Contains earlier second → CrossCaseGives net name second edge → loose.FollowsLoosely net earlier edge
  cross_case_stated name second edge one gives =
      subst (loose.FollowsLoosely net earlier) gives.is (loose.by_cross_case second one (record {
        name = name;
        link = gives.link;
        label = gives.label;
        declared = gives.declared;
        another = gives.another;
        second_labelled = gives.second_labelled;
        begins = gives.begins;
        negative = gives.negative;
        from = refl;
        to = refl;
        labelled = gives.second_labelled;
        looser = self (gives.link.low +ℤ second.weight);
      }))

  -- a labelled edge of the network ends in the activation point of its label
  ends_in_activation : (premise : Edge) (name : LinkId) (link : Link) → IsEdge net premise → premise.label ≡ Some name → IsLinkOf net name link → premise.to ≡ link.from
  ends_in_activation premise name link sound labelled declared =
      let known : IsLabelled net premise (Some name) = subst (IsLabelled net premise) labelled sound.labelled in
      let same : known.0 ≡ link = some_same (sym known.1 ∙ declared) in
      known.2 ∙ ap (λ (l : Link). l.from) same
    where
      some_same : {x y : Link} → Some x ≡ Some y → x ≡ y
      some_same same = cc

  removal_stated : (premise edge : Edge) → IsEdge net premise → Contains earlier premise → RemovalGives net premise edge → loose.FollowsLoosely net earlier edge
  removal_stated premise edge sound one gives =
      subst (loose.FollowsLoosely net earlier) gives.is (loose.by_removal premise one (record {
        name = gives.name;
        link = gives.link;
        declared = gives.declared;
        premise_labelled = gives.labelled;
        ends = ends_in_activation premise gives.name gives.link sound gives.labelled gives.declared;
        from = refl;
        to = refl;
        ordinary = refl;
        looser = max_left premise.weight (pos 0 -ℤ gives.link.low);
        not_below_shortest = max_right premise.weight (pos 0 -ℤ gives.link.low);
      }))

  stated : AllByRecursion (IsEdge net) earlier → (edge : Edge) → exact.Follows net earlier edge → loose.FollowsLoosely net earlier edge
  stated sound edge (exact.by_bound place bound declared is) =
      subst (loose.FollowsLoosely net earlier) is (loose.by_bound (record {
        place = place;
        bound = bound;
        declared = declared;
        from = refl;
        to = refl;
        ordinary = refl;
        looser = self bound.most;
      }))
  stated sound edge (exact.by_link name link declared is) =
      subst (loose.FollowsLoosely net earlier) is (loose.by_link (record {
        name = name;
        link = link;
        declared = declared;
        from = refl;
        to = refl;
        labelled = refl;
        looser = self (pos 0 -ℤ link.high);
      }))
  stated sound edge (exact.by_no_case first second one two gave) = no_case_stated first second edge one two (no_case_gives first second edge gave)
  stated sound edge (exact.by_upper_case first second one two gave) = upper_case_stated first second edge one two (upper_case_gives first second edge gave)
  stated sound edge (exact.by_lower_case name second one gave) = lower_case_stated name second edge one (lower_case_gives net name second edge gave)
  stated sound edge (exact.by_cross_case name second one gave) = cross_case_stated name second edge one (cross_case_gives net name second edge gave)
  stated sound edge (exact.by_removal premise one gave) =
      removal_stated premise edge (found sound premise one) one (removal_gives net premise edge gave)
    where
      found : AllByRecursion (IsEdge net) earlier → (e : Edge) → Contains earlier e → IsEdge net e
      found all e (k, inside, is) = subst (IsEdge net) is (All-from_recursion (IsEdge net) earlier all k e inside)

pub law_exact_may_be_stated : ExactMayBeStated
law_exact_may_be_stated net earlier edge sound follows = stated net earlier sound edge follows

-- A table proof that passes gives a strategy that controls the network: its entries are a closed list with an order.
use Rattle.std.proofs.Common.{◌≡◌, ℕ, ◌+◌, ◌<◌, ℤ, ◌==◌, Bool, true, false, not, ◌&&◌, List, [], ◌∷◌, ◌++◌, length, map, Option, Some, None, Result, Ok, Err, cond, zero, suc, refl, sym, ap, ◌∙◌, subst, arith, IsTrue, position}
use Rattle.std.specs.Prelude.{slice_get, int_le, nat_lt, find}
use Rattle.std.specs.List.{AllByRecursion, Contains, IsDistinct, list_any, list_all, filter_map, enumerate_from, position_or_len}
use Rattle.std.specs.Option.{option_map, option_map_or}
use Rattle.std.proofs.lemmas.Bool.{and_parts, lt-ltb, or_parts, not-true}
use Rattle.std.proofs.lemmas.Bool.Decides.{nat_tests}
use Rattle.std.proofs.lemmas.List.Elements.{All-from_recursion, Contains-append_left, Contains-append_right}
use Rattle.std.proofs.lemmas.List.Folds.{list_any-append}
use Rattle.std.proofs.lemmas.List.Quantifiers.{position-Some}
use Rattle.std.proofs.lemmas.Option.{same_Some, slice_get-map, slice_get_within, slice_get-get_or}
use Rattle.net_model.specs.Network.{Plan, IsPlan, IsPoint, IsLink, point_named, link_named as link_id}
use Rattle.net_model.specs.Edges.{IsEdge, IsLinkOf}
use Rattle.net_model.specs.Rules.{Follows, by_bound, by_link, by_no_case, by_upper_case, by_lower_case, by_cross_case, by_removal, bound_edge, link_edge, no_case, upper_case, lower_case, cross_case, removal, is_ordinary, is_negative}
use Rattle.net_model.specs.declared.ids.PointId.{PointId}
use Rattle.net_model.specs.declared.ids.LinkId.{LinkId}
use Rattle.net_model.specs.declared.part.Bound.{Bound}
use Rattle.net_model.specs.declared.part.Edge.{Edge}
use Rattle.net_model.specs.declared.part.Link.{Link}
use Rattle.net_model.proofs.RuleLemmas.{two_steps}
use Rattle.strategy_model.specs.Plays.{IsInstant, same_point}
use Rattle.strategy_model.specs.ShownLaws.{ControllableIsShown, ShownFormIsInstant}
use Rattle.net_model.specs.ShownForm.{shown_form}
use Rattle.strategy_model.specs.Control.{IsControllable}
use Rattle.strategy_model.specs.Dispatch.{Stands, IsClosedList, IsOrder}
use Rattle.strategy_model.specs.DispatchLaws.{ForwardListsGiveStrategies}
use Rattle.strategy_model.proofs.ClosedLemmas.{law_closed_lists_are_forward_closed}
use Rattle.cert_format.specs.declared.certificate.Certificate.{Certificate}
use Rattle.cert_format.specs.declared.certificate.Certificate.TheVariants.{Refutation, TableProof}
use Rattle.cert_format.specs.declared.entry.Entry.{Entry}
use Rattle.cert_format.specs.JudgementForms.{unless, there}
use Rattle.cert_checker.specs.Lines.{in_range}
use Rattle.cert_checker.specs.Walk.{WalkPasses, refusal}
use Rattle.cert_checker.specs.Tables.{ordinary_of, labelled_of, edge_by, edge_of_entry, point_passes, entry_passes, at_line, read_each, same_label_id, same_key, stands_among, refused_at, none_refused, base_of_bound, base_of_link, base_of}
use Rattle.cert_checker.specs.Tables.{is_missing, none_missing, base_stands, stand_once, is_complete, place_in, comes_before, rises, order_passes, link_ids, has_open_conclusion, table_passes}
use Rattle.cert_checker.specs.Sound.{IsSoundEdge}
use Rattle.cert_checker.specs.Judgement.{refutation_passes, judged, judgement_of}
use Rattle.cert_checker.specs.Laws.{AcceptedControls}
use Rattle.cert_checker.specs.declared.base.Base.{Base}
use Rattle.cert_checker.specs.declared.judgement.CertFault.{CertFault}
use Rattle.cert_checker.specs.declared.judgement.CertFault.TheVariants.{UnknownItem, WeightRange, OrderBroken, NotClosed}
use Rattle.cert_checker.specs.declared.judgement.Judgement.TheVariants.{Accepted}
use Rattle.cert_checker.specs.declared.judgement.Claim.TheVariants.{NotControllable, Controllable}
use Rattle.cert_format.proofs.PassedStepLemmas.{bind_ok, there_ok, unless_ok}
use Rattle.cert_checker.proofs.Inversion.{contains_at, le_is}
use Rattle.cert_checker.proofs.ListLemmas.{some_passes, none_passes, holds_of, any_given, none_at, nothing_found}

-- ---- the lines

-- what `option_map` found
mapped : {A B : Type 0} (f : A → B) (o : Option A) (y : B) → option_map f o ≡ Some y → (x : A) × (o ≡ Some x) × (f x ≡ y)
mapped f None y e = absurd (cc)
mapped f (Some x) y e = (x, refl, same_Some (f x) y e)

-- a named point is a point of the network
pub point_inside : (net : Plan) (name : List ℕ) (point : PointId) → point_named net name ≡ Some point → IsPoint net point
point_inside net name point named =
    let (k, found, same) = mapped _ (position _ net.points) point named in
    let within = (position-Some _ net.points k [] found).0 in
    subst (IsPoint net) same within

link_inside : (net : Plan) (plan : IsPlan net) (name : LinkId) (link : Link) → IsLinkOf net name link → IsLink net link
link_inside net plan name link declared = holds_of (IsLink net) net.links link plan.links_sound (contains_at net.links name.0 link declared)

-- the edge that an entry states is an edge of the network, and its weight is the entry's
record States (net : Plan) (weight : ℤ) (edge : Edge) : Type 0 where
  edge_sound : IsEdge net edge
  weighs : edge.weight ≡ weight

ordinary_stated : (net : Plan) (from to : List ℕ) (weight : ℤ) (edge : Edge) → ordinary_of net from to weight ≡ Some edge → States net weight edge
ordinary_stated net from to weight edge states =
    let (x, named, rest) = two_steps _ (point_named net from) edge states in
    let (y, other, same) = mapped _ (point_named net to) edge rest in
    subst (States net weight) same (record { edge_sound = record { from_point = point_inside net from x named; to_point = point_inside net to y other; labelled = tt }; weighs = refl })

labelled_stated : (net : Plan) (plan : IsPlan net) (from label : List ℕ) (weight : ℤ) (edge : Edge) → labelled_of net from label weight ≡ Some edge → States net weight edge
labelled_stated net plan from label weight edge states =
    let (x, named, rest) = two_steps _ (point_named net from) edge states in
    let (name, found, more) = two_steps _ (link_id net label) edge rest in
    let (link, declared, same) = mapped _ (slice_get net.links name.0) edge more in
    subst (States net weight) same (record { edge_sound = record { from_point = point_inside net from x named; to_point = (link_inside net plan name link declared).from_point; labelled = (link, declared, refl) }; weighs = refl })

stated : (net : Plan) (plan : IsPlan net) (from : List ℕ) (to label : Option (List ℕ)) (weight : ℤ) (edge : Edge) → edge_by net from to label weight ≡ Some edge → States net weight edge
stated net plan from (Some to) label weight edge states = ordinary_stated net from to weight edge states
stated net plan from None (Some label) weight edge states = labelled_stated net plan from label weight edge states
stated net plan from None None weight edge states = absurd (cc)

pub entry_sound : (net : Plan) (plan : IsPlan net) (entry : Entry) (edge : Edge) → entry_passes net entry ≡ Ok edge → IsSoundEdge net edge
entry_sound net plan entry edge passes =
    let (e, names, rest) = bind_ok (there (edge_of_entry net entry) UnknownItem) _ edge passes in
    let (range, fits, same) = bind_ok (unless (in_range entry.weight) WeightRange) _ edge rest in
    let one : e ≡ edge = cc in
    let is = stated net plan entry.from entry.to entry.label entry.weight e (there_ok (edge_of_entry net entry) UnknownItem e names) in
    subst (IsSoundEdge net) one (record { is_edge = is.edge_sound; within = ap in_range is.weighs ∙ unless_ok (in_range entry.weight) WeightRange fits })

line_ok : {A : Type 0} (line : ℕ) (read : Result A CertFault) (x : A) → at_line line read ≡ Ok x → read ≡ Ok x
line_ok line (Ok y) x e = cc
line_ok line (Err why) x e = absurd (cc)

-- what holds of what each line says holds of what all of them say
pub each_read : {A B : Type 0} (read : A → Result B CertFault) (P : B → Type 0) (line : ℕ) (xs : List A) (ys : List B) → ((x : A) (y : B) → read x ≡ Ok y → P y) → read_each read line xs ≡ Ok ys → AllByRecursion P ys
each_read read P line [] ys holds all =
    let none : [] ≡ ys = cc in
    subst (AllByRecursion P) none tt
each_read read P line (x ∷ xs) ys holds all =
    let (first, one, rest) = bind_ok (at_line line (read x)) _ ys all in
    let (others, more, same) = bind_ok (read_each read (line + 1) xs) _ ys rest in
    let whole : first ∷ others ≡ ys = cc in
    subst (AllByRecursion P) whole (holds x first (line_ok line (read x) first one), each_read read P (line + 1) xs others holds more)

pub edges_sound : (net : Plan) (plan : IsPlan net) (line : ℕ) (entries : List Entry) (edges : List Edge) → read_each (entry_passes net) line entries ≡ Ok edges → AllByRecursion (IsSoundEdge net) edges
edges_sound net plan line entries edges all = each_read (entry_passes net) (IsSoundEdge net) line entries edges (entry_sound net plan) all

-- ---- what stands among the edges
same_id : (x y : ℕ) → (x == y) ≡ true → x ≡ y
same_id x y e = grind (arith, nat_tests)

pub label_same : (a b : Option LinkId) → same_label_id a b ≡ true → a ≡ b
label_same (Some x) (Some y) e = ap (λ (n : ℕ). Some (record { 0 = n })) (same_id x.0 y.0 e)
label_same None None e = refl
label_same (Some x) None e = absurd (cc)
label_same None (Some y) e = absurd (cc)

-- two edges of one key
pub record SameKey (edge other : Edge) : Type 0 where
  pub from : edge.from ≡ other.from
  pub to : edge.to ≡ other.to
  pub label : edge.label ≡ other.label

pub key_same : (edge other : Edge) → same_key edge other ≡ true → SameKey edge other
key_same edge other e =
    let (ends, label) = and_parts ((edge.from.0 == other.from.0) && (edge.to.0 == other.to.0)) (same_label_id edge.label other.label) e in
    let (from, to) = and_parts (edge.from.0 == other.from.0) (edge.to.0 == other.to.0) ends in
    let point : ℕ → PointId = λ n. record { 0 = n } in
    record { from = ap point (same_id edge.from.0 other.from.0 from); to = ap point (same_id edge.to.0 other.to.0 to); label = label_same edge.label other.label label }

stands : (edges : List Edge) (edge : Edge) → stands_among edges edge ≡ true → Stands edges edge
stands edges edge is =
    let (entry, among, passes) = some_passes (λ e. same_key e edge && int_le e.weight edge.weight) edges is in
    let (key, weight) = and_parts (same_key entry edge) (int_le entry.weight edge.weight) passes in
    let same = key_same entry edge key in
    record { entry = entry; among = among; from = same.from; to = same.to; label = same.label; at_most = le_is entry.weight edge.weight weight }

stood : (edges : List Edge) (edge : Edge) → not (stands_among edges edge) ≡ false → Stands edges edge
stood edges edge none = stands edges edge (by (stands_among edges edge) none)
  where
    by : (b : Bool) → not b ≡ false → b ≡ true
    by true e = refl
    by false e = absurd (cc)

-- ---- the base
none_missing_ok : (found : Option Base) → none_missing found ≡ Ok tt → found ≡ None
none_missing_ok None e = refl
none_missing_ok (Some base) e = absurd (cc)

place_numbered : {A : Type 0} (start : ℕ) (xs : List A) (k : ℕ) (x : A) → slice_get xs k ≡ Some x → Contains (enumerate_from start xs) (start + k, x)
place_numbered start xs k x here = contains_at (enumerate_from start xs) k (start + k, x) (numbered start xs k here)
  where
    numbered : (start : ℕ) (ys : List _) (k : ℕ) → slice_get ys k ≡ Some x → slice_get (enumerate_from start ys) k ≡ Some (start + k, x)
    numbered start [] k here = absurd (cc)
    numbered start (y ∷ ys) zero here =
        let same : y ≡ x = same_Some y x here in
        let number : start ≡ start + 0 = omega arith in
        ap (λ (n : ℕ). Some (n, y)) number ∙ ap (λ z. Some (start + 0, z)) same
    numbered start (y ∷ ys) (suc k) here =
        let number : start + 1 + k ≡ start + suc k = omega arith in
        numbered (start + 1) ys k here ∙ ap (λ (n : ℕ). Some (n, x)) number

contains_mapped : {A B : Type 0} (f : A → B) (xs : List A) (k : ℕ) (x : A) → slice_get xs k ≡ Some x → Contains (map f xs) (f x)
contains_mapped f xs k x here = contains_at (map f xs) k (f x) (slice_get-map f xs k ∙ ap (option_map f) here)

-- the place of what is contained
at_place : {A : Type 0} (xs : List A) (x : A) → Contains xs x → (k : ℕ) × (slice_get xs k ≡ Some x)
at_place xs x (k, within, here) = (k, slice_get-get_or xs k x within ∙ ap (λ y. Some y) here)

-- ---- the table
module _ (net : Plan) (edges : List Edge) where
  base_stood : base_stands net edges ≡ Ok tt → (base : Base) → Contains (base_of net) base → Stands edges base.edge
  base_stood ok base among =
      stood edges base.edge (nothing_found (is_missing edges) (base_of net) base (none_missing_ok (find (is_missing edges) (base_of net)) ok) among)

  bound_stands : base_stands net edges ≡ Ok tt → (place : ℕ) (bound : Bound) → slice_get net.bounds place ≡ Some bound → Stands edges (bound_edge bound)
  bound_stands ok place bound declared =
      base_stood ok (base_of_bound bound) (Contains-append_left (map base_of_bound net.bounds) _ (base_of_bound bound) (contains_mapped base_of_bound net.bounds place bound declared))

  link_stands : base_stands net edges ≡ Ok tt → (name : LinkId) (link : Link) → IsLinkOf net name link → Stands edges (link_edge name link)
  link_stands ok name link declared =
      let (k, here) = at_place (enumerate_from 0 net.links) (0 + name.0, link) (place_numbered 0 net.links name.0 link declared) in
      let number : 0 + name.0 ≡ name.0 = omega arith in
      let is = base_stood ok (base_of_link net (0 + name.0, link)) (Contains-append_right (map base_of_bound net.bounds) (map (base_of_link net) (enumerate_from 0 net.links)) (base_of_link net (0 + name.0, link))
      (contains_mapped (base_of_link net) (enumerate_from 0 net.links) k (0 + name.0, link) here)) in
      subst (λ (n : ℕ). Stands edges (link_edge (record { 0 = n }) link)) number is

given_fails : {A : Type 0} (unsaturated : Edge → Bool) (give : A → Option Edge) (x : A) (edge : Edge) → give x ≡ Some edge → option_map_or unsaturated (give x) false ≡ false → unsaturated edge ≡ false
given_fails unsaturated give x edge is fails = sym (ap (λ o. option_map_or unsaturated o false) is) ∙ fails

-- what is given by an item of a list passes if nothing that is given fails
given_stands : {A : Type 0} (unsaturated : Edge → Bool) (give : A → Option Edge) (xs : List A) (x : A) (edge : Edge) → list_any unsaturated (filter_map give xs) ≡ false → Contains xs x → give x ≡ Some edge → unsaturated edge ≡ false
given_stands unsaturated give xs x edge none among is =
    given_fails unsaturated give x edge is (none_passes (λ y. option_map_or unsaturated (give y) false) xs x (sym (any_given unsaturated give xs) ∙ none) among)

pub link_among : (net : Plan) (name : LinkId) (link : Link) → IsLinkOf net name link → Contains (link_ids net) name
link_among net name link declared =
    let (k, here) = at_place (enumerate_from 0 net.links) (0 + name.0, link) (place_numbered 0 net.links name.0 link declared) in
    let number : 0 + name.0 ≡ name.0 = omega arith in
    subst (λ (n : ℕ). Contains (link_ids net) (record { 0 = n })) number (contains_mapped (λ (l : ℕ × Link). record { 0 = l.0 }) (enumerate_from 0 net.links) k (0 + name.0, link) here)

-- the parts of what the rules give, none of which fails
record ClosedAt (net : Plan) (edges : List Edge) (second : Edge) : Type 0 where
  no_cases : list_any (λ edge. not (stands_among edges edge)) (filter_map (λ first. no_case first second) edges) ≡ false
  upper_cases : list_any (λ edge. not (stands_among edges edge)) (filter_map (λ first. upper_case first second) edges) ≡ false
  lower_cases : list_any (λ edge. not (stands_among edges edge)) (filter_map (λ name. lower_case net name second) (link_ids net)) ≡ false
  cross_cases : list_any (λ edge. not (stands_among edges edge)) (filter_map (λ name. cross_case net name second) (link_ids net)) ≡ false
  removals : list_any (λ edge. not (stands_among edges edge)) (filter_map (removal net) (second ∷ [])) ≡ false

closed_at : (net : Plan) (edges : List Edge) (second : Edge) → has_open_conclusion net edges second ≡ false → ClosedAt net edges second
closed_at net edges second none =
    let unsaturated : Edge → Bool = λ edge. not (stands_among edges edge) in
    let a : List Edge = filter_map (λ first. no_case first second) edges in
    let b : List Edge = filter_map (λ first. upper_case first second) edges in
    let c : List Edge = filter_map (λ name. lower_case net name second) (link_ids net) in
    let d : List Edge = filter_map (λ name. cross_case net name second) (link_ids net) in
    let e : List Edge = filter_map (removal net) (second ∷ []) in
    let (first, more) = or_parts (list_any unsaturated a) (list_any unsaturated (b ++ (c ++ (d ++ e)))) (sym (list_any-append unsaturated a (b ++ (c ++ (d ++ e)))) ∙ none) in
    let (next, others) = or_parts (list_any unsaturated b) (list_any unsaturated (c ++ (d ++ e))) (sym (list_any-append unsaturated b (c ++ (d ++ e))) ∙ more) in
    let (third, rest) = or_parts (list_any unsaturated c) (list_any unsaturated (d ++ e)) (sym (list_any-append unsaturated c (d ++ e)) ∙ others) in
    let (fourth, last) = or_parts (list_any unsaturated d) (list_any unsaturated e) (sym (list_any-append unsaturated d e) ∙ rest) in
    record { no_cases = first; upper_cases = next; lower_cases = third; cross_cases = fourth; removals = last }

none_refused_ok : {A : Type 0} (line : ℕ) (why : CertFault) (refused : A → Bool) (xs : List A) (found : Option ℕ) → position refused xs ≡ found → refused_at line why found ≡ Ok tt → (x : A) → Contains xs x → refused x ≡ false
none_refused_ok line why refused xs None is ok x among = none_at refused xs x is among
none_refused_ok line why refused xs (Some k) is ok x among = absurd (cc)

-- the link of a rule that gives something is a link of the network
low_link : (net : Plan) (name : LinkId) (second edge : Edge) → lower_case net name second ≡ Some edge → (link : Link) × IsLinkOf net name link
unfolding lower_case
low_link net name second edge is = let (link, declared, rest) = two_steps _ (slice_get net.links name.0) edge is in (link, declared)

cross_link : (net : Plan) (name : LinkId) (second edge : Edge) → cross_case net name second ≡ Some edge → (link : Link) × IsLinkOf net name link
unfolding cross_case
cross_link net name second edge is = let (link, declared, rest) = two_steps _ (slice_get net.links name.0) edge is in (link, declared)

pub self_among : {A : Type 0} (x : A) → Contains (x ∷ []) x
self_among x = (0, omega arith, refl)

-- a table that passes is a closed list
module _ (net : Plan) (line : ℕ) (edges : List Edge) (base : base_stands net edges ≡ Ok tt) (closed : none_refused line NotClosed (has_open_conclusion net edges) edges ≡ Ok tt) where
  at_second : (second : Edge) → Contains edges second → ClosedAt net edges second
  at_second second among =
      closed_at net edges second (none_refused_ok line NotClosed (has_open_conclusion net edges) edges (position (has_open_conclusion net edges) edges) refl closed second among)

  follows_stands : (edge : Edge) → Follows net edges edge → Stands edges edge
  follows_stands edge (by_bound place bound declared same) = subst (Stands edges) same (bound_stands net edges base place bound declared)
  follows_stands edge (by_link name link declared same) = subst (Stands edges) same (link_stands net edges base name link declared)
  follows_stands edge (by_no_case first second one two is) =
      stood edges edge (given_stands (λ e. not (stands_among edges e)) (λ f. no_case f second) edges first edge (at_second second two).no_cases one is)
  follows_stands edge (by_upper_case first second one two is) =
      stood edges edge (given_stands (λ e. not (stands_among edges e)) (λ f. upper_case f second) edges first edge (at_second second two).upper_cases one is)
  follows_stands edge (by_lower_case name second among is) =
      let (link, declared) = low_link net name second edge is in
      stood edges edge (given_stands (λ e. not (stands_among edges e)) (λ n. lower_case net n second) (link_ids net) name edge (at_second second among).lower_cases (link_among net name link declared) is)
  follows_stands edge (by_cross_case name second among is) =
      let (link, declared) = cross_link net name second edge is in
      stood edges edge (given_stands (λ e. not (stands_among edges e)) (λ n. cross_case net n second) (link_ids net) name edge (at_second second among).cross_cases (link_among net name link declared) is)
  follows_stands edge (by_removal premise among is) =
      stood edges edge (given_stands (λ e. not (stands_among edges e)) (removal net) (premise ∷ []) premise edge (at_second premise among).removals (self_among premise) is)

-- ---- the order

none_distinct : IsDistinct same_point []
unfolding IsDistinct
none_distinct = tt

more_distinct : (point : PointId) (points : List PointId) → AllByRecursion (λ p. same_point point p ≡ false) points → IsDistinct same_point points → IsDistinct same_point (point ∷ points)
unfolding IsDistinct
more_distinct point points apart distinct = (apart, distinct)

-- if a point stands neither among earlier ones nor is another
split_apart : (earlier : List PointId) (point p : PointId) → list_any (same_point p) (earlier ++ point ∷ []) ≡ false → (list_any (same_point p) earlier ≡ false) × (same_point point p ≡ false)
split_apart earlier point p none =
    let (prefix, back) = or_parts (list_any (same_point p) earlier) (list_any (same_point p) (point ∷ [])) (sym (list_any-append (same_point p) earlier (point ∷ [])) ∙ none) in
    let (other, _) = or_parts (same_point p point) false back in
    (prefix, turned p point other)
  where
    turned : (p point : PointId) → same_point p point ≡ false → same_point point p ≡ false
    turned p point other = grind (arith, nat_tests)

prefix_apart : (earlier : List PointId) (point : PointId) (points : List PointId) → AllByRecursion (λ p. list_any (same_point p) (earlier ++ point ∷ []) ≡ false) points → AllByRecursion (λ p. list_any (same_point p) earlier ≡ false) points
prefix_apart earlier point [] apart = tt
prefix_apart earlier point (p ∷ points) apart = ((split_apart earlier point p apart.0).0, prefix_apart earlier point points apart.1)

back_apart : (earlier : List PointId) (point : PointId) (points : List PointId) → AllByRecursion (λ p. list_any (same_point p) (earlier ++ point ∷ []) ≡ false) points → AllByRecursion (λ p. same_point point p ≡ false) points
back_apart earlier point [] apart = tt
back_apart earlier point (p ∷ points) apart = ((split_apart earlier point p apart.0).1, back_apart earlier point points apart.1)

-- points that stand once, and not among earlier ones
pub once_apart : (earlier points : List PointId) → stand_once earlier points ≡ Ok tt → AllByRecursion (λ p. list_any (same_point p) earlier ≡ false) points × IsDistinct same_point points
once_apart earlier [] ok = (tt, none_distinct)
once_apart earlier (point ∷ points) ok =
    let (_, new, rest) = bind_ok (unless (not (list_any (same_point point) earlier)) (refusal (length earlier + 1) OrderBroken)) _ tt ok in
    let here : list_any (same_point point) earlier ≡ false = not-true (list_any (same_point point) earlier) (unless_ok (not (list_any (same_point point) earlier)) (refusal (length earlier + 1) OrderBroken) new) in
    let (apart, distinct) = once_apart (earlier ++ point ∷ []) points rest in
    ((here, prefix_apart earlier point points apart), more_distinct point points (back_apart earlier point points apart) distinct)

self_same : (point p : PointId) → point ≡ p → same_point point p ≡ true
self_same point p same =
    let number : point.0 ≡ p.0 = ap (λ (q : PointId). q.0) same in
    grind (arith, nat_tests)

turned_test : (p point : PointId) → same_point p point ≡ false → same_point point p ≡ false
turned_test p point other = grind (arith, nat_tests)

-- the place of a point that stands once
rank_at : (order : List PointId) (k : ℕ) (point : PointId) → IsDistinct same_point order → slice_get order k ≡ Some point → position_or_len (same_point point) order ≡ k
unfolding IsDistinct
rank_at [] k point distinct here = absurd (cc)
rank_at (p ∷ order) zero point distinct here =
    let same : p ≡ point = same_Some p point here in
    ap (λ (b : Bool). cond (not b) (1 + position_or_len (same_point point) order) 0) (self_same point p (sym same))
rank_at (p ∷ order) (suc k) point distinct here =
    let other = holds_of (λ q. same_point p q ≡ false) order point (All-from_recursion (λ q. same_point p q ≡ false) order distinct.0) (contains_at order k point here) in
    ap (λ (b : Bool). cond (not b) (1 + position_or_len (same_point point) order) 0) (turned_test p point other) ∙ one_more (position_or_len (same_point point) order) k (rank_at order k point distinct.1 here)
  where
    one_more : (a k : ℕ) → a ≡ k → 1 + a ≡ suc k
    one_more a k e = omega arith

place_at : (order : List PointId) (k : ℕ) (point : PointId) → IsDistinct same_point order → slice_get order k ≡ Some point → place_in order point ≡ Some k
place_at order k point distinct here =
    let rank = rank_at order k point distinct here in
    let within : k < length order = slice_get_within order k point here in
    ap (λ (n : ℕ). cond (nat_lt n (length order)) (Some n) None) rank ∙ inside k (length order) within
  where
    inside : (k n : ℕ) → k < n → cond (nat_lt k n) (Some k) None ≡ Some k
    inside k n within = rw (lt-ltb k n within) refl

complete_numbered : (order : List PointId) (start : ℕ) (names : List (List ℕ)) (k : ℕ) → list_all (λ point. list_any (same_point (record { 0 = point.0 })) order) (enumerate_from start names) ≡ true → k < length names
    → list_any (same_point (record { 0 = start + k })) order ≡ true
complete_numbered order start [] k all within = absurd (omega arith)
complete_numbered order start (name ∷ names) zero all within =
    let (first, rest) = and_parts (list_any (same_point (record { 0 = start })) order) _ all in
    let number : start ≡ start + 0 = omega arith in
    subst (λ (n : ℕ). list_any (same_point (record { 0 = n })) order ≡ true) number first
complete_numbered order start (name ∷ names) (suc k) all within =
    let (first, rest) = and_parts (list_any (same_point (record { 0 = start })) order) _ all in
    let number : start + 1 + k ≡ start + suc k = omega arith in
    subst (λ (n : ℕ). list_any (same_point (record { 0 = n })) order ≡ true) number (complete_numbered order (start + 1) names k rest (omega arith))

contained : (order : List PointId) (point : PointId) → list_any (same_point point) order ≡ true → Contains order point
contained order point is =
    let (p, among, same) = some_passes (same_point point) order is in
    subst (Contains order) (sym (ap (λ (n : ℕ). let q : PointId = record { 0 = n } in q) (same_id point.0 p.0 same))) among

is_order : (net : Plan) (edges : List Edge) (order : List PointId) → order_passes net order edges ≡ Ok tt → IsOrder net edges order
is_order net edges order ok =
    let (_, once, more) = bind_ok (stand_once [] order) _ tt ok in
    let (_, complete, descends) = bind_ok (unless (is_complete net order) (refusal 0 OrderBroken)) _ tt more in
    let distinct = (once_apart [] order once).1 in
    record {
      complete = λ point within. contained order point (subst (λ (n : ℕ). list_any (same_point (record { 0 = n })) order ≡ true) (from_zero point.0)
          (complete_numbered order 0 net.points point.0 (unless_ok (is_complete net order) (refusal 0 OrderBroken) complete) within));
      once = distinct;
      descends = λ edge later earlier among negative from to.
          let never = none_refused_ok (length order + 1) OrderBroken (rises order) edges (position (rises order) edges) refl descends edge among in
          let high = place_at order later edge.from distinct from in
          let low = place_at order earlier edge.to distinct to in
          is_less_by (is_ordinary edge) (is_negative edge) (place_in order edge.to) (place_in order edge.from) earlier later negative.0 negative.1 never low high;
    }
  where
    from_zero : (n : ℕ) → 0 + n ≡ n
    from_zero n = omega arith

    is_less_by : (ordinary negative : Bool) (to from : Option ℕ) (earlier later : ℕ) → IsTrue ordinary → IsTrue negative → (ordinary && negative && not (comes_before to from)) ≡ false → to ≡ Some earlier → from ≡ Some later
        → earlier < later
    is_less_by true true (Some a) (Some b) earlier later o n never low high =
        let one : a ≡ earlier = same_Some a earlier low in
        let two : b ≡ later = same_Some b later high in
        grind arith
    is_less_by true true None from earlier later o n never low high = absurd (cc)
    is_less_by true true (Some a) None earlier later o n never low high = absurd (cc)
    is_less_by false negative to from earlier later o n never low high = absurd (cc)
    is_less_by true false to from earlier later o n never low high = absurd (cc)

-- ---- a table proof that passes
sound_edges : (net : Plan) (edges : List Edge) → AllByRecursion (IsSoundEdge net) edges → AllByRecursion (IsEdge net) edges
sound_edges net [] all = tt
sound_edges net (edge ∷ edges) all = (all.0.is_edge, sound_edges net edges all.1)

table_controls : ForwardListsGiveStrategies → (net : Plan) → IsInstant net → (order : List (List ℕ)) (entries : List Entry) → table_passes net order entries ≡ Ok tt → IsControllable net
unfolding table_passes
table_controls law net instant order entries ok =
    let (points, named, more) = bind_ok (read_each (point_passes net) 1 order) _ tt ok in
    let (edges, read, passes) = bind_ok (read_each (entry_passes net) (length order + 1) entries) _ tt more in
    let (_, base, others) = bind_ok (base_stands net edges) _ tt passes in
    let (_, ordered, closed) = bind_ok (order_passes net points edges) _ tt others in
    let sound = sound_edges net edges (edges_sound net instant.sound (length order + 1) entries edges read) in
    let list : IsClosedList net edges = record { edges_sound = All-from_recursion (IsEdge net) edges sound; closed = follows_stands net (length points + 1) edges base closed } in
    let (strategy, controls, plays) = law net edges points instant (law_closed_lists_are_forward_closed net edges list) (is_order net edges points ordered) in
    (strategy, controls)

accepted_table : (passes : WalkPasses) → judged Controllable passes ≡ Accepted Controllable → passes ≡ Ok tt
accepted_table (Ok passed) accepted = refl
accepted_table (Err refused) accepted = absurd (cc)

other_claim : (passes : WalkPasses) → judged NotControllable passes ≡ Accepted Controllable → ⊥
other_claim (Ok passed) accepted = cc
other_claim (Err refused) accepted = cc

controls_by : ForwardListsGiveStrategies → (net : Plan) (certificate : Certificate) → IsInstant net → judgement_of net certificate ≡ Accepted Controllable → IsControllable net
controls_by law net (Refutation lines walk) instant accepted = absurd (other_claim (refutation_passes net lines walk) accepted)
controls_by law net (TableProof order entries) instant accepted = table_controls law net instant order entries (accepted_table (table_passes net order entries) accepted)

-- an accepted table proof gives a strategy that controls the network
pub law_accepted_controls : ForwardListsGiveStrategies → ControllableIsShown → ShownFormIsInstant → AcceptedControls
law_accepted_controls law is_shown is_instant = λ net certificate plan accepted. (is_shown net plan).1 (controls_by law (shown_form net) certificate (is_instant net plan) accepted)

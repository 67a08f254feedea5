-- By its look-ups an entry gives an edge whose key has no such weight exactly if by the definition something of what the rules give
-- with it does not stand among the entries.
use Rattle.std.proofs.Common.{◌≡◌, ◌≢◌, ℕ, ◌<◌, ◌≤◌, ◌==◌, ℤ, pos, ◌<ℤ◌, ◌≤ℤ◌, ◌+ℤ◌, ◌-ℤ◌, Bool, true, false, not, cond, ◌&&◌, ◌||◌, List, [], ◌∷◌, ◌++◌, length, get_or, Option, Some, None, zero, suc, position, refl, sym, ap, ◌∙◌}
use Rattle.std.proofs.Common.{subst, arith, inl, inr, unsigned_abs}
use Rattle.std.specs.Prelude.{slice_get, int_le, int_lt, nat_lt}
use Rattle.std.specs.Int.{int_max}
use Rattle.std.specs.List.{All, Contains, list_any, filter_map, position_or_len}
use Rattle.std.specs.Option.{option_map, option_map_or}
use Rattle.std.specs.Cmp.{both_ways}
use Rattle.std.proofs.lemmas.Int.{ints, int_max_is}
use Rattle.std.proofs.lemmas.Bool.{and_parts, lt-ltb, and_from, or_left, or_right, or_cases, not_from_false, not-true, eq-eqb}
use Rattle.std.proofs.lemmas.Bool.Decides.{nat_tests}
use Rattle.std.proofs.lemmas.List.Folds.{list_any-append}
use Rattle.std.proofs.lemmas.List.Sums.{position_or_len_is}
use Rattle.std.proofs.lemmas.List.Quantifiers.{position-Some}
use Rattle.std.proofs.lemmas.Option.{same_Some, slice_get_within, get_or_from_slice_get}
use Rattle.std.proofs.Math.Bool.{or-false}
use Rattle.net_model.specs.Limits.{most_weight, most_size, within_size}
use Rattle.net_model.specs.Network.{Plan, IsPlan, IsPoint, IsLink, activation}
use Rattle.net_model.specs.Edges.{IsEdge, IsLinkOf}
use Rattle.net_model.specs.Rules.{is_ordinary, is_labelled, is_labelled_by, meet, is_negative, joined_weight, no_case, upper_case, goes_on_from, moved_to_activation, lower_case, cross_case, removal}
use Rattle.net_model.specs.declared.ids.PointId.{PointId}
use Rattle.net_model.specs.declared.ids.LinkId.{LinkId}
use Rattle.net_model.specs.declared.part.Edge.{Edge}
use Rattle.net_model.specs.declared.part.Link.{Link}
use Rattle.net_model.proofs.RuleLemmas.{no_case_gives, upper_case_gives, lower_case_gives, cross_case_gives, removal_gives}
use Rattle.net_model.proofs.AppliedRuleLemmas.{negative_holds, lower_case_applies}
use Rattle.cert_checker.specs.Lines.{in_range}
use Rattle.cert_checker.specs.Tables.{same_label_id, same_key, stands_among, link_ids, has_open_conclusion}
use Rattle.cert_checker.specs.Sound.{IsSoundEdge}
use Rattle.cert_checker.specs.Least.{absent, Weights, row_in, row_by, row_of_words, weight_in, IsSizedFor, IsSmallEdge, descends, improves_in, has_word_at_most}
use Rattle.cert_checker.specs.OpenEntries.{is_unsaturated, is_open_before, is_open_after}
use Rattle.cert_checker.proofs.Inversion.{contains_at, le_is, lt_is}
use Rattle.cert_checker.proofs.ListLemmas.{some_passes, passes_some, holds_of, any_given, place_within}
use Rattle.cert_checker.proofs.LeastLemmas.{placed_before, row_length}
use Rattle.cert_checker.proofs.RowLemmas.{improves_somewhere, improves_at}
use Rattle.cert_checker.proofs.OpenLemmas.{IsLeast}
use Rattle.cert_checker.proofs.TableLaw.{key_same, link_among}

-- ---- tests
negative_is : (edge : Edge) → is_negative edge ≡ true → edge.weight <ℤ pos 0
negative_is edge holds = grind (arith, ints)

in_range_is : (w : ℤ) → in_range w ≡ true → unsigned_abs w ≤ most_weight
in_range_is w is = grind (arith, nat_tests)

-- ---- what the rules give
abbrev joined : Edge → Edge → Edge
joined first second = record { from = first.from; to = second.to; label = second.label; weight = joined_weight first second }

ordinary_test : (edge : Edge) → edge.label ≡ None → is_ordinary edge ≡ true
ordinary_test edge none = rw none refl

labelled_test : (edge : Edge) (name : LinkId) → edge.label ≡ Some name → is_labelled edge ≡ true
labelled_test edge name is = rw is refl

no_case_applies : (first second : Edge) → first.label ≡ None → second.label ≡ None → first.to ≡ second.from → second.weight <ℤ pos 0 → no_case first second ≡ Some (joined first second)
unfolding no_case
no_case_applies first second one two meeting below =
    let first_is : is_ordinary first ≡ true = ordinary_test first one in
    let second_is : is_ordinary second ≡ true = ordinary_test second two in
    let met : meet first second ≡ true = eq-eqb first.to.0 second.from.0 (ap (λ (p : PointId). p.0) meeting) in
    let negative : is_negative second ≡ true = negative_holds second below in
    rw (first_is, second_is, met, negative) (ap (λ (l : Option LinkId). Some (let e : Edge = record { from = first.from; to = second.to; label = l; weight = joined_weight first second } in e)) (sym two))

upper_case_applies : (first second : Edge) (label : LinkId) → first.label ≡ None → second.label ≡ Some label → first.to ≡ second.from → second.weight <ℤ pos 0 → upper_case first second ≡ Some (joined first second)
unfolding upper_case
upper_case_applies first second label one two meeting below =
    let first_is : is_ordinary first ≡ true = ordinary_test first one in
    let second_is : is_labelled second ≡ true = labelled_test second label two in
    let met : meet first second ≡ true = eq-eqb first.to.0 second.from.0 (ap (λ (p : PointId). p.0) meeting) in
    let negative : is_negative second ≡ true = negative_holds second below in
    rw (first_is, second_is, met, negative) refl

goes_test : (link : Link) (second : Edge) → second.from ≡ link.to → second.weight <ℤ pos 0 → goes_on_from link second ≡ true
goes_test link second begins below =
    and_from (second.from.0 == link.to.0) (is_negative second) (eq-eqb second.from.0 link.to.0 (ap (λ (p : PointId). p.0) begins)) (negative_holds second below)

cross_case_applies : (net : Plan) (name : LinkId) (link : Link) (second : Edge) (label : LinkId) → IsLinkOf net name link → second.label ≡ Some label → is_labelled_by name second ≡ false → second.from ≡ link.to → second.weight <ℤ pos 0
    → cross_case net name second ≡ Some (moved_to_activation link second)
unfolding cross_case
cross_case_applies net name link second label declared two other begins below =
    let second_is : is_labelled second ≡ true = labelled_test second label two in
    let goes : goes_on_from link second ≡ true = goes_test link second begins below in
    rw (declared, second_is, other, goes) refl

-- a label is another link than the one with which the edge goes on
other_label : (name label : LinkId) (second : Edge) → second.label ≡ Some label → label ≢ name → is_labelled_by name second ≡ false
other_label name label second labelled other = rw labelled (by (label.0 == name.0) refl)
  where
    by : (b : Bool) → (label.0 == name.0) ≡ b → (label.0 == name.0) ≡ false
    by true is = absurd (other (same (grind (arith, nat_tests))))
      where
        same : label.0 ≡ name.0 → label ≡ name
        same number = ap (λ (n : ℕ). let l : LinkId = record { 0 = n } in l) number
    by false is = is

no_label : (name : LinkId) (second : Edge) → second.label ≡ None → is_labelled_by name second ≡ false
no_label name second none = rw none refl

-- ---- the link that ends where an edge begins
link_ends : (net : Plan) (plan : IsPlan net) (name : LinkId) (link : Link) (point : PointId) → IsLinkOf net name link → point ≡ link.to → activation net point ≡ Some name
link_ends net plan name link point declared ends =
    let within : name.0 < length net.links = slice_get_within net.links name.0 link declared in
    let test : Link → Bool = λ l. l.to.0 == point.0 in
    let is_link : get_or net.links name.0 link ≡ link = get_or_from_slice_get net.links name.0 link link declared in
    let place : position_or_len test net.links ≡ name.0 = position_or_len_is test net.links name.0 link (omega arith) (λ k earlier. before within is_link k earlier) (λ inside. here is_link) in
    found (position_or_len test net.links) place within
  where
    same : link.to.0 ≡ point.0
    same = ap (λ (p : PointId). p.0) (sym ends)

    here : get_or net.links name.0 link ≡ link → (get_or net.links name.0 link).to.0 == point.0 ≡ true
    here is_link = ap (λ (l : Link). l.to.0 == point.0) is_link ∙ eq-eqb link.to.0 point.0 same

    before : name.0 < length net.links → get_or net.links name.0 link ≡ link → (k : ℕ) → k < name.0 → (get_or net.links k link).to.0 == point.0 ≡ false
    before within is_link k earlier =
        let other : (get_or net.links k link).to.0 ≢ (get_or net.links name.0 link).to.0 = plan.links_apart k name.0 link earlier within in
        let there : (get_or net.links name.0 link).to.0 ≡ point.0 = ap (λ (l : Link). l.to.0) is_link ∙ same in
        apart (get_or net.links k link).to.0 (get_or net.links name.0 link).to.0 point.0 other there
      where
        apart : (a b c : ℕ) → a ≢ b → b ≡ c → (a == c) ≡ false
        apart a b c other there = grind (arith, nat_tests)

    found : (n : ℕ) → n ≡ name.0 → name.0 < length net.links → option_map (λ k. let l : LinkId = record { 0 = k } in l) (cond (nat_lt n (length net.links)) (Some n) None) ≡ Some name
    found n is within =
        let inside : nat_lt n (length net.links) ≡ true = lt-ltb n (length net.links) (omega arith) in
        rw inside (ap (λ (k : ℕ). Some (let l : LinkId = record { 0 = k } in l)) is)

-- the link of a number that ends in a point
link_there : (net : Plan) (point : PointId) (name : LinkId) → activation net point ≡ Some name → (link : Link) × IsLinkOf net name link × (point ≡ link.to)
link_there net point name is = by (position (λ (l : Link). l.to.0 == point.0) net.links) refl is
  where
    at : (links : List Link) (k : ℕ) → k < length links → (link : Link) × (slice_get links k ≡ Some link)
    at [] k within = absurd (omega arith)
    at (l ∷ links) zero within = (l, refl)
    at (l ∷ links) (suc k) within = at links k (omega arith)

    by : (o : Option ℕ) → position (λ (l : Link). l.to.0 == point.0) net.links ≡ o → option_map (λ k. let l : LinkId = record { 0 = k } in l) o ≡ Some name → (link : Link) × IsLinkOf net name link × (point ≡ link.to)
    by None found is = absurd (cc)
    by (Some k) found is =
        let number : k ≡ name.0 = ap (λ (l : LinkId). l.0) (same_Some (record { 0 = k }) name is) in
        let (link, here) = at net.links k (place_within (λ (l : Link). l.to.0 == point.0) net.links k found) in
        let (inside, ends, earlier) = position-Some (λ (l : Link). l.to.0 == point.0) net.links k link found in
        let there : get_or net.links k link ≡ link = get_or_from_slice_get net.links k link link here in
        let to : (link.to.0 == point.0) ≡ true = ap (λ (l : Link). l.to.0 == point.0) (sym there) ∙ ends in
        (link, subst (λ (n : ℕ). slice_get net.links n ≡ Some link) number here, point_same point link.to to)
      where
        point_same : (p q : PointId) → (q.0 == p.0) ≡ true → p ≡ q
        point_same p q is =
            let number : p.0 ≡ q.0 = grind (arith, nat_tests) in
            ap (λ (n : ℕ). let x : PointId = record { 0 = n } in x) number

-- ---- arithmetic
is_less_by : (v f w t : ℤ) → v ≤ℤ f → f <ℤ absent → int_le t (int_max f (pos 0) +ℤ w) ≡ false → descends v t w ≡ true
is_less_by v f w t less small over = and_from (int_lt v absent) (int_lt (int_max v (pos 0) +ℤ w) t) (first v f less small) (second v f w t less over)
  where
    first : (v f : ℤ) → v ≤ℤ f → f <ℤ absent → int_lt v absent ≡ true
    first v f less small = grind (arith, ints)

    second : (v f w t : ℤ) → v ≤ℤ f → int_le t (int_max f (pos 0) +ℤ w) ≡ false → int_lt (int_max v (pos 0) +ℤ w) t ≡ true
    second v f w t less over = grind (arith, ints, int_max_is)

improves_over : (v f w t : ℤ) → f ≤ℤ v → int_lt (int_max v (pos 0) +ℤ w) t ≡ true → int_le t (int_max f (pos 0) +ℤ w) ≡ false
improves_over v f w t less below = grind (arith, ints, int_max_is)

self_le : (v : ℤ) → int_le v v ≡ true
self_le v = grind (arith, ints)

small_weight : (w : ℤ) → unsigned_abs w ≤ most_weight → w <ℤ absent
small_weight w few = omega (arith, ints, few)

small_joined : (v w : ℤ) → unsigned_abs v ≤ most_weight → unsigned_abs w ≤ most_weight → (int_max v (pos 0) +ℤ w) <ℤ absent
small_joined v w few fewer = grind (arith, ints, int_max_is)

small_moved : (low w : ℤ) → unsigned_abs low ≤ most_size → unsigned_abs w ≤ most_weight → (low +ℤ w) <ℤ absent
small_moved low w few fewer = omega (arith, ints, few, fewer)

small_max : (low w : ℤ) → unsigned_abs low ≤ most_size → unsigned_abs w ≤ most_weight → int_max w (pos 0 -ℤ low) <ℤ absent
small_max low w few fewer = grind (arith, ints, int_max_is)

pub link_short : (net : Plan) (link : Link) → IsLink net link → unsigned_abs link.low ≤ most_size
link_short net link is =
    let high : unsigned_abs link.high ≤ most_size = within_is link.high is.within in
    let interval = is.interval in
    let positive = is.positive in
    omega (arith, ints, high, interval, positive)
  where
    within_is : (w : ℤ) → within_size w ≡ true → unsigned_abs w ≤ most_size
    within_is w is = grind (arith, nat_tests)

-- ---- what does not stand
abbrev unsaturated : List Edge → Edge → Bool
unsaturated edges edge = not (stands_among edges edge)

unsaturated_given : (edges : List Edge) (given : Option Edge) → is_unsaturated edges given ≡ true → (edge : Edge) × (given ≡ Some edge) × (unsaturated edges edge ≡ true)
unsaturated_given edges None is = absurd (cc)
unsaturated_given edges (Some edge) is = (edge, refl, is)

given_unsaturated : (edges : List Edge) (given : Option Edge) (edge : Edge) → given ≡ Some edge → unsaturated edges edge ≡ true → is_unsaturated edges given ≡ true
given_unsaturated edges given edge is lacking = ap (is_unsaturated edges) is ∙ lacking

none_given : (edges : List Edge) (given : Option Edge) → ((edge : Edge) → given ≡ Some edge → ⊥) → is_unsaturated edges given ≡ false
none_given edges None none = refl
none_given edges (Some edge) none = absurd (none edge refl)

-- ---- the look-ups
module _ (net : Plan) (edges : List Edge) (sound : All (IsSoundEdge net) edges) (table : Weights) (shape : IsSizedFor (length net.points) (length net.links) table) (least : IsLeast net edges table) where
  unsaturated_is : (edge : Edge) → IsEdge net edge → edge.weight <ℤ absent → unsaturated edges edge ≡ not (has_word_at_most table edge)
  unsaturated_is edge is small = ap not (sym (least edge is small))

  sound_at : (first : Edge) → Contains edges first → IsSoundEdge net first
  sound_at first among = holds_of (IsSoundEdge net) edges first sound among

  within_at : (first : Edge) → IsSoundEdge net first → unsigned_abs first.weight ≤ most_weight
  within_at first is = in_range_is first.weight is.within

  -- the key of an entry has at most its weight
  entry_word : (first : Edge) → Contains edges first → weight_in table first ≤ℤ first.weight
  entry_word first among =
      let is = sound_at first among in
      let stands : stands_among edges first ≡ true = passes_some (λ e. same_key e first && int_le e.weight first.weight) edges first among
      (and_from (same_key first first) (int_le first.weight first.weight) (own_key first) (self_le first.weight)) in
      le_is (weight_in table first) first.weight (least first is.is_edge (small_weight first.weight (within_at first is)) ∙ stands)
    where
      own_label : (label : Option LinkId) → same_label_id label label ≡ true
      own_label None = refl
      own_label (Some name) = eq-eqb name.0 name.0 refl

      own_key : (edge : Edge) → same_key edge edge ≡ true
      own_key edge = and_from ((edge.from.0 == edge.from.0) && (edge.to.0 == edge.to.0)) (same_label_id edge.label edge.label)
          (and_from (edge.from.0 == edge.from.0) (edge.to.0 == edge.to.0) (eq-eqb edge.from.0 edge.from.0 refl) (eq-eqb edge.to.0 edge.to.0 refl)) (own_label edge.label)

  module _ (second : Edge) (is_second : IsSoundEdge net second) where
    joined_edge : (first : Edge) → IsPoint net first.from → IsEdge net (joined first second)
    joined_edge first from = record { from_point = from; to_point = is_second.is_edge.to_point; labelled = is_second.is_edge.labelled }

    second_few : unsigned_abs second.weight ≤ most_weight
    second_few = within_at second is_second

    firsts_count : length (row_in table.ordinary second.from.0) ≡ length net.points
    firsts_count =
        let from = is_second.is_edge.from_point in
        let count = shape.targets in
        row_length (length net.points) table.ordinary second.from.0 shape.ordinary_rows (omega (arith, from, count))

    others_count : length (row_of_words table second) ≡ length net.points
    others_count = sym (placed_before net table second shape is_second.is_edge).1 ∙ firsts_count

    -- the word of a first premise improves
    abbrev pub words_improve : Bool
    words_improve = improves_in (row_in table.ordinary second.from.0) (row_of_words table second) second.weight

    -- a first premise after which something does not stand, and its word
    before_opens : (first : Edge) → Contains edges first → first.label ≡ None → first.to ≡ second.from → unsaturated edges (joined first second) ≡ true → words_improve ≡ true
    before_opens first among ordinary meeting lacking =
        let is = sound_at first among in
        let from = is.is_edge.from_point in
        let word : weight_in table first ≡ get_or (row_in table.ordinary second.from.0) first.from.0 absent = ap (λ (l : Option LinkId). get_or (row_by table first.to l) first.from.0 absent) ordinary
        ∙ ap (λ (p : PointId). get_or (row_in table.ordinary p.0) first.from.0 absent) meeting in
        let less : get_or (row_in table.ordinary second.from.0) first.from.0 absent ≤ℤ first.weight = subst (λ (w : ℤ). w ≤ℤ first.weight) word (entry_word first among) in
        let over : has_word_at_most table (joined first second) ≡ false = not-true (has_word_at_most table (joined first second))
        (sym (unsaturated_is (joined first second) (joined_edge first from) (small_joined first.weight second.weight (within_at first is) second_few)) ∙ lacking) in
        let there : first.from.0 < length (row_in table.ordinary second.from.0) = omega (arith, from, firsts_count) in
        let also : first.from.0 < length (row_of_words table second) = omega (arith, from, others_count) in
        improves_at (row_in table.ordinary second.from.0) (row_of_words table second) second.weight first.from.0 there also
        (is_less_by (get_or (row_in table.ordinary second.from.0) first.from.0 absent) first.weight second.weight (get_or (row_of_words table second) first.from.0 absent) less (small_weight first.weight (within_at first is)) over)

    -- what an opening before an edge shows
    record OpensWith (first : Edge) : Type 0 where
      among : Contains edges first
      ordinary : first.label ≡ None
      meeting : first.to ≡ second.from
      lacking : unsaturated edges (joined first second) ≡ true

    opening : words_improve ≡ true → (first : Edge) × OpensWith first
    opening is =
        let (k, within, descends) = improves_somewhere (row_in table.ordinary second.from.0) (row_of_words table second) second.weight is in
        let v : ℤ = get_or (row_in table.ordinary second.from.0) k absent in
        let t : ℤ = get_or (row_of_words table second) k absent in
        let (here, below) = and_parts (int_lt v absent) (int_lt (int_max v (pos 0) +ℤ second.weight) t) descends in
        let entry : Edge = record { from = record { 0 = k }; to = second.from; label = None; weight = v } in
        let inside : k < length net.points = omega (arith, within, firsts_count) in
        let entry_edge : IsEdge net entry = record { from_point = inside; to_point = is_second.is_edge.from_point; labelled = tt } in
        let stands : stands_among edges entry ≡ true = sym (least entry entry_edge (lt_is v absent here)) ∙ self_le v in
        let (first, among, passes) = some_passes (λ e. same_key e entry && int_le e.weight entry.weight) edges stands in
        let (key, weight) = and_parts (same_key first entry) (int_le first.weight v) passes in
        let same = key_same first entry key in
        let sound_first = sound_at first among in
        let number : first.from.0 ≡ k = ap (λ (p : PointId). p.0) same.from in
        let word : get_or (row_of_words table second) first.from.0 absent ≡ t = ap (λ (n : ℕ). get_or (row_of_words table second) n absent) number in
        let over : has_word_at_most table (joined first second) ≡ false = ap (λ (w : ℤ). int_le w (joined_weight first second)) word ∙ improves_over v first.weight second.weight t (le_is first.weight v weight) below in (
          first,
          record {
            among = among;
            ordinary = same.label;
            meeting = same.to;
            lacking = unsaturated_is (joined first second) (joined_edge first sound_first.is_edge.from_point) (small_joined first.weight second.weight (within_at first sound_first) second_few)
                ∙ not_from_false (has_word_at_most table (joined first second)) over;
          },
        )

    abbrev by_no : Edge → Bool
    by_no first = is_unsaturated edges (no_case first second)

    abbrev by_upper : Edge → Bool
    by_upper first = is_unsaturated edges (upper_case first second)

    -- with an ordinary edge before a negative one something does not stand exactly if the word of one improves
    pub before_is : second.weight <ℤ pos 0 → words_improve ≡ is_open_before edges second
    before_is below = both_ways words_improve (is_open_before edges second) there back
      where
        gives : (first : Edge) → OpensWith first → (o : Option LinkId) → second.label ≡ o → (by_no first || by_upper first) ≡ true
        gives first with_first None label =
            or_left (by_no first) (by_upper first) (given_unsaturated edges (no_case first second) (joined first second) (no_case_applies first second with_first.ordinary label with_first.meeting below) with_first.lacking)
        gives first with_first (Some name) label =
            or_right (by_no first) (by_upper first) (given_unsaturated edges (upper_case first second) (joined first second) (upper_case_applies first second name with_first.ordinary label with_first.meeting below) with_first.lacking)

        there : words_improve ≡ true → is_open_before edges second ≡ true
        there is = let (first, with_first) = opening is in passes_some (λ f. by_no f || by_upper f) edges first with_first.among (gives first with_first second.label refl)

        improves_by_no_case : (first : Edge) → Contains edges first → by_no first ≡ true → words_improve ≡ true
        improves_by_no_case first among is =
            let (edge, gave, lacking) = unsaturated_given edges (no_case first second) is in
            let given = no_case_gives first second edge gave in
            let same : joined first second ≡ edge = ap (λ (l : Option LinkId). let e : Edge = record { from = first.from; to = second.to; label = l; weight = joined_weight first second } in e) given.second_ordinary ∙ given.is in
            before_opens first among given.first_ordinary given.meeting (ap (unsaturated edges) same ∙ lacking)

        improves_by_upper_case : (first : Edge) → Contains edges first → by_upper first ≡ true → words_improve ≡ true
        improves_by_upper_case first among is =
            let (edge, gave, lacking) = unsaturated_given edges (upper_case first second) is in
            let given = upper_case_gives first second edge gave in
            before_opens first among given.first_ordinary given.meeting (ap (unsaturated edges) given.is ∙ lacking)

        back : is_open_before edges second ≡ true → words_improve ≡ true
        back is =
            let (first, among, passes) = some_passes (λ f. by_no f || by_upper f) edges is in
            elim (or_cases (by_no first) (by_upper first) passes) [ inl plain ↦ improves_by_no_case first among plain | inr upper ↦ improves_by_upper_case first among upper ]

-- ---- with the link that ends where the edge begins
pub moved_small : (net : Plan) (second : Edge) → IsSoundEdge net second → (link : Link) → IsLink net link → IsSmallEdge net (moved_to_activation link second)
moved_small net second is_second link is = record {
  is_edge = record { from_point = is.from_point; to_point = is_second.is_edge.to_point; labelled = is_second.is_edge.labelled };
  small = small_moved link.low second.weight (link_short net link is) (in_range_is second.weight is_second.within);
}

module _ (net : Plan) (plan : IsPlan net) (edges : List Edge) (second : Edge) (is_second : IsSoundEdge net second) where
  link_sound : (name : LinkId) (link : Link) → IsLinkOf net name link → IsLink net link
  link_sound name link declared = holds_of (IsLink net) net.links link plan.links_sound (contains_at net.links name.0 link declared)

  short : (name : LinkId) (link : Link) → IsLinkOf net name link → unsigned_abs link.low ≤ most_size
  short name link declared = link_short net link (link_sound name link declared)

  pub removal_small : (given : Edge) → removal net second ≡ Some given → IsSmallEdge net given
  removal_small given gave =
      let gives = removal_gives net second given gave in
      subst (IsSmallEdge net) gives.is (record {
        is_edge = record { from_point = is_second.is_edge.from_point; to_point = is_second.is_edge.to_point; labelled = tt };
        small = small_max gives.link.low second.weight (short gives.name gives.link gives.declared) (in_range_is second.weight is_second.within);
      })

  abbrev at_link : LinkId → Link → Bool
  at_link name link = not (is_labelled_by name second) && unsaturated edges (moved_to_activation link second)

  abbrev after_by : Option LinkId → Bool
  after_by o = option_map_or (λ n. option_map_or (at_link n) (slice_get net.links n.0) false) o false

  abbrev by_lower : LinkId → Bool
  by_lower name = is_unsaturated edges (lower_case net name second)

  abbrev by_cross : LinkId → Bool
  by_cross name = is_unsaturated edges (cross_case net name second)

  -- with a link before a negative edge something does not stand exactly if it does not with the link that ends where the edge begins
  pub after_is : second.weight <ℤ pos 0 → after_by (activation net second.from) ≡ is_open_after net edges second
  after_is below = both_ways (after_by (activation net second.from)) (is_open_after net edges second) there back
    where
      gives : (name : LinkId) (link : Link) → IsLinkOf net name link → second.from ≡ link.to → is_labelled_by name second ≡ false → unsaturated edges (moved_to_activation link second) ≡ true → (o : Option LinkId) → second.label ≡ o
          → (by_lower name || by_cross name) ≡ true
      gives name link declared begins another lacking None label =
          or_left (by_lower name) (by_cross name) (given_unsaturated edges (lower_case net name second) (moved_to_activation link second) (lower_case_applies net name link second declared label begins below) lacking)
      gives name link declared begins another lacking (Some own) label =
          or_right (by_lower name) (by_cross name) (given_unsaturated edges (cross_case net name second) (moved_to_activation link second) (cross_case_applies net name link second own declared label another begins below) lacking)

      there : after_by (activation net second.from) ≡ true → is_open_after net edges second ≡ true
      there is = by (activation net second.from) refl is
        where
          by : (o : Option LinkId) → activation net second.from ≡ o → after_by o ≡ true → is_open_after net edges second ≡ true
          by None found is = absurd (cc)
          by (Some name) found is =
              let (link, declared, begins) = link_there net second.from name found in
              let here : at_link name link ≡ true = sym (ap (λ o. option_map_or (at_link name) o false) declared) ∙ is in
              let (other, lacking) = and_parts (not (is_labelled_by name second)) (unsaturated edges (moved_to_activation link second)) here in
              passes_some (λ n. by_lower n || by_cross n) (link_ids net) name (link_among net name link declared) (gives name link declared begins (not-true (is_labelled_by name second) other) lacking second.label refl)

      opens_at : (name : LinkId) (link : Link) → IsLinkOf net name link → second.from ≡ link.to → is_labelled_by name second ≡ false → unsaturated edges (moved_to_activation link second) ≡ true → after_by (activation net second.from) ≡ true
      opens_at name link declared begins another lacking =
          let found : activation net second.from ≡ Some name = link_ends net plan name link second.from declared begins in
          ap after_by found
          ∙ ap (λ o. option_map_or (at_link name) o false) declared
          ∙ and_from (not (is_labelled_by name second)) (unsaturated edges (moved_to_activation link second)) (not_from_false (is_labelled_by name second) another) lacking

      opens_lower : (name : LinkId) → by_lower name ≡ true → after_by (activation net second.from) ≡ true
      opens_lower name is =
          let (edge, gave, lacking) = unsaturated_given edges (lower_case net name second) is in
          let given = lower_case_gives net name second edge gave in
          opens_at name given.link given.declared given.begins (no_label name second given.second_ordinary) (ap (unsaturated edges) given.is ∙ lacking)

      opens_cross : (name : LinkId) → by_cross name ≡ true → after_by (activation net second.from) ≡ true
      opens_cross name is =
          let (edge, gave, lacking) = unsaturated_given edges (cross_case net name second) is in
          let given = cross_case_gives net name second edge gave in
          opens_at name given.link given.declared given.begins (other_label name given.label second given.second_labelled given.another) (ap (unsaturated edges) given.is ∙ lacking)

      back : is_open_after net edges second ≡ true → after_by (activation net second.from) ≡ true
      back is =
          let (name, among, passes) = some_passes (λ n. by_lower n || by_cross n) (link_ids net) is in
          elim (or_cases (by_lower name) (by_cross name) passes) [ inl lower ↦ opens_lower name lower | inr cross ↦ opens_cross name cross ]

  pub after_none : second.weight <ℤ pos 0 → activation net second.from ≡ None → false ≡ is_open_after net edges second
  after_none below found = sym (ap after_by found) ∙ after_is below

  pub after_no_link : second.weight <ℤ pos 0 → (name : LinkId) → activation net second.from ≡ Some name → slice_get net.links name.0 ≡ None → false ≡ is_open_after net edges second
  after_no_link below name found gone = sym (ap after_by found ∙ ap (λ o. option_map_or (at_link name) o false) gone) ∙ after_is below

  pub after_link : second.weight <ℤ pos 0 → (name : LinkId) (link : Link) → activation net second.from ≡ Some name → slice_get net.links name.0 ≡ Some link → at_link name link ≡ is_open_after net edges second
  after_link below name link found declared = sym (ap after_by found ∙ ap (λ o. option_map_or (at_link name) o false) declared) ∙ after_is below

-- ---- all rules together
any_or : {A : Type 0} (f g : A → Bool) (xs : List A) → list_any (λ x. f x || g x) xs ≡ (list_any f xs || list_any g xs)
any_or f g [] = refl
any_or f g (x ∷ xs) = ap (λ (b : Bool). (f x || g x) || b) (any_or f g xs) ∙ turned (f x) (g x) (list_any f xs) (list_any g xs)
  where
    turned : (a b c d : Bool) → ((a || b) || (c || d)) ≡ ((a || c) || (b || d))
    turned true b c d = refl
    turned false true true d = refl
    turned false true false d = refl
    turned false false c d = refl

any_none : {A : Type 0} (f : A → Bool) (xs : List A) → ((x : A) → f x ≡ false) → list_any f xs ≡ false
any_none f [] none = refl
any_none f (x ∷ xs) none = ap (λ (b : Bool). b || list_any f xs) (none x) ∙ any_none f xs none

module _ (net : Plan) (edges : List Edge) (second : Edge) where
  abbrev of_rule : {A : Type 0} → (A → Option Edge) → List A → Bool
  of_rule give xs = list_any (unsaturated edges) (filter_map give xs)

  by_parts : has_open_conclusion net edges second ≡ (of_rule (λ first. no_case first second) edges || (of_rule (λ first. upper_case first second) edges ||
      (of_rule (λ name. lower_case net name second) (link_ids net) || (of_rule (λ name. cross_case net name second) (link_ids net) || of_rule (removal net) (second ∷ [])))))
  by_parts =
      let a : List Edge = filter_map (λ first. no_case first second) edges in
      let b : List Edge = filter_map (λ first. upper_case first second) edges in
      let c : List Edge = filter_map (λ name. lower_case net name second) (link_ids net) in
      let d : List Edge = filter_map (λ name. cross_case net name second) (link_ids net) in
      let e : List Edge = filter_map (removal net) (second ∷ []) in
      list_any-append (unsaturated edges) a (b ++ (c ++ (d ++ e)))
      ∙ ap (λ x. list_any (unsaturated edges) a || x) (list_any-append (unsaturated edges) b (c ++ (d ++ e))
      ∙ ap (λ x. list_any (unsaturated edges) b || x) (list_any-append (unsaturated edges) c (d ++ e) ∙ ap (λ x. list_any (unsaturated edges) c || x) (list_any-append (unsaturated edges) d e)))

  before_parts : is_open_before edges second ≡ (of_rule (λ first. no_case first second) edges || of_rule (λ first. upper_case first second) edges)
  before_parts =
      any_or (λ first. is_unsaturated edges (no_case first second)) (λ first. is_unsaturated edges (upper_case first second)) edges
      ∙ (ap (λ (b : Bool). b || list_any (λ first. is_unsaturated edges (upper_case first second)) edges) (sym (any_given (unsaturated edges) (λ first. no_case first second) edges))
      ∙ ap (λ (b : Bool). of_rule (λ first. no_case first second) edges || b) (sym (any_given (unsaturated edges) (λ first. upper_case first second) edges)))

  after_parts : is_open_after net edges second ≡ (of_rule (λ name. lower_case net name second) (link_ids net) || of_rule (λ name. cross_case net name second) (link_ids net))
  after_parts =
      any_or (λ name. is_unsaturated edges (lower_case net name second)) (λ name. is_unsaturated edges (cross_case net name second)) (link_ids net)
      ∙ (ap (λ (b : Bool). b || list_any (λ name. is_unsaturated edges (cross_case net name second)) (link_ids net)) (sym (any_given (unsaturated edges) (λ name. lower_case net name second) (link_ids net)))
      ∙ ap (λ (b : Bool). of_rule (λ name. lower_case net name second) (link_ids net) || b) (sym (any_given (unsaturated edges) (λ name. cross_case net name second) (link_ids net))))

  removal_part : of_rule (removal net) (second ∷ []) ≡ is_unsaturated edges (removal net second)
  removal_part = any_given (unsaturated edges) (removal net) (second ∷ []) ∙ or-false (is_unsaturated edges (removal net second))

  -- an edge that is not negative gives nothing but by removal
  nothing_before : is_negative second ≡ false → is_open_before edges second ≡ false
  nothing_before not_negative =
      any_none (λ first. is_unsaturated edges (no_case first second) || is_unsaturated edges (upper_case first second)) edges (λ first.
      ap (λ (b : Bool). b || is_unsaturated edges (upper_case first second)) (none_given edges (no_case first second) (λ edge gave. over ((no_case_gives first second edge gave).negative)))
      ∙ none_given edges (upper_case first second) (λ edge gave. over ((upper_case_gives first second edge gave).negative)))
    where
      over : second.weight <ℤ pos 0 → ⊥
      over below = let is : is_negative second ≡ true = negative_holds second below in absurd (cc)

  nothing_after : is_negative second ≡ false → is_open_after net edges second ≡ false
  nothing_after not_negative =
      any_none (λ name. is_unsaturated edges (lower_case net name second) || is_unsaturated edges (cross_case net name second)) (link_ids net) (λ name.
      ap (λ (b : Bool). b || is_unsaturated edges (cross_case net name second)) (none_given edges (lower_case net name second) (λ edge gave. over ((lower_case_gives net name second edge gave).negative)))
      ∙ none_given edges (cross_case net name second) (λ edge gave. over ((cross_case_gives net name second edge gave).negative)))
    where
      over : second.weight <ℤ pos 0 → ⊥
      over below = let is : is_negative second ≡ true = negative_holds second below in absurd (cc)

  abbrev plain : Bool
  plain = of_rule (λ first. no_case first second) edges

  abbrev upper : Bool
  upper = of_rule (λ first. upper_case first second) edges

  abbrev lower : Bool
  lower = of_rule (λ name. lower_case net name second) (link_ids net)

  abbrev cross : Bool
  cross = of_rule (λ name. cross_case net name second) (link_ids net)

  -- something does not stand exactly if something by removal does not, or, with a negative edge, something by another rule
  pub open_is : (is_unsaturated edges (removal net second) || (is_negative second && (is_open_before edges second || is_open_after net edges second))) ≡ has_open_conclusion net edges second
  open_is = by (is_negative second) refl ∙ sym by_parts
    where
      turned : (a b c d e : Bool) → (e || ((a || b) || (c || d))) ≡ (a || (b || (c || (d || e))))
      turned true b c d true = refl
      turned true b c d false = refl
      turned false true c d true = refl
      turned false true c d false = refl
      turned false false true d true = refl
      turned false false true d false = refl
      turned false false false true true = refl
      turned false false false true false = refl
      turned false false false false true = refl
      turned false false false false false = refl

      all : (is_unsaturated edges (removal net second) || (is_open_before edges second || is_open_after net edges second)) ≡ (plain || (upper || (lower || (cross || of_rule (removal net) (second ∷ [])))))
      all =
          ap (λ (b : Bool). b || (is_open_before edges second || is_open_after net edges second)) (sym removal_part)
          ∙ (ap (λ (b : Bool). of_rule (removal net) (second ∷ []) || (b || is_open_after net edges second)) before_parts
          ∙ (ap (λ (b : Bool). of_rule (removal net) (second ∷ []) || ((plain || upper) || b)) after_parts
          ∙ turned plain upper lower cross (of_rule (removal net) (second ∷ []))))

      by : (b : Bool) → is_negative second ≡ b → (is_unsaturated edges (removal net second) || (is_negative second && (is_open_before edges second || is_open_after net edges second))) ≡
          (plain || (upper || (lower || (cross || of_rule (removal net) (second ∷ [])))))
      by true is = ap (λ (b : Bool). is_unsaturated edges (removal net second) || (b && (is_open_before edges second || is_open_after net edges second))) is ∙ all
      by false is =
          ap (λ (b : Bool). is_unsaturated edges (removal net second) || (b && (is_open_before edges second || is_open_after net edges second))) is
          ∙ (ap (λ (b : Bool). is_unsaturated edges (removal net second) || b) (sym (ap (λ (b : Bool). b || is_open_after net edges second) (nothing_before is) ∙ nothing_after is))
          ∙ all)

  pub opens_by_removal : is_unsaturated edges (removal net second) ≡ true → true ≡ has_open_conclusion net edges second
  opens_by_removal is = sym (ap (λ (b : Bool). b || (is_negative second && (is_open_before edges second || is_open_after net edges second))) is) ∙ open_is

  pub opens_negative : is_unsaturated edges (removal net second) ≡ false → is_negative second ≡ true → (is_open_before edges second || is_open_after net edges second) ≡ has_open_conclusion net edges second
  opens_negative none negative =
      sym (ap (λ (b : Bool). b || (is_negative second && (is_open_before edges second || is_open_after net edges second))) none ∙ ap (λ (b : Bool). b && (is_open_before edges second || is_open_after net edges second)) negative)
      ∙ open_is

  pub opens_nothing : is_unsaturated edges (removal net second) ≡ false → is_negative second ≡ false → false ≡ has_open_conclusion net edges second
  opens_nothing none not_negative =
      sym (ap (λ (b : Bool). b || (is_negative second && (is_open_before edges second || is_open_after net edges second))) none ∙ ap (λ (b : Bool). b && (is_open_before edges second || is_open_after net edges second)) not_negative)
      ∙ open_is

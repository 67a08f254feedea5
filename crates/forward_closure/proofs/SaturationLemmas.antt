-- A table that saturates each of its edges forward is forward closed; what saturates an edge forward, edge by edge, row by row and share by share.
use Rattle.std.proofs.Common.{◌≡◌, ℕ, ◌+◌, ◌%◌, ◌<◌, ◌≤◌, ℤ, pos, ◌+ℤ◌, ◌≤ℤ◌, ◌<ℤ◌, ◌⊎◌, Bool, true, false, List, ◌++◌, map, length, get_or, Option, Some, None, IfSome, refl, ap, sym, subst, ◌∙◌, inl, inr, arith}
use Rattle.std.specs.Prelude.{int_lt, slice_get, unsigned_abs, Result, Ok, IfOk}
use Rattle.std.specs.declared.alloc.AllocError.{AllocError}
use Rattle.std.specs.Int.{int_max}
use Rattle.std.specs.List.{All, Contains, enumerate_from}
use Rattle.std.proofs.lemmas.Int.{ints, int_max_is}
use Rattle.std.proofs.lemmas.Nat.{mod_below}
use Rattle.std.proofs.lemmas.List.Elements.{All-contains, All-append, Contains-append_left, Contains-append_right}
use Rattle.net_model.specs.ForwardRules as forward
use Rattle.net_model.specs.Limits.{most_size}
use Rattle.net_model.specs.Network.{Plan}
use Rattle.net_model.specs.Rules.{bound_edge, link_edge, joined_weight, removal}
use Rattle.net_model.specs.declared.ids.LinkId.{LinkId}
use Rattle.net_model.specs.declared.ids.PointId.{PointId}
use Rattle.net_model.specs.declared.part.Edge.{Edge}
use Rattle.net_model.specs.declared.part.Link.{Link}
use Rattle.net_model.proofs.RuleLemmas.{no_case_gives, upper_case_gives, lower_case_gives, cross_case_gives, removal_gives}
use Rattle.closure_model.specs.Tables.{Graph, HasEdge, HasAtMost, IsForwardClosed, base_edges}
use Rattle.closure_model.proofs.BaseLemmas.{numbered_contained}
use Rattle.closure_model.proofs.Lists.{Contains-map}
use Rattle.closure_model.proofs.Nodes.{listed_at}
use Rattle.closure_model.proofs.TableLemmas.{listed_edge, at_most_from}
use Rattle.labelled_graph.specs.Words.{absent, FitsWord}
use Rattle.network_closure.specs.Saturation.{IsPartialClosure, IsOverLinks}
use Rattle.network_closure.proofs.ConsequenceLemmas.{saturates_removal, saturates_over_links, saturates_no_firsts, given_if, label_known, labelled_end}
use Rattle.network_closure.proofs.PartialClosureLemmas.{derivable_is, derivable_size}
use Rattle.forward_closure.specs.ForwardTest.{SaturatesFirsts, SaturatesForward, SaturatesInto, SaturatesLabelled, SaturatesForwardRow, SaturatesForwardShare, AreWordsOfRow, AreMetBy}
use Rattle.forward_closure.specs.Sources.{source_of, edge_from, list_at, AreStorable, AreWordsOfSources}
use Rattle.forward_closure.specs.SparseRows.{AreRowsOf, list_for}
use Rattle.forward_closure.specs.declared.source.Source.{Source}
use Rattle.forward_closure.specs.declared.sparse_rows.SparseRows.{SparseRows}

-- ---- all edges
module _ (net : Plan) (table : Graph) (partial_closure : IsPartialClosure net table) (saturates : (edge : Edge) → HasEdge table edge → SaturatesForward net table edge) where
  base_has : (edge : Edge) → Contains (base_edges net) edge → HasAtMost table edge
  base_has edge inside = All-contains (HasAtMost table) (base_edges net) edge partial_closure.base inside

  pub saturated_is_forward_closed : IsForwardClosed net table
  saturated_is_forward_closed edge (forward.by_bound place bound declared is) =
      subst (HasAtMost table) is (base_has (bound_edge bound) (Contains-append_left (map bound_edge net.bounds) (map (λ (e : ℕ × Link). link_edge (record { 0 = e.0 }) e.1) (enumerate_from 0 net.links)) (bound_edge bound)
      (Contains-map bound_edge net.bounds bound (listed_at net.bounds place bound declared))))
  saturated_is_forward_closed edge (forward.by_link name link declared is) =
      subst (HasAtMost table) is (base_has (link_edge name link) (Contains-append_right (map bound_edge net.bounds) (map (λ (e : ℕ × Link). link_edge (record { 0 = e.0 }) e.1) (enumerate_from 0 net.links)) (link_edge name link)
      (Contains-map (λ (e : ℕ × Link). link_edge (record { 0 = e.0 }) e.1) (enumerate_from 0 net.links) (name.0, link) (let same : 0 + name.0 ≡ name.0 = omega arith in
      subst (λ (k : ℕ). Contains {X = ℕ × Link} (enumerate_from 0 net.links) (k, link)) same (numbered_contained 0 net.links name.0 link declared)))))
  saturated_is_forward_closed edge (forward.by_no_case first second one two high is) = ((saturates second (listed_edge table second two)).firsts first (listed_edge table first one) high).no_case edge is
  saturated_is_forward_closed edge (forward.by_upper_case first second one two high is) = ((saturates second (listed_edge table second two)).firsts first (listed_edge table first one) high).upper_case edge is
  saturated_is_forward_closed edge (forward.by_lower_case name second one is) = (saturates second (listed_edge table second one)).over_links.lower_case name edge is
  saturated_is_forward_closed edge (forward.by_cross_case name second one is) = (saturates second (listed_edge table second one)).over_links.cross_case name edge is
  saturated_is_forward_closed edge (forward.by_removal premise one is) = (saturates premise (listed_edge table premise one)).removal edge is

-- ---- rows and shares
module _ (net : Plan) (table : Graph) (partial_closure : IsPartialClosure net table) where
  rows_saturated : ((row : ℕ) → row < length net.points + length net.links → SaturatesForwardRow net table row) → IsForwardClosed net table
  rows_saturated each = saturated_is_forward_closed net table partial_closure saturates
    where
      saturates : (edge : Edge) → HasEdge table edge → SaturatesForward net table edge
      saturates edge has = by edge.label refl
        where
          to_point : edge.to.0 < length net.points
          to_point = (derivable_is net partial_closure.plan edge (partial_closure.derivable edge has)).to_point

          early : edge.to.0 < length net.points + length net.links
          early = omega (arith, to_point)

          late : (k : ℕ) → k < length net.links → length net.points + k < length net.points + length net.links
          late k below = omega (arith, below)

          by : (label : Option LinkId) → edge.label ≡ label → SaturatesForward net table edge
          by None none = (each edge.to.0 early).ordinary to_point edge has none refl
          by (Some label) some =
              (each (length net.points + label.0) (late label.0 (given_if (λ (name : LinkId). name.0 < length net.links) edge.label label
              (label_known net partial_closure.plan edge (partial_closure.derivable edge has)) some))).labelled label refl edge has some

  pub shares_saturated : (shares : ℕ) → 0 < shares → ((share : ℕ) → share < shares → SaturatesForwardShare net table share shares) → IsForwardClosed net table
  shares_saturated shares some each = rows_saturated (λ row inside. each (row % shares) (mod_below row shares some) row inside refl)

  pub one_share_saturated : SaturatesForwardShare net table 0 1 → IsForwardClosed net table
  one_share_saturated saturates = shares_saturated 1 (omega arith) (λ share below. subst (λ (s : ℕ). SaturatesForwardShare net table s 1) (sym (first share below)) saturates)
    where
      first : (share : ℕ) → share < 1 → share ≡ 0
      first share below = omega (arith, below)

-- every share said yes
pub all_shares_saturated : (net : Plan) (table : Graph) → IsPartialClosure net table → (shares : ℕ) → 0 < shares → (given answers : List (Result Bool AllocError)) → given ≡ answers → length answers ≡ shares
    → ((share : ℕ) (d : Result Bool AllocError) → share < shares → IfOk (get_or given share d) (λ saturates. saturates ≡ true → SaturatesForwardShare net table share shares)) → All (λ answer. answer ≡ Ok true) answers
    → IsForwardClosed net table
all_shares_saturated net table partial_closure shares some given answers same count gives all = shares_saturated net table partial_closure shares some each
  where
    each : (share : ℕ) → share < shares → SaturatesForwardShare net table share shares
    each share below =
        let said : get_or given share (Ok true) ≡ Ok true = ap (λ (l : List (Result Bool AllocError)). get_or l share (Ok true)) same ∙ all share (Ok true) (subst (λ (n : ℕ). share < n) (sym count) below) in
        let gave : true ≡ true → SaturatesForwardShare net table share shares =
        subst (λ (r : Result Bool AllocError). IfOk r (λ saturates. saturates ≡ true → SaturatesForwardShare net table share shares)) said (gives share (Ok true) below) in
        gave refl

-- ---- one edge
-- an ordinary edge of weight 0 or more has nothing that follows forward from it as the second edge or alone
pub high_saturated : (net : Plan) (table : Graph) (edge : Edge) → edge.label ≡ None → pos 0 ≤ℤ edge.weight → SaturatesForward net table edge
high_saturated net table edge none high = record {
  removal = λ gives is. (let g = removal_gives net edge gives is in let both : None ≡ Some g.name = sym none ∙ g.labelled in absurd cc);
  over_links = record {
    lower_case = λ name gives is. (let g = lower_case_gives net name edge gives is in absurd (not_both edge.weight high g.negative));
    cross_case = λ name gives is. (let g = cross_case_gives net name edge gives is in absurd (not_both edge.weight high g.negative));
  };
  firsts = λ first has from_nought. saturates_no_firsts table edge high first;
}
  where
    not_both : (w : ℤ) → pos 0 ≤ℤ w → w <ℤ pos 0 → ⊥
    not_both w high low = grind (arith, ints)

pub edge_saturated : (net : Plan) (table : Graph) (edge : Edge) (removed moved : Option Edge) → removed ≡ removal net edge → IsOverLinks net edge moved → IfSome removed (HasAtMost table) → IfSome moved (HasAtMost table)
    → SaturatesFirsts table edge → SaturatesForward net table edge
edge_saturated net table edge removed moved is over one two firsts = record {
  removal = saturates_removal net table edge removed is one;
  over_links = saturates_over_links net table edge moved over two;
  firsts = firsts;
}

-- ---- first edges
-- the words of a row are those of the table
pub words_of_row : (net : Plan) (table : Graph) (to : PointId) (label : Option LinkId) (sources : List Source) (words : List ℤ) → length words ≡ length net.points → AreWordsOfSources sources words
    → All (λ (source : Source). HasEdge table (edge_from source to label)) sources → AreWordsOfRow net table to label words
words_of_row net table to label sources words count are has = record { each_point = count; has = λ from inside. by from (are from inside) }
  where
    by : (from : PointId) → (get_or words from.0 (pos 0) ≡ absent) ⊎ Contains sources (record { from = from; weight = get_or words from.0 (pos 0) })
        → (get_or words from.0 (pos 0) ≡ absent) ⊎ HasEdge table (record { from = from; to = to; label = label; weight = get_or words from.0 (pos 0) })
    by from (inl none) = inl none
    by from (inr stands) = inr (All-contains (λ (source : Source). HasEdge table (edge_from source to label)) sources (record { from = from; weight = get_or words from.0 (pos 0) }) has stands)

-- the greatest word is above every sum of a weight of a first edge and a negative one
none_there : (word first weight : ℤ) → word ≡ absent → word ≤ℤ (first +ℤ weight) → unsigned_abs first ≤ most_size → weight <ℤ pos 0 → ⊥
none_there word first weight gone low small negative = grind (arith, ints)

joined_above : (word first weight : ℤ) → word ≤ℤ (first +ℤ weight) → word ≤ℤ (int_max first (pos 0) +ℤ weight)
joined_above word first weight low = grind (arith, ints, int_max_is)

module _ (net : Plan) (table : Graph) (partial_closure : IsPartialClosure net table) (rows : SparseRows) (are : AreRowsOf net table rows) where
  -- a first edge stands in the list of its target
  first_stands : (first : Edge) → HasEdge table first → first.label ≡ None → pos 0 ≤ℤ first.weight → Contains (list_at rows.firsts first.to.0) (source_of first)
  first_stands first has none high =
      let labelled : Contains (list_for rows first None) (source_of first) = subst (λ (label : Option LinkId). Contains (list_for rows first label) (source_of first)) none (are.each first has) in
      let test : int_lt first.weight (pos 0) ≡ false = grind (arith, ints) in
      rw test at labelled

  pub negative_stands : (edge : Edge) → HasEdge table edge → edge.label ≡ None → edge.weight <ℤ pos 0 → Contains (list_at rows.negative edge.to.0) (source_of edge)
  negative_stands edge has none low =
      let labelled : Contains (list_for rows edge None) (source_of edge) = subst (λ (label : Option LinkId). Contains (list_for rows edge label) (source_of edge)) none (are.each edge has) in
      let test : int_lt edge.weight (pos 0) ≡ true = grind (arith, ints) in
      rw test at labelled

  -- the sources of first edges begin in points
  pub firsts_within : (to : PointId) (points : ℕ) → points ≡ length net.points → All (λ (source : Source). (source.from.0 < points) × (pos 0 ≤ℤ source.weight)) (list_at rows.firsts to.0)
  firsts_within to points same k d inside =
      let (has, high) = are.of_table.firsts to k d inside in
      (subst (λ (n : ℕ). (get_or (list_at rows.firsts to.0) k d).from.0 < n) (sym same) (derivable_is net partial_closure.plan _ (partial_closure.derivable _ has)).from_point, high)

  module _ (edge : Edge) (has_edge : HasEdge table edge) (negative : edge.weight <ℤ pos 0) (words : List ℤ) (of_row : AreWordsOfRow net table edge.to edge.label words)
      (met : AreMetBy (list_at rows.firsts edge.from.0) words edge.weight) where
    joined_met : (first gives : Edge) → HasEdge table first → pos 0 ≤ℤ first.weight → first.label ≡ None → first.to ≡ edge.from
        → record { from = first.from; to = edge.to; label = edge.label; weight = joined_weight first edge } ≡ gives → HasAtMost table gives
    joined_met first gives has high none meeting is = subst (HasAtMost table) is (by (of_row.has first.from inside))
      where
        inside : first.from.0 < length words
        inside = subst (λ (n : ℕ). first.from.0 < n) (sym of_row.each_point) (derivable_is net partial_closure.plan first (partial_closure.derivable first has)).from_point

        low : get_or words first.from.0 (pos 0) ≤ℤ (first.weight +ℤ edge.weight)
        low = All-contains (λ (s : Source). get_or words s.from.0 (pos 0) ≤ℤ (s.weight +ℤ edge.weight)) (list_at rows.firsts edge.from.0) (source_of first) met
            (subst (λ (p : PointId). Contains (list_at rows.firsts p.0) (source_of first)) meeting (first_stands first has none high))

        small : unsigned_abs first.weight ≤ most_size
        small = derivable_size net partial_closure.plan first (partial_closure.derivable first has)

        by : (get_or words first.from.0 (pos 0) ≡ absent) ⊎ HasEdge table (record { from = first.from; to = edge.to; label = edge.label; weight = get_or words first.from.0 (pos 0) })
            → HasAtMost table (record { from = first.from; to = edge.to; label = edge.label; weight = joined_weight first edge })
        by (inl gone) = absurd (none_there (get_or words first.from.0 (pos 0)) first.weight edge.weight gone low small negative)
        by (inr there) = at_most_from table (record { from = first.from; to = edge.to; label = edge.label; weight = joined_weight first edge }) (get_or words first.from.0 (pos 0)) there
            (joined_above (get_or words first.from.0 (pos 0)) first.weight edge.weight low)

    pub met_saturates : SaturatesFirsts table edge
    met_saturates first has high = record {
      no_case = λ gives one. (let g = no_case_gives first edge gives one in joined_met first gives has high g.first_ordinary g.meeting
          (subst (λ (label : Option LinkId). record { from = first.from; to = edge.to; label = label; weight = joined_weight first edge } ≡ gives) (sym g.second_ordinary) g.is));
      upper_case = λ gives one. (let g = upper_case_gives first edge gives one in joined_met first gives has high g.first_ordinary g.meeting g.is);
    }

-- ---- the edges of a row
module _ (net : Plan) (table : Graph) (partial_closure : IsPartialClosure net table) (rows : SparseRows) (are : AreRowsOf net table rows) where
  -- sources of edges of the table begin in points
  sources_within : (P : Source → Type 0) (sources : List Source) (points : ℕ) → points ≡ length net.points
      → ((source : Source) → P source → (edge : Edge) × HasEdge table edge × (edge.from ≡ source.from) × (edge.weight ≡ source.weight)) → All P sources
      → AreStorable points sources
  sources_within P sources points same is all k d inside =
      let (edge, has, begins, weighs) = is (get_or sources k d) (all k d inside) in
      let within : edge.from.0 < length net.points = (derivable_is net partial_closure.plan edge (partial_closure.derivable edge has)).from_point in
      (subst (λ (p : PointId). p.0 < points) begins (subst (λ (n : ℕ). edge.from.0 < n) (sym same) within), subst FitsWord weighs (derivable_size net partial_closure.plan edge (partial_closure.derivable edge has)))

  module _ (to : PointId) (points : ℕ) (same : points ≡ length net.points) where
    pub firsts_storable : AreStorable points (list_at rows.firsts to.0)
    firsts_storable = sources_within (λ source. HasEdge table (edge_from source to None) × (pos 0 ≤ℤ source.weight)) (list_at rows.firsts to.0) points same
        (λ source has. (edge_from source to None, has.0, refl, refl)) (are.of_table.firsts to)

    pub negative_storable : AreStorable points (list_at rows.negative to.0)
    negative_storable = sources_within (λ source. HasEdge table (edge_from source to None)) (list_at rows.negative to.0) points same (λ source has. (edge_from source to None, has, refl, refl)) (are.of_table.negative to)

  pub labelled_storable : (link : LinkId) (points : ℕ) → points ≡ length net.points → AreStorable points (list_at rows.labelled link.0)
  labelled_storable link points same = sources_within (λ source. (to : PointId) × HasEdge table (edge_from source to (Some link))) (list_at rows.labelled link.0) points same
      (λ source has. (edge_from source has.0 (Some link), has.1, refl, refl)) (are.of_table.labelled link)

  pub ordinary_words : (to : PointId) (words : List ℤ) → length words ≡ length net.points → AreWordsOfSources (list_at rows.firsts to.0 ++ list_at rows.negative to.0) words → AreWordsOfRow net table to None words
  ordinary_words to words count of_sources = words_of_row net table to None (list_at rows.firsts to.0 ++ list_at rows.negative to.0) words count of_sources
      (All-append (λ (source : Source). HasEdge table (edge_from source to None)) (list_at rows.firsts to.0) (list_at rows.negative to.0) (λ k d inside. (are.of_table.firsts to k d inside).0) (are.of_table.negative to))

  -- what saturates the negative edges into a point saturates all ordinary ones
  pub into_saturated : (to : PointId) → All (λ (source : Source). SaturatesForward net table (edge_from source to None)) (list_at rows.negative to.0) → SaturatesInto net table to
  into_saturated to each edge has none ends = by (int_lt edge.weight (pos 0)) refl
    where
      by : (low : Bool) → int_lt edge.weight (pos 0) ≡ low → SaturatesForward net table edge
      by true is =
          let low : edge.weight <ℤ pos 0 = grind (arith, ints) in
          let stands : Contains (list_at rows.negative to.0) (source_of edge) = subst (λ (p : PointId). Contains (list_at rows.negative p.0) (source_of edge)) ends (negative_stands net table partial_closure rows are edge has none low) in
          let same : edge_from (source_of edge) to None ≡ edge = λ i. record { from = edge.from; to = sym ends i; label = sym none i; weight = edge.weight } in
          subst (SaturatesForward net table) same (All-contains (λ (source : Source). SaturatesForward net table (edge_from source to None)) (list_at rows.negative to.0) (source_of edge) each stands)
      by false is = high_saturated net table edge none (grind (arith, ints))

  module _ (link : LinkId) (declared : Link) (is_link : slice_get net.links link.0 ≡ Some declared) where
    -- the edges labelled by a link end where it begins
    pub labelled_has : All (λ (source : Source). HasEdge table (edge_from source declared.from (Some link))) (list_at rows.labelled link.0)
    labelled_has k d inside =
        let (to, has) = are.of_table.labelled link k d inside in
        let ends : to ≡ declared.from = labelled_end net table partial_closure declared link is_link (edge_from (get_or (list_at rows.labelled link.0) k d) to (Some link)) has refl in
        subst (λ (p : PointId). HasEdge table (edge_from (get_or (list_at rows.labelled link.0) k d) p (Some link))) ends has

    pub labelled_words : (words : List ℤ) → length words ≡ length net.points → AreWordsOfSources (list_at rows.labelled link.0) words → AreWordsOfRow net table declared.from (Some link) words
    labelled_words words count of_sources = words_of_row net table declared.from (Some link) (list_at rows.labelled link.0) words count of_sources labelled_has

    pub labelled_saturated : All (λ (source : Source). SaturatesForward net table (edge_from source declared.from (Some link))) (list_at rows.labelled link.0) → SaturatesLabelled net table link
    labelled_saturated each edge has some =
        let stands : Contains (list_at rows.labelled link.0) (source_of edge) = subst (λ (label : Option LinkId). Contains (list_for rows edge label) (source_of edge)) some (are.each edge has) in
        let ends : edge.to ≡ declared.from = labelled_end net table partial_closure declared link is_link edge has some in
        let same : edge_from (source_of edge) declared.from (Some link) ≡ edge = λ i. record { from = edge.from; to = sym ends i; label = sym some i; weight = edge.weight } in
        subst (SaturatesForward net table) same (All-contains (λ (source : Source). SaturatesForward net table (edge_from source declared.from (Some link))) (list_at rows.labelled link.0) (source_of edge) each stands)

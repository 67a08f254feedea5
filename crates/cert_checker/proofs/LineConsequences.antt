-- The edge of a line that passes follows from those of earlier lines.
use Rattle.std.proofs.Common.{◌≡◌, ◌≢◌, ℕ, pos, ◌+ℤ◌, ◌-ℤ◌, ◌≤ℤ◌, ◌&&◌, not, true, List, Some, None, is_some, is_none, Ok, map, refl, ap, sym, ◌∙◌, subst, arith}
use Rattle.std.specs.Prelude.{slice_get}
use Rattle.std.specs.Int.{int_max}
use Rattle.std.specs.List.{AllByRecursion}
use Rattle.std.specs.Str.{bytes_eq}
use Rattle.std.proofs.lemmas.Int.{ints, clamps}
use Rattle.std.proofs.lemmas.Bool.{and_parts}
use Rattle.std.proofs.lemmas.List.Elements.{All-from_recursion, All-contains}
use Rattle.std.proofs.lemmas.Option.{same_Some}
use Rattle.net_model.specs.Network.{Plan, point_named, bound_named, link_named as link_id}
use Rattle.net_model.specs.Edges.{IsEdge, IsLabelled}
use Rattle.net_model.specs.LooseRules.{FollowsLoosely, by_bound, by_link, by_no_case, by_upper_case, by_lower_case, by_cross_case, by_removal}
use Rattle.net_model.specs.declared.ids.BoundId.{BoundId}
use Rattle.net_model.specs.declared.ids.LinkId.{LinkId}
use Rattle.net_model.specs.declared.part.Edge.{Edge}
use Rattle.net_model.specs.declared.part.Link.{Link}
use Rattle.net_model.proofs.RuleLemmas.{none_is, two_steps}
use Rattle.cert_format.specs.declared.line.CertLine.{CertLine}
use Rattle.cert_format.specs.declared.kind.LineKind.{LineKind}
use Rattle.cert_format.specs.declared.kind.LineKind.TheVariants as kind
use Rattle.cert_format.specs.JudgementForms.{unless, there}
use Rattle.cert_checker.specs.Lines.{line_at, link_named, bound_of, names_point, label_of, label_by, same_label_names, label_known, item_known, names_known, has_label_of, has_ends_of, are_ordinary, takes_label, is_negative}
use Rattle.cert_checker.specs.Lines.{may_cross, goes, joins, reaches_back, bound_passes, link_passes, sum_passes, back_passes, no_passes, up_passes, low_passes, cross_passes, drop_passes, rule_passes, line_passes, in_range}
use Rattle.cert_checker.specs.declared.judgement.CertFault.TheVariants.{UnknownItem, Premise, RuleCondition, Ends, Label, WeightRange}
use Rattle.cert_format.proofs.PassedStepLemmas.{bind_ok, there_ok, unless_ok}
use Rattle.cert_checker.proofs.Inversion.{at_least_ok, negative_ok, contains_line}
use Rattle.cert_checker.proofs.CertificateNames.{bytes_same, edge_of, point_of_named, point_of_same, link_known, one_name, ordinary, labelled, both_labelled, label_is_link}

-- the edges of lines
abbrev pub edges_of : Plan → List CertLine → List Edge
edges_of net lines = map (edge_of net) lines

module _ (net : Plan) (earlier : List CertLine) (line : CertLine) where
  bound_follows : (name : List ℕ) → label_of line ≡ None → bound_passes net line name ≡ Ok tt → FollowsLoosely net (edges_of net earlier) (edge_of net line)
  unfolding bound_passes
  bound_follows name plain passes =
      let (bound, known, rest) = bind_ok (there (bound_of net name) UnknownItem) _ tt passes in
      let (_, ends, least) = bind_ok (unless (goes net line bound.from bound.to) Ends) _ tt rest in
      let (from, to) = and_parts (names_point net line.from bound.from) (names_point net line.to bound.to) (unless_ok (goes net line bound.from bound.to) Ends ends) in
      let (id, _, declared) = two_steps (λ (b : BoundId). slice_get net.bounds b.0) (bound_named net name) bound (there_ok (bound_of net name) UnknownItem bound known) in
      by_bound (record {
        place = id.0;
        bound = bound;
        declared = declared;
        from = point_of_named net line.from bound.from from;
        to = point_of_named net line.to bound.to to;
        ordinary = ordinary net line plain;
        looser = at_least_ok line bound.most least;
      })

  link_follows : (name : List ℕ) → label_of line ≡ Some name → link_passes net line name ≡ Ok tt → FollowsLoosely net (edges_of net earlier) (edge_of net line)
  unfolding link_passes
  link_follows name label passes =
      let (link, known, rest) = bind_ok (there (link_named net name) UnknownItem) _ tt passes in
      let (_, ends, least) = bind_ok (unless (goes net line link.to link.from) Ends) _ tt rest in
      let (from, to) = and_parts (names_point net line.from link.to) (names_point net line.to link.from) (unless_ok (goes net line link.to link.from) Ends ends) in
      let (id, named, declared) = link_known net name link (there_ok (link_named net name) UnknownItem link known) in
      by_link (record {
        name = id;
        link = link;
        declared = declared;
        from = point_of_named net line.from link.to from;
        to = point_of_named net line.to link.from to;
        labelled = labelled net line name id label named;
        looser = at_least_ok line (pos 0 -ℤ link.high) least;
      })

  -- two premises that meet, and the sum of their weights
  sum_ok : (first second : CertLine) → sum_passes first second line ≡ Ok tt → ((edge_of net first).to ≡ (edge_of net second).from) × ((edge_of net line).from ≡ (edge_of net first).from) × ((edge_of net line).to ≡ (edge_of net second).to)
      × ((first.weight +ℤ second.weight) ≤ℤ line.weight)
  unfolding sum_passes
  sum_ok first second passes =
      let (_, ends, least) = bind_ok (unless (joins first second line) Ends) _ tt passes in
      let (both, to) = and_parts (bytes_eq first.from line.from && bytes_eq first.to second.from) (bytes_eq second.to line.to) (unless_ok (joins first second line) Ends ends) in
      let (from, meet) = and_parts (bytes_eq first.from line.from) (bytes_eq first.to second.from) both in
      (point_of_same net first.to second.from meet, sym (point_of_same net first.from line.from from), sym (point_of_same net second.to line.to to), at_least_ok line (first.weight +ℤ second.weight) least)

  no_follows : (i j : ℕ) → label_of line ≡ None → no_passes earlier line i j ≡ Ok tt → FollowsLoosely net (edges_of net earlier) (edge_of net line)
  unfolding no_passes
  no_follows i j plain passes =
      let (first, there_first, rest) = bind_ok (there (line_at earlier i) Premise) _ tt passes in
      let (second, there_second, rest') = bind_ok (there (line_at earlier j) Premise) _ tt rest in
      let (_, labels, sum) = bind_ok (unless (are_ordinary first second) Label) _ tt rest' in
      let (plain_first, plain_second) = and_parts (is_none (label_of first)) (is_none (label_of second)) (unless_ok (are_ordinary first second) Label labels) in
      let (meet, from, to, looser) = sum_ok first second sum in
      by_no_case (edge_of net first) (edge_of net second) (contains_line (edge_of net) earlier i first (there_ok (line_at earlier i) Premise first there_first))
      (contains_line (edge_of net) earlier j second (there_ok (line_at earlier j) Premise second there_second)) (record {
        first_ordinary = ordinary net first (none_is (label_of first) plain_first);
        second_ordinary = ordinary net second (none_is (label_of second) plain_second);
        meet = meet;
        from = from;
        to = to;
        ordinary = ordinary net line plain;
        looser = looser;
      })

  -- the label that a line takes from its premise
  label_taken : (premise : CertLine) → label_of line ≡ line.label → label_known net line.label ≡ true → has_label_of line premise ≡ true → (id : LinkId) × (name : List ℕ) × (line.label ≡ Some name) × (link_id net name ≡ Some id)
      × ((edge_of net premise).label ≡ Some id) × ((edge_of net line).label ≡ Some id)
  label_taken premise own known has =
      let (some, same) = and_parts (is_some (label_of premise)) (same_label_names line.label (label_of premise)) has in
      let (name, of_line, of_premise) = both_labelled line.label (label_of premise) some same in
      let (link, is_link) = label_is_link net line.label name of_line known in
      let (id, named, declared) = link_known net name link is_link in
      (id, name, of_line, named, labelled net premise name id of_premise named, labelled net line name id (own ∙ of_line) named)

  up_follows : (i j : ℕ) → label_of line ≡ line.label → label_known net line.label ≡ true → up_passes earlier line i j ≡ Ok tt → FollowsLoosely net (edges_of net earlier) (edge_of net line)
  unfolding up_passes
  up_follows i j own known passes =
      let (first, there_first, rest) = bind_ok (there (line_at earlier i) Premise) _ tt passes in
      let (second, there_second, rest') = bind_ok (there (line_at earlier j) Premise) _ tt rest in
      let (_, labels, sum) = bind_ok (unless (takes_label line first second) Label) _ tt rest' in
      let (plain_first, has) = and_parts (is_none (label_of first)) (has_label_of line second) (unless_ok (takes_label line first second) Label labels) in
      let (id, name, of_line, named, second_labelled, line_labelled) = label_taken second own known has in
      let (meet, from, to, looser) = sum_ok first second sum in
      by_upper_case (edge_of net first) (edge_of net second) (contains_line (edge_of net) earlier i first (there_ok (line_at earlier i) Premise first there_first))
      (contains_line (edge_of net) earlier j second (there_ok (line_at earlier j) Premise second there_second)) (record {
        label = id;
        first_ordinary = ordinary net first (none_is (label_of first) plain_first);
        second_labelled = second_labelled;
        meet = meet;
        from = from;
        to = to;
        labelled = line_labelled;
        looser = looser;
      })

  -- a premise from where a link ends, and a line from where the link begins
  back_ok : (link : Link) (second : CertLine) → back_passes net link second line ≡ Ok tt → ((edge_of net second).from ≡ link.to) × ((edge_of net line).from ≡ link.from) × ((edge_of net line).to ≡ (edge_of net second).to)
      × ((link.low +ℤ second.weight) ≤ℤ line.weight)
  unfolding back_passes
  back_ok link second passes =
      let (_, ends, least) = bind_ok (unless (reaches_back net link second line) Ends) _ tt passes in
      let reaches = unless_ok (reaches_back net link second line) Ends ends in
      let (both, to) = and_parts (names_point net second.from link.to && names_point net line.from link.from) (bytes_eq second.to line.to) reaches in
      let (begins, from) = and_parts (names_point net second.from link.to) (names_point net line.from link.from) both in
      (point_of_named net second.from link.to begins, point_of_named net line.from link.from from, sym (point_of_same net second.to line.to to), at_least_ok line (link.low +ℤ second.weight) least)

  low_follows : (name : List ℕ) (j : ℕ) → label_of line ≡ None → low_passes net earlier line name j ≡ Ok tt → FollowsLoosely net (edges_of net earlier) (edge_of net line)
  unfolding low_passes
  low_follows name j plain passes =
      let (second, there_second, rest) = bind_ok (there (line_at earlier j) Premise) _ tt passes in
      let (_, labels, rest') = bind_ok (unless (is_none (label_of second)) Label) _ tt rest in
      let (_, negative, rest'') = bind_ok (unless (is_negative second.weight) RuleCondition) _ tt rest' in
      let (link, known, rest3) = bind_ok (there (link_named net name) UnknownItem) _ tt rest'' in
      let (id, named, declared) = link_known net name link (there_ok (link_named net name) UnknownItem link known) in
      let (begins, from, to, looser) = back_ok link second rest3 in
      by_lower_case (edge_of net second) (contains_line (edge_of net) earlier j second (there_ok (line_at earlier j) Premise second there_second)) (record {
        name = id;
        link = link;
        declared = declared;
        second_ordinary = ordinary net second (none_is (label_of second) (unless_ok (is_none (label_of second)) Label labels));
        begins = begins;
        negative = negative_ok second.weight (unless_ok (is_negative second.weight) RuleCondition negative);
        from = from;
        to = to;
        ordinary = ordinary net line plain;
        looser = looser;
      })

  -- two names that differ are two links
  another_link : (x y : List ℕ) (label id : LinkId) → not (same_label_names (Some x) (Some y)) ≡ true → link_id net x ≡ Some label → link_id net y ≡ Some id → label ≢ id
  another_link x y label id differ of_x of_y = λ same.
      let equal : x ≡ y = one_name net x y id (of_x ∙ ap Some same) of_y in
      let equal_bytes = bytes_same x y equal in
      absurd (cc)

  cross_follows : (name : List ℕ) (j : ℕ) → label_of line ≡ line.label → label_known net line.label ≡ true → cross_passes net earlier line name j ≡ Ok tt → FollowsLoosely net (edges_of net earlier) (edge_of net line)
  unfolding cross_passes
  cross_follows name j own known passes =
      let (second, there_second, rest) = bind_ok (there (line_at earlier j) Premise) _ tt passes in
      let (_, labels, rest') = bind_ok (unless (has_label_of line second) Label) _ tt rest in
      let (_, condition, rest'') = bind_ok (unless (may_cross line second name) RuleCondition) _ tt rest' in
      let (link, is_link, rest3) = bind_ok (there (link_named net name) UnknownItem) _ tt rest'' in
      let (negative, differ) = and_parts (is_negative second.weight) (not (same_label_names line.label (Some name))) (unless_ok (may_cross line second name) RuleCondition condition) in
      let (id, named, declared) = link_known net name link (there_ok (link_named net name) UnknownItem link is_link) in
      let (label, text, of_line, label_named, second_labelled, line_labelled) = label_taken second own known (unless_ok (has_label_of line second) Label labels) in
      let (begins, from, to, looser) = back_ok link second rest3 in
      by_cross_case (edge_of net second) (contains_line (edge_of net) earlier j second (there_ok (line_at earlier j) Premise second there_second)) (record {
        name = id;
        link = link;
        label = label;
        declared = declared;
        another = another_link text name label id (sym (ap (λ o. not (same_label_names o (Some name))) of_line) ∙ differ) label_named named;
        second_labelled = second_labelled;
        begins = begins;
        negative = negative_ok second.weight negative;
        from = from;
        to = to;
        labelled = line_labelled;
        looser = looser;
      })

  -- a labelled edge of the network ends where the link of its label begins
  label_ends : (premise : Edge) (id : LinkId) (link : Link) → IsEdge net premise → premise.label ≡ Some id → slice_get net.links id.0 ≡ Some link → premise.to ≡ link.from
  label_ends premise id link edge label declared =
      let (other, other_declared, ends) = subst (IsLabelled net premise) label edge.labelled in
      ends ∙ ap (λ (l : Link). l.from) (same_Some other link (sym other_declared ∙ declared))

  drop_follows : (j : ℕ) → label_of line ≡ None → AllByRecursion (IsEdge net) (edges_of net earlier) → drop_passes net earlier line j ≡ Ok tt → FollowsLoosely net (edges_of net earlier) (edge_of net line)
  unfolding drop_passes
  drop_follows j plain edges passes =
      let (premise, there_premise, rest) = bind_ok (there (line_at earlier j) Premise) _ tt passes in
      let (name, label, rest') = bind_ok (there (label_of premise) Label) _ tt rest in
      let (_, ends, rest'') = bind_ok (unless (has_ends_of line premise) Ends) _ tt rest' in
      let (link, known, least) = bind_ok (there (link_named net name) UnknownItem) _ tt rest'' in
      let (from, to) = and_parts (bytes_eq premise.from line.from) (bytes_eq premise.to line.to) (unless_ok (has_ends_of line premise) Ends ends) in
      let (id, named, declared) = link_known net name link (there_ok (link_named net name) UnknownItem link known) in
      let among = contains_line (edge_of net) earlier j premise (there_ok (line_at earlier j) Premise premise there_premise) in
      let edge = All-contains (IsEdge net) (edges_of net earlier) (edge_of net premise) (All-from_recursion (IsEdge net) (edges_of net earlier) edges) among in
      let premise_labelled = labelled net premise name id (there_ok (label_of premise) Label name label) named in
      let looser : int_max premise.weight (pos 0 -ℤ link.low) ≤ℤ line.weight = at_least_ok line (int_max premise.weight (pos 0 -ℤ link.low)) least in
      by_removal (edge_of net premise) among (record {
        name = id;
        link = link;
        declared = declared;
        premise_labelled = premise_labelled;
        ends = label_ends (edge_of net premise) id link edge premise_labelled declared;
        from = sym (point_of_same net premise.from line.from from);
        to = sym (point_of_same net premise.to line.to to);
        ordinary = ordinary net line plain;
        looser = omega (arith, ints, clamps, looser);
        not_below_shortest = omega (arith, ints, clamps, looser);
      })

  rule_follows : (kind : LineKind) → line.kind ≡ kind → label_known net line.label ≡ true → AllByRecursion (IsEdge net) (edges_of net earlier) → rule_passes net earlier line kind ≡ Ok tt
      → FollowsLoosely net (edges_of net earlier) (edge_of net line)
  rule_follows (kind.Bound name) is known edges passes = bound_follows name (ap (λ k. label_by k line.label) is) passes
  rule_follows (kind.Link name) is known edges passes = link_follows name (ap (λ k. label_by k line.label) is) passes
  rule_follows (kind.No i j) is known edges passes = no_follows i j (ap (λ k. label_by k line.label) is) passes
  rule_follows (kind.Up i j) is known edges passes = up_follows i j (ap (λ k. label_by k line.label) is) known passes
  rule_follows (kind.Low name j) is known edges passes = low_follows name j (ap (λ k. label_by k line.label) is) passes
  rule_follows (kind.Cross name j) is known edges passes =
      cross_follows name j (ap (λ k. label_by k line.label) is) known passes
  rule_follows (kind.Drop j) is known edges passes = drop_follows j (ap (λ k. label_by k line.label) is) edges passes

  -- the names of a line that passes are known
  pub names_ok : line_passes net earlier line ≡ Ok tt → names_known net line ≡ true
  unfolding line_passes
  names_ok passes =
      let (_, names, rest) = bind_ok (unless (names_known net line) UnknownItem) _ tt passes in
      unless_ok (names_known net line) UnknownItem names

  label_ok : names_known net line ≡ true → label_known net line.label ≡ true
  unfolding names_known
  label_ok names =
      (and_parts (is_some (point_named net line.from) && is_some (point_named net line.to) && item_known net line.kind) (label_known net line.label) names).1

  pub line_follows : AllByRecursion (IsEdge net) (edges_of net earlier) → line_passes net earlier line ≡ Ok tt → FollowsLoosely net (edges_of net earlier) (edge_of net line)
  unfolding line_passes
  line_follows edges passes =
      let (_, names, rest) = bind_ok (unless (names_known net line) UnknownItem) _ tt passes in
      let (_, weight, rule) = bind_ok (unless (in_range line.weight) WeightRange) _ tt rest in
      rule_follows line.kind refl (label_ok (unless_ok (names_known net line) UnknownItem names)) edges rule

-- An accepted certificate can be spelled: its names are those of the network, and the numbers of its lines those of lines before.
use Rattle.std.proofs.Common.{◌≡◌, ℕ, ℤ, pos, ◌≤◌, ◌+◌, ◌&&◌, zero, suc, true, List, [], ◌∷◌, ◌++◌, length, get_or, Option, None, Some, is_some, is_none, Result, Ok, Err, refl, sym, ap, subst, arith, position, IsTrue, unsigned_abs}
use Rattle.std.specs.Prelude.{slice_get}
use Rattle.std.specs.List.{AllByRecursion}
use Rattle.std.specs.Option.{IfSome, option_map, option_and_then}
use Rattle.std.specs.Str.{bytes_eq}
use Rattle.std.proofs.lemmas.Bool.{and_parts}
use Rattle.std.proofs.lemmas.Bool.Decides.{nat_tests}
use Rattle.std.proofs.lemmas.List.{length_push}
use Rattle.std.proofs.lemmas.List.Elements.{All-from_recursion}
use Rattle.std.proofs.lemmas.List.Quantifiers.{position-Some}
use Rattle.std.proofs.lemmas.Option.{slice_get_within}
use Rattle.net_model.specs.Names.{is_name}
use Rattle.net_model.specs.Network.{Plan, IsPlan, point_named, bound_named, activation, link_named as link_id}
use Rattle.net_model.specs.declared.ids.BoundId.{BoundId}
use Rattle.net_model.specs.declared.ids.LinkId.{LinkId}
use Rattle.net_model.specs.declared.ids.PointId.{PointId}
use Rattle.net_model.specs.declared.part.Bound.{Bound}
use Rattle.net_model.specs.declared.part.Edge.{Edge}
use Rattle.net_model.specs.declared.part.Link.{Link}
use Rattle.net_model.proofs.RuleLemmas.{some_is, two_steps}
use Rattle.cert_format.specs.CertificateWords.{AreOperands, IsSpelled, IsSpelledEntry, IsSpelledLine}
use Rattle.cert_format.specs.JudgementForms.{there, unless}
use Rattle.cert_format.specs.Limits.{most_line_number, most_written_weight}
use Rattle.cert_format.specs.declared.certificate.Certificate.{Certificate}
use Rattle.cert_format.specs.declared.certificate.Certificate.TheVariants.{Refutation, TableProof}
use Rattle.cert_format.specs.declared.entry.Entry.{Entry}
use Rattle.cert_format.specs.declared.kind.LineKind.{LineKind}
use Rattle.cert_format.specs.declared.kind.LineKind.TheVariants as kind
use Rattle.cert_format.specs.declared.line.CertLine.{CertLine}
use Rattle.cert_format.proofs.PassedStepLemmas.{bind_ok, there_ok, unless_ok}
use Rattle.cert_checker.specs.Judgement.{judged, judgement_of, lines_pass, refutation_passes}
use Rattle.cert_checker.specs.Lines.{in_range, item_known, label_known, line_at, line_passes, link_named, names_known, rule_passes}
use Rattle.cert_checker.specs.Lines.{cross_passes, drop_passes, low_passes, no_passes, up_passes}
use Rattle.cert_checker.specs.Tables.{at_line, edge_by, edge_of_entry, entry_passes, labelled_by, labelled_of, ordinary_of, point_passes, read_each, table_passes}
use Rattle.cert_checker.specs.Walk.{WalkPasses, refusal, steps_known, walk_passes}
use Rattle.cert_checker.specs.declared.judgement.CertFault.{CertFault}
use Rattle.cert_checker.specs.declared.judgement.CertFault.TheVariants.{Premise, UnknownItem, WeightRange}
use Rattle.cert_checker.specs.declared.judgement.Claim.{Claim}
use Rattle.cert_checker.specs.declared.judgement.Judgement.TheVariants.{Accepted}
use Rattle.cert_checker.proofs.CertificateNames.{same_bytes}
use Rattle.cert_checker.proofs.LineDerivations.{first_passes}
use Rattle.stnu_run.proofs.ShortLineLemmas.{rule_lines}

-- the number of a line that is there is that of a line
number_within : (earlier : List CertLine) (number : ℕ) (line : CertLine) → line_at earlier number ≡ Some line → number ≤ length earlier
number_within earlier zero line is = omega arith
number_within earlier (suc k) line is = let within = slice_get_within earlier k line is in omega (arith, within)

pub short_weight : (weight : ℤ) → in_range weight ≡ true → unsigned_abs weight ≤ most_written_weight
short_weight weight fits = grind (arith, nat_tests)

line_ok : {A : Type 0} (line : ℕ) (read : Result A CertFault) (x : A) → at_line line read ≡ Ok x → read ≡ Ok x
line_ok line (Ok y) x e = cc
line_ok line (Err why) x e = absurd (cc)

-- what holds of each line that is read so holds of all of them
each_said : {A B : Type 0} (read : A → Result B CertFault) (P : A → Type 0) → ((x : A) (y : B) → read x ≡ Ok y → P x) → (line : ℕ) (xs : List A) (ys : List B) → read_each read line xs ≡ Ok ys → AllByRecursion P xs
each_said read P holds line [] ys all = tt
each_said read P holds line (x ∷ xs) ys all =
    let (first, one, rest) = bind_ok (at_line line (read x)) _ ys all in
    let (others, more, same) = bind_ok (read_each read (line + 1) xs) _ ys rest in
    (holds x first (line_ok line (read x) first one), each_said read P holds (line + 1) xs others more)

module _ (net : Plan) (plan : IsPlan net) where
  -- ---- the names that a certificate may use are names
  named_by : (name : List ℕ) (place : Option ℕ) → position (bytes_eq name) net.points ≡ place → is_some (option_map {U = PointId} (λ (k : ℕ). record { 0 = k }) place) ≡ true → IsTrue (is_name name)
  named_by name None is known = absurd (cc)
  named_by name (Some k) is known =
      let found = position-Some (bytes_eq name) net.points k [] is in
      subst (λ (n : List ℕ). IsTrue (is_name n)) (sym (same_bytes name (get_or net.points k []) found.1)) (plan.points_named k [] found.0)

  pub point_is_named : (name : List ℕ) → is_some (point_named net name) ≡ true → IsTrue (is_name name)
  point_is_named name known = named_by name (position (bytes_eq name) net.points) refl known

  abbrev no_bound : Bound
  no_bound = record { name = []; from = record { 0 = 0 }; to = record { 0 = 0 }; most = pos 0 }

  bound_by : (name : List ℕ) (place : Option ℕ) → position (λ (b : Bound). bytes_eq name b.name) net.bounds ≡ place → is_some (option_map {U = BoundId} (λ (k : ℕ). record { 0 = k }) place) ≡ true → IsTrue (is_name name)
  bound_by name None is known = absurd (cc)
  bound_by name (Some k) is known =
      let found = position-Some (λ (b : Bound). bytes_eq name b.name) net.bounds k no_bound is in
      subst (λ (n : List ℕ). IsTrue (is_name n)) (sym (same_bytes name (get_or net.bounds k no_bound).name found.1)) (plan.bounds_sound k no_bound found.0).named

  pub bound_is_named : (name : List ℕ) → is_some (bound_named net name) ≡ true → IsTrue (is_name name)
  bound_is_named name known = bound_by name (position (λ (b : Bound). bytes_eq name b.name) net.bounds) refl known

  pub link_is_named : (name : List ℕ) → is_some (link_named net name) ≡ true → IsTrue (is_name name)
  link_is_named name known =
      let (link, is) = some_is (link_named net name) known in
      let (point, named, rest) = two_steps (λ (p : PointId). option_and_then (λ (l : LinkId). slice_get net.links l.0) (activation net p)) (point_named net name) link is in
      point_is_named name (ap (λ (o : Option PointId). is_some o) named)

  label_is_named : (label : Option (List ℕ)) → label_known net label ≡ true → IfSome label (λ l. IsTrue (is_name l))
  label_is_named None known = tt
  label_is_named (Some name) known = link_is_named name known

  -- ---- a line that passes
  module _ (earlier : List CertLine) (few : length earlier ≤ most_line_number) where
    written_number : (number : ℕ) (line : CertLine) → there (line_at earlier number) Premise ≡ Ok line → number ≤ most_line_number
    written_number number line found =
        let within = number_within earlier number line (there_ok (line_at earlier number) Premise line found) in omega (arith, within, few)

    module _ (line : CertLine) where
      no_numbers : (i j : ℕ) → no_passes earlier line i j ≡ Ok tt → (i ≤ most_line_number) × (j ≤ most_line_number)
      unfolding no_passes
      no_numbers i j passes =
          let (first, one, rest) = bind_ok (there (line_at earlier i) Premise) _ tt passes in
          let (second, two, more) = bind_ok (there (line_at earlier j) Premise) _ tt rest in
          (written_number i first one, written_number j second two)

      up_numbers : (i j : ℕ) → up_passes earlier line i j ≡ Ok tt → (i ≤ most_line_number) × (j ≤ most_line_number)
      unfolding up_passes
      up_numbers i j passes =
          let (first, one, rest) = bind_ok (there (line_at earlier i) Premise) _ tt passes in
          let (second, two, more) = bind_ok (there (line_at earlier j) Premise) _ tt rest in
          (written_number i first one, written_number j second two)

      low_number : (name : List ℕ) (j : ℕ) → low_passes net earlier line name j ≡ Ok tt → j ≤ most_line_number
      unfolding low_passes
      low_number name j passes = let (second, two, rest) = bind_ok (there (line_at earlier j) Premise) _ tt passes in written_number j second two

      cross_number : (name : List ℕ) (j : ℕ) → cross_passes net earlier line name j ≡ Ok tt → j ≤ most_line_number
      unfolding cross_passes
      cross_number name j passes = let (second, two, rest) = bind_ok (there (line_at earlier j) Premise) _ tt passes in written_number j second two

      drop_number : (j : ℕ) → drop_passes net earlier line j ≡ Ok tt → j ≤ most_line_number
      unfolding drop_passes
      drop_number j passes = let (premise, one, rest) = bind_ok (there (line_at earlier j) Premise) _ tt passes in written_number j premise one

      spelled_operands : (k : LineKind) → item_known net k ≡ true → rule_passes net earlier line k ≡ Ok tt → AreOperands k
      spelled_operands (kind.Bound name) known passes = bound_is_named name known
      spelled_operands (kind.Link name) known passes = link_is_named name known
      spelled_operands (kind.No i j) known passes = no_numbers i j passes
      spelled_operands (kind.Up i j) known passes = up_numbers i j passes
      spelled_operands (kind.Low name j) known passes = (link_is_named name known, low_number name j passes)
      spelled_operands (kind.Cross name j) known passes = (link_is_named name known, cross_number name j passes)
      spelled_operands (kind.Drop j) known passes = drop_number j passes

      spelled_line : line_passes net earlier line ≡ Ok tt → IsSpelledLine line
      unfolding line_passes names_known
      spelled_line passes =
          let (_, names, rest) = bind_ok (unless (names_known net line) UnknownItem) _ tt passes in
          let (_, weight, rule) = bind_ok (unless (in_range line.weight) WeightRange) _ tt rest in
          let known = unless_ok (names_known net line) UnknownItem names in
          let (three, label) = and_parts (is_some (point_named net line.from) && is_some (point_named net line.to) && item_known net line.kind) (label_known net line.label) known in
          let (ends, item) = and_parts (is_some (point_named net line.from) && is_some (point_named net line.to)) (item_known net line.kind) three in
          let (from, to) = and_parts (is_some (point_named net line.from)) (is_some (point_named net line.to)) ends in
          record {
            operands = spelled_operands line.kind item rule;
            from = point_is_named line.from from;
            to = point_is_named line.to to;
            label = label_is_named line.label label;
            weight = short_weight line.weight (unless_ok (in_range line.weight) WeightRange weight);
          }

  -- ---- a refutation that passes
  spelled_lines : (earlier lines : List CertLine) → length earlier + length lines ≤ most_line_number → lines_pass net earlier lines ≡ Ok tt → AllByRecursion IsSpelledLine lines
  spelled_lines earlier [] few pass = tt
  spelled_lines earlier (line ∷ lines) few pass =
      let (passes, others) = first_passes net earlier line lines pass in
      let pushed : length (earlier ++ line ∷ []) ≡ length earlier + 1 = length_push earlier line in
      (spelled_line earlier (omega (arith, few)) line passes, spelled_lines (earlier ++ line ∷ []) lines (omega (arith, few, pushed)) others)

  spelled_steps : (lines : List CertLine) → length lines ≤ most_line_number → (place : ℕ) (walk : List ℕ) → steps_known lines place walk ≡ Ok tt → AllByRecursion (λ i. i ≤ most_line_number) walk
  spelled_steps lines few place [] known = tt
  spelled_steps lines few place (step ∷ steps) known =
      let (line, one, rest) = bind_ok (there (line_at lines step) (refusal place Premise)) _ tt known in
      let within = number_within lines step line (there_ok (line_at lines step) (refusal place Premise) line one) in
      (omega (arith, within, few), spelled_steps lines few (place + 1) steps rest)

  spelled_refutation : (lines : List CertLine) (walk : List ℕ) → length lines ≤ most_line_number → refutation_passes net lines walk ≡ Ok tt → IsSpelled (Refutation lines walk)
  unfolding refutation_passes walk_passes
  spelled_refutation lines walk few passes =
      let (_, pass, closed) = bind_ok (lines_pass net [] lines) _ tt passes in
      let (_, known, negative) = bind_ok (steps_known lines (length lines + 1) walk) _ tt closed in
      (All-from_recursion IsSpelledLine lines (spelled_lines [] lines (omega (arith, few)) pass), All-from_recursion (λ i. i ≤ most_line_number) walk (spelled_steps lines few (length lines + 1) walk known))

  -- ---- a table proof that passes
  spelled_point : (name : List ℕ) (point : PointId) → point_passes net name ≡ Ok point → IsTrue (is_name name)
  spelled_point name point passes = point_is_named name (ap (λ (o : Option PointId). is_some o) (there_ok (point_named net name) UnknownItem point passes))

  -- the names of an entry
  abbrev NamesOf : List ℕ → Option (List ℕ) → Option (List ℕ) → Type 0
  NamesOf from to label = IsTrue (is_name from) × IfSome to (λ t. IsTrue (is_name t)) × IfSome label (λ l. IsTrue (is_name l))

  ordinary_named : (from to : List ℕ) (weight : ℤ) (edge : Edge) → ordinary_of net from to weight ≡ Some edge → IsTrue (is_name from) × IsTrue (is_name to)
  ordinary_named from to weight edge states =
      let (x, one, rest) = two_steps (λ (p : PointId). option_map (λ (y : PointId). let e : Edge = record { from = p; to = y; label = None; weight = weight } in e) (point_named net to)) (point_named net from) edge states in
      (point_is_named from (ap (λ (o : Option PointId). is_some o) one), point_is_named to (by x (point_named net to) rest))
    where
      by : (x : PointId) (found : Option PointId) → option_map (λ (y : PointId). let e : Edge = record { from = x; to = y; label = None; weight = weight } in e) found ≡ Some edge → is_some found ≡ true
      by x None is = absurd (cc)
      by x (Some y) is = refl

  labelled_named : (from label : List ℕ) (weight : ℤ) (edge : Edge) → labelled_of net from label weight ≡ Some edge → IsTrue (is_name from) × IsTrue (is_name label)
  labelled_named from label weight edge states =
      let (x, one, rest) = two_steps (λ (p : PointId). option_and_then (λ (name : LinkId). option_map (λ (link : Link). labelled_by (Some name) p link weight) (slice_get net.links name.0)) (link_id net label))
      (point_named net from) edge states in
      let (name, two, more) = two_steps (λ (l : LinkId). option_map (λ (link : Link). labelled_by (Some l) x link weight) (slice_get net.links l.0)) (link_id net label) edge rest in
      let (point, three, ends) = two_steps (activation net) (point_named net label) name two in
      (point_is_named from (ap (λ (o : Option PointId). is_some o) one), point_is_named label (ap (λ (o : Option PointId). is_some o) three))

  entry_named : (from : List ℕ) (to label : Option (List ℕ)) (weight : ℤ) (edge : Edge) → is_none to ≡ is_some label → edge_by net from to label weight ≡ Some edge → NamesOf from to label
  entry_named from (Some to) None weight edge one states = let named = ordinary_named from to weight edge states in (named.0, named.1, tt)
  entry_named from (Some to) (Some label) weight edge one states = absurd (cc)
  entry_named from None (Some label) weight edge one states = let named = labelled_named from label weight edge states in (named.0, tt, named.1)
  entry_named from None None weight edge one states = absurd (cc)

  spelled_entry : (entry : Entry) (edge : Edge) → entry_passes net entry ≡ Ok edge → IsSpelledEntry entry
  spelled_entry entry edge passes =
      let (e, names, rest) = bind_ok (there (edge_of_entry net entry) UnknownItem) _ edge passes in
      let (_, fits, same) = bind_ok (unless (in_range entry.weight) WeightRange) _ edge rest in
      let named = entry_named entry.from entry.to entry.label entry.weight e entry.one_end (there_ok (edge_of_entry net entry) UnknownItem e names) in
      record { from = named.0; to = named.1; label = named.2; weight = short_weight entry.weight (unless_ok (in_range entry.weight) WeightRange fits) }

  spelled_table : (order : List (List ℕ)) (entries : List Entry) → table_passes net order entries ≡ Ok tt → IsSpelled (TableProof order entries)
  unfolding table_passes
  spelled_table order entries passes =
      let (points, named, more) = bind_ok (read_each (point_passes net) 1 order) _ tt passes in
      let (edges, read, others) = bind_ok (read_each (entry_passes net) (length order + 1) entries) _ tt more in (
        All-from_recursion (λ point. IsTrue (is_name point)) order (each_said (point_passes net) (λ point. IsTrue (is_name point)) spelled_point 1 order points named),
        All-from_recursion IsSpelledEntry entries (each_said (entry_passes net) IsSpelledEntry spelled_entry (length order + 1) entries edges read),
      )

  passes_by : (claim other : Claim) (passes : WalkPasses) → judged claim passes ≡ Accepted other → passes ≡ Ok tt
  passes_by claim other (Ok passed) accepted = refl
  passes_by claim other (Err refused) accepted = absurd (cc)

  pub accepted_spelled : (cert : Certificate) (claim : Claim) → rule_lines cert ≤ most_line_number → judgement_of net cert ≡ Accepted claim → IsSpelled cert
  accepted_spelled (Refutation lines walk) claim few accepted = spelled_refutation lines walk few (passes_by _ claim (refutation_passes net lines walk) accepted)
  accepted_spelled (TableProof order entries) claim few accepted = spelled_table order entries (passes_by _ claim (table_passes net order entries) accepted)

-- If a rule gives the edge that a line states from the edges that its premises state, the line passes.
use Rattle.std.proofs.Common.{◌≡◌, ℕ, ℤ, pos, ◌≤ℤ◌, ◌<ℤ◌, ◌+ℤ◌, ◌-ℤ◌, ◌&&◌, not, Bool, true, List, Option, Some, None, is_some, is_none, Result, Ok, refl, ap, sym, ◌∙◌, subst, arith}
use Rattle.std.specs.Prelude.{slice_get, int_le, int_lt}
use Rattle.std.specs.Int.{int_max}
use Rattle.std.specs.Option.{option_map}
use Rattle.std.specs.Str.{bytes_eq}
use Rattle.std.proofs.lemmas.Int.{ints, clamps}
use Rattle.net_model.proofs.RuleLemmas.{NoCaseGives, UpperCaseGives, LowerCaseGives, CrossCaseGives, RemovalGives}
use Rattle.net_model.specs.Network.{Plan, IsPlan, IsPoint, IsLink}
use Rattle.net_model.specs.Edges.{IsEdge, IsLabelled}
use Rattle.net_model.specs.Rules.{bound_edge, link_edge}
use Rattle.net_model.specs.declared.ids.PointId.{PointId}
use Rattle.net_model.specs.declared.ids.LinkId.{LinkId}
use Rattle.net_model.specs.declared.ids.BoundId.{BoundId}
use Rattle.net_model.specs.declared.part.Bound.{Bound}
use Rattle.net_model.specs.declared.part.Edge.{Edge}
use Rattle.net_model.specs.declared.part.Link.{Link}
use Rattle.closure_model.proofs.DerivableEdges.{bound_at, link_at}
use Rattle.cert_format.specs.declared.line.CertLine.{CertLine}
use Rattle.cert_format.specs.JudgementForms.{◌>>=◌, unless, there}
use Rattle.cert_checker.specs.Lines.{line_at, link_named, bound_of, names_point, label_of, same_label_names, at_least, is_negative, has_label_of, has_ends_of, are_ordinary, takes_label, may_cross, goes, joins, reaches_back, bound_passes}
use Rattle.cert_checker.specs.Lines.{link_passes, sum_passes, back_passes, no_passes, up_passes, low_passes, cross_passes, drop_passes}
use Rattle.cert_checker.specs.declared.judgement.CertFault.TheVariants.{UnknownItem, Premise, RuleCondition, Ends, Label, TooLow}
use Rattle.cert_checker.proofs.CertificateNames.{bytes_same}
use Rattle.net_model.specs.NetworkParts.{point_name}
use Rattle.refutation_certificates.specs.Certificates.{bound_name, link_name}
use Rattle.refutation_certificates.proofs.ItemNames.{has_name, bound_known, link_known, links_differ}
use Rattle.refutation_certificates.proofs.StatedEdges.{Says}

-- ---- the steps of a judgement that go on
pub goes_on : {A B E : Type 0} (r : Result A E) (f : A → Result B E) (x : A) (y : Result B E) → r ≡ Ok x → f x ≡ y → (r >>= f) ≡ y
goes_on r f x y is then = ap (λ q. q >>= f) is ∙ then

pub there_is : {A E : Type 0} (o : Option A) (why : E) (x : A) → o ≡ Some x → there o why ≡ Ok x
there_is o why x is = ap (λ q. there q why) is

pub unless_is : {E : Type 0} (b : Bool) (why : E) → b ≡ true → unless b why ≡ Ok tt
unless_is b why is = ap (λ q. unless q why) is

pub both : (a b : Bool) → a ≡ true → b ≡ true → (a && b) ≡ true
both a b one two = ap (λ x. x && b) one ∙ two

pub le_test : (a b : ℤ) → a ≤ℤ b → int_le a b ≡ true
le_test a b less = grind (arith, ints)

pub lt_test : (a b : ℤ) → a <ℤ b → int_lt a b ≡ true
lt_test a b less = grind (arith, ints)

at_least_is : (line : CertLine) (least weight : ℤ) → line.weight ≡ weight → least ≤ℤ weight → at_least line least ≡ Ok tt
at_least_is line least weight is less =
    unless_is (int_le least line.weight) (TooLow line.weight least) (ap (int_le least) is ∙ le_test least weight less)

same_le : (a b : ℤ) → a ≡ b → a ≤ℤ b
same_le a b same = omega (arith, ints)

joined_least : (v u w : ℤ) → int_max v (pos 0) +ℤ u ≡ w → (v +ℤ u) ≤ℤ w
joined_least v u w is = omega (arith, ints, clamps)

negative_test : (line : CertLine) (weight : ℤ) → line.weight ≡ weight → weight <ℤ pos 0 → is_negative line.weight ≡ true
negative_test line weight is below = ap is_negative is ∙ lt_test weight (pos 0) below

-- two labels that are there and the same
same_labels : (x y : Option (List ℕ)) (name : List ℕ) → x ≡ Some name → y ≡ Some name → (is_some y && same_label_names x y) ≡ true
same_labels x y name one two =
    both (is_some y) (same_label_names x y) (ap is_some two) (ap (λ o. same_label_names o y) one ∙ (ap (same_label_names (Some name)) two ∙ bytes_same name name refl))

module _ (net : Plan) (plan : IsPlan net) where
  -- two names of one point
  meet_there : (x y : List ℕ) (p q : PointId) → x ≡ point_name net.points p → y ≡ point_name net.points q → p ≡ q → bytes_eq x y ≡ true
  meet_there x y p q one two same = bytes_same x y (one ∙ (ap (point_name net.points) same ∙ sym two))

  stands_for : (x : List ℕ) (p q : PointId) → x ≡ point_name net.points p → p ≡ q → IsPoint net q → names_point net x q ≡ true
  stands_for x p q is same inside = ap (λ name. names_point net name q) (is ∙ ap (point_name net.points) same) ∙ has_name net plan q inside

  module _ (line : CertLine) (edge : Edge) (says : Says net line edge) where
    pub bound_ok : (id : BoundId) (bound : Bound) → slice_get net.bounds id.0 ≡ Some bound → bound_edge bound ≡ edge → bound_passes net line (bound_name net id) ≡ Ok tt
    unfolding bound_passes
    bound_ok id bound here is =
        let sound = bound_at net plan id.0 bound here in
        let from = stands_for line.from edge.from bound.from says.from (sym (ap (λ (e : Edge). e.from) is)) sound.from_point in
        let to = stands_for line.to edge.to bound.to says.to (sym (ap (λ (e : Edge). e.to) is)) sound.to_point in
        goes_on (there (bound_of net (bound_name net id)) UnknownItem) _ bound (Ok tt) (there_is (bound_of net (bound_name net id)) UnknownItem bound (bound_known net plan id bound here).1)
        (goes_on (unless (goes net line bound.from bound.to) Ends) _ tt (Ok tt)
        (unless_is (goes net line bound.from bound.to) Ends (both (names_point net line.from bound.from) (names_point net line.to bound.to) from to))
        (at_least_is line bound.most edge.weight says.weight (same_le bound.most edge.weight (ap (λ (e : Edge). e.weight) is))))

    pub link_ok : (id : LinkId) (link : Link) → slice_get net.links id.0 ≡ Some link → link_edge id link ≡ edge → link_passes net line (link_name net id) ≡ Ok tt
    unfolding link_passes
    link_ok id link here is =
        let sound = link_at net plan id link here in
        let from = stands_for line.from edge.from link.to says.from (sym (ap (λ (e : Edge). e.from) is)) sound.to_point in
        let to = stands_for line.to edge.to link.from says.to (sym (ap (λ (e : Edge). e.to) is)) sound.from_point in
        goes_on (there (link_named net (link_name net id)) UnknownItem) _ link (Ok tt) (there_is (link_named net (link_name net id)) UnknownItem link (link_known net plan id link here).1)
        (goes_on (unless (goes net line link.to link.from) Ends) _ tt (Ok tt)
        (unless_is (goes net line link.to link.from) Ends (both (names_point net line.from link.to) (names_point net line.to link.from) from to))
        (at_least_is line (pos 0 -ℤ link.high) edge.weight says.weight (same_le (pos 0 -ℤ link.high) edge.weight (ap (λ (e : Edge). e.weight) is))))

    sum_ok : (first second : CertLine) (one two : Edge) → Says net first one → Says net second two → one.to ≡ two.from → edge.from ≡ one.from → edge.to ≡ two.to → (one.weight +ℤ two.weight) ≤ℤ edge.weight
        → sum_passes first second line ≡ Ok tt
    unfolding sum_passes
    sum_ok first second one two says_one says_two meet from to less =
        let begins = meet_there first.from line.from one.from edge.from says_one.from says.from (sym from) in
        let joined = meet_there first.to second.from one.to two.from says_one.to says_two.from meet in
        let ends = meet_there second.to line.to two.to edge.to says_two.to says.to (sym to) in
        let sum : (first.weight +ℤ second.weight) ≡ (one.weight +ℤ two.weight) = ap (λ w. w +ℤ second.weight) says_one.weight ∙ ap (λ w. one.weight +ℤ w) says_two.weight in
        goes_on (unless (joins first second line) Ends) _ tt (Ok tt) (unless_is (joins first second line) Ends (both (bytes_eq first.from line.from && bytes_eq first.to second.from) (bytes_eq second.to line.to)
        (both (bytes_eq first.from line.from) (bytes_eq first.to second.from) begins joined) ends)) (ap (at_least line) sum ∙ at_least_is line (one.weight +ℤ two.weight) edge.weight says.weight less)

    unlabelled : (premise : CertLine) (e : Edge) → Says net premise e → e.label ≡ None → label_of premise ≡ None
    unlabelled premise e states is = states.label ∙ ap (option_map (link_name net)) is

    labelled : (premise : CertLine) (e : Edge) (name : LinkId) → Says net premise e → e.label ≡ Some name → label_of premise ≡ Some (link_name net name)
    labelled premise e name states is = states.label ∙ ap (option_map (link_name net)) is

    module _ (earlier : List CertLine) where
      pub no_ok : (i j : ℕ) (first second : CertLine) (one two : Edge) → line_at earlier i ≡ Some first → line_at earlier j ≡ Some second → Says net first one → Says net second two → NoCaseGives one two edge
          → no_passes earlier line i j ≡ Ok tt
      unfolding no_passes
      no_ok i j first second one two at_i at_j says_one says_two gives =
          let plain = both (is_none (label_of first)) (is_none (label_of second)) (ap is_none (unlabelled first one says_one gives.first_ordinary)) (ap is_none (unlabelled second two says_two gives.second_ordinary)) in
          goes_on (there (line_at earlier i) Premise) _ first (Ok tt) (there_is (line_at earlier i) Premise first at_i) (goes_on (there (line_at earlier j) Premise) _ second (Ok tt) (there_is (line_at earlier j) Premise second at_j)
          (goes_on (unless (are_ordinary first second) Label) _ tt (Ok tt) (unless_is (are_ordinary first second) Label plain)
          (sum_ok first second one two says_one says_two gives.meeting (sym (ap (λ (e : Edge). e.from) gives.is)) (sym (ap (λ (e : Edge). e.to) gives.is))
          (joined_least one.weight two.weight edge.weight (ap (λ (e : Edge). e.weight) gives.is)))))

      pub up_ok : (i j : ℕ) (first second : CertLine) (one two : Edge) → line_at earlier i ≡ Some first → line_at earlier j ≡ Some second → Says net first one → Says net second two → (gives : UpperCaseGives one two edge)
          → line.label ≡ Some (link_name net gives.label) → up_passes earlier line i j ≡ Ok tt
      unfolding up_passes
      up_ok i j first second one two at_i at_j says_one says_two gives own =
          let label = same_labels line.label (label_of second) (link_name net gives.label) own (labelled second two gives.label says_two gives.second_labelled) in
          let labels = both (is_none (label_of first)) (has_label_of line second) (ap is_none (unlabelled first one says_one gives.first_ordinary)) label in
          goes_on (there (line_at earlier i) Premise) _ first (Ok tt) (there_is (line_at earlier i) Premise first at_i) (goes_on (there (line_at earlier j) Premise) _ second (Ok tt) (there_is (line_at earlier j) Premise second at_j)
          (goes_on (unless (takes_label line first second) Label) _ tt (Ok tt) (unless_is (takes_label line first second) Label labels)
          (sum_ok first second one two says_one says_two gives.meeting (sym (ap (λ (e : Edge). e.from) gives.is)) (sym (ap (λ (e : Edge). e.to) gives.is))
          (joined_least one.weight two.weight edge.weight (ap (λ (e : Edge). e.weight) gives.is)))))

      back_ok : (link : Link) (second : CertLine) (two : Edge) → Says net second two → IsLink net link → two.from ≡ link.to → edge.from ≡ link.from → edge.to ≡ two.to → (link.low +ℤ two.weight) ≡ edge.weight
          → back_passes net link second line ≡ Ok tt
      unfolding back_passes
      back_ok link second two says_two sound begins from to weight =
          let at_end = stands_for second.from two.from link.to says_two.from begins sound.to_point in
          let at_start = stands_for line.from edge.from link.from says.from from sound.from_point in
          let ends = meet_there second.to line.to two.to edge.to says_two.to says.to (sym to) in
          let sum : (link.low +ℤ second.weight) ≡ edge.weight = ap (λ w. link.low +ℤ w) says_two.weight ∙ weight in
          goes_on (unless (reaches_back net link second line) Ends) _ tt (Ok tt) (unless_is (reaches_back net link second line) Ends
          (both (names_point net second.from link.to && names_point net line.from link.from) (bytes_eq second.to line.to)
          (both (names_point net second.from link.to) (names_point net line.from link.from) at_end at_start) ends)) (at_least_is line (link.low +ℤ second.weight) edge.weight says.weight (same_le (link.low +ℤ second.weight) edge.weight sum))

      pub low_ok : (name : LinkId) (j : ℕ) (second : CertLine) (two : Edge) → line_at earlier j ≡ Some second → Says net second two → LowerCaseGives net name two edge → low_passes net earlier line (link_name net name) j ≡ Ok tt
      unfolding low_passes
      low_ok name j second two at_j says_two gives =
          let sound = link_at net plan name gives.link gives.declared in
          goes_on (there (line_at earlier j) Premise) _ second (Ok tt) (there_is (line_at earlier j) Premise second at_j)
          (goes_on (unless (is_none (label_of second)) Label) _ tt (Ok tt) (unless_is (is_none (label_of second)) Label (ap is_none (unlabelled second two says_two gives.second_ordinary)))
          (goes_on (unless (is_negative second.weight) RuleCondition) _ tt (Ok tt) (unless_is (is_negative second.weight) RuleCondition (negative_test second two.weight says_two.weight gives.negative))
          (goes_on (there (link_named net (link_name net name)) UnknownItem) _ gives.link (Ok tt) (there_is (link_named net (link_name net name)) UnknownItem gives.link (link_known net plan name gives.link gives.declared).1)
          (back_ok gives.link second two says_two sound gives.begins (sym (ap (λ (e : Edge). e.from) gives.is)) (sym (ap (λ (e : Edge).
          e.to) gives.is)) (ap (λ (e : Edge). e.weight) gives.is)))))

      pub cross_ok : (name : LinkId) (j : ℕ) (second : CertLine) (two : Edge) → line_at earlier j ≡ Some second → Says net second two → (gives : CrossCaseGives net name two edge) → IsEdge net two
          → line.label ≡ Some (link_name net gives.label) → cross_passes net earlier line (link_name net name) j ≡ Ok tt
      unfolding cross_passes
      cross_ok name j second two at_j says_two gives sound_two own =
          let sound = link_at net plan name gives.link gives.declared in
          let label = same_labels line.label (label_of second) (link_name net gives.label) own (labelled second two gives.label says_two gives.second_labelled) in
          let of_label = subst (IsLabelled net two) gives.second_labelled sound_two.labelled in
          let apart = links_differ net plan gives.label name of_label.0 gives.link of_label.1 gives.declared gives.another in
          let another : not (same_label_names line.label (Some (link_name net name))) ≡ true = ap (λ o. not (same_label_names o (Some (link_name net name)))) own ∙ ap not apart in
          let condition = both (is_negative second.weight) (not (same_label_names line.label (Some (link_name net name)))) (negative_test second two.weight says_two.weight gives.negative) another in
          goes_on (there (line_at earlier j) Premise) _ second (Ok tt) (there_is (line_at earlier j) Premise second at_j) (goes_on (unless (has_label_of line second) Label) _ tt (Ok tt) (unless_is (has_label_of line second) Label label)
          (goes_on (unless (may_cross line second (link_name net name)) RuleCondition) _ tt (Ok tt) (unless_is (may_cross line second (link_name net name)) RuleCondition condition)
          (goes_on (there (link_named net (link_name net name)) UnknownItem) _ gives.link (Ok tt) (there_is (link_named net (link_name net name)) UnknownItem gives.link (link_known net plan name gives.link gives.declared).1)
          (back_ok gives.link second two says_two sound gives.begins (sym (ap (λ (e : Edge). e.from) gives.is)) (sym (ap (λ (e : Edge).
          e.to) gives.is)) (ap (λ (e : Edge). e.weight) gives.is)))))

      pub drop_ok : (j : ℕ) (premise : CertLine) (one : Edge) → line_at earlier j ≡ Some premise → Says net premise one → RemovalGives net one edge → drop_passes net earlier line j ≡ Ok tt
      unfolding drop_passes
      drop_ok j premise one at_j says_one gives =
          let label = labelled premise one gives.name says_one gives.labelled in
          let begins = meet_there premise.from line.from one.from edge.from says_one.from says.from (ap (λ (e : Edge). e.from) gives.is) in
          let ends = meet_there premise.to line.to one.to edge.to says_one.to says.to (ap (λ (e : Edge). e.to) gives.is) in
          let least : int_max premise.weight (pos 0 -ℤ gives.link.low) ≡ edge.weight = ap (λ w. int_max w (pos 0 -ℤ gives.link.low)) says_one.weight ∙ ap (λ (e : Edge). e.weight) gives.is in
          goes_on (there (line_at earlier j) Premise) _ premise (Ok tt) (there_is (line_at earlier j) Premise premise at_j)
          (goes_on (there (label_of premise) Label) _ (link_name net gives.name) (Ok tt) (there_is (label_of premise) Label (link_name net gives.name) label)
          (goes_on (unless (has_ends_of line premise) Ends) _ tt (Ok tt) (unless_is (has_ends_of line premise) Ends (both (bytes_eq premise.from line.from) (bytes_eq premise.to line.to) begins ends))
          (goes_on (there (link_named net (link_name net gives.name)) UnknownItem) _ gives.link (Ok tt) (there_is (link_named net (link_name net gives.name)) UnknownItem gives.link
          (link_known net plan gives.name gives.link gives.declared).1) (at_least_is line (int_max premise.weight (pos 0 -ℤ gives.link.low)) edge.weight says.weight (same_le (int_max
          premise.weight (pos 0 -ℤ gives.link.low)) edge.weight least)))))

-- A refusal is of one line, by that line alone, or of the walk.
use Rattle.std.proofs.Common.{◌≡◌, ◌⊎◌, ℕ, ℤ, pos, ◌≤ℤ◌, ◌<ℤ◌, ◌+ℤ◌, ◌-ℤ◌, ◌+◌, ◌-◌, Bool, true, false, is_none, List, [], ◌∷◌, length, take, Option, Some, None, Result, Ok, Err, refl, sym, ap, ◌∙◌, subst, arith, inl, inr, unsigned_abs}
use Rattle.std.specs.Prelude.{slice_get, int_lt, int_le}
use Rattle.std.specs.Int.{int_max}
use Rattle.std.specs.Str.{bytes_eq}
use Rattle.std.proofs.lemmas.Int.{ints}
use Rattle.std.proofs.lemmas.Bool.{leb-false}
use Rattle.net_model.specs.Limits.{most_weight}
use Rattle.net_model.specs.Network.{Plan}
use Rattle.net_model.specs.declared.part.Link.{Link}
use Rattle.cert_format.specs.declared.line.CertLine.{CertLine}
use Rattle.cert_format.specs.declared.kind.LineKind.{LineKind}
use Rattle.cert_format.specs.declared.kind.LineKind.TheVariants as kind
use Rattle.cert_format.specs.JudgementForms.{◌>>=◌, unless, there}
use Rattle.cert_checker.specs.Lines.{line_at, link_named, bound_of, label_of, has_label_of, has_ends_of, are_ordinary, takes_label, is_negative, may_cross, goes, joins, reaches_back, names_known, in_range, at_least, bound_passes}
use Rattle.cert_checker.specs.Lines.{link_passes, sum_passes, no_passes, up_passes, back_passes, low_passes, cross_passes, drop_passes, rule_passes, line_passes}
use Rattle.cert_checker.specs.Walk.{WalkPasses, refusal, steps_known, returns_to, is_negative_walk, total_weight, walked, walk_passes}
use Rattle.cert_checker.specs.Judgement.{lines_pass, refutation_passes, judged}
use Rattle.cert_checker.specs.Refusals.{FaultSays, IsRefusedLine, WalkSays, IsRefusedWalk}
use Rattle.cert_checker.specs.Laws.{RefusalsAreOfOneLine}
use Rattle.cert_checker.specs.declared.judgement.CertFault.{CertFault}
use Rattle.cert_checker.specs.declared.judgement.CertFault.TheVariants.{UnknownItem, Premise, RuleCondition, Ends, Label, TooLow, WalkBroken, WalkNotNegative, WeightRange}
use Rattle.cert_checker.specs.declared.judgement.RefusedLine.{RefusedLine}
use Rattle.cert_checker.specs.declared.judgement.Judgement.TheVariants.{Refused}
use Rattle.cert_checker.specs.declared.judgement.Claim.TheVariants.{NotControllable}
use Rattle.cert_checker.proofs.RefusedLines.{stop_is}

-- one test after another: the first that fails says so, or a later one
after_test : {A B E : Type 0} (says : E → Type 0) (first : Result A E) (next : A → Result B E) (why : E) → ((w : E) → first ≡ Err w → says w) → ((x : A) → next x ≡ Err why → says why) → (first >>= next) ≡ Err why → says why
after_test says (Ok x) next why here later fails = later x fails
after_test says (Err w) next why here later fails = let same : w ≡ why = cc in subst says same (here w refl)

there_says : {A E : Type 0} (says : E → Type 0) (o : Option A) (fault : E) → says fault → (w : E) → there o fault ≡ Err w → says w
there_says says (Some x) fault holds w fails = absurd (cc)
there_says says None fault holds w fails = let same : fault ≡ w = cc in subst says same holds

unless_says : {E : Type 0} (says : E → Type 0) (b : Bool) (fault : E) → (b ≡ false → says fault) → (w : E) → unless b fault ≡ Err w → says w
unless_says says true fault holds w fails = absurd (cc)
unless_says says false fault holds w fails = let same : fault ≡ w = cc in subst says same (holds refl)

module _ (net : Plan) (earlier : List CertLine) (line : CertLine) (why : CertFault) where
  abbrev says : CertFault → Type 0
  says w = FaultSays line w

  low_says : (least : ℤ) → at_least line least ≡ Err why → says why
  low_says least fails =
      unless_says says (int_le least line.weight) (TooLow line.weight least) (λ over. (refl, below least line.weight over)) why fails
    where
      below : (a b : ℤ) → int_le a b ≡ false → b <ℤ a
      below a b over = grind (arith, ints)

  test : {A B : Type 0} (first : Result A CertFault) (next : A → Result B CertFault) → ((w : CertFault) → first ≡ Err w → says w) → ((x : A) → next x ≡ Err why → says why) → (first >>= next) ≡ Err why → says why
  test first next here later fails = after_test says first next why here later fails

  bound_says : (name : List ℕ) → bound_passes net line name ≡ Err why → says why
  unfolding bound_passes
  bound_says name fails =
      test (there (bound_of net name) UnknownItem) _ (there_says says (bound_of net name) UnknownItem tt) (λ bound fails.
      test (unless (goes net line bound.from bound.to) Ends) _ (unless_says says (goes net line bound.from bound.to) Ends (λ no. tt)) (λ ends fails.
      low_says bound.most fails) fails) fails

  link_says : (name : List ℕ) → link_passes net line name ≡ Err why → says why
  unfolding link_passes
  link_says name fails =
      test (there (link_named net name) UnknownItem) _ (there_says says (link_named net name) UnknownItem tt) (λ link fails.
      test (unless (goes net line link.to link.from) Ends) _ (unless_says says (goes net line link.to link.from) Ends (λ no. tt)) (λ ends fails.
      low_says (pos 0 -ℤ link.high) fails) fails) fails

  sum_says : (first second : CertLine) → sum_passes first second line ≡ Err why → says why
  unfolding sum_passes
  sum_says first second fails =
      test (unless (joins first second line) Ends) _ (unless_says says (joins first second line) Ends (λ no. tt)) (λ ends fails.
      low_says (first.weight +ℤ second.weight) fails) fails

  no_says : (i j : ℕ) → no_passes earlier line i j ≡ Err why → says why
  unfolding no_passes
  no_says i j fails =
      test (there (line_at earlier i) Premise) _ (there_says says (line_at earlier i) Premise tt) (λ first fails.
      test (there (line_at earlier j) Premise) _ (there_says says (line_at earlier j) Premise tt) (λ second fails.
      test (unless (are_ordinary first second) Label) _ (unless_says says (are_ordinary first second) Label (λ no. tt)) (λ labels fails.
      sum_says first second fails) fails) fails) fails

  up_says : (i j : ℕ) → up_passes earlier line i j ≡ Err why → says why
  unfolding up_passes
  up_says i j fails =
      test (there (line_at earlier i) Premise) _ (there_says says (line_at earlier i) Premise tt) (λ first fails.
      test (there (line_at earlier j) Premise) _ (there_says says (line_at earlier j) Premise tt) (λ second fails.
      test (unless (takes_label line first second) Label) _ (unless_says says (takes_label line first second) Label (λ no. tt)) (λ labels fails.
      sum_says first second fails) fails) fails) fails

  back_says : (link : Link) (second : CertLine) → back_passes net link second line ≡ Err why → says why
  unfolding back_passes
  back_says link second fails =
      test (unless (reaches_back net link second line) Ends) _ (unless_says says (reaches_back net link second line) Ends (λ no. tt)) (λ ends fails.
      low_says (link.low +ℤ second.weight) fails) fails

  low_case_says : (name : List ℕ) (j : ℕ) → low_passes net earlier line name j ≡ Err why → says why
  unfolding low_passes
  low_case_says name j fails =
      test (there (line_at earlier j) Premise) _ (there_says says (line_at earlier j) Premise tt) (λ second fails.
      test (unless (is_none (label_of second)) Label) _ (unless_says says (is_none (label_of second)) Label (λ no. tt)) (λ labels fails.
      test (unless (is_negative second.weight) RuleCondition) _ (unless_says says (is_negative second.weight) RuleCondition (λ no. tt)) (λ condition fails.
      test (there (link_named net name) UnknownItem) _ (there_says says (link_named net name) UnknownItem tt) (λ link fails.
      back_says link second fails) fails) fails) fails) fails

  cross_says : (name : List ℕ) (j : ℕ) → cross_passes net earlier line name j ≡ Err why → says why
  unfolding cross_passes
  cross_says name j fails =
      test (there (line_at earlier j) Premise) _ (there_says says (line_at earlier j) Premise tt) (λ second fails.
      test (unless (has_label_of line second) Label) _ (unless_says says (has_label_of line second) Label (λ no. tt)) (λ labels fails.
      test (unless (may_cross line second name) RuleCondition) _ (unless_says says (may_cross line second name) RuleCondition (λ no. tt)) (λ condition fails.
      test (there (link_named net name) UnknownItem) _ (there_says says (link_named net name) UnknownItem tt) (λ link fails.
      back_says link second fails) fails) fails) fails) fails

  drop_says : (j : ℕ) → drop_passes net earlier line j ≡ Err why → says why
  unfolding drop_passes
  drop_says j fails =
      test (there (line_at earlier j) Premise) _ (there_says says (line_at earlier j) Premise tt) (λ labelled fails.
      test (there (label_of labelled) Label) _ (there_says says (label_of labelled) Label tt) (λ label fails.
      test (unless (has_ends_of line labelled) Ends) _ (unless_says says (has_ends_of line labelled) Ends (λ no. tt)) (λ ends fails.
      test (there (link_named net label) UnknownItem) _ (there_says says (link_named net label) UnknownItem tt) (λ link fails.
      low_says (int_max labelled.weight (pos 0 -ℤ link.low)) fails) fails) fails) fails) fails

  rule_says : (kind : LineKind) → rule_passes net earlier line kind ≡ Err why → says why
  rule_says (kind.Bound name) fails = bound_says name fails
  rule_says (kind.Link name) fails = link_says name fails
  rule_says (kind.No i j) fails = no_says i j fails
  rule_says (kind.Up i j) fails = up_says i j fails
  rule_says (kind.Low name j) fails = low_case_says name j fails
  rule_says (kind.Cross name j) fails = cross_says name j fails
  rule_says (kind.Drop j) fails = drop_says j fails

  line_says : line_passes net earlier line ≡ Err why → says why
  unfolding line_passes
  line_says fails =
      test (unless (names_known net line) UnknownItem) _ (unless_says says (names_known net line) UnknownItem (λ no. tt)) (λ names fails.
      test (unless (in_range line.weight) WeightRange) _ (unless_says says (in_range line.weight) WeightRange (λ beyond. leb-false (unsigned_abs line.weight) most_weight beyond)) (λ weight fails.
      rule_says line.kind fails) fails) fails

refused_line : (net : Plan) (lines : List CertLine) (refused : RefusedLine) → lines_pass net [] lines ≡ Err refused → IsRefusedLine net lines refused.line refused.why
refused_line net lines refused stops =
    let s = stop_is net [] lines refused stops in
    let count : s.count ≡ refused.line - 1 = omega (arith, s.place) in
    record {
      line = s.line;
      here = subst (λ k. slice_get lines k ≡ Some s.line) count s.here;
      before = subst (λ k. lines_pass net [] (take k lines) ≡ Ok tt) count s.before;
      own = subst (λ k. line_passes net (take k lines) s.line ≡ Err refused.why) count s.own;
      says = line_says net (take s.count lines) s.line refused.why s.own;
    }

module _ (lines : List CertLine) (walk : List ℕ) where
  abbrev walk_says : RefusedLine → Type 0
  walk_says refused = WalkSays lines walk refused.why

  steps_say : (place : ℕ) (steps : List ℕ) (refused : RefusedLine) → steps_known lines place steps ≡ Err refused → walk_says refused
  steps_say place [] refused fails = absurd (cc)
  steps_say place (step ∷ steps) refused fails =
      after_test walk_says (there (line_at lines step) (refusal place Premise)) _ refused (there_says walk_says (line_at lines step) (refusal place Premise) tt) (λ line fails. steps_say (place + 1) steps refused fails) fails

  returns_say : (begin : List ℕ) (place : ℕ) (last : CertLine) (steps : List CertLine) (refused : RefusedLine) → returns_to begin place last steps ≡ Err refused → walk_says refused
  returns_say begin place last [] refused fails = unless_says walk_says (bytes_eq last.to begin) (refusal place WalkBroken) (λ no. tt) refused fails
  returns_say begin place last (next ∷ steps) refused fails =
      after_test walk_says (unless (bytes_eq next.from last.to) (refusal (place + 1) WalkBroken)) _ refused (unless_says walk_says (bytes_eq next.from last.to) (refusal (place + 1) WalkBroken) (λ no. tt))
      (λ meet fails. returns_say begin (place + 1) next steps refused fails) fails

  not_negative : (total : ℤ) → int_lt total (pos 0) ≡ false → pos 0 ≤ℤ total
  not_negative total over = grind (arith, ints)

  closed_say : (place : ℕ) (steps : List CertLine) (refused : RefusedLine) → walked lines walk ≡ steps → is_negative_walk place steps ≡ Err refused → walk_says refused
  closed_say place [] refused is fails = let same : refusal place WalkBroken ≡ refused = cc in subst walk_says same tt
  closed_say place (line ∷ steps) refused is fails =
      let total = total_weight (line ∷ steps) in
      after_test walk_says (returns_to line.from place line steps) _ refused (λ w fails. returns_say line.from place line steps w fails) (λ closed fails.
      unless_says walk_says (int_lt total (pos 0)) (refusal (place + length steps) (WalkNotNegative total)) (λ over. (ap total_weight (sym is), not_negative total over)) refused fails) fails

  walk_is_said : (refused : RefusedLine) → walk_passes lines walk ≡ Err refused → walk_says refused
  unfolding walk_passes
  walk_is_said refused fails =
      after_test walk_says (steps_known lines (length lines + 1) walk) _ refused (λ w fails. steps_say (length lines + 1) walk w fails) (λ known fails. closed_say (length lines + 1) (walked lines walk) refused refl fails) fails

refused_by : (net : Plan) (lines : List CertLine) (walk : List ℕ) (refused : RefusedLine) (rules : WalkPasses) → lines_pass net [] lines ≡ rules → (rules >>= (λ _. walk_passes lines walk)) ≡ Err refused
    → IsRefusedLine net lines refused.line refused.why ⊎ IsRefusedWalk net lines walk refused.line refused.why
refused_by net lines walk refused (Ok passed) is fails = inr (record { before = is; own = fails; says = walk_is_said lines walk refused fails })
refused_by net lines walk refused (Err first) is fails = inl (refused_line net lines refused (is ∙ fails))

refused_is : (passes : WalkPasses) (number : ℕ) (why : CertFault) → judged NotControllable passes ≡ Refused number why → passes ≡ Err (refusal number why)
refused_is (Ok passed) number why refused = absurd (cc)
refused_is (Err r) number why refused =
    let line : r.line ≡ number = cc in
    let cause : r.why ≡ why = cc in
    ap (λ n. Err (refusal n r.why)) line ∙ ap (λ w. Err (refusal number w)) cause

refutation_refused : (net : Plan) (lines : List CertLine) (walk : List ℕ) (refused : RefusedLine) → refutation_passes net lines walk ≡ Err refused
    → IsRefusedLine net lines refused.line refused.why ⊎ IsRefusedWalk net lines walk refused.line refused.why
unfolding refutation_passes
refutation_refused net lines walk refused fails = refused_by net lines walk refused (lines_pass net [] lines) refl fails

pub one_refusal : RefusalsAreOfOneLine
one_refusal = λ net lines walk number why refused. refutation_refused net lines walk (refusal number why) (refused_is (refutation_passes net lines walk) number why refused)

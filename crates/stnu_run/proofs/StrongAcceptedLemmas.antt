-- A strong certificate that the judge accepts can be spelled, and its printed lines are short.
use Rattle.std.proofs.Common.{◌≡◌, ◌⊎◌, ℕ, ◌≤◌, ◌+◌, ◌&&◌, List, [], ◌∷◌, length, map, Option, is_some, Ok, Err, refl, sym, ap, subst, arith, IsTrue, unsigned_abs, inl, inr}
use Rattle.std.specs.Prelude.{nat_le, slice_get}
use Rattle.std.specs.List.{AllByRecursion}
use Rattle.std.proofs.lemmas.Bool.{and_parts}
use Rattle.std.proofs.lemmas.List.Elements.{All-from_recursion, recursion_from_All}
use Rattle.texts.specs.Limits.{most_line}
use Rattle.texts.specs.Lines.{lines}
use Rattle.net_model.specs.Limits.{most_weight}
use Rattle.net_model.specs.Names.{is_name}
use Rattle.net_model.specs.Network.{Plan, IsPlan, bound_named, point_named}
use Rattle.net_model.specs.declared.ids.BoundId.{BoundId}
use Rattle.net_model.proofs.RuleLemmas.{two_steps}
use Rattle.cert_format.specs.CertificateWords.{end_words}
use Rattle.cert_format.specs.JudgementForms.{there, unless}
use Rattle.cert_format.specs.StrongWords.{IsSpelledBy, IsSpelledStrong, OfOneKind, by_words, header_words, printed_strong, ring_words, strong_words}
use Rattle.cert_format.specs.declared.strong_cert.StrongCert.{StrongCert}
use Rattle.cert_format.specs.declared.strong_cert.StrongLine.{StrongLine}
use Rattle.cert_format.proofs.PassedStepLemmas.{bind_ok, there_ok, unless_ok}
use Rattle.cert_checker.specs.Lines.{Passes, bound_of, link_named}
use Rattle.cert_checker.specs.declared.judgement.CertFault.TheVariants.{UnknownItem, WeightRange}
use Rattle.strong_plan.specs.Judgement.{AllPass, bound_line_passes, bound_lines_pass, cert_passes, judgement_of, points_pass, refusal, refused_at_place, strong_judged}
use Rattle.strong_plan.specs.declared.judgement.StrongJudgement.TheVariants.{Accepted}
use Rattle.stnu_run.proofs.ClosedTextLemmas.{IsClosed, closed_printed}
use Rattle.stnu_run.proofs.ShortLineLemmas.{IsShortLine, both, lines_short, short_each, short_end, short_name, short_weight as short_weight_word}
use Rattle.stnu_run.proofs.SpelledLemmas.{bound_is_named, link_is_named, point_is_named, short_weight}

-- ---- it can be spelled
place_ok : (place : ℕ) (passes : Passes) → refused_at_place place passes ≡ Ok tt → passes ≡ Ok tt
place_ok place (Ok passed) e = refl
place_ok place (Err why) e = absurd (cc)

passed : (passes : AllPass) → strong_judged passes ≡ Accepted → passes ≡ Ok tt
passed (Ok done) accepted = refl
passed (Err refused) accepted = absurd (cc)

module _ (net : Plan) (plan : IsPlan net) where
  spelled_by : (line : StrongLine) → bound_line_passes net line ≡ Ok tt → IsSpelledBy line
  unfolding bound_line_passes
  spelled_by line passes =
      let (_, names, rest) = bind_ok (unless (is_some (point_named net line.from) && is_some (point_named net line.to)) UnknownItem) _ tt passes in
      let (bound, known, more) = bind_ok (there (bound_of net line.bound) UnknownItem) _ tt rest in
      let (_, range, others) = bind_ok (unless (nat_le (unsigned_abs line.weight) most_weight) WeightRange) _ tt more in
      let (from, to) = and_parts (is_some (point_named net line.from)) (is_some (point_named net line.to)) (unless_ok (is_some (point_named net line.from) && is_some (point_named net line.to)) UnknownItem names) in
      let (id, named, declared) = two_steps (λ (b : BoundId). slice_get net.bounds b.0) (bound_named net line.bound) bound (there_ok (bound_of net line.bound) UnknownItem bound known) in
      record {
        bound = bound_is_named net plan line.bound (ap (λ (o : Option BoundId). is_some o) named);
        from = point_is_named net plan line.from from;
        to = point_is_named net plan line.to to;
        weight = short_weight line.weight (unless_ok (nat_le (unsigned_abs line.weight) most_weight) WeightRange range);
      }

  spelled_lines : (place : ℕ) (by : List StrongLine) → bound_lines_pass net place by ≡ Ok tt → AllByRecursion IsSpelledBy by
  spelled_lines place [] pass = tt
  spelled_lines place (line ∷ by) pass =
      let (_, own, rest) = bind_ok (refused_at_place place (bound_line_passes net line)) _ tt pass in
      (spelled_by line (place_ok place (bound_line_passes net line) own), spelled_lines (place + 1) by rest)

  spelled_points : (place : ℕ) (names : List (List ℕ)) → points_pass net place names ≡ Ok tt → AllByRecursion (λ point. IsTrue (is_name point)) names
  spelled_points place [] pass = tt
  spelled_points place (name ∷ names) pass =
      let (_, own, rest) = bind_ok (unless (is_some (link_named net name)) (refusal place UnknownItem)) _ tt pass in
      (link_is_named net plan name (unless_ok (is_some (link_named net name)) (refusal place UnknownItem) own), spelled_points (place + 1) names rest)

  spelled_parts : (by : List StrongLine) (ring : List (List ℕ)) → (by ≡ []) ⊎ (ring ≡ []) → cert_passes net by ring ≡ Ok tt → AllByRecursion IsSpelledBy by × AllByRecursion (λ point. IsTrue (is_name point)) ring
  spelled_parts by [] one pass =
      let (_, each, walk) = bind_ok (bound_lines_pass net 1 by) _ tt pass in
      (spelled_lines 1 by each, tt)
  spelled_parts by (name ∷ names) (inl none) pass =
      let (_, each, follows) = bind_ok (points_pass net 1 (name ∷ names)) _ tt pass in
      (subst (AllByRecursion IsSpelledBy) (sym none) tt, spelled_points 1 (name ∷ names) each)
  spelled_parts by (name ∷ names) (inr none) pass = absurd (cc)

  pub strong_spelled : (cert : StrongCert) → OfOneKind cert → judgement_of net cert ≡ Accepted → IsSpelledStrong cert
  strong_spelled cert one accepted =
      let parts = spelled_parts cert.by cert.ring one (passed (cert_passes net cert.by cert.ring) accepted) in
      record { of_one_kind = one; by = All-from_recursion IsSpelledBy cert.by parts.0; ring = All-from_recursion (λ point. IsTrue (is_name point)) cert.ring parts.1 }

-- ---- its lines are short
short_by : (line : StrongLine) → IsSpelledBy line → IsShortLine (by_words line)
short_by line spells = ((omega arith, (short_name line.bound spells.bound, (short_name line.from spells.from, (short_name line.to spells.to, (short_weight_word line.weight spells.weight, tt))))), omega arith)

short_ring : (point : List ℕ) → IsTrue (is_name point) → IsShortLine (ring_words point)
short_ring point named = ((omega arith, (short_name point named, tt)), omega arith)

short_header : IsShortLine header_words
short_header = ((omega arith, (omega arith, tt)), omega arith)

all_short : (cert : StrongCert) → IsSpelledStrong cert → AllByRecursion IsShortLine (strong_words cert)
all_short cert spells =
    let by = short_each by_words IsSpelledBy short_by cert.by (recursion_from_All IsSpelledBy cert.by spells.by) in
    let ring = short_each ring_words (λ point. IsTrue (is_name point)) short_ring cert.ring (recursion_from_All (λ point. IsTrue (is_name point)) cert.ring spells.ring) in
    (short_header, both IsShortLine (map by_words cert.by) _ by (both IsShortLine (map ring_words cert.ring) (end_words ∷ []) ring short_end))

pub strong_lines_short : (cert : StrongCert) → IsSpelledStrong cert → AllByRecursion (λ line. length line ≤ most_line) (lines (printed_strong cert))
unfolding printed_strong
strong_lines_short cert spells = lines_short (strong_words cert) (all_short cert spells)

pub closed_strong : (cert : StrongCert) → IsClosed (printed_strong cert)
unfolding printed_strong
closed_strong cert = closed_printed (strong_words cert)

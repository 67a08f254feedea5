-- A certificate that the judge accepts is accepted by `judge`, given the printed plan text of the network before it.
use Rattle.std.proofs.Common.{◌≡◌, ℕ, ℤ, pos, ◌≤◌, ◌≤ℤ◌, ◌==◌, true, List, [], ◌∷◌, ◌++◌, length, map, get_or, refl, sym, ap, ◌∙◌, subst, arith, append-nil, IsTrue, unsigned_abs}
use Rattle.std.specs.List.{flat_map, AllByRecursion, All}
use Rattle.std.proofs.lemmas.Bool.{cond_both}
use Rattle.std.proofs.lemmas.Bool.Decides.{nat_tests}
use Rattle.std.proofs.lemmas.List.{length-append}
use Rattle.std.proofs.lemmas.List.Elements.{All-append, All-map, recursion_from_All}
use Rattle.texts.specs.Limits.{most_line}
use Rattle.texts.specs.Lines.{InputLine, input_lines, lines, whole_line}
use Rattle.net_model.specs.Limits.{most_delay, within_limit}
use Rattle.net_model.specs.Names.{is_name}
use Rattle.net_model.specs.Network.{Plan, HasPlanNumbers, IsBound, IsLink, IsPlan, IsPoint}
use Rattle.net_model.specs.NetworkParts.{bound_part, link_part, parts_of, point_name}
use Rattle.net_model.specs.ShownForm.{shown_form}
use Rattle.net_model.specs.declared.ids.PointId.{PointId}
use Rattle.net_model.specs.declared.part.Bound.{Bound}
use Rattle.net_model.specs.declared.part.Link.{Link}
use Rattle.net_model.specs.declared.part.Part.{Part}
use Rattle.net_model.specs.declared.part.Part.TheVariants as part
use Rattle.plan_format.specs.PlanParts.{delay_words, end_words, part_words}
use Rattle.plan_format.specs.PlanPrinting.{delay_lines, plan_words, printed_plan}
use Rattle.plan_format.proofs.RoundTripLemmas.{declares_back}
use Rattle.cert_format.specs.CertificateWords.{printed_certificate}
use Rattle.cert_format.specs.declared.certificate.Certificate.{Certificate}
use Rattle.cert_format.specs.Limits.{most_written_weight}
use Rattle.cert_checker.specs.Judgement.{judgement_of}
use Rattle.cert_checker.specs.declared.judgement.Claim.{Claim}
use Rattle.cert_checker.specs.declared.judgement.Judgement.TheVariants.{Accepted}
use Rattle.command_engine.specs.Inputs.{ComeAfter, DeclaresBy, texts}
use Rattle.command_engine.specs.Limits.{most_input}
use Rattle.input_texts.specs.PlanInput.{in_notation, plan_in, plan_reader}
use Rattle.input_texts.specs.PlanText.{initial_plan}
use Rattle.input_texts.specs.PlanTexts.{plan_texts}
use Rattle.input_texts.specs.declared.plan_input.Notation.TheVariants.{Text}
use Rattle.input_texts.specs.declared.proof_input.ProofKind.TheVariants.{Control}
use Rattle.input_texts.proofs.PlanInputLemmas.{declared_own}
use Rattle.input_texts.proofs.PlanLemmas.{declares_network, plan_by}
use Rattle.judge_command.specs.JudgeAnswers.{judgement_line}
use Rattle.judge_command.specs.JudgePromise.{judge_program}
use Rattle.stnu_run.specs.PrintedCertificates.{DefinesJust, judge_of, with_end}
use Rattle.stnu_run.proofs.AcceptedLemmas.{accepts_it}
use Rattle.stnu_run.proofs.ClosedTextLemmas.{IsClosed, closed_printed, input_lines_whole, text_restored, texts_whole, total_is}
use Rattle.stnu_run.proofs.ComingLemmas.{come_by, come_text}
use Rattle.stnu_run.proofs.ShortLineLemmas.{AreShort, IsShortLine, both, lines_short, short_each, short_end, short_name, short_number, short_weight}

-- ---- the lines of a printed plan are short
module _ (net : Plan) (plan : IsPlan net) (numbers : HasPlanNumbers net) where
  point_spelled : (point : PointId) → IsPoint net point → IsTrue (is_name (point_name net.points point))
  point_spelled point inside = plan.points_named point.0 [] inside

  small : (number : ℤ) → within_limit number ≡ true → unsigned_abs number ≤ most_written_weight
  small number within = grind (arith, nat_tests)

  lower : (low high : ℤ) → pos 1 ≤ℤ low → low ≤ℤ high → unsigned_abs low ≤ unsigned_abs high
  lower low high positive interval = grind arith

  abbrev IsShortPart : Part → Type 0
  IsShortPart one = IsShortLine (part_words one)

  short_point : (name : List ℕ) → IsTrue (is_name name) → IsShortPart (part.Point name)
  short_point name named = ((omega arith, (short_name name named, tt)), omega arith)

  short_bound : (bound : Bound) → IsBound net bound → within_limit bound.most ≡ true → IsShortPart (bound_part net.points bound)
  short_bound bound is within = (
    (
      omega arith,
      (
        short_name bound.name is.named,
        (
          short_name (point_name net.points bound.from) (point_spelled bound.from is.from_point),
          (short_name (point_name net.points bound.to) (point_spelled bound.to is.to_point), (short_weight bound.most (small bound.most within), tt)),
        ),
      ),
    ),
    omega arith,
  )

  short_link : (link : Link) → IsLink net link → within_limit link.high ≡ true → IsShortPart (link_part net.points link)
  short_link link is within =
      let high = small link.high within in
      let low = lower link.low link.high is.positive is.interval in (
        (
          omega arith,
          (
            short_name (point_name net.points link.from) (point_spelled link.from is.from_point),
            (short_weight link.low (omega (arith, high, low)), (short_weight link.high high, (short_name (point_name net.points link.to) (point_spelled link.to is.to_point), tt))),
          ),
        ),
        omega arith,
      )

  short_parts : AllByRecursion IsShortPart (parts_of net)
  short_parts =
      let points : All IsShortPart (map part.Point net.points) = All-map IsShortPart part.Point net.points (λ k d inside. short_point (get_or net.points k d) (plan.points_named k d inside)) in
      let bounds : All IsShortPart (map (bound_part net.points) net.bounds) = All-map IsShortPart (bound_part net.points) net.bounds
      (λ k d inside. short_bound (get_or net.bounds k d) (plan.bounds_sound k d inside) (numbers.bounds k d inside)) in
      let links : All IsShortPart (map (link_part net.points) net.links) = All-map IsShortPart (link_part net.points) net.links
      (λ k d inside. short_link (get_or net.links k d) (plan.links_sound k d inside) (numbers.links k d inside)) in
      recursion_from_All IsShortPart (parts_of net) (All-append IsShortPart (map part.Point net.points) (map (bound_part net.points) net.bounds ++ map (link_part net.points) net.links) points
      (All-append IsShortPart (map (bound_part net.points) net.bounds) (map (link_part net.points) net.links) bounds links))

  short_delay : (delay : ℕ) → delay ≤ most_delay → AllByRecursion IsShortLine (delay_lines delay)
  short_delay delay few =
      cond_both (delay == 0) [] (delay_words delay ∷ []) (λ (ls : List (List (List ℕ))). AllByRecursion IsShortLine ls) (λ none. tt)
      (λ some. (((omega arith, (short_number delay (omega (arith, few)), tt)), omega arith), tt))

  short_plan : AllByRecursion IsShortLine (plan_words net.delay (parts_of net))
  short_plan = (
    ((omega arith, (omega arith, tt)), omega arith),
    both IsShortLine (delay_lines net.delay) _ (short_delay net.delay plan.short_delay)
        (both IsShortLine (map part_words (parts_of net)) (end_words ∷ []) (short_each part_words IsShortPart (λ one short. short) (parts_of net) short_parts) short_end),
  )

  plan_lines_short : AreShort (lines (printed_plan net))
  unfolding printed_plan
  plan_lines_short = lines_short (plan_words net.delay (parts_of net)) short_plan

  closed_plan : IsClosed (printed_plan net)
  unfolding printed_plan
  closed_plan = closed_printed (plan_words net.delay (parts_of net))

  -- ---- the plan is read
  plan_declared : (plan_texts 0).declares (lines (printed_plan net)) net []
  plan_declared = (declares_network 0 (lines (printed_plan net)) net []).1 (declares_back net plan numbers)

  abbrev pub used : List InputLine
  used = map whole_line (lines (printed_plan net))

  pub plan_divided : input_lines (printed_plan net) ≡ used ++ []
  plan_divided = input_lines_whole (printed_plan net) closed_plan ∙ sym (append-nil used)

  plan_comes : length (printed_plan net) ≤ most_input → ComeAfter (plan_in (in_notation Text)) [] most_input used
  plan_comes fits =
      let size = total_is (printed_plan net) closed_plan in
      let (text, split, come) = come_text plan_reader (record { text = initial_plan; test = record {} }) (plan_texts 0) (plan_by 0) most_line (λ state. refl) (lines (printed_plan net)) net [] most_input plan_declared plan_lines_short
      (omega (arith, size, fits)) in
      let all : text ≡ lines (printed_plan net) = sym (split ∙ append-nil text) in
      come_by (plan_texts 0) (plan_in (in_notation Text)) (λ seen longest wanted. wanted) used [] most_input (subst (λ (ls : List (List ℕ)). ComeAfter (plan_texts 0) [] most_input (map whole_line ls)) all come)

  pub plan_declares : length (printed_plan net) ≤ most_input → DeclaresBy (plan_in (in_notation Text)) used [] net
  plan_declares fits =
      let all : lines (printed_plan net) ≡ texts (used ++ []) = sym (ap (λ (ls : List InputLine). texts ls) (append-nil used) ∙ texts_whole (lines (printed_plan net))) in
      record {
        come = plan_comes fits;
        declared = subst (λ (ls : List (List ℕ)). (plan_in (in_notation Text)).declares ls net []) all (declared_own Text (lines (printed_plan net)) net [] plan_declared);
      }

  -- ---- and a certificate after it
  pub accepted_after_plan : (cert : Certificate) (claim : Claim) → judgement_of (shown_form net) cert ≡ Accepted claim → length (printed_plan net ++ printed_certificate cert) ≤ most_input
      → DefinesJust (judge_program (judge_of (in_notation Text) Control)) (printed_plan net ++ printed_certificate cert) (judgement_line (Accepted claim)) 0
  accepted_after_plan cert claim accepted fits =
      let size = length-append (printed_plan net) (printed_certificate cert) in
      let same : flat_map with_end (texts used) ≡ printed_plan net = ap (λ (ls : List (List ℕ)). flat_map with_end ls) (texts_whole (lines (printed_plan net))) ∙ text_restored (printed_plan net) closed_plan in
      subst (λ (bytes : List ℕ). DefinesJust (judge_program (judge_of (in_notation Text) Control)) (bytes ++ printed_certificate cert) (judgement_line (Accepted claim)) 0) same
      (accepts_it (in_notation Text) (printed_plan net) net used [] plan_divided (plan_declares (omega (arith, size, fits))) cert claim accepted
      (subst (λ (bytes : List ℕ). length (bytes ++ printed_certificate cert) ≤ most_input) (sym same) fits))

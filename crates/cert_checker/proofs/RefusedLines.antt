-- The line at which the lines of a refutation stop.
use Rattle.std.proofs.Common.{◌≡◌, ℕ, ◌+◌, suc, List, [], ◌∷◌, ◌++◌, length, take, Some, Ok, Err, refl, sym, ap, ◌∙◌, arith, append_assoc}
use Rattle.std.specs.Prelude.{slice_get}
use Rattle.std.proofs.lemmas.List.{append-nil, length_push}
use Rattle.net_model.specs.Network.{Plan}
use Rattle.cert_format.specs.declared.line.CertLine.{CertLine}
use Rattle.cert_format.specs.JudgementForms.{◌>>=◌}
use Rattle.cert_checker.specs.Lines.{Passes, line_passes}
use Rattle.cert_checker.specs.Walk.{refusal}
use Rattle.cert_checker.specs.Judgement.{at_number, lines_pass}
use Rattle.cert_checker.specs.declared.judgement.RefusedLine.{RefusedLine}
use Rattle.cert_checker.proofs.LineLoop.{goes_on}

-- the place of the refused line, which is refused by itself, and the lines before it pass
pub record StopsAt (net : Plan) (earlier lines : List CertLine) (refused : RefusedLine) : Type 0 where
  pub count : ℕ
  pub line : CertLine
  pub place : refused.line ≡ length earlier + suc count
  pub here : slice_get lines count ≡ Some line
  pub before : lines_pass net earlier (take count lines) ≡ Ok tt
  pub own : line_passes net (earlier ++ take count lines) line ≡ Err refused.why

later_stop : (net : Plan) (earlier : List CertLine) (line : CertLine) (lines : List CertLine) (refused : RefusedLine) → line_passes net earlier line ≡ Ok tt → StopsAt net (earlier ++ line ∷ []) lines refused
    → StopsAt net earlier (line ∷ lines) refused
later_stop net earlier line lines refused passes s =
    let one_more = length_push earlier line in
    let prefix : earlier ++ line ∷ [] ++ take s.count lines ≡ earlier ++ line ∷ take s.count lines = append_assoc earlier (line ∷ []) (take s.count lines) in
    record {
      count = suc s.count;
      line = s.line;
      place = omega (arith, s.place, one_more);
      here = s.here;
      before = goes_on net earlier line (take s.count lines) passes ∙ s.before;
      own = ap (λ (ls : List CertLine). line_passes net ls s.line) (sym prefix) ∙ s.own;
    }

abbrev IfRefusedStopsAt : Plan → List CertLine → List CertLine → RefusedLine → Type 0
IfRefusedStopsAt net earlier lines refused = lines_pass net earlier lines ≡ Err refused → StopsAt net earlier lines refused

-- a line, which passes or not, and the lines after it are refused
abbrev AreRefused : Plan → (earlier : List CertLine) → CertLine → (lines : List CertLine) → Passes → RefusedLine → Type 0
AreRefused net earlier line lines passes refused = (at_number (length earlier + 1) passes >>= (λ _. lines_pass net (earlier ++ line ∷ []) lines)) ≡ Err refused

stop_by : (net : Plan) (earlier : List CertLine) (line : CertLine) (lines : List CertLine) (refused : RefusedLine) (passes : Passes) → line_passes net earlier line ≡ passes → IfRefusedStopsAt net (earlier ++ line ∷ []) lines refused
    → AreRefused net earlier line lines passes refused → StopsAt net earlier (line ∷ lines) refused
stop_by net earlier line lines refused (Ok passed) is later stops = later_stop net earlier line lines refused is (later stops)
stop_by net earlier line lines refused (Err why) is later stops =
    let same : refusal (length earlier + 1) why ≡ refused = cc in
    let place : length earlier + 1 ≡ refused.line = ap (λ (r : RefusedLine). r.line) same in
    record {
      count = 0;
      line = line;
      place = omega (arith, place);
      here = refl;
      before = refl;
      own = ap (λ (ls : List CertLine). line_passes net ls line) (append-nil earlier) ∙ is ∙ ap (λ (r : RefusedLine). Err r.why) same;
    }

pub stop_is : (net : Plan) (earlier lines : List CertLine) (refused : RefusedLine) → lines_pass net earlier lines ≡ Err refused → StopsAt net earlier lines refused
stop_is net earlier [] refused stops = absurd (cc)
stop_is net earlier (line ∷ lines) refused stops =
    stop_by net earlier line lines refused (line_passes net earlier line) refl (stop_is net (earlier ++ line ∷ []) lines refused) stops

-- How the tests of a table proof end: what is read line by line, and the first item of which a test holds.
use Rattle.std.proofs.Common.{◌≡◌, ℕ, ◌+◌, ◌<◌, zero, suc, Bool, List, [], ◌∷◌, ◌++◌, map, length, take, Option, Some, None, Result, Ok, Err, refl, sym, ap, ◌∙◌, subst, arith, get_or}
use Rattle.std.specs.Prelude.{slice_get, IfSome, IsOk}
use Rattle.std.specs.List.{All, AllByRecursion, position}
use Rattle.std.proofs.lemmas.List.{take_more, map-append, length-map}
use Rattle.std.proofs.lemmas.List.Elements.{All-from_recursion}
use Rattle.std.proofs.lemmas.Option.{slice_get-get_or}
use Rattle.net_model.specs.Network.{Plan, IsPlan, IsPoint}
use Rattle.net_model.specs.declared.ids.PointId.{PointId}
use Rattle.net_model.specs.declared.part.Edge.{Edge}
use Rattle.cert_format.specs.declared.entry.Entry.{Entry}
use Rattle.cert_format.proofs.PassedStepLemmas.{there_ok}
use Rattle.cert_checker.specs.TestOutcomes.{Ends, NoneRefused, RefusesBase, RefusesItem, RefusesOrder, twice, missing}
use Rattle.cert_checker.specs.Sound.{AreSound, IsSoundEdge}
use Rattle.cert_checker.specs.TableRefusals.{IsFirstFault, IsNone, ReadsEach, IsRead, HasBase, IsOrdered, IsRefusedTable, lacks_base, stands_twice, lacks_point, edge_rises, not_closed}
use Rattle.cert_checker.specs.Tables.{entry_passes, has_open_conclusion, point_passes, rises}
use Rattle.cert_checker.specs.Walk.{refusal}
use Rattle.cert_checker.specs.declared.judgement.CertFault.{CertFault}
use Rattle.cert_checker.specs.declared.judgement.CertFault.TheVariants.{NotClosed, OrderBroken}
use Rattle.cert_checker.specs.declared.judgement.RefusedLine.{RefusedLine}
use Rattle.cert_checker.specs.declared.judgement.Failure.{Failure}
use Rattle.cert_checker.specs.declared.judgement.Failure.TheVariants as stop
use Rattle.cert_checker.proofs.ListLemmas.{place_within}
use Rattle.cert_checker.proofs.TableLaw.{entry_sound, point_inside}
use Rattle.cert_checker.proofs.TableRefusalLemmas.{first_holds, none_holds}

-- a stop that is handed on says what follows from its refusal
pub failure_propagates : {A B : Type 0} (s : Failure) (Holds : A → Type 0) (Refuses : RefusedLine → Type 0) (Other : B → Type 0) (ReadsEach : RefusedLine → Type 0) → Ends (Err s) Holds Refuses
    → ((refused : RefusedLine) → Refuses refused → ReadsEach refused) → Ends (Err s) Other ReadsEach
failure_propagates (stop.Refused refused) Holds Refuses Other ReadsEach reported step = step refused reported
failure_propagates stop.OutOfMemory Holds Refuses Other ReadsEach reported step = tt

-- ---- what lines say
module _ {A B : Type 0} (reading : A → Result B CertFault) where
  pub says_next : (lines : List A) (said : List B) (i : ℕ) (d : A) (y : B) → i < length lines → reading (get_or lines i d) ≡ Ok y → ReadsEach reading (take i lines) said → ReadsEach reading (take (i + 1) lines) (said ++ y ∷ [])
  says_next lines said i d y within here says =
      let ok : B → Result B CertFault = λ z. Ok z in
      ap (map reading) (take_more lines i d within)
      ∙ (map-append reading (take i lines) (get_or lines i d ∷ [])
      ∙ (ap (λ (prefix : List (Result B CertFault)). prefix ++ reading (get_or lines i d) ∷ []) says
      ∙ (ap (λ (last : Result B CertFault). map ok said ++ last ∷ []) here
      ∙ sym (map-append ok said (y ∷ [])))))

  says_ok : (lines : List A) (said : List B) → ReadsEach reading lines said → (k : ℕ) (x : A) → slice_get lines k ≡ Some x → IsOk (reading x)
  says_ok [] said says k x at = absurd cc
  says_ok (z ∷ lines) [] says k x at = absurd cc
  says_ok (z ∷ lines) (y ∷ said) says zero x at =
      let same : z ≡ x = cc in
      let first : reading z ≡ Ok y = cc in
      let here : reading x ≡ Ok y = ap reading (sym same) ∙ first in
      subst (λ (r : Result B CertFault). IsOk r) (sym here) refl
  says_ok (z ∷ lines) (y ∷ said) says (suc k) x at = let rest : map reading lines ≡ map (λ z. Ok z) said = cc in says_ok lines said rest k x at

  taken : (lines : List A) (i k : ℕ) (x : A) → k < i → slice_get lines k ≡ Some x → slice_get (take i lines) k ≡ Some x
  taken [] i k x below at = absurd cc
  taken (z ∷ lines) zero k x below at = absurd (omega (arith, below))
  taken (z ∷ lines) (suc i) zero x below at = at
  taken (z ∷ lines) (suc i) (suc k) x below at = taken lines i k x (omega (arith, below)) at

  pub fault_at : (lines : List A) (said : List B) (i : ℕ) (d : A) (why : CertFault) → i < length lines → reading (get_or lines i d) ≡ Err why → ReadsEach reading (take i lines) said → IsFirstFault reading lines i why
  fault_at lines said i d why within here says = record {
    line = get_or lines i d;
    here = slice_get-get_or lines i d within;
    fault = here;
    before = λ other one below at. says_ok (take i lines) said says other one (taken lines i other one below at);
  }

  says_all : (P : B → Type 0) (lines : List A) (said : List B) → ((x : A) (y : B) → reading x ≡ Ok y → P y) → ReadsEach reading lines said → AllByRecursion P said
  says_all P [] [] holds says = tt
  says_all P [] (y ∷ said) holds says = absurd cc
  says_all P (x ∷ lines) [] holds says = absurd cc
  says_all P (x ∷ lines) (y ∷ said) holds says =
      let first : reading x ≡ Ok y = cc in
      let rest : map reading lines ≡ map (λ z. Ok z) said = cc in
      (holds x y first, says_all P lines said holds rest)

  pub says_count : (lines : List A) (said : List B) → ReadsEach reading lines said → length said ≡ length lines
  says_count lines said says =
      let ok : B → Result B CertFault = λ z. Ok z in
      let sizes : length (map reading lines) ≡ length (map ok said) = ap (λ (all : List (Result B CertFault)). length all) says in
      let here = length-map lines reading in
      let there = length-map said ok in
      omega (arith, sizes, here, there)

pub points_inside : (net : Plan) (order : List (List ℕ)) (points : List PointId) → ReadsEach (point_passes net) order points → All (IsPoint net) points
points_inside net order points says =
    All-from_recursion (IsPoint net) points (says_all (point_passes net) (IsPoint net) order points (λ name point passes. point_inside net name point (there_ok _ _ point passes)) says)

pub entries_sound : (net : Plan) (plan : IsPlan net) (entries : List Entry) (edges : List Edge) → ReadsEach (entry_passes net) entries edges → AreSound net edges
entries_sound net plan entries edges says = All-from_recursion (IsSoundEdge net) edges (says_all (entry_passes net) (IsSoundEdge net) entries edges (entry_sound net plan) says)

-- ---- the first that is refused
pub refused_first : (test : Edge → Bool) (first : ℕ) (why : CertFault) (edges : List Edge) (place line : ℕ) → line ≡ first + place → Some place ≡ position test edges → NoneRefused test first why edges (Err (refusal line why))
refused_first test first why edges place line number found =
    let (item, at) = first_holds test edges place (sym found) in
    record { place = place; item = item; is = ap (λ (n : ℕ). refusal n why) number; at = at }

pub none_refused : (test : Edge → Bool) (first : ℕ) (why : CertFault) (edges : List Edge) → None ≡ position test edges → NoneRefused test first why edges (Ok tt)
none_refused test first why edges none = none_holds test edges (sym none)

pub found_within : (test : Edge → Bool) (edges : List Edge) (found : Option ℕ) → found ≡ position test edges → IfSome found (λ place. place < length edges)
found_within test edges None is = tt
found_within test edges (Some k) is = place_within test edges k (sym is)

-- ---- what is refused of a table whose lines are read
module _ (net : Plan) (order : List (List ℕ)) (entries : List Entry) (points : List PointId) (edges : List Edge) where
  abbrev IsRefused : RefusedLine → Type 0
  IsRefused refused = IsRefusedTable net order entries refused.line refused.why

  pub base_refuses : IsRead net order entries points edges → (refused : RefusedLine) → RefusesBase net edges refused → IsRefused refused
  base_refuses reads refused is = subst IsRefused (sym is.is) (lacks_base points edges is.place is.base reads is.at)

  pub order_refuses : HasBase net order entries points edges → (refused : RefusedLine) → RefusesOrder net points refused → IsRefused refused
  order_refuses has refused (twice other again) = subst IsRefused (sym again.is) (stands_twice points edges again.place again.item has again.at)
  order_refuses has refused (missing once lacking) = lacks_point points edges has once lacking

  pub rise_refuses : IsOrdered net order entries points edges → (first : ℕ) → first ≡ length order + 1 → (refused : RefusedLine) → RefusesItem (λ place. rises points) first OrderBroken edges refused → IsRefused refused
  rise_refuses ordered first here refused is =
      subst IsRefused (ap (λ (n : ℕ). refusal (n + is.place) OrderBroken) (sym here) ∙ sym is.is) (edge_rises points edges is.place is.item ordered is.at)

  pub open_refuses : IsOrdered net order entries points edges → IsNone (λ place. rises points) edges → (first : ℕ) → first ≡ length order + 1 → (refused : RefusedLine)
      → RefusesItem (λ place. has_open_conclusion net edges) first NotClosed edges refused → IsRefused refused
  open_refuses ordered descends first here refused is =
      subst IsRefused (ap (λ (n : ℕ). refusal (n + is.place) NotClosed) (sym here) ∙ sym is.is) (not_closed points edges is.place is.item ordered descends is.at)

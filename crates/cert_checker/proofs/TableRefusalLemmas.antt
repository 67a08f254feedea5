-- A refused table proof names the first line that does not pass a test.
use Rattle.std.proofs.Common.{◌≡◌, ℕ, ◌+◌, ◌<◌, zero, suc, Bool, true, false, cond, List, [], ◌∷◌, ◌++◌, map, length, take, Option, Some, None, Result, Ok, Err, refl, sym, ap, ◌∙◌, subst, arith, append_assoc, append-nil, get_or}
use Rattle.std.specs.Prelude.{not, find, nat_lt, slice_get, IsOk}
use Rattle.std.specs.List.{position, position_or_len, list_any}
use Rattle.std.proofs.lemmas.List.{length-map, length_push}
use Rattle.std.proofs.lemmas.Bool.{ltb-false}
use Rattle.std.proofs.lemmas.Option.{slice_get-get_or, slice_get_within, get_or_from_slice_get}
use Rattle.std.proofs.lemmas.List.Quantifiers.{position-Some}
use Rattle.std.proofs.lemmas.List.Sums.{fails_before_first}
use Rattle.net_model.specs.Network.{Plan}
use Rattle.net_model.specs.declared.ids.PointId.{PointId}
use Rattle.net_model.specs.declared.part.Edge.{Edge}
use Rattle.strategy_model.specs.Plays.{same_point}
use Rattle.cert_format.specs.declared.entry.Entry.{Entry}
use Rattle.cert_format.specs.JudgementForms.{◌>>=◌, unless}
use Rattle.cert_checker.specs.Walk.{WalkPasses, refusal}
use Rattle.cert_checker.specs.Tables.{at_line, base_of, edges_pass, entry_passes, is_complete, is_missing, has_open_conclusion, none_missing, none_refused, ordered_passes, placed_passes, point_passes, read_each, refused_at, rises}
use Rattle.cert_checker.specs.Tables.{stand_once, table_passes}
use Rattle.cert_checker.specs.TestOutcomes.{RefusesLine}
use Rattle.cert_checker.specs.TableRefusals.{IsFirst, IsNone, ReadsEach, stands_before, IsRead, HasBase, IsOrdered, IsRefusedTable, line_of_order, line_of_entry, lacks_base, stands_twice, lacks_point, edge_rises, not_closed}
use Rattle.cert_checker.specs.Laws.{TablesAreRefusedAtTheFirstLine}
use Rattle.cert_checker.specs.Judgement.{judged}
use Rattle.cert_checker.specs.declared.base.Base.{Base}
use Rattle.cert_checker.specs.declared.judgement.CertFault.{CertFault}
use Rattle.cert_checker.specs.declared.judgement.CertFault.TheVariants.{NotClosed, OrderBroken}
use Rattle.cert_checker.specs.declared.judgement.Claim.TheVariants.{Controllable}
use Rattle.cert_checker.specs.declared.judgement.Judgement.TheVariants.{Refused}
use Rattle.cert_checker.specs.declared.judgement.RefusedLine.{RefusedLine}

-- ---- what each line says
module _ {A B : Type 0} (reading : A → Result B CertFault) where
  abbrev pub said_then : ℕ → Result B CertFault → Result (List B) RefusedLine → Result (List B) RefusedLine
  said_then line one rest = at_line line one >>= (λ first. rest >>= (λ others. Ok (first ∷ others)))

  says_each : (line : ℕ) (lines : List A) (said : List B) → read_each reading line lines ≡ Ok said → ReadsEach reading lines said
  says_each line [] said is = let same : [] ≡ said = cc in ap (map Ok) same
  says_each line (x ∷ xs) said is = by (says_each (line + 1) xs) (reading x) refl (read_each reading (line + 1) xs) refl is
    where
      by : ((others : List B) → read_each reading (line + 1) xs ≡ Ok others → ReadsEach reading xs others) → (one : Result B CertFault) → reading x ≡ one → (rest : Result (List B) RefusedLine) → read_each reading (line + 1) xs ≡ rest
          → said_then line one rest ≡ Ok said
          → ReadsEach reading (x ∷ xs) said
      by later (Ok first) here (Ok others) there is =
          let same : first ∷ others ≡ said = cc in
          let tail : map reading xs ≡ map Ok others = later others there in
          subst (ReadsEach reading (x ∷ xs)) same cc
      by later (Ok first) here (Err refused) there is = absurd cc
      by later (Err why) here rest there is = absurd cc

  stops_each : (line : ℕ) (lines : List A) (refused : RefusedLine) → read_each reading line lines ≡ Err refused → RefusesLine reading line lines refused
  stops_each line [] refused is = absurd cc
  stops_each line (x ∷ xs) refused is = by (stops_each (line + 1) xs refused) (reading x) refl (read_each reading (line + 1) xs) refl is
    where
      by : (read_each reading (line + 1) xs ≡ Err refused → RefusesLine reading (line + 1) xs refused) → (one : Result B CertFault) → reading x ≡ one → (rest : Result (List B) RefusedLine) → read_each reading (line + 1) xs ≡ rest
          → said_then line one rest ≡ Err refused
          → RefusesLine reading line (x ∷ xs) refused
      by later (Ok first) here (Ok others) there is = absurd cc
      by later (Ok first) here (Err other) there is =
          let same : other ≡ refused = cc in
          let stop = later (there ∙ ap (λ (r : RefusedLine). Err r) same) in
          record {
            place = suc stop.place;
            number = omega (arith, stop.number);
            fault = record { line = stop.fault.line; here = stop.fault.here; fault = stop.fault.fault; before = before stop };
          }
        where
          before : (stop : RefusesLine reading (line + 1) xs refused) (other : ℕ) (one : A) → other < suc stop.place → slice_get (x ∷ xs) other ≡ Some one → IsOk (reading one)
          before stop zero one below at = let same : x ≡ one = cc in subst (λ (y : A). IsOk (reading y)) same (subst (λ (r : Result B CertFault). IsOk r) (sym here) refl)
          before stop (suc other) one below at = stop.fault.before other one (omega (arith, below)) at
      by later (Err why) here rest there is =
          let same : refusal line why ≡ refused = refused_first rest is in
          let cause : why ≡ refused.why = ap (λ (r : RefusedLine). r.why) same in
          let number : line ≡ refused.line = ap (λ (r : RefusedLine). r.line) same in
          record {
            place = 0;
            number = omega (arith, number);
            fault = record { line = x; here = refl; fault = here ∙ ap (λ (w : CertFault). Err w) cause; before = λ other one below at. absurd (omega (arith, below)) };
          }
        where
          refused_first : (rest : Result (List B) RefusedLine) → said_then line (Err why) rest ≡ Err refused → refusal line why ≡ refused
          refused_first rest is = cc

-- ---- the first of which a test holds
module _ {A : Type 0} (test : A → Bool) where
  pub first_holds : (items : List A) (place : ℕ) → position test items ≡ Some place → (item : A) × IsFirst (λ p. test) items place item
  first_holds [] place is = absurd cc
  first_holds (x ∷ xs) place is =
      let (within, holds, before) = position-Some test (x ∷ xs) place x is in (
        get_or (x ∷ xs) place x,
        record {
          here = slice_get-get_or (x ∷ xs) place x within;
          holds = holds;
          before = λ other one below at. ap test (sym (get_or_from_slice_get (x ∷ xs) other one x at)) ∙ before other below;
        },
      )

  pub none_holds : (items : List A) → position test items ≡ None → IsNone (λ p. test) items
  none_holds items is place item at = by (nat_lt (position_or_len test items) (length items)) refl is
    where
      by : (b : Bool) → nat_lt (position_or_len test items) (length items) ≡ b → cond b (Some (position_or_len test items)) None ≡ None → test item ≡ false
      by true under is = absurd cc
      by false under is =
          let within : place < length items = slice_get_within items place item at in
          let over = ltb-false (position_or_len test items) (length items) under in
          ap test (sym (get_or_from_slice_get items place item item at)) ∙ fails_before_first test items place item (omega (arith, over, within))

  refused_first : (line : ℕ) (why : CertFault) (items : List A) (refused : RefusedLine) → none_refused line why test items ≡ Err refused
      → (place : ℕ) × (item : A) × (refusal (line + place) why ≡ refused) × IsFirst (λ p. test) items place item
  refused_first line why items refused is = by (position test items) refl is
    where
      by : (o : Option ℕ) → position test items ≡ o → refused_at line why o ≡ Err refused → (place : ℕ) × (item : A) × (refusal (line + place) why ≡ refused) × IsFirst (λ p. test) items place item
      by None at is = absurd cc
      by (Some place) at is = let (item, first) = first_holds items place at in (place, item, cc, first)

  refused_none : (line : ℕ) (why : CertFault) (items : List A) → none_refused line why test items ≡ Ok tt → IsNone (λ p. test) items
  refused_none line why items is = by (position test items) refl is
    where
      by : (o : Option ℕ) → position test items ≡ o → refused_at line why o ≡ Ok tt → IsNone (λ p. test) items
      by None at is = none_holds items at
      by (Some place) at is = absurd cc

  found_first : (items : List A) (item : A) → find test items ≡ Some item → (place : ℕ) × IsFirst (λ p. test) items place item
  found_first [] item is = absurd cc
  found_first (x ∷ xs) item is = by (found_first xs item) (test x) refl is
    where
      by : (find test xs ≡ Some item → (place : ℕ) × IsFirst (λ p. test) xs place item) → (b : Bool) → test x ≡ b → cond b (Some x) (find test xs) ≡ Some item → (place : ℕ) × IsFirst (λ p. test) (x ∷ xs) place item
      by later true here is = let same : x ≡ item = cc in (0, record { here = ap Some same; holds = ap test (sym same) ∙ here; before = λ other one below at. absurd (omega (arith, below)) })
      by later false here is = let (place, first) = later is in (suc place, record { here = first.here; holds = first.holds; before = before place first })
        where
          before : (place : ℕ) → IsFirst (λ p. test) xs place item → (other : ℕ) (one : A) → other < suc place → slice_get (x ∷ xs) other ≡ Some one → test one ≡ false
          before place first zero one below at = let same : x ≡ one = cc in ap test (sym same) ∙ here
          before place first (suc other) one below at = first.before other one (omega (arith, below)) at

  found_none : (items : List A) → find test items ≡ None → IsNone (λ p. test) items
  found_none [] is place item at = absurd cc
  found_none (x ∷ xs) is place item at = by (found_none xs) (test x) refl is place at
    where
      by : (find test xs ≡ None → IsNone (λ p. test) xs) → (b : Bool) → test x ≡ b → cond b (Some x) (find test xs) ≡ None → (place : ℕ) → slice_get (x ∷ xs) place ≡ Some item → test item ≡ false
      by later true here is place at = absurd cc
      by later false here is zero at = let same : x ≡ item = cc in ap test (sym same) ∙ here
      by later false here is (suc place) at = later is place item at

-- ---- the order
abbrev pub stands_in : List PointId → PointId → Bool
stands_in points point = list_any (same_point point) points

-- the first point that stands before it, if these come before them all
record TwiceAt (earlier points : List PointId) (refused : RefusedLine) : Type 0 where
  pub place : ℕ
  pub point : PointId
  pub is : refusal (length earlier + 1 + place) OrderBroken ≡ refused
  pub first : IsFirst (λ p. stands_in (earlier ++ take p points)) points place point

twice_at : (earlier points : List PointId) (refused : RefusedLine) → stand_once earlier points ≡ Err refused → TwiceAt earlier points refused
twice_at earlier [] refused is = absurd cc
twice_at earlier (x ∷ xs) refused is = by (twice_at (earlier ++ x ∷ []) xs refused) (stands_in earlier x) refl is
  where
    none_more : length earlier + 1 + 0 ≡ length earlier + 1
    none_more = omega arith

    none_before : stands_in (earlier ++ []) x ≡ stands_in earlier x
    none_before = ap (λ (ps : List PointId). stands_in ps x) (append-nil earlier)

    by : (stand_once (earlier ++ x ∷ []) xs ≡ Err refused → TwiceAt (earlier ++ x ∷ []) xs refused) → (b : Bool) → stands_in earlier x ≡ b
        → (unless (not b) (refusal (length earlier + 1) OrderBroken) >>= (λ once. stand_once (earlier ++ x ∷ []) xs)) ≡ Err refused → TwiceAt earlier (x ∷ xs) refused
    by goes_on true here is =
        let same : refusal (length earlier + 1) OrderBroken ≡ refused = cc in
        record { place = 0; point = x; is = ap (λ (n : ℕ). refusal n OrderBroken) none_more ∙ same; first = record { here = refl; holds = none_before ∙ here; before = λ other one below at. absurd (omega (arith, below)) } }
    by goes_on false here is = later (goes_on is)
      where
        later : TwiceAt (earlier ++ x ∷ []) xs refused → TwiceAt earlier (x ∷ xs) refused
        later one = record {
          place = suc one.place;
          point = one.point;
          is = ap (λ (n : ℕ). refusal n OrderBroken) (let pushed = length_push earlier x in omega (arith, pushed)) ∙ one.is;
          first = record {
            here = one.first.here;
            holds = ap (λ (ps : List PointId). stands_in ps one.point) (sym (append_assoc earlier (x ∷ []) (take one.place xs))) ∙ one.first.holds;
            before = before;
          };
        }
          where
            before : (other : ℕ) (p : PointId) → other < suc one.place → slice_get (x ∷ xs) other ≡ Some p → stands_in (earlier ++ take other (x ∷ xs)) p ≡ false
            before zero p below at = let same : x ≡ p = cc in ap (stands_in (earlier ++ [])) (sym same) ∙ (none_before ∙ here)
            before (suc other) p below at = ap (λ (ps : List PointId). stands_in ps p) (sym (append_assoc earlier (x ∷ []) (take other xs))) ∙ one.first.before other p (omega (arith, below)) at

once_each : (earlier points : List PointId) → stand_once earlier points ≡ Ok tt → IsNone (λ p. stands_in (earlier ++ take p points)) points
once_each earlier [] is place item at = absurd cc
once_each earlier (x ∷ xs) is place item at = by (once_each (earlier ++ x ∷ []) xs) (stands_in earlier x) refl is place at
  where
    by : (stand_once (earlier ++ x ∷ []) xs ≡ Ok tt → IsNone (λ p. stands_in ((earlier ++ x ∷ []) ++ take p xs)) xs) → (b : Bool) → stands_in earlier x ≡ b
        → (unless (not b) (refusal (length earlier + 1) OrderBroken) >>= (λ once. stand_once (earlier ++ x ∷ []) xs)) ≡ Ok tt
        → (place : ℕ) → slice_get (x ∷ xs) place ≡ Some item → stands_in (earlier ++ take place (x ∷ xs)) item ≡ false
    by goes_on true here is place at = absurd cc
    by goes_on false here is zero at =
        let same : x ≡ item = cc in ap (stands_in (earlier ++ [])) (sym same) ∙ (ap (λ (ps : List PointId). stands_in ps x) (append-nil earlier) ∙ here)
    by goes_on false here is (suc place) at = ap (λ (ps : List PointId). stands_in ps item) (sym (append_assoc earlier (x ∷ []) (take place xs))) ∙ goes_on is place item at

-- ---- all together
module _ (net : Plan) (order : List (List ℕ)) (entries : List Entry) where
  abbrev IsRefused : RefusedLine → Type 0
  IsRefused refused = IsRefusedTable net order entries refused.line refused.why

  as_refused : (line : ℕ) (why : CertFault) (refused : RefusedLine) → refusal line why ≡ refused → IsRefusedTable net order entries line why → IsRefused refused
  as_refused line why refused same one = subst IsRefused same one

  module _ (points : List PointId) (edges : List Edge) where
    counted : IsRead net order entries points edges → length points ≡ length order
    counted one =
        let ok : PointId → Result PointId CertFault = λ p. Ok p in
        let sizes : length (map (point_passes net) order) ≡ length (map ok points) = ap (λ (said : List (Result PointId CertFault)). length said) one.order_says in
        let here = length-map order (point_passes net) in
        let there = length-map points ok in
        omega (arith, sizes, here, there)

    closing : (refused : RefusedLine) → IsOrdered net order entries points edges → IsNone (λ p. rises points) edges → none_refused (length points + 1) NotClosed (has_open_conclusion net edges) edges ≡ Err refused → IsRefused refused
    closing refused ordered descends is =
        let (place, edge, same, first) = refused_first (has_open_conclusion net edges) (length points + 1) NotClosed edges refused is in
        as_refused (length order + 1 + place) NotClosed refused (ap (λ (n : ℕ). refusal (n + 1 + place) NotClosed) (sym (counted ordered.has_base.is_read)) ∙ same) (not_closed points edges place edge ordered descends first)

    descending : (refused : RefusedLine) → IsOrdered net order entries points edges → (descends : WalkPasses) → none_refused (length points + 1) OrderBroken (rises points) edges ≡ descends
        → (descends >>= (λ w. none_refused (length points + 1) NotClosed (has_open_conclusion net edges) edges)) ≡ Err refused → IsRefused refused
    descending refused ordered (Ok w) said is = closing refused ordered (refused_none (rises points) (length points + 1) OrderBroken edges said) is
    descending refused ordered (Err r) said is =
        let (place, edge, same, first) = refused_first (rises points) (length points + 1) OrderBroken edges r said in
        let reported : r ≡ refused = cc in
        as_refused (length order + 1 + place) OrderBroken refused (ap (λ (n : ℕ). refusal (n + 1 + place) OrderBroken) (sym (counted ordered.has_base.is_read)) ∙ (same ∙ reported)) (edge_rises points edges place edge ordered first)

    complete_then : (refused : RefusedLine) → HasBase net order entries points edges → IsNone (stands_before points) points → (b : Bool) → is_complete net points ≡ b
        → ((unless b (refusal 0 OrderBroken) >>= (λ w. none_refused (length points + 1) OrderBroken (rises points) edges)) >>= (λ w. none_refused (length points + 1) NotClosed (has_open_conclusion net edges) edges)) ≡ Err refused
        → IsRefused refused
    complete_then refused base once true complete is = descending refused (record { has_base = base; once = once; complete = complete }) (none_refused (length points + 1) OrderBroken (rises points) edges) refl is
    complete_then refused base once false complete is =
        let reported : refusal 0 OrderBroken ≡ refused = cc in
        as_refused 0 OrderBroken refused reported (lacks_point points edges base once complete)

    once_then : (refused : RefusedLine) → HasBase net order entries points edges → (once : WalkPasses) → stand_once [] points ≡ once
        → ((once >>= (λ w. placed_passes net points edges)) >>= (λ w. none_refused (length points + 1) NotClosed (has_open_conclusion net edges) edges)) ≡ Err refused → IsRefused refused
    once_then refused base (Ok w) said is = complete_then refused base (once_each [] points said) (is_complete net points) refl is
    once_then refused base (Err r) said is =
        let one = twice_at [] points r said in
        let reported : r ≡ refused = cc in
        as_refused (1 + one.place) OrderBroken refused (one.is ∙ reported) (stands_twice points edges one.place one.point base one.first)

    base_then : (refused : RefusedLine) → IsRead net order entries points edges → (found : Option Base) → find (is_missing edges) (base_of net) ≡ found
        → (none_missing found >>= (λ w. ordered_passes net points edges)) ≡ Err refused → IsRefused refused
    base_then refused reads None found is = once_then refused (record { is_read = reads; base = found_none (is_missing edges) (base_of net) found }) (stand_once [] points) refl is
    base_then refused reads (Some base) found is =
        let (place, first) = found_first (is_missing edges) (base_of net) base found in
        let reported : refusal 0 base.missing ≡ refused = cc in
        as_refused 0 base.missing refused reported (lacks_base points edges place base reads first)

  entries_then : (refused : RefusedLine) (points : List PointId) → ReadsEach (point_passes net) order points → (said : Result (List Edge) RefusedLine) → read_each (entry_passes net) (length order + 1) entries ≡ said
      → (said >>= (λ edges. edges_pass net points edges)) ≡ Err refused → IsRefused refused
  entries_then refused points says (Ok edges) said is =
      base_then points edges refused (record { order_says = says; entries_say = says_each (entry_passes net) (length order + 1) entries edges said }) (find (is_missing edges) (base_of net)) refl is
  entries_then refused points says (Err r) said is =
      let reported : r ≡ refused = cc in
      let stop = stops_each (entry_passes net) (length order + 1) entries r said in
      subst IsRefused reported (subst (λ (n : ℕ). IsRefusedTable net order entries n r.why) (sym stop.number) (line_of_entry points stop.place r.why says stop.fault))

  order_then : (refused : RefusedLine) (said : Result (List PointId) RefusedLine) → read_each (point_passes net) 1 order ≡ said
      → (said >>= (λ points. read_each (entry_passes net) (length order + 1) entries >>= (λ edges. edges_pass net points edges))) ≡ Err refused → IsRefused refused
  order_then refused (Ok points) said is = entries_then refused points (says_each (point_passes net) 1 order points said) (read_each (entry_passes net) (length order + 1) entries) refl is
  order_then refused (Err r) said is =
      let reported : r ≡ refused = cc in
      let stop = stops_each (point_passes net) 1 order r said in
      subst IsRefused reported (subst (λ (n : ℕ). IsRefusedTable net order entries n r.why) (sym stop.number) (line_of_order stop.place r.why stop.fault))

  table_refused : (refused : RefusedLine) → table_passes net order entries ≡ Err refused → IsRefused refused
  unfolding table_passes
  table_refused refused is = order_then refused (read_each (point_passes net) 1 order) refl is

  judged_refused : (passes : WalkPasses) → table_passes net order entries ≡ passes → (number : ℕ) (why : CertFault) → judged Controllable passes ≡ Refused number why → IsRefusedTable net order entries number why
  judged_refused (Ok w) is number why refused = absurd cc
  judged_refused (Err r) is number why refused =
      let line : r.line ≡ number = cc in
      let cause : r.why ≡ why = cc in
      subst (λ (n : ℕ). IsRefusedTable net order entries n why) line (subst (λ (w : CertFault). IsRefusedTable net order entries r.line w) cause (table_refused r is))

pub refused_at_the_first_line : TablesAreRefusedAtTheFirstLine
refused_at_the_first_line = λ net order entries number why refused. judged_refused net order entries (table_passes net order entries) refl number why refused

-- What is said of a table proof in the words of its tests is what its judgement says.
use Rattle.std.proofs.Common.{◌≡◌, ℕ, ◌+◌, zero, suc, Bool, true, false, cond, List, [], ◌∷◌, ◌++◌, map, length, take, Option, Some, None, Result, Ok, Err, refl, sym, ap, ◌∙◌, arith, append_assoc, append-nil, get_or}
use Rattle.std.specs.Prelude.{not, nat_lt, IsOk}
use Rattle.std.specs.List.{position, position_or_len}
use Rattle.std.proofs.lemmas.List.{length_push}
use Rattle.std.proofs.lemmas.Bool.{lt-ltb}
use Rattle.std.proofs.lemmas.List.Sums.{position_or_len_is}
use Rattle.std.proofs.lemmas.Option.{same_Some, slice_get_within, slice_get-get_or, get_or_from_slice_get}
use Rattle.net_model.specs.Network.{Plan}
use Rattle.net_model.proofs.Positions.{None_from_fails}
use Rattle.net_model.specs.declared.ids.PointId.{PointId}
use Rattle.net_model.specs.declared.part.Edge.{Edge}
use Rattle.cert_format.specs.declared.entry.Entry.{Entry}
use Rattle.cert_format.specs.declared.certificate.Certificate.TheVariants.{TableProof}
use Rattle.cert_format.specs.JudgementForms.{◌>>=◌, unless}
use Rattle.cert_checker.specs.TestOutcomes.{IsAcceptedTable, JudgesTable}
use Rattle.cert_checker.specs.Judgement.{judged, judgement_of}
use Rattle.cert_checker.specs.TableRefusals.{IsFirst, IsNone, IsFirstFault, ReadsEach, IsRead, HasBase, IsOrdered, IsRefusedTable, line_of_order, line_of_entry, lacks_base, stands_twice, lacks_point, edge_rises, not_closed}
use Rattle.cert_checker.specs.Tables.{base_of, edges_pass, entry_passes, is_missing, has_open_conclusion, none_missing, none_refused, ordered_passes, placed_passes, point_passes, read_each, refused_at, rises, stand_once, table_passes}
use Rattle.cert_checker.specs.Walk.{WalkPasses, refusal}
use Rattle.cert_checker.specs.declared.base.Base.{Base}
use Rattle.cert_checker.specs.declared.judgement.CertFault.{CertFault}
use Rattle.cert_checker.specs.declared.judgement.CertFault.TheVariants.{NotClosed, OrderBroken}
use Rattle.cert_checker.specs.declared.judgement.Claim.{Claim}
use Rattle.cert_checker.specs.declared.judgement.Claim.TheVariants.{Controllable}
use Rattle.cert_checker.specs.declared.judgement.Judgement.{Judgement}
use Rattle.cert_checker.specs.declared.judgement.Judgement.TheVariants.{Accepted, Refused}
use Rattle.cert_checker.specs.declared.judgement.RefusedLine.{RefusedLine}
use Rattle.cert_checker.proofs.TestOutcomeLemmas.{says_count}
use Rattle.cert_checker.proofs.ListLemmas.{found_at, found_nowhere}
use Rattle.cert_checker.proofs.TableRefusalLemmas.{said_then, stands_in}

-- ---- what each line says
module _ {A B : Type 0} (reading : A → Result B CertFault) where
  read_said : (line : ℕ) (lines : List A) (said : List B) → ReadsEach reading lines said → read_each reading line lines ≡ Ok said
  read_said line [] [] says = refl
  read_said line [] (y ∷ said) says = absurd cc
  read_said line (x ∷ lines) [] says = absurd cc
  read_said line (x ∷ lines) (y ∷ said) says =
      let first : reading x ≡ Ok y = cc in
      let rest : map reading lines ≡ map (λ z. Ok z) said = cc in
      ap (λ (r : Result B CertFault). said_then reading line r (read_each reading (line + 1) lines)) first ∙ ap (said_then reading line (Ok y)) (read_said (line + 1) lines said rest)

  read_refused : (line : ℕ) (lines : List A) (place : ℕ) (why : CertFault) → IsFirstFault reading lines place why → read_each reading line lines ≡ Err (refusal (line + place) why)
  read_refused line [] place why fault = let at : None ≡ Some fault.line = fault.here in absurd cc
  read_refused line (x ∷ lines) zero why fault =
      let same : x ≡ fault.line = same_Some x fault.line fault.here in
      let here : reading x ≡ Err why = ap reading same ∙ fault.fault in
      ap (λ (r : Result B CertFault). said_then reading line r (read_each reading (line + 1) lines)) here ∙ ap (λ (n : ℕ). Err (refusal n why)) (let e : line ≡ line + 0 = omega arith in e)
  read_refused line (x ∷ lines) (suc place) why fault =
      let beyond : IsFirstFault reading lines place why = record { line = fault.line; here = fault.here; fault = fault.fault; before = λ other one below at. fault.before (suc other) one (omega (arith, below)) at } in
      by (read_refused (line + 1) lines place why beyond) (reading x) refl (fault.before 0 x (omega arith) refl)
    where
      by : read_each reading (line + 1) lines ≡ Err (refusal (line + 1 + place) why) → (r : Result B CertFault) → reading x ≡ r → IsOk r → read_each reading line (x ∷ lines) ≡ Err (refusal (line + suc place) why)
      by rest (Ok y) is ok =
          ap (λ (r : Result B CertFault). said_then reading line r (read_each reading (line + 1) lines)) is
          ∙ (ap (said_then reading line (Ok y)) rest ∙ ap (λ (n : ℕ). Err (refusal n why)) (let e : line + 1 + place ≡ line + suc place = omega arith in e))
      by rest (Err other) is ok = absurd cc

-- ---- the first of which a test holds
module _ {A : Type 0} (test : A → Bool) where
  place_of_first : (items : List A) (place : ℕ) (item : A) → IsFirst (λ p. test) items place item → position test items ≡ Some place
  place_of_first items place item first =
      let within = slice_get_within items place item first.here in
      let here : get_or items place item ≡ item = get_or_from_slice_get items place item item first.here in
      let count : position_or_len test items ≡ place = position_or_len_is test items place item (omega (arith, within)) (λ k below. first.before k (get_or items k item) below (slice_get-get_or items k item (omega (arith, below, within))))
      (λ inside. ap test here ∙ first.holds) in
      ap (λ (n : ℕ). cond (nat_lt n (length items)) (Some n) None) count ∙ ap (λ (b : Bool). cond b (Some place) None) (lt-ltb place (length items) within)

  no_place : (items : List A) → IsNone (λ p. test) items → position test items ≡ None
  no_place items none = None_from_fails test items (λ k d within. none k (get_or items k d) (slice_get-get_or items k d within))

  refused_first : (line : ℕ) (why : CertFault) (items : List A) (place : ℕ) (item : A) → IsFirst (λ p. test) items place item → none_refused line why test items ≡ Err (refusal (line + place) why)
  refused_first line why items place item first = ap (refused_at line why) (place_of_first items place item first)

  refused_none : (line : ℕ) (why : CertFault) (items : List A) → IsNone (λ p. test) items → none_refused line why test items ≡ Ok tt
  refused_none line why items none = ap (refused_at line why) (no_place items none)

-- ---- the order
abbrev once_then : List PointId → PointId → List PointId → Bool → WalkPasses
once_then earlier x xs stood = unless (not stood) (refusal (length earlier + 1) OrderBroken) >>= (λ once. stand_once (earlier ++ x ∷ []) xs)

-- what holds of a list, seen from its second point on
later : (earlier : List PointId) (x : PointId) (xs : List PointId) (place : ℕ) (b : Bool) (p : PointId) → stands_in (earlier ++ take (suc place) (x ∷ xs)) p ≡ b → stands_in ((earlier ++ x ∷ []) ++ take place xs) p ≡ b
later earlier x xs place b p is = ap (λ (ps : List PointId). stands_in ps p) (append_assoc earlier (x ∷ []) (take place xs)) ∙ is

first_of : (earlier : List PointId) (x : PointId) (b : Bool) → stands_in (earlier ++ []) x ≡ b → stands_in earlier x ≡ b
first_of earlier x b is = ap (λ (ps : List PointId). stands_in ps x) (sym (append-nil earlier)) ∙ is

stand_none : (earlier points : List PointId) → IsNone (λ p. stands_in (earlier ++ take p points)) points → stand_once earlier points ≡ Ok tt
stand_none earlier [] none = refl
stand_none earlier (x ∷ xs) none =
    ap (once_then earlier x xs) (first_of earlier x false (none 0 x refl))
    ∙ stand_none (earlier ++ x ∷ []) xs (λ place item at. later earlier x xs place false item (none (suc place) item at))

stand_twice : (earlier points : List PointId) (place : ℕ) (point : PointId) → IsFirst (λ p. stands_in (earlier ++ take p points)) points place point → stand_once earlier points ≡ Err (refusal (length earlier + 1 + place) OrderBroken)
stand_twice earlier [] place point first = let at : None ≡ Some point = first.here in absurd cc
stand_twice earlier (x ∷ xs) zero point first =
    let same : x ≡ point = same_Some x point first.here in
    ap (once_then earlier x xs) (first_of earlier x true (ap (stands_in (earlier ++ [])) same ∙ first.holds))
    ∙ ap (λ (n : ℕ). Err (refusal n OrderBroken)) (let e : length earlier + 1 ≡ length earlier + 1 + 0 = omega arith in e)
stand_twice earlier (x ∷ xs) (suc place) point first =
    ap (once_then earlier x xs) (first_of earlier x false (first.before 0 x (omega arith) refl))
    ∙ (stand_twice (earlier ++ x ∷ []) xs place point (record {
      here = first.here;
      holds = later earlier x xs place true point first.holds;
      before = λ other one below at. later earlier x xs other false one (first.before (suc other) one (omega (arith, below)) at);
    })
    ∙ ap (λ (n : ℕ). Err (refusal n OrderBroken)) (let pushed = length_push earlier x in omega (arith, pushed)))

-- ---- all together
module _ (net : Plan) (order : List (List ℕ)) (entries : List Entry) where
  read_then : (points : List PointId) (edges : List Edge) → IsRead net order entries points edges → table_passes net order entries ≡ edges_pass net points edges
  unfolding table_passes
  read_then points edges reads =
      ap (λ (r : Result (List PointId) RefusedLine). r >>= (λ ps. read_each (entry_passes net) (length order + 1) entries >>= (λ es. edges_pass net ps es))) (read_said (point_passes net) 1 order points reads.order_says)
      ∙ ap (λ (r : Result (List Edge) RefusedLine). r >>= (λ es. edges_pass net points es)) (read_said (entry_passes net) (length order + 1) entries edges reads.entries_say)

  order_is_refused : (place : ℕ) (why : CertFault) → IsFirstFault (point_passes net) order place why → table_passes net order entries ≡ Err (refusal (1 + place) why)
  unfolding table_passes
  order_is_refused place why fault =
      ap (λ (r : Result (List PointId) RefusedLine). r >>= (λ ps. read_each (entry_passes net) (length order + 1) entries >>= (λ es. edges_pass net ps es))) (read_refused (point_passes net) 1 order place why fault)

  entries_are_refused : (points : List PointId) (place : ℕ) (why : CertFault) → ReadsEach (point_passes net) order points → IsFirstFault (entry_passes net) entries place why
      → table_passes net order entries ≡ Err (refusal (length order + 1 + place) why)
  unfolding table_passes
  entries_are_refused points place why says fault =
      ap (λ (r : Result (List PointId) RefusedLine). r >>= (λ ps. read_each (entry_passes net) (length order + 1) entries >>= (λ es. edges_pass net ps es))) (read_said (point_passes net) 1 order points says)
      ∙ ap (λ (r : Result (List Edge) RefusedLine). r >>= (λ es. edges_pass net points es)) (read_refused (entry_passes net) (length order + 1) entries place why fault)

  module _ (points : List PointId) (edges : List Edge) where
    abbrev closing : WalkPasses
    closing = none_refused (length points + 1) NotClosed (has_open_conclusion net edges) edges

    based_then : HasBase net order entries points edges → table_passes net order entries ≡ ordered_passes net points edges
    based_then has = read_then points edges has.is_read ∙ ap (λ (found : Option Base). none_missing found >>= (λ w. ordered_passes net points edges))
        (found_nowhere (is_missing edges) (base_of net) (no_place (is_missing edges) (base_of net) has.base))

    ordered_then : IsOrdered net order entries points edges → table_passes net order entries ≡ (none_refused (length points + 1) OrderBroken (rises points) edges >>= (λ w. closing))
    ordered_then is =
        based_then is.has_base
        ∙ (ap (λ (once : WalkPasses). (once >>= (λ w. placed_passes net points edges)) >>= (λ w. closing)) (stand_none [] points is.once)
        ∙ ap (λ (b : Bool). (unless b (refusal 0 OrderBroken) >>= (λ w. none_refused (length points + 1) OrderBroken (rises points) edges)) >>= (λ w. closing)) is.complete)

    descending_then : IsOrdered net order entries points edges → IsNone (λ place. rises points) edges → table_passes net order entries ≡ closing
    descending_then is descends = ordered_then is ∙ ap (λ (p : WalkPasses). p >>= (λ w. closing)) (refused_none (rises points) (length points + 1) OrderBroken edges descends)

    -- the line of an entry
    at_entry : HasBase net order entries points edges → (place : ℕ) (why : CertFault) → refusal (length points + 1 + place) why ≡ refusal (length order + 1 + place) why
    at_entry has place why = ap (λ (n : ℕ). refusal (n + 1 + place) why) (says_count (point_passes net) order points has.is_read.order_says)

  refused_so : (line : ℕ) (why : CertFault) → IsRefusedTable net order entries line why → table_passes net order entries ≡ Err (refusal line why)
  refused_so line why (line_of_order place cause fault) = order_is_refused place cause fault
  refused_so line why (line_of_entry points place cause says fault) = entries_are_refused points place cause says fault
  refused_so line why (lacks_base points edges place base reads first) =
      read_then points edges reads
      ∙ ap (λ (found : Option Base). none_missing found >>= (λ w. ordered_passes net points edges)) (found_at (is_missing edges) (base_of net) place (place_of_first (is_missing edges) (base_of net) place base first) ∙ first.here)
  refused_so line why (stands_twice points edges place point has first) =
      based_then points edges has
      ∙ ap (λ (once : WalkPasses). (once >>= (λ w. placed_passes net points edges)) >>= (λ w. closing points edges)) (stand_twice [] points place point first)
  refused_so line why (lacks_point points edges has once lacking) =
      based_then points edges has
      ∙ (ap (λ (o : WalkPasses). (o >>= (λ w. placed_passes net points edges)) >>= (λ w. closing points edges)) (stand_none [] points once)
      ∙ ap (λ (b : Bool). (unless b (refusal 0 OrderBroken) >>= (λ w. none_refused (length points + 1) OrderBroken (rises points) edges)) >>= (λ w. closing points edges)) lacking)
  refused_so line why (edge_rises points edges place edge is first) =
      ordered_then points edges is
      ∙ (ap (λ (p : WalkPasses). p >>= (λ w. closing points edges)) (refused_first (rises points) (length points + 1) OrderBroken edges place edge first)
      ∙ ap (λ (r : RefusedLine). Err r) (at_entry points edges is.has_base place OrderBroken))
  refused_so line why (not_closed points edges place edge is descends first) =
      descending_then points edges is descends
      ∙ (refused_first (has_open_conclusion net edges) (length points + 1) NotClosed edges place edge first
      ∙ ap (λ (r : RefusedLine). Err r) (at_entry points edges is.has_base place NotClosed))

  accepted_so : IsAcceptedTable net order entries → table_passes net order entries ≡ Ok tt
  accepted_so is = descending_then is.points is.edges is.ordered is.descends ∙ refused_none (has_open_conclusion net is.edges) (length is.points + 1) NotClosed is.edges is.closed

  -- what is said of a table proof is its judgement
  pub judged_so : (judgement : Judgement) → JudgesTable net order entries judgement → judgement ≡ judgement_of net (TableProof order entries)
  judged_so (Accepted claim) (is, accepted) = ap (λ (c : Claim). Accepted c) is ∙ sym (ap (judged Controllable) (accepted_so accepted))
  judged_so (Refused line why) refused = sym (ap (judged Controllable) (refused_so line why refused))

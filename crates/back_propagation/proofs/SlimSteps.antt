-- The slots of a row as they are stored: what is read of them, and what the change of one changes.
use Rattle.std.proofs.Common.{◌≡◌, ◌≢◌, ◌==◌, ◌&&◌, ◌||◌, ◌⊎◌, ◌≤◌, ◌<◌, ◌+◌, ◌*◌, ◌/◌, ◌%◌, ◌^◌, ℕ, zero, suc, ℤ, pos, Bool, true, false, cond, List, [], ◌∷◌, ◌++◌, length, get_or, Some, None, refl, ap, sym, subst, ◌∙◌, inl, inr, arith}
use Rattle.std.proofs.Common.{length-append}
use Rattle.std.specs.Prelude.{slice_get, slice_set, slice_range, int_lt}
use Rattle.std.specs.Option.{option_map_or}
use Rattle.std.specs.Ordering.{int_eq}
use Rattle.std.proofs.lemmas.Bool.{eqb-true}
use Rattle.std.proofs.lemmas.Bool.Decides.{nat_tests}
use Rattle.std.proofs.lemmas.List.Edits.{get_or-between}
use Rattle.std.proofs.lemmas.List.FromFn.{length-map-range_with_len, get_or-map-range_with_len, fill_by_all}
use Rattle.std.proofs.lemmas.Nat.{mul-le, div_below, mod_below, div-add-mod', div-mul-add, mod-mul-add, mul-add-lt}
use Rattle.std.proofs.lemmas.Option.{same_Some, slice_get-get_or, slice_get_within, get_or_from_slice_get}
use Rattle.closure_model.proofs.Nodes.{before_push, at_push}
use Rattle.closure_model.proofs.Slots.{set_same, set_other}
use Rattle.net_model.specs.Limits.{most_points}
use Rattle.net_model.specs.declared.ids.LinkId.{LinkId}
use Rattle.closure_model.specs.declared.rows.Slot.{Slot}
use Rattle.closure_model.specs.declared.rows.Why.{Why}
use Rattle.std.specs.Prelude.{◌≤ℤ◌}
use Rattle.std.proofs.lemmas.Int.{ints}
use Rattle.labelled_graph.specs.Words.{absent, least_word, nearest_word}
use Rattle.back_propagation.specs.SlimSlots.{no_weight, weight_in_slot, why_in, label_in, slot_in, slots_of, width_in, word_place, StandsFor, IsSlim}
use Rattle.back_propagation.specs.declared.slots.Slots.TheInside.{Inside}

-- ---- the nearest word of a weight stands for it
pub nearest_stands : (word weight : ℤ) → word ≡ nearest_word weight → StandsFor word (Some weight)
nearest_stands word weight is = subst (λ (w : ℤ). StandsFor w (Some weight)) (sym is) (by (int_lt weight least_word) refl (int_lt absent weight) refl)
  where
    by : (low : Bool) → int_lt weight least_word ≡ low → (high : Bool) → int_lt absent weight ≡ high → StandsFor (cond low least_word (cond high absent weight)) (Some weight)
    by true low high is_high other = below weight low
      where
        below : (w : ℤ) → int_lt w least_word ≡ true → w ≤ℤ least_word
        below w test = grind (arith, ints)
    by false low true is_high other = absurd (other refl)
    by false low false is_high other = itself weight
      where
        itself : (w : ℤ) → w ≤ℤ w
        itself w = omega (arith, ints)

-- ---- lists with another item at a place
pub set_long : {X : Type 0} (xs : List X) (k : ℕ) (new : X) → length (slice_set xs k new) ≡ length xs
set_long [] k new = refl
set_long (x ∷ xs) zero new = refl
set_long (x ∷ xs) (suc k) new = ap suc (set_long xs k new)

pub read_other : {X : Type 0} (xs : List X) (k other : ℕ) (new d : X) → other ≢ k → get_or (slice_set xs k new) other d ≡ get_or xs other d
read_other [] k other new d apart = refl
read_other (x ∷ xs) zero zero new d apart = absurd (apart refl)
read_other (x ∷ xs) zero (suc other) new d apart = refl
read_other (x ∷ xs) (suc k) zero new d apart = refl
read_other (x ∷ xs) (suc k) (suc other) new d apart = read_other xs k other new d (λ same. apart (ap suc same))

pub read_set : {X : Type 0} (xs : List X) (k : ℕ) (new d : X) → k < length xs → get_or (slice_set xs k new) k d ≡ new
read_set [] k new d inside = absurd (omega arith)
read_set (x ∷ xs) zero new d inside = refl
read_set (x ∷ xs) (suc k) new d inside = read_set xs k new d (omega arith)

pub same_or_apart : (k other : ℕ) → (k ≡ other) ⊎ (k ≢ other)
same_or_apart k other = by (k == other) refl
  where
    by : (b : Bool) → (k == other) ≡ b → (k ≡ other) ⊎ (k ≢ other)
    by true is = inl (eqb-true k other is)
    by false is = inr (λ equal. (let test : (k == other) ≡ true = rw equal (grind (arith, nat_tests)) in absurd cc))

-- ---- what is read
pub slots_many : (s : Inside) → length (slots_of s) ≡ length s.weights.items
slots_many s = length-map-range_with_len (slot_in s) 0 (length s.weights.items)

slot_there : (s : Inside) (place : ℕ) → place < length s.weights.items → slice_get (slots_of s) place ≡ Some (slot_in s place)
slot_there s place inside =
    let many : length (slots_of s) ≡ length s.weights.items = slots_many s in
    slice_get-get_or (slots_of s) place (slot_in s place) (omega (arith, many, inside))
    ∙ ap Some (get_or-map-range_with_len (slot_in s) 0 (length s.weights.items) place place (slot_in s place) inside (omega arith))

module _ (s : Inside) (list : List Slot) (view : slots_of s ≡ list) (place : ℕ) (inside : place < length list) where
  pub place_stored : place < length s.weights.items
  place_stored = let many : length (slots_of s) ≡ length s.weights.items = slots_many s in let same : length (slots_of s) ≡ length list = ap length view in omega (arith, many, same, inside)

  pub slot_is_there : slice_get list place ≡ Some (slot_in s place)
  slot_is_there = ap (λ (l : List Slot). slice_get l place) (sym view) ∙ slot_there s place place_stored

  pub slot_is : (slot : Slot) → slice_get list place ≡ Some slot → slot_in s place ≡ slot
  slot_is slot here = same_Some (slot_in s place) slot (sym slot_is_there ∙ here)

-- the source of a place is a point
pub source_below : (s : Inside) → IsSlim s → (place : ℕ) → place < length s.weights.items → place / width_in s < s.points
source_below s slim place inside =
    let long : length s.weights.items ≡ s.points * width_in s = slim.places in
    div_below place (width_in s) s.points (omega arith) (subst (λ (n : ℕ). place < n) long inside)

or_true : (b : Bool) → (b || true) ≡ true
or_true true = refl
or_true false = refl

or_false : (b : Bool) → (b || false) ≡ b
or_false true = refl
or_false false = refl

-- a weight is below what is stored, or none is stored
pub above_in : (weight held : ℤ) (mark : ℕ) → option_map_or (λ old. int_lt weight old) (weight_in_slot held mark) true ≡ (int_lt weight held || (int_eq held no_weight && mark == 0))
above_in weight held mark = by (int_eq held no_weight && mark == 0)
  where
    by : (b : Bool) → option_map_or (λ old. int_lt weight old) (cond b None (Some held)) true ≡ (int_lt weight held || b)
    by true = sym (or_true (int_lt weight held))
    by false = sym (or_false (int_lt weight held))

-- ---- one slot is changed
changed_at : (s t : Inside) (place : ℕ) (new : Slot) → length t.weights.items ≡ length s.weights.items → place < length s.weights.items → slot_in t place ≡ new
    → ((other : ℕ) → other < length s.weights.items → other ≢ place → slot_in t other ≡ slot_in s other) → slots_of t ≡ slice_set (slots_of s) place new
changed_at s t place new long inside here there =
    sym (fill_by_all (slot_in t) (slice_set (slots_of s) place new) (length t.weights.items) new (set_long (slots_of s) place new ∙ (slots_many s ∙ sym long)) each)
  where
    each : (k : ℕ) → k < length t.weights.items → get_or (slice_set (slots_of s) place new) k new ≡ slot_in t k
    each k below = by (same_or_apart k place)
      where
        by : (k ≡ place) ⊎ (k ≢ place) → get_or (slice_set (slots_of s) place new) k new ≡ slot_in t k
        by (inl equal) =
            get_or_from_slice_get (slice_set (slots_of s) place new) k new new
            (ap (slice_get (slice_set (slots_of s) place new)) equal ∙ set_same (slots_of s) place (slot_in s place) new (slot_there s place inside))
            ∙ sym (ap (slot_in t) equal ∙ here)
        by (inr apart) =
            let stays : k < length s.weights.items = omega (arith, long, below) in
            get_or_from_slice_get (slice_set (slots_of s) place new) k (slot_in s k) new (set_other (slots_of s) place k new apart ∙ slot_there s k stays) ∙ sym (there k stays apart)

-- ---- words
-- no two places have one word
pub places_apart : (points width one other : ℕ) → one < points * width → other < points * width → one % width * points + one / width ≡ other % width * points + other / width → one ≡ other
places_apart points zero one other below also same = absurd (omega (arith, below))
places_apart points (suc w) one other below also same =
    let first : one / suc w < points = div_below one (suc w) points (omega arith) below in
    let second : other / suc w < points = div_below other (suc w) points (omega arith) also in
    let columns : one % suc w ≡ other % suc w =
    sym (div-mul-add (one % suc w) points (one / suc w) first) ∙ (ap (λ (n : ℕ). n / points) same ∙ div-mul-add (other % suc w) points (other / suc w) second) in
    let sources : one / suc w ≡ other / suc w =
    sym (mod-mul-add (one % suc w) points (one / suc w) first) ∙ (ap (λ (n : ℕ). n % points) same ∙ mod-mul-add (other % suc w) points (other / suc w) second) in
    sym (div-add-mod' one (suc w)) ∙ ((λ i. sources i * suc w + columns i) ∙ div-add-mod' other (suc w))

pub word_apart : (s : Inside) → IsSlim s → (one other : ℕ) → one < length s.weights.items → other < length s.weights.items → word_place s one ≡ word_place s other → one ≡ other
word_apart s slim one other below also same =
    places_apart s.points (width_in s) one other (subst (λ (n : ℕ). one < n) slim.places below) (subst (λ (n : ℕ). other < n) slim.places also) same

pub word_inside : (s : Inside) → IsSlim s → (place : ℕ) → place < length s.weights.items → word_place s place < length s.words.items
word_inside s slim place below =
    let under : place % width_in s * s.points + place / width_in s < s.points * width_in s =
    mul-add-lt (place % width_in s) s.points (place / width_in s) (width_in s) (mod_below place (width_in s) (omega arith)) (source_below s slim place below) in
    let long = slim.words in
    let places = slim.places in
    omega (arith, under, long, places)

-- the words of a column are all there
pub column_ends : (s : Inside) → IsSlim s → (place : ℕ) → place % width_in s * s.points + s.points ≤ length s.words.items
column_ends s slim place =
    let below : place % width_in s < width_in s = mod_below place (width_in s) (omega arith) in
    let most : (place % width_in s + 1) * s.points ≤ width_in s * s.points = mul-le (place % width_in s + 1) s.points (width_in s) s.points (omega (arith, below)) (omega arith) in
    let long = slim.words in
    let places = slim.places in
    omega (arith, most, long, places)

-- ---- a slot is lowered
and_false : (a : Bool) → (a && false) ≡ false
and_false true = refl
and_false false = refl

weight_lowered : (weight : ℤ) (mark k : ℕ) → mark ≡ suc k → weight_in_slot weight mark ≡ Some weight
weight_lowered weight mark k is =
    let marked : (mark == 0) ≡ false = grind (arith, nat_tests) in
    ap (λ (b : Bool). cond (int_eq weight no_weight && b) None (Some weight)) marked ∙ ap (λ (b : Bool). cond b None (Some weight)) (and_false (int_eq weight no_weight))

why_kept : (whys : List Why) (why : Why) (mark : ℕ) → mark ≤ length whys → why_in (whys ++ why ∷ []) mark ≡ why_in whys mark
why_kept whys why zero few = refl
why_kept whys why (suc k) few = let there = slice_get-get_or whys k why (omega arith) in before_push whys why k (get_or whys k why) there ∙ sym there

-- a slot got a weight, and how it did was kept
pub record IsLoweredAt (s t : Inside) (place : ℕ) (weight : ℤ) (why : Why) : Type 0 where
  pub points : t.points ≡ s.points
  pub labels : t.labels.items ≡ s.labels.items
  pub weights : t.weights.items ≡ slice_set s.weights.items place weight
  pub marks : t.marks.items ≡ slice_set s.marks.items place (length t.whys.items)
  pub word : ℤ
  pub stands : StandsFor word (Some weight)
  pub words : t.words.items ≡ slice_set s.words.items (word_place s place) word
  pub settled : t.settled.items ≡ s.settled.items
  pub whys : t.whys.items ≡ s.whys.items ++ why ∷ []

module _ (s t : Inside) (place : ℕ) (weight : ℤ) (why : Why) (is : IsLoweredAt s t place weight why) (slim : IsSlim s) (inside : place < length s.weights.items) where
  more : length t.whys.items ≡ suc (length s.whys.items)
  more = let both = length-append s.whys.items (why ∷ []) in let same : length t.whys.items ≡ length (s.whys.items ++ why ∷ []) = ap length is.whys in omega arith

  long : length t.weights.items ≡ length s.weights.items
  long = ap length is.weights ∙ set_long s.weights.items place weight

  same_width : width_in t ≡ width_in s
  same_width = ap (λ (labels : List LinkId). length labels + 1) is.labels

  mark_here : get_or t.marks.items place 0 ≡ length t.whys.items
  mark_here =
      ap (λ (marks : List ℕ). get_or marks place 0) is.marks ∙ read_set s.marks.items place (length t.whys.items) 0 (let marks = slim.marks in omega (arith, marks, inside))

  mark_there : (other : ℕ) → other ≢ place → get_or t.marks.items other 0 ≡ get_or s.marks.items other 0
  mark_there other apart = ap (λ (marks : List ℕ). get_or marks other 0) is.marks ∙ read_other s.marks.items place other (length t.whys.items) 0 apart

  same_from : (other : ℕ) → other / width_in t ≡ other / width_in s
  same_from other = ap (λ (w : ℕ). other / w) same_width

  same_label : (other : ℕ) → label_in t.labels.items (other % width_in t) ≡ label_in s.labels.items (other % width_in s)
  same_label other = λ i. label_in (is.labels i) (other % same_width i)

  same_settled : (other : ℕ) → get_or t.settled.items other false ≡ get_or s.settled.items other false
  same_settled other = ap (λ (marks : List Bool). get_or marks other false) is.settled

  here : slot_in t place ≡ record (slot_in s place) { weight = Some weight; why = Some why }
  here =
      let mark : get_or t.marks.items place 0 ≡ suc (length s.whys.items) = mark_here ∙ more in
      let held : get_or t.weights.items place (pos 0) ≡ weight = ap (λ (weights : List ℤ). get_or weights place (pos 0)) is.weights ∙ read_set s.weights.items place weight (pos 0) inside in
      let weight_is : weight_in_slot (get_or t.weights.items place (pos 0)) (get_or t.marks.items place 0) ≡ Some weight =
      ap (λ (w : ℤ). weight_in_slot w (get_or t.marks.items place 0)) held ∙ weight_lowered weight (get_or t.marks.items place 0) (length s.whys.items) mark in
      let why_is : why_in t.whys.items (get_or t.marks.items place 0) ≡ Some why = (λ i. why_in (is.whys i) (mark i)) ∙ at_push s.whys.items why in
      λ i. record { from = record { 0 = same_from place i }; label = same_label place i; weight = weight_is i; why = why_is i; settled = same_settled place i }

  there : (other : ℕ) → other < length s.weights.items → other ≢ place → slot_in t other ≡ slot_in s other
  there other below apart =
      let mark : get_or t.marks.items other 0 ≡ get_or s.marks.items other 0 = mark_there other apart in
      let held : get_or t.weights.items other (pos 0) ≡ get_or s.weights.items other (pos 0) = ap (λ (weights : List ℤ). get_or weights other (pos 0)) is.weights ∙ read_other s.weights.items place other weight (pos 0) apart in
      let why_is : why_in t.whys.items (get_or t.marks.items other 0) ≡ why_in s.whys.items (get_or s.marks.items other 0) =
      (λ i. why_in (is.whys i) (mark i)) ∙ why_kept s.whys.items why (get_or s.marks.items other 0) (slim.whys other) in
      λ i. record { from = record { 0 = same_from other i }; label = same_label other i; weight = weight_in_slot (held i) (mark i); why = why_is i; settled = same_settled other i }

  pub lowered_slim : IsSlim t
  lowered_slim = record {
    few = subst (λ (n : ℕ). n ≤ most_points) (sym is.points) slim.few;
    small = subst (λ (n : ℕ). n < 2 ^ 64) (sym long) slim.small;
    places = long ∙ (slim.places ∙ (λ i. sym is.points i * sym same_width i));
    marks = ap length is.marks ∙ (set_long s.marks.items place (length t.whys.items) ∙ (slim.marks ∙ sym long));
    settled = ap length is.settled ∙ (slim.settled ∙ sym long);
    words = ap length is.words ∙ (set_long s.words.items (word_place s place) is.word ∙ (slim.words ∙ sym long));
    stand = λ other below. stand other below (same_or_apart other place);
    apart = subst (λ (labels : List LinkId). (one other : ℕ) → one < length labels + 1 → other < length labels + 1 → label_in labels one ≡ label_in labels other → one ≡ other) (sym is.labels) slim.apart;
    whys = λ other. by other (same_or_apart other place);
  }
    where
      word_same : (other : ℕ) → word_place t other ≡ word_place s other
      word_same other = λ i. other % same_width i * is.points i + other / same_width i

      stand : (other : ℕ) → other < length t.weights.items → (other ≡ place) ⊎ (other ≢ place) → StandsFor (get_or t.words.items (word_place t other) (pos 0)) (slot_in t other).weight
      stand other below (inl equal) =
          let there : word_place t other ≡ word_place s place = word_same other ∙ ap (word_place s) equal in
          let word : get_or t.words.items (word_place t other) (pos 0) ≡ is.word = (λ i. get_or (is.words i) (there i) (pos 0)) ∙ read_set s.words.items (word_place s place) is.word (pos 0) (word_inside s slim place inside) in
          let weight_is : (slot_in t other).weight ≡ Some weight = ap (λ (k : ℕ). (slot_in t k).weight) equal ∙ ap (λ (slot : Slot). slot.weight) here in
          subst (λ (w : ℤ). StandsFor w (slot_in t other).weight) (sym word) (subst (StandsFor is.word) (sym weight_is) is.stands)
      stand other below (inr apart) =
          let stays : other < length s.weights.items = omega (arith, long, below) in
          let others : word_place s other ≢ word_place s place = λ same. apart (word_apart s slim other place stays inside same) in
          let word : get_or t.words.items (word_place t other) (pos 0) ≡ get_or s.words.items (word_place s other) (pos 0) =
          (λ i. get_or (is.words i) (word_same other i) (pos 0)) ∙ read_other s.words.items (word_place s place) (word_place s other) is.word (pos 0) others in
          subst (λ (w : ℤ). StandsFor w (slot_in t other).weight) (sym word) (subst (StandsFor (get_or s.words.items (word_place s other) (pos 0))) (ap (λ (slot : Slot). slot.weight) (sym (there other stays apart)))
          (slim.stand other stays))

      by : (other : ℕ) → (other ≡ place) ⊎ (other ≢ place) → get_or t.marks.items other 0 ≤ length t.whys.items
      by other (inl equal) = let read : get_or t.marks.items other 0 ≡ length t.whys.items = ap (λ (k : ℕ). get_or t.marks.items k 0) equal ∙ mark_here in omega arith
      by other (inr apart) = let read = mark_there other apart in let old = slim.whys other in let now = more in omega (arith, read, old, now)

  pub lowered_view : slots_of t ≡ slice_set (slots_of s) place (record (slot_in s place) { weight = Some weight; why = Some why })
  lowered_view = changed_at s t place (record (slot_in s place) { weight = Some weight; why = Some why }) long inside here there

-- ---- a slot is settled
pub record IsSettledAt (s t : Inside) (place : ℕ) : Type 0 where
  pub points : t.points ≡ s.points
  pub labels : t.labels.items ≡ s.labels.items
  pub weights : t.weights.items ≡ s.weights.items
  pub words : t.words.items ≡ s.words.items
  pub marks : t.marks.items ≡ s.marks.items
  pub settled : t.settled.items ≡ slice_set s.settled.items place true
  pub whys : t.whys.items ≡ s.whys.items

module _ (s t : Inside) (place : ℕ) (is : IsSettledAt s t place) (slim : IsSlim s) (inside : place < length s.weights.items) where
  with_settled : ℕ → Bool → Slot
  with_settled other settled = record (slot_in s other) { settled = settled }

  but_settled : (other : ℕ) (settled : Bool) → get_or t.settled.items other false ≡ settled → slot_in t other ≡ record (slot_in s other) { settled = settled }
  but_settled other settled now = λ i.
      record {
        from = record { 0 = other / (length (is.labels i) + 1) };
        label = label_in (is.labels i) (other % (length (is.labels i) + 1));
        weight = weight_in_slot (get_or (is.weights i) other (pos 0)) (get_or (is.marks i) other 0);
        why = why_in (is.whys i) (get_or (is.marks i) other 0);
        settled = now i;
      }

  pub settled_slim : IsSlim t
  settled_slim = record {
    few = subst (λ (n : ℕ). n ≤ most_points) (sym is.points) slim.few;
    small = subst (λ (n : ℕ). n < 2 ^ 64) (sym (ap length is.weights)) slim.small;
    places = ap length is.weights ∙ (slim.places ∙ (λ i. sym is.points i * (length (sym is.labels i) + 1)));
    marks = ap length is.marks ∙ (slim.marks ∙ sym (ap length is.weights));
    settled = ap length is.settled ∙ (set_long s.settled.items place true ∙ (slim.settled ∙ sym (ap length is.weights)));
    words = ap length is.words ∙ (slim.words ∙ sym (ap length is.weights));
    stand = λ other below. subst (λ (w : ℤ). StandsFor w (slot_in t other).weight) (λ i. get_or (sym is.words i) (other % (length (sym is.labels i) + 1) * sym is.points i + other / (length (sym is.labels i) + 1)) (pos 0))
        (subst (StandsFor (get_or s.words.items (word_place s other) (pos 0))) (λ i. weight_in_slot (get_or (sym is.weights i) other (pos 0)) (get_or (sym is.marks i) other 0))
        (slim.stand other (subst (λ (list : List ℤ). other < length list) is.weights below)));
    apart = subst (λ (labels : List LinkId). (one other : ℕ) → one < length labels + 1 → other < length labels + 1 → label_in labels one ≡ label_in labels other → one ≡ other) (sym is.labels) slim.apart;
    whys = λ other. (let old = slim.whys other in let mark : get_or t.marks.items other 0 ≡ get_or s.marks.items other 0 = ap (λ (marks : List ℕ). get_or marks other 0) is.marks in
        let many : length t.whys.items ≡ length s.whys.items = ap length is.whys in omega (arith, old, mark, many));
  }

  pub settled_view : slots_of t ≡ slice_set (slots_of s) place (record (slot_in s place) { settled = true })
  settled_view =
      changed_at s t place (record (slot_in s place) { settled = true }) (ap length is.weights) inside
      (but_settled place true (ap (λ (list : List Bool). get_or list place false) is.settled ∙ read_set s.settled.items place true false (let settled = slim.settled in omega (arith, settled, inside))))
      (λ other below apart. but_settled other (get_or s.settled.items other false) (ap (λ (list : List Bool). get_or list other false) is.settled ∙ read_other s.settled.items place other true false apart))

-- ---- the words of a column
pub words_stand : (s : Inside) (list : List Slot) → slots_of s ≡ list → IsSlim s → (place : ℕ) → place < length list → (words : List ℤ)
    → words ≡ slice_range s.words.items (place % width_in s * s.points) (place % width_in s * s.points + s.points)
    → (head slot : Slot) (other : ℕ) → slice_get list place ≡ Some head → slice_get list other ≡ Some slot → slot.label ≡ head.label → StandsFor (get_or words slot.from.0 (pos 0)) slot.weight
words_stand s list view slim place inside words are head slot other at there same =
    let also : other < length list = slice_get_within list other slot there in
    let stored : other < length s.weights.items = place_stored s list view other also in
    let head_is : slot_in s place ≡ head = slot_is s list view place inside head at in
    let slot_is' : slot_in s other ≡ slot = slot_is s list view other also slot there in
    let labels : label_in s.labels.items (other % width_in s) ≡ label_in s.labels.items (place % width_in s) = ap (λ (x : Slot). x.label) slot_is' ∙ (same ∙ sym (ap (λ (x : Slot). x.label) head_is)) in
    let column : other % width_in s ≡ place % width_in s = slim.apart (other % width_in s) (place % width_in s) (mod_below other (width_in s) (omega arith)) (mod_below place (width_in s) (omega arith)) labels in
    let source : other / width_in s < s.points = source_below s slim other stored in
    let from : slot.from.0 ≡ other / width_in s = ap (λ (x : Slot). x.from.0) (sym slot_is') in
    let read : get_or words slot.from.0 (pos 0) ≡ get_or s.words.items (word_place s other) (pos 0) =
    (λ i. get_or (are i) (from i) (pos 0))
    ∙ (get_or-between s.words.items (place % width_in s * s.points) (place % width_in s * s.points + s.points) (other / width_in s) (pos 0) (omega (arith, source))
    ∙ ap (λ (k : ℕ). get_or s.words.items (k * s.points + other / width_in s) (pos 0)) (sym column)) in
    subst (λ (w : ℤ). StandsFor w slot.weight) (sym read) (subst (StandsFor (get_or s.words.items (word_place s other) (pos 0))) (ap (λ (x : Slot). x.weight) slot_is') (slim.stand other stored))

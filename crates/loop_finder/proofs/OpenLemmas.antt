-- The open edges of points while points are placed, and which points are free.
use Rattle.std.proofs.Common.{◌≡◌, ◌≢◌, ℕ, zero, suc, ◌+◌, ◌-◌, ◌==◌, ◌<◌, ◌≤◌, pos, Bool, true, false, cond, ◌&&◌, not, List, [], ◌∷◌, map, filter, length, take, get_or, set, get_or-set_same, get_or-set_other, length-set}
use Rattle.std.proofs.Common.{Some, None, refl, ap, sym, subst, ◌∙◌, arith}
use Rattle.std.proofs.lemmas.Bool.{eqb-true}
use Rattle.std.proofs.lemmas.Bool.Decides.{nat_tests}
use Rattle.std.proofs.lemmas.List.Filters.{length-filter_more}
use Rattle.net_model.specs.declared.ids.PointId.{PointId}
use Rattle.net_model.specs.Moments.{Moments}
use Rattle.closure_model.specs.Orders.{goes}
use Rattle.closure_model.specs.ReferenceRow.{ordinary_into}
use Rattle.closure_model.specs.Tables.{Graph}
use Rattle.labelled_graph.specs.declared.entry.Entry.{Entry}
use Rattle.loop_finder.specs.NegativeSuccessors.{point, is_negative_entry}
use Rattle.loop_finder.specs.OpenEdges.{edge_count, DifferByEdges, HaveOpenEdges, AreFreed, counted, closed, freed, CanClose}
use Rattle.loop_finder.proofs.SuccessorLemmas.{all_added, ordinary_edges}

-- ---- the edges from a point among entries
-- how many of some entries are of negative ordinary edges from a point
abbrev pub edges_from : ℕ → List Entry → ℕ
edges_from k entries = length (filter (λ (entry : Entry). is_negative_entry entry && entry.from.0 == k) entries)

few : (k i : ℕ) (entries : List Entry) → edges_from k (take i entries) ≤ edges_from k entries
few k zero entries = let none : 0 ≤ edges_from k entries = omega arith in none
few k (suc i) [] = let none : 0 ≤ 0 = omega arith in none
few k (suc i) (entry ∷ entries) = by (is_negative_entry entry && entry.from.0 == k) (few k i entries)
  where
    by : (b : Bool) → edges_from k (take i entries) ≤ edges_from k entries
        → length (cond b (entry ∷ filter (λ (entry : Entry). is_negative_entry entry && entry.from.0 == k) (take i entries)) (filter (λ (entry : Entry). is_negative_entry entry && entry.from.0 == k) (take i entries)))
        ≤ length (cond b (entry ∷ filter (λ (entry : Entry). is_negative_entry entry && entry.from.0 == k) entries) (filter (λ (entry : Entry). is_negative_entry entry && entry.from.0 == k) entries))
    by true rest = omega arith
    by false rest = omega arith

pub edges_from_row : (graph : Graph) (to : PointId) (k : ℕ) (entries : List Entry) → ordinary_edges to entries ≡ ordinary_into graph to → k < graph.shape.points → edges_from k entries ≡ edge_count graph (point k) to
edges_from_row graph to k entries are inside = sym (same (filter (λ (entry : Entry). is_negative_entry entry && entry.from.0 == k) entries)) ∙ ap length (all_added to k graph entries are inside) ∙ one (goes graph (point k) to)
  where
    same : (es : List Entry) → length (map (λ (entry : Entry). to) es) ≡ length es
    same [] = refl
    same (e ∷ es) = ap suc (same es)

    one : (b : Bool) → length (cond b (to ∷ []) []) ≡ cond b 1 0
    one true = refl
    one false = refl

pub one_at_most : (graph : Graph) (to : PointId) (k i : ℕ) (entries : List Entry) → ordinary_edges to entries ≡ ordinary_into graph to → k < graph.shape.points → edges_from k (take i entries) ≤ 1
one_at_most graph to k i entries are inside = by (goes graph (point k) to) (edges_from_row graph to k entries are inside)
  where
    by : (b : Bool) → edges_from k entries ≡ cond b 1 0 → edges_from k (take i entries) ≤ 1
    by true all = let least = few k i entries in omega (arith, least, all)
    by false all = let least = few k i entries in omega (arith, least, all)

-- no entry at all, for a list that has one
abbrev pub no_entry : Entry
no_entry = record { from = record { 0 = 0 }; label = None; weight = pos 0 }

-- the next of the entries
module _ (entries : List Entry) (i : ℕ) (d : Entry) (inside : i < length entries) where
  more : (k : ℕ) → edges_from k (take (i + 1) entries) ≡ edges_from k (take i entries) + cond (is_negative_entry (get_or entries i d) && (get_or entries i d).from.0 == k) 1 0
  more k = length-filter_more (λ (entry : Entry). is_negative_entry entry && entry.from.0 == k) entries i d inside

  more_other : (k : ℕ) → is_negative_entry (get_or entries i d) ≡ false → edges_from k (take (i + 1) entries) ≡ edges_from k (take i entries)
  more_other k other = (let sum : edges_from k (take (i + 1) entries) ≡ edges_from k (take i entries) + 0 = more k ∙ ap (λ b. edges_from k (take i entries) + cond (b && (get_or entries i d).from.0 == k) 1 0) other in omega (arith, sum))

  more_here : (k : ℕ) → is_negative_entry (get_or entries i d) ≡ true → (get_or entries i d).from.0 == k ≡ true → edges_from k (take (i + 1) entries) ≡ edges_from k (take i entries) + 1
  more_here k negative here = more k ∙ (λ j. edges_from k (take i entries) + cond (negative j && here j) 1 0)

  more_apart : (k : ℕ) → is_negative_entry (get_or entries i d) ≡ true → (get_or entries i d).from.0 == k ≡ false → edges_from k (take (i + 1) entries) ≡ edges_from k (take i entries)
  more_apart k negative apart = (let sum : edges_from k (take (i + 1) entries) ≡ edges_from k (take i entries) + 0 = more k ∙ (λ j. edges_from k (take i entries) + cond (negative j && apart j) 1 0) in omega (arith, sum))

  -- of the edges of a row one at most begins in a point
  pub none_before : (graph : Graph) (to : PointId) → ordinary_edges to entries ≡ ordinary_into graph to → (get_or entries i d).from.0 < graph.shape.points → is_negative_entry (get_or entries i d) ≡ true
      → edges_from (get_or entries i d).from.0 (take i entries) ≡ 0
  none_before graph to are begins negative = by (goes graph (point (get_or entries i d).from.0) to) refl
    where
      here : (get_or entries i d).from.0 == (get_or entries i d).from.0 ≡ true
      here = grind (arith, nat_tests)

      by : (b : Bool) → goes graph (point (get_or entries i d).from.0) to ≡ b → edges_from (get_or entries i d).from.0 (take i entries) ≡ 0
      by b is = (let all : edges_from (get_or entries i d).from.0 entries ≡ cond b 1 0 = edges_from_row graph to (get_or entries i d).from.0 entries are begins ∙ ap (λ c. cond c 1 0) is in at b all)
        where
          at : (b : Bool) → edges_from (get_or entries i d).from.0 entries ≡ cond b 1 0 → edges_from (get_or entries i d).from.0 (take i entries) ≡ 0
          at true all = (let one = more_here (get_or entries i d).from.0 negative here in let least = few (get_or entries i d).from.0 (i + 1) entries in omega (arith, one, least, all))
          at false all = (let one = more_here (get_or entries i d).from.0 negative here in let least = few (get_or entries i d).from.0 (i + 1) entries in omega (arith, one, least, all))

  -- and the edge of an entry goes
  pub entry_goes : (graph : Graph) (to : PointId) → ordinary_edges to entries ≡ ordinary_into graph to → (get_or entries i d).from.0 < graph.shape.points → is_negative_entry (get_or entries i d) ≡ true
      → goes graph (point (get_or entries i d).from.0) to ≡ true
  entry_goes graph to are begins negative = by (goes graph (point (get_or entries i d).from.0) to) refl
    where
      here : (get_or entries i d).from.0 == (get_or entries i d).from.0 ≡ true
      here = grind (arith, nat_tests)

      by : (b : Bool) → goes graph (point (get_or entries i d).from.0) to ≡ b → goes graph (point (get_or entries i d).from.0) to ≡ true
      by true is = is
      by false is =
          let all : edges_from (get_or entries i d).from.0 entries ≡ 0 = edges_from_row graph to (get_or entries i d).from.0 entries are begins ∙ ap (λ c. cond c 1 0) is in
          let one = more_here (get_or entries i d).from.0 negative here in
          let least = few (get_or entries i d).from.0 (i + 1) entries in
          absurd (omega (arith, one, least, all))

-- ---- the counts after some entries
pub record DifferByEntries (entries : List Entry) (fewer more : List ℕ) : Type 0 where
  pub count : length fewer ≡ length more
  pub each : (k : ℕ) → k < length more → get_or fewer k 0 + edges_from k entries ≡ get_or more k 0

pub differ_none : (entries : List Entry) (counts : List ℕ) → DifferByEntries (take 0 entries) counts counts
differ_none entries counts = record { count = refl; each = λ k inside. (let same : get_or counts k 0 + 0 ≡ get_or counts k 0 = omega arith in same) }

pub differ_all : (graph : Graph) (to : PointId) (entries : List Entry) (n : ℕ) (fewer more : List ℕ) → ordinary_edges to entries ≡ ordinary_into graph to → length more ≡ graph.shape.points → take n entries ≡ entries
    → DifferByEntries (take n entries) fewer more → DifferByEdges graph to fewer more
differ_all graph to entries n fewer more are count whole held = record {
  count = held.count;
  each = λ k inside. ap (λ m. get_or fewer k 0 + m) (sym (ap (edges_from k) whole ∙ edges_from_row graph to k entries are (omega (arith, count)))) ∙ held.each k inside;
}

-- a place of a list after it was set
pub same_place : {X : Type 0} (xs : List X) (f k : ℕ) (v d : X) → f < length xs → f == k ≡ true → get_or (set xs f v) k d ≡ v
same_place xs f k v d inside same = let is : f ≡ k = eqb-true f k same in ap (λ (j : ℕ). get_or (set xs f v) j d) (sym is) ∙ get_or-set_same xs f v d inside

pub other_place : {X : Type 0} (xs : List X) (f k : ℕ) (v d : X) → f == k ≡ false → get_or (set xs f v) k d ≡ get_or xs k d
other_place xs f k v d apart = let other : k ≢ f = (λ same. let test : f == k ≡ true = grind (arith, nat_tests) in absurd cc) in grind (arith, get_or-set_other)

module _ (entries : List Entry) (i : ℕ) (d : Entry) (inside : i < length entries) where
  abbrev from : ℕ
  from = (get_or entries i d).from.0

  pub counted_more : (old now after : List ℕ) → (get_or entries i d).from.0 < length now → DifferByEntries (take i entries) old now → after ≡ counted now (get_or entries i d) → DifferByEntries (take (i + 1) entries) old after
  counted_more old now after begins held is = subst (DifferByEntries (take (i + 1) entries) old) (sym is) (by (is_negative_entry (get_or entries i d)) refl)
    where
      by : (b : Bool) → is_negative_entry (get_or entries i d) ≡ b → DifferByEntries (take (i + 1) entries) old (counted now (get_or entries i d))
      by false other = subst (λ c. DifferByEntries (take (i + 1) entries) old (cond c (set now from (get_or now from 0 + 1)) now)) (sym other) (record {
        count = held.count;
        each = λ k within. (let step = held.each k within in let same = more_other entries i d inside k other in omega (arith, step, same));
      })
      by true negative = subst (λ c. DifferByEntries (take (i + 1) entries) old (cond c (set now from (get_or now from 0 + 1)) now)) (sym negative) (record {
        count = held.count ∙ sym (length-set now from (get_or now from 0 + 1));
        each = λ k within. at k (let long = length-set now from (get_or now from 0 + 1) in omega (arith, long)) (from == k) refl;
      })
        where
          at : (k : ℕ) → k < length now → (b : Bool) → from == k ≡ b → get_or old k 0 + edges_from k (take (i + 1) entries) ≡ get_or (set now from (get_or now from 0 + 1)) k 0
          at k within true same =
              let step = held.each k within in
              let one = more_here entries i d inside k negative same in
              let here : get_or (set now from (get_or now from 0 + 1)) k 0 ≡ get_or now from 0 + 1 = same_place now from k (get_or now from 0 + 1) 0 begins same in
              let read : get_or now from 0 ≡ get_or now k 0 = ap (λ (j : ℕ). get_or now j 0) (eqb-true from k same) in
              omega (arith, step, one, here, read)
          at k within false apart =
              let step = held.each k within in
              let none = more_apart entries i d inside k negative apart in
              let kept : get_or (set now from (get_or now from 0 + 1)) k 0 ≡ get_or now k 0 = other_place now from k (get_or now from 0 + 1) 0 apart in
              omega (arith, step, none, kept)

  pub closed_more : (old now after : List ℕ) → (get_or entries i d).from.0 < length now → (is_negative_entry (get_or entries i d) ≡ true → 1 ≤ get_or now (get_or entries i d).from.0 0)
      → DifferByEntries (take i entries) now old → after ≡ closed now (get_or entries i d) → DifferByEntries (take (i + 1) entries) after old
  closed_more old now after begins some held is = subst (λ xs. DifferByEntries (take (i + 1) entries) xs old) (sym is) (by (is_negative_entry (get_or entries i d)) refl)
    where
      by : (b : Bool) → is_negative_entry (get_or entries i d) ≡ b → DifferByEntries (take (i + 1) entries) (closed now (get_or entries i d)) old
      by false other = subst (λ c. DifferByEntries (take (i + 1) entries) (cond c (set now from (get_or now from 0 - 1)) now) old) (sym other) (record {
        count = held.count;
        each = λ k within. (let step = held.each k within in let same = more_other entries i d inside k other in omega (arith, step, same));
      })
      by true negative = subst (λ c. DifferByEntries (take (i + 1) entries) (cond c (set now from (get_or now from 0 - 1)) now) old) (sym negative) (record {
        count = length-set now from (get_or now from 0 - 1) ∙ held.count;
        each = λ k within. at k within (from == k) refl;
      })
        where
          at : (k : ℕ) → k < length old → (b : Bool) → from == k ≡ b → get_or (set now from (get_or now from 0 - 1)) k 0 + edges_from k (take (i + 1) entries) ≡ get_or old k 0
          at k within true same =
              let step = held.each k within in
              let one = more_here entries i d inside k negative same in
              let least = some negative in
              let here : get_or (set now from (get_or now from 0 - 1)) k 0 ≡ get_or now from 0 - 1 = same_place now from k (get_or now from 0 - 1) 0 begins same in
              let read : get_or now from 0 ≡ get_or now k 0 = ap (λ (j : ℕ). get_or now j 0) (eqb-true from k same) in
              omega (arith, step, one, here, read, least)
          at k within false apart =
              let step = held.each k within in
              let none = more_apart entries i d inside k negative apart in
              let kept : get_or (set now from (get_or now from 0 - 1)) k 0 ≡ get_or now k 0 = other_place now from k (get_or now from 0 - 1) 0 apart in
              omega (arith, step, none, kept)

-- ---- which points are due after some entries
pub record FreedByEntries (entries : List Entry) (left : List ℕ) (before after : Moments) : Type 0 where
  pub count : length after ≡ length before
  pub each : (k : ℕ) → k < length before → get_or after k None ≡ cond (not (edges_from k entries == 0) && (get_or left k 0 == 0)) (Some 0) (get_or before k None)

pub freed_none : (entries : List Entry) (left : List ℕ) (due : Moments) → FreedByEntries (take 0 entries) left due due
freed_none entries left due = record { count = refl; each = λ k inside. refl }

pub freed_all : (graph : Graph) (to : PointId) (entries : List Entry) (n : ℕ) (left : List ℕ) (before after : Moments) → ordinary_edges to entries ≡ ordinary_into graph to → length before ≡ graph.shape.points
    → take n entries ≡ entries → FreedByEntries (take n entries) left before after → AreFreed graph to left before after
freed_all graph to entries n left before after are count whole held = record {
  count = held.count;
  each = λ k inside. held.each k inside
      ∙ ap (λ m. cond (not (m == 0) && (get_or left k 0 == 0)) (Some 0) (get_or before k None)) (ap (edges_from k) whole ∙ edges_from_row graph to k entries are (omega (arith, count)))
      ∙ ap (λ b. cond (b && (get_or left k 0 == 0)) (Some 0) (get_or before k None)) (some (goes graph (point k) to));
}
  where
    some : (b : Bool) → not (cond b 1 0 == 0) ≡ b
    some true = refl
    some false = refl

module _ (entries : List Entry) (i : ℕ) (d : Entry) (inside : i < length entries) where
  abbrev begin : ℕ
  begin = (get_or entries i d).from.0

  pub freed_more : (left now : List ℕ) (before due after : Moments) → (get_or entries i d).from.0 < length left → (get_or entries i d).from.0 < length due
      → (is_negative_entry (get_or entries i d) ≡ true → 1 ≤ get_or left (get_or entries i d).from.0 0) → FreedByEntries (take i entries) left before due
      → now ≡ closed left (get_or entries i d) → after ≡ freed due now (get_or entries i d) → FreedByEntries (take (i + 1) entries) now before after
  freed_more left now before due after opens dues some held closes frees = by (is_negative_entry (get_or entries i d)) refl
    where
      by : (b : Bool) → is_negative_entry (get_or entries i d) ≡ b → FreedByEntries (take (i + 1) entries) now before after
      by false other =
          let kept : now ≡ left = closes ∙ ap (λ c. cond c (set left begin (get_or left begin 0 - 1)) left) other in
          let stays : after ≡ due = frees ∙ ap (λ c. cond (c && (get_or now begin 0 == 0)) (set due begin (Some 0)) due) other in
          record {
            count = ap length stays ∙ held.count;
            each = λ k within. ap (λ (ms : Moments). get_or ms k None) stays ∙ held.each k within
                ∙ (λ j. cond (not (sym (more_other entries i d inside k other) j == 0) && (get_or (sym kept j) k 0 == 0)) (Some 0) (get_or before k None));
          }
      by true negative = record {
        count = ap length frees' ∙ long (get_or now begin 0 == 0) ∙ held.count;
        each = λ k within. at k within (begin == k) refl;
      }
        where
          now' : now ≡ set left begin (get_or left begin 0 - 1)
          now' = closes ∙ ap (λ c. cond c (set left begin (get_or left begin 0 - 1)) left) negative

          frees' : after ≡ cond (get_or now begin 0 == 0) (set due begin (Some 0)) due
          frees' = frees ∙ ap (λ c. cond (c && (get_or now begin 0 == 0)) (set due begin (Some 0)) due) negative

          long : (b : Bool) → length (cond b (set due begin (Some 0)) due) ≡ length due
          long true = length-set due begin (Some 0)
          long false = refl

          at : (k : ℕ) → k < length before → (b : Bool) → begin == k ≡ b → get_or after k None ≡ cond (not (edges_from k (take (i + 1) entries) == 0) && (get_or now k 0 == 0)) (Some 0) (get_or before k None)
          at k within false apart =
              ap (λ (ms : Moments). get_or ms k None) frees'
              ∙ other (get_or now begin 0 == 0)
              ∙ held.each k within
              ∙ (λ j. cond (not (sym (more_apart entries i d inside k negative apart) j == 0) && (sym read j == 0)) (Some 0) (get_or before k None))
            where
              other : (b : Bool) → get_or (cond b (set due begin (Some 0)) due) k None ≡ get_or due k None
              other true = other_place due begin k (Some 0) None apart
              other false = refl

              read : get_or now k 0 ≡ get_or left k 0
              read = ap (λ (xs : List ℕ). get_or xs k 0) now' ∙ other_place left begin k (get_or left begin 0 - 1) 0 apart
          at k within true same = here (get_or now begin 0 == 0) refl
            where
              is : begin ≡ k
              is = eqb-true begin k same

              counts : not (edges_from k (take (i + 1) entries) == 0) ≡ true
              counts = let one = more_here entries i d inside k negative same in ap (λ m. not (m == 0)) one ∙ (let plus : not (edges_from k (take i entries) + 1 == 0) ≡ true = grind (arith, nat_tests) in plus)

              open_there : (get_or left k 0 == 0) ≡ false
              open_there = let least : 1 ≤ get_or left k 0 = subst (λ (j : ℕ). 1 ≤ get_or left j 0) is (some negative) in grind (arith, nat_tests)

              never : (b : Bool) → (b && false) ≡ false
              never true = refl
              never false = refl

              here : (b : Bool) → (get_or now begin 0 == 0) ≡ b → get_or after k None ≡ cond (not (edges_from k (take (i + 1) entries) == 0) && (get_or now k 0 == 0)) (Some 0) (get_or before k None)
              here true zero_now =
                  ap (λ (ms : Moments). get_or ms k None) (frees' ∙ ap (λ b. cond b (set due begin (Some 0)) due) zero_now)
                  ∙ same_place due begin k (Some 0) None dues same
                  ∙ sym (λ j. cond (counts j && (ap (λ (m : ℕ). get_or now m 0 == 0) (sym is) ∙ zero_now) j) (Some 0) (get_or before k None))
              here false some_now =
                  ap (λ (ms : Moments). get_or ms k None) (frees' ∙ ap (λ b. cond b (set due begin (Some 0)) due) some_now)
                  ∙ held.each k within
                  ∙ (λ j. cond ((ap (λ b. not (edges_from k (take i entries) == 0) && b) open_there ∙ never (not (edges_from k (take i entries) == 0))) j) (Some 0) (get_or before k None))
                  ∙ sym (λ j. cond (counts j && (ap (λ (m : ℕ). get_or now m 0 == 0) (sym is) ∙ some_now) j) (Some 0) (get_or before k None))

-- while the entries of a row are gone over, the edge of the next one can be taken away
pub can_close : (graph : Graph) (to : PointId) (entries : List Entry) (i : ℕ) (all left : List ℕ) (before due : Moments) → i < length entries → (get_or entries i no_entry).from.0 < graph.shape.points
    → ordinary_edges to entries ≡ ordinary_into graph to → length all ≡ graph.shape.points → length before ≡ graph.shape.points → HaveOpenEdges graph to all → DifferByEntries (take i entries) left all
    → FreedByEntries (take i entries) left before due → CanClose (get_or entries i no_entry) left due
can_close graph to entries i all left before due inside begins are count dues have differ freed = record {
  open_point = (let same = differ.count in omega (arith, begins, same, count));
  due_point = (let same = freed.count in omega (arith, begins, same, dues));
  some = λ negative.
      (let none = none_before entries i no_entry inside graph to are begins negative in
      let went = entry_goes entries i no_entry inside graph to are begins negative in
      let sum = differ.each (get_or entries i no_entry).from.0 (omega (arith, begins, count)) in
      let some = have (get_or entries i no_entry).from.0 (omega (arith, begins, count)) went in
      omega (arith, none, sum, some));
}

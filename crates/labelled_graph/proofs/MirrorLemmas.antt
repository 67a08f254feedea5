-- The dense row beside the entries of a row says what the row has, before and after one key is changed.
use Rattle.std.specs.Prelude.{int_lt, ◌<ℤ◌}
use Rattle.std.specs.Ordering.{int_eq}
use Rattle.std.proofs.lemmas.Int.{ints}
use Rattle.closure_model.proofs.Weights.{same_weight}
use Rattle.std.proofs.Common.{◌≡◌, ◌≢◌, ℕ, ◌==◌, ◌<◌, ℤ, zero, suc, Bool, true, false, cond, List, [], ◌∷◌, length, get_or, set, get_or-set_same, get_or-set_other, length-set, Option, Some, None, refl, ap, sym, subst, ◌∙◌, arith}
use Rattle.std.specs.FinMap as map_of
use Rattle.std.proofs.lemmas.Bool.{eqb-true}
use Rattle.std.proofs.lemmas.Bool.Decides.{nat_tests}
use Rattle.net_model.specs.declared.ids.PointId.{PointId}
use Rattle.net_model.specs.declared.ids.LinkId.{LinkId}
use Rattle.net_model.specs.declared.part.Edge.{Edge}
use Rattle.closure_model.specs.Keys.{Key, key_of, ordinary_key}
use Rattle.closure_model.proofs.KeyOrder.{key_test, key_total, test_apart}
use Rattle.labelled_graph.specs.declared.entry.Entry.{Entry}
use Rattle.labelled_graph.specs.Entries.{key_into}
use Rattle.labelled_graph.specs.MergedRows.{row_set, weights_set, word_set, words_set, IsMerged}
use Rattle.labelled_graph.specs.Rows.{TargetRow, row_with, mirrored, mirrored_for, AllFitIn, AreRising, IsKeptRow, IsMirrorOf}
use Rattle.labelled_graph.specs.Words.{absent, held, least_word, word_of, IsRecorded, SaturatesHeld}
use Rattle.labelled_graph.proofs.MergeLemmas.{row_of_entries}
use Rattle.labelled_graph.proofs.StoredLemmas.{same_point, IsChangedAt}
use Rattle.std.specs.FinMap.{get-from_sorted}
use Rattle.closure_model.specs.Keys.{key_cmp}
use Rattle.std.proofs.Common.{replicate}
use Rattle.labelled_graph.proofs.WordLemmas.{word_of_same}

-- ---- one key changed
module _ (row after : TargetRow) (words : List (Option ℤ)) (mirror : IsMirrorOf row words) (key : Key) (o : Option ℤ) (of_row : key.to ≡ row.to) (ends : after.to ≡ row.to) (gets : IsChangedAt key o row after) where
  apart_from : (from : PointId) → ordinary_key from after.to ≢ key → map_of.get after.weights (ordinary_key from after.to) ≡ map_of.get row.weights (ordinary_key from row.to)
  apart_from from apart =
      gets (ordinary_key from after.to)
      ∙ ap (λ b. cond b o (map_of.get row.weights (ordinary_key from after.to))) (test_apart (ordinary_key from after.to) key apart)
      ∙ ap (λ (to : PointId). map_of.get row.weights (ordinary_key from to)) ends

  same_as : (from : PointId) → ordinary_key from after.to ≡ key → map_of.get after.weights (ordinary_key from after.to) ≡ o
  same_as from same = gets (ordinary_key from after.to) ∙ ap (λ b. cond b o (map_of.get row.weights (ordinary_key from after.to))) ((key_test (ordinary_key from after.to) key).1 same)

  mirror_for : (label : Option LinkId) → key.label ≡ label → IsMirrorOf after (mirrored_for words key.from label o)
  mirror_for (Some label) is from inside =
      mirror from inside
      ∙ sym (ap (λ (h : Option ℤ). held (word_of h)) (apart_from from (λ same. let no : ◌≡◌ {A = Option LinkId} None (Some label) = ap (λ (k : Key). k.label) same ∙ is in absurd cc)))
  mirror_for None is from inside = by (from.0 == key.from.0) refl
    where
      by : (b : Bool) → from.0 == key.from.0 ≡ b → get_or (set words key.from.0 (held (word_of o))) from.0 None ≡ held (word_of (map_of.get after.weights (ordinary_key from after.to)))
      by true test =
          let here : from.0 ≡ key.from.0 = eqb-true from.0 key.from.0 test in
          let short : key.from.0 < length words = omega (arith, here, inside, length-set words key.from.0 (held (word_of o))) in
          let same : ordinary_key from after.to ≡ key = λ i. record { to = (ends ∙ sym of_row) i; from = same_point from key.from here i; label = sym is i } in
          ap (λ k. get_or (set words key.from.0 (held (word_of o))) k None) here ∙ get_or-set_same words key.from.0 (held (word_of o)) None short ∙ sym (ap (λ (h : Option ℤ). held (word_of h)) (same_as from same))
      by false test =
          let apart : from.0 ≢ key.from.0 = grind (arith, nat_tests) in
          let there : from.0 < length words = omega (arith, inside, length-set words key.from.0 (held (word_of o))) in
          let kept : get_or (set words key.from.0 (held (word_of o))) from.0 None ≡ get_or words from.0 None = grind (arith, get_or-set_other) in
          kept ∙ mirror from there ∙ sym (ap (λ (h : Option ℤ). held (word_of h)) (apart_from from (λ same. apart (ap (λ (k : Key). k.from.0) same))))

  pub mirror_changed : IsMirrorOf after (mirrored words key o)
  mirror_changed = mirror_for key.label refl

-- what is kept of a row after one key of it was changed
pub kept_after : (to : PointId) (xs ys : List Entry) (words new : List (Option ℤ)) (row after : TargetRow) (key : Key) (o : Option ℤ) → IsKeptRow to xs words → row_with to xs ≡ row → AreRising to ys → row_with to ys ≡ after
    → key.to ≡ row.to → after.to ≡ row.to → IsChangedAt key o row after → new ≡ mirrored words key o → IsKeptRow to ys new
kept_after to xs ys words new row after key o kept view rises view_after of_row ends gets is = record {
  rises = rises;
  mirror = subst (λ (r : TargetRow). IsMirrorOf r new) (sym view_after)
      (subst (IsMirrorOf after) (sym is) (mirror_changed row after words (subst (λ (r : TargetRow). IsMirrorOf r words) view kept.mirror) key o of_row ends gets));
}

pub kept_set : (to : PointId) (xs ys : List Entry) (words new : List (Option ℤ)) (row : TargetRow) (edge : Edge) → IsKeptRow to xs words → row_with to xs ≡ row → edge.to ≡ row.to
    → AreRising to ys × (row_with to ys ≡ record row { weights = map_of.insert row.weights (key_of edge) edge.weight }) → new ≡ mirrored words (key_of edge) (Some edge.weight) → IsKeptRow to ys new
kept_set to xs ys words new row edge kept view ends (rises, is) written =
    kept_after to xs ys words new row (record row { weights = map_of.insert row.weights (key_of edge) edge.weight }) (key_of edge) (Some edge.weight) kept view rises is ends refl
    (map_of.get-insert key_total row.weights (key_of edge) edge.weight) written

pub kept_gone : (to : PointId) (xs ys : List Entry) (words new : List (Option ℤ)) (row : TargetRow) (edge : Edge) → IsKeptRow to xs words → row_with to xs ≡ row → edge.to ≡ row.to
    → AreRising to ys × (row_with to ys ≡ record row { weights = map_of.remove row.weights (key_of edge) }) → new ≡ mirrored words (key_of edge) None → IsKeptRow to ys new
kept_gone to xs ys words new row edge kept view ends (rises, is) erased =
    kept_after to xs ys words new row (record row { weights = map_of.remove row.weights (key_of edge) }) (key_of edge) None kept view rises is ends refl (map_of.get-remove key_total row.weights (key_of edge)) erased

-- a dense row says what a row has after the keys of entries were given their weights
mirror_set : (row : TargetRow) (words : List (Option ℤ)) (new : List Entry) → IsMirrorOf row words → IsMirrorOf (row_set row new) (words_set words new)
mirror_set row words [] mirror = mirror
mirror_set row words (entry ∷ new) mirror =
    let after : TargetRow = record row { weights = weights_set row.to row.weights entry } in
    mirror_set after (word_set words entry) new
    (mirror_changed row after words mirror (key_into row.to entry) (Some entry.weight) refl refl (map_of.get-insert key_total row.weights (key_into row.to entry) entry.weight))

pub kept_merged : (to : PointId) (xs ys read new : List Entry) (words after : List (Option ℤ)) (row : TargetRow) → IsKeptRow to xs words → row_with to xs ≡ row → AreRising row.to new → read ≡ xs
    → ((t : PointId) → AreRising t read → AreRising t new → IsMerged t read new ys) → after ≡ words_set words new → IsKeptRow to ys after
kept_merged to xs ys read new words after row kept view rises is merged written =
    let target : row.to ≡ to = sym (ap (λ (r : TargetRow). r.to) view) in
    let whole : IsMerged to xs new ys =
    subst (λ (es : List Entry). IsMerged to es new ys) is (merged to (subst (AreRising to) (sym is) kept.rises) (subst (λ (t : PointId). AreRising t new) target rises)) in
    record {
      rises = whole.rises;
      mirror = subst (λ (r : TargetRow). IsMirrorOf r after) (sym whole.row) (subst (IsMirrorOf (row_set (row_with to xs) new)) (sym written) (mirror_set (row_with to xs) words new kept.mirror));
    }

pub row_merged : (to : PointId) (xs ys read new : List Entry) (words : List (Option ℤ)) (row : TargetRow) → IsKeptRow to xs words → row_with to xs ≡ row → AreRising row.to new → read ≡ xs
    → ((t : PointId) → AreRising t read → AreRising t new → IsMerged t read new ys)
    → row_with to ys ≡ row_set row new
row_merged to xs ys read new words row kept view rises is merged =
    let target : row.to ≡ to = sym (ap (λ (r : TargetRow). r.to) view) in
    let whole : IsMerged to xs new ys =
    subst (λ (es : List Entry). IsMerged to es new ys) is (merged to (subst (AreRising to) (sym is) kept.rises) (subst (λ (t : PointId). AreRising t new) target rises)) in
    whole.row ∙ ap (λ (r : TargetRow). row_set r new) view

-- ---- a dense row made of all entries
same_at : (o : Option ℤ) (points k : ℕ) → get_or (replicate points o) k o ≡ o
same_at o zero k = refl
same_at o (suc points) zero = refl
same_at o (suc points) (suc k) = same_at o points k

pub mirror_of_all : (to : PointId) (xs read : List Entry) (points : ℕ) (words after : List (Option ℤ)) (row : TargetRow) → row_with to xs ≡ row → AreRising to xs → read ≡ xs → words ≡ replicate points None → after ≡ words_set words read
    → IsMirrorOf row after
mirror_of_all to xs read points words after row view rises is none written =
    subst (IsMirrorOf row) (sym (written ∙ (λ i. words_set (none i) (is i))))
    (subst (λ (r : TargetRow). IsMirrorOf r (words_set (replicate points None) xs)) (sym (row_of_entries to xs rises) ∙ view) (mirror_set (row_with to []) (replicate points None) xs begins))
  where
    begins : IsMirrorOf (row_with to []) (replicate points None)
    begins from inside =
        let has : map_of.get (row_with to []).weights (ordinary_key from to) ≡ None = get-from_sorted key_cmp [] (ordinary_key from to) tt in
        same_at None points from.0 ∙ sym (ap (λ (o : Option ℤ). held (word_of o)) has)

-- ---- what does not improve
pub meets_in : (row : TargetRow) (words : List (Option ℤ)) (first : PointId) (there : Option ℤ) (weight : ℤ) → IsMirrorOf row words → AllFitIn row → first.0 < length words → SaturatesHeld (get_or words first.0 None) there weight
    → SaturatesHeld (map_of.get row.weights (ordinary_key first row.to)) there weight
meets_in row words first there weight mirror fits inside saturates = by (map_of.get row.weights (ordinary_key first row.to)) refl (subst (λ (o : Option ℤ). SaturatesHeld o there weight) (mirror first inside) saturates)
  where
    by : (o : Option ℤ) → map_of.get row.weights (ordinary_key first row.to) ≡ o → SaturatesHeld (held (word_of (map_of.get row.weights (ordinary_key first row.to)))) there weight → SaturatesHeld o there weight
    by None is saturates = tt
    by (Some w) is saturates = subst (λ (o : Option ℤ). SaturatesHeld o there weight) (ap (λ (h : Option ℤ). held (word_of h)) is ∙ word_of_same w (fits (ordinary_key first row.to) w is)) saturates

-- ---- what a word gives
-- what holds a weight above the least word stands for that weight alone
stated_once : (o : Option ℤ) (weight : ℤ) → held (word_of o) ≡ Some weight → least_word <ℤ weight → o ≡ Some weight
stated_once None weight is above = absurd cc
stated_once (Some w) weight is above = by (int_lt w least_word) refl (int_lt absent w) refl is
  where
    by : (low : Bool) → int_lt w least_word ≡ low → (high : Bool) → int_lt absent w ≡ high → held (cond low least_word (cond high absent w)) ≡ Some weight → Some w ≡ Some weight
    by true low high is_high is = let same : least_word ≡ weight = same_weight least_word weight is in absurd (grind (arith, ints))
    by false low true is_high is = absurd cc
    by false low false is_high is = by_end (int_eq w absent) refl is
      where
        by_end : (gone : Bool) → int_eq w absent ≡ gone → cond gone None (Some w) ≡ Some weight → Some w ≡ Some weight
        by_end true gone is = absurd cc
        by_end false gone is = is

pub mirror_recorded : (row : TargetRow) (words : List (Option ℤ)) (from : PointId) (weight : ℤ) → IsMirrorOf row words → IsRecorded words from.0 weight → map_of.get row.weights (ordinary_key from row.to) ≡ Some weight
mirror_recorded row words from weight mirror recorded = stated_once (map_of.get row.weights (ordinary_key from row.to)) weight (sym (mirror from recorded.inside) ∙ recorded.has) recorded.above

-- The place of a key among entries, of which the first were looked at one after another.
use Rattle.std.proofs.Common.{◌≡◌, ℕ, zero, suc, ◌==◌, ◌+◌, ◌-◌, ◌<◌, ◌≤◌, ◌⊎◌, inl, inr, Bool, true, false, List, [], ◌∷◌, length, drop, get_or, refl, ap, sym, ◌∙◌, arith}
use Rattle.std.specs.declared.cmp.Ordering.TheVariants.{Less, Equal, Greater}
use Rattle.std.proofs.lemmas.Bool.{eqb-true}
use Rattle.std.proofs.lemmas.Bool.Decides.{nat_tests}
use Rattle.std.proofs.lemmas.List.{get_or_default, get_or-drop, length-drop}
use Rattle.net_model.specs.declared.ids.PointId.{PointId}
use Rattle.closure_model.specs.Keys.{Key, key_cmp}
use Rattle.closure_model.proofs.KeyOrder.{key_total, same_key}
use Rattle.closure_model.proofs.Entries.{both}
use Rattle.labelled_graph.specs.declared.entry.Entry.{Entry}
use Rattle.labelled_graph.specs.Entries.{key_into}
use Rattle.labelled_graph.specs.Rows.{AreRising, IsEntryAt, IsGapFor}
use Rattle.labelled_graph.proofs.RowLemmas.{turned_less, turned_greater, rising_pair}

module _ (to : PointId) (xs : List Entry) (key : Key) where
  abbrev AreLess : ℕ → Type 0
  AreLess n = (j : ℕ) (d : Entry) → j < n → key_cmp (key_into to (get_or xs j d)) key ≡ Less

  pub soon_found : (i : ℕ) (d : Entry) → i < length xs → key_cmp (key_into to (get_or xs i d)) key ≡ Equal → IsEntryAt to xs key i
  soon_found i d inside tie = record { inside = inside; same = λ e. ap (key_into to) (get_or_default xs i e d inside) ∙ same_key (key_into to (get_or xs i d)) key tie }

  pub soon_missed : (i : ℕ) (d : Entry) → AreRising to xs → i < length xs → AreLess i → key_cmp (key_into to (get_or xs i d)) key ≡ Greater → IsGapFor to xs key i
  soon_missed i d rises inside less above = record {
    inside = omega (arith, inside);
    lesser = less;
    greater = λ j e from within. by j e from within (j == i) refl;
  }
    where
      by : (j : ℕ) (e : Entry) → i ≤ j → j < length xs → (b : Bool) → j == i ≡ b → key_cmp (key_into to (get_or xs j e)) key ≡ Greater
      by j e from within true is = ap (λ (k : ℕ). key_cmp (key_into to (get_or xs k e)) key) (eqb-true j i is) ∙ ap (λ (x : Entry). key_cmp (key_into to x) key) (get_or_default xs i e d inside) ∙ above
      by j e from within false is =
          let later : i < j = grind (arith, nat_tests) in
          let first : key_cmp key (key_into to (get_or xs i e)) ≡ Less = turned_greater (key_into to (get_or xs i e)) key (ap (λ (x : Entry). key_cmp (key_into to x) key) (get_or_default xs i e d inside) ∙ above) in
          turned_less key (key_into to (get_or xs j e)) (key_total.trans key (key_into to (get_or xs i e)) (key_into to (get_or xs j e)) first (rising_pair to xs rises i j e later within))

  -- ---- those behind the first
  pub far_found : (near i : ℕ) (far : List Entry) → near ≤ length xs → far ≡ drop near xs → IsEntryAt to far key i → IsEntryAt to xs key (near + i)
  far_found near i far short is at = record {
    inside = (let inside = at.inside in let long = ap length is ∙ length-drop near xs in omega (arith, inside, long, short));
    same = λ d. ap (key_into to) (sym (ap (λ (l : List Entry). get_or l i d) is ∙ get_or-drop near xs i d)) ∙ at.same d;
  }

  before_or_after : (j n : ℕ) → (j < n) ⊎ (n ≤ j)
  before_or_after j n = grind arith

  pub far_missed : (near i : ℕ) (far : List Entry) → near ≤ length xs → far ≡ drop near xs → AreLess near → IsGapFor to far key i → IsGapFor to xs key (near + i)
  far_missed near i far short is less gap = record {
    inside = (let inside = gap.inside in omega (arith, inside, long, short));
    lesser = λ j d before. by j d before (before_or_after j near);
    greater = λ j d from inside. ap (λ (x : Entry). key_cmp (key_into to x) key) (sym (far_at j d (omega (arith, from)))) ∙ gap.greater (j - near) d (omega (arith, from)) (omega (arith, from, inside, long, short));
  }
    where
      long : length far ≡ length xs - near
      long = ap length is ∙ length-drop near xs

      far_at : (j : ℕ) (d : Entry) → near ≤ j → get_or far (j - near) d ≡ get_or xs j d
      far_at j d from = ap (λ (l : List Entry). get_or l (j - near) d) is ∙ get_or-drop near xs (j - near) d ∙ (let same : near + (j - near) ≡ j = omega (arith, from) in ap (λ (k : ℕ). get_or xs k d) same)

      by : (j : ℕ) (d : Entry) → j < near + i → (j < near) ⊎ (near ≤ j) → key_cmp (key_into to (get_or xs j d)) key ≡ Less
      by j d before (inl soon) = less j d soon
      by j d before (inr late) = ap (λ (x : Entry). key_cmp (key_into to x) key) (sym (far_at j d late)) ∙ gap.lesser (j - near) d (omega (arith, before, late))

pub rises_drop : (to : PointId) (xs : List Entry) (i : ℕ) → AreRising to xs → AreRising to (drop i xs)
rises_drop to xs zero rises = rises
rises_drop to [] (suc i) rises = tt
rises_drop to (x ∷ xs) (suc i) rises = rises_drop to xs i (both _ _ rises).1

-- The pieces of a text between its line ends, and texts of which each piece has a byte that marks it: neither blank nor of the word `end`.
use Rattle.std.proofs.Common.{◌≡◌, ℕ, ◌==◌, ◌&&◌, ◌||◌, Bool, true, false, not, nat_lt, List, [], ◌∷◌, ◌++◌, refl, sym, ap, ◌∙◌, subst, true≢false, append_assoc, codes, arith, rules, if◌then◌else◌}
use Rattle.std.specs.List.{All, flat_map, join_with_byte, list_any}
use Rattle.std.proofs.lemmas.Bool.{and_parts, eqb-true}
use Rattle.std.proofs.lemmas.Bool.Decides.{nat_tests}
use Rattle.std.proofs.lemmas.Grind.{flat_map-append}
use Rattle.std.proofs.lemmas.List.{append-nil}
use Rattle.std.proofs.lemmas.List.Elements.{All-nil, All-cons, All-weaker}
use Rattle.texts.specs.Lines.{lines, lines_after}
use Rattle.texts.specs.Words.{words, words_after, if_filled, is_blank}
use Rattle.texts.proofs.LineLemmas.{lines_is}
use Rattle.texts.proofs.WordLemmas.{words_is}

-- the pieces of a text between its line ends, of which `line` is the start of the first
abbrev pub cut_after : List ℕ → List ℕ → List (List ℕ)
cut_after line [] = line ∷ []
cut_after line (byte ∷ bytes) = if byte == 10 then line ∷ cut_after [] bytes else cut_after (line ++ byte ∷ []) bytes

abbrev pub cut : List ℕ → List (List ℕ)
cut text = cut_after [] text

-- one choice of two lists of pieces, by whether a line ends
abbrev chosen : {A : Type 0} → Bool → A → A → A
chosen ends one other = if ends then one else other

no_piece : (line bytes : List ℕ) → cut_after line bytes ≡ [] → ⊥
no_piece line [] is = absurd (cc)
no_piece line (byte ∷ bytes) is = by (byte == 10) refl (λ more. no_piece (line ++ byte ∷ []) bytes more)
  where
    by : (ends : Bool) → (byte == 10) ≡ ends → (cut_after (line ++ byte ∷ []) bytes ≡ [] → ⊥) → ⊥
    by true same later = let none : line ∷ cut_after [] bytes ≡ [] = ap (λ (e : Bool). chosen e (line ∷ cut_after [] bytes) (cut_after (line ++ byte ∷ []) bytes)) (sym same) ∙ is in absurd (cc)
    by false same later = later (ap (λ (e : Bool). chosen e (line ∷ cut_after [] bytes) (cut_after (line ++ byte ∷ []) bytes)) (sym same) ∙ is)

join_more : (line : List ℕ) (pieces : List (List ℕ)) → (pieces ≡ [] → ⊥) → join_with_byte 10 (line ∷ pieces) ≡ line ++ 10 ∷ join_with_byte 10 pieces
join_more line [] some = absurd (some refl)
join_more line (piece ∷ pieces) some = refl

-- the pieces with their line ends between are the text
join_cut : (line text : List ℕ) → join_with_byte 10 (cut_after line text) ≡ line ++ text
join_cut line [] = sym (append-nil line)
join_cut line (byte ∷ bytes) = by (byte == 10) refl (join_cut [] bytes) (join_cut (line ++ byte ∷ []) bytes)
  where
    by : (ends : Bool) → (byte == 10) ≡ ends → join_with_byte 10 (cut_after [] bytes) ≡ bytes → join_with_byte 10 (cut_after (line ++ byte ∷ []) bytes) ≡ (line ++ byte ∷ []) ++ bytes
        → join_with_byte 10 (cut_after line (byte ∷ bytes)) ≡ line ++ byte ∷ bytes
    by true same others on =
        let ten : byte ≡ 10 = eqb-true byte 10 same in
        let all : join_with_byte 10 (line ∷ cut_after [] bytes) ≡ line ++ byte ∷ bytes =
        join_more line (cut_after [] bytes) (no_piece [] bytes) ∙ (ap (λ (t : List ℕ). line ++ 10 ∷ t) others ∙ ap (λ (b : ℕ). line ++ b ∷ bytes) (sym ten)) in
        rw same all
    by false same others on = rw same (on ∙ append_assoc line (byte ∷ []) bytes)

pub cut_joined : (text : List ℕ) → text ≡ join_with_byte 10 (cut text)
cut_joined text = sym (join_cut [] text)

-- and the lines of the text, if a line end and more follow
lines_cut_after : (line text rest : List ℕ) → lines_after line (text ++ 10 ∷ rest) ≡ cut_after line text ++ lines rest
lines_cut_after line [] rest = ap (λ (ls : List (List ℕ)). line ∷ ls) (lines_is rest)
lines_cut_after line (byte ∷ bytes) rest = by (byte == 10) refl (lines_cut_after [] bytes rest) (lines_cut_after (line ++ byte ∷ []) bytes rest)
  where
    by : (ends : Bool) → (byte == 10) ≡ ends → lines_after [] (bytes ++ 10 ∷ rest) ≡ cut_after [] bytes ++ lines rest → lines_after (line ++ byte ∷ []) (bytes ++ 10 ∷ rest) ≡ cut_after (line ++ byte ∷ []) bytes ++ lines rest
        → lines_after line (byte ∷ (bytes ++ 10 ∷ rest)) ≡ cut_after line (byte ∷ bytes) ++ lines rest
    by true same others on = rw same (ap (λ (ls : List (List ℕ)). line ∷ ls) others)
    by false same others on = rw same on

pub lines_cut : (text rest : List ℕ) → lines (text ++ 10 ∷ rest) ≡ cut text ++ lines rest
lines_cut text rest = sym (lines_is (text ++ 10 ∷ rest)) ∙ lines_cut_after [] text rest

-- ---- marks
-- a byte of no blank and not of the word `end`
abbrev pub is_mark : ℕ → Bool
is_mark byte = nat_lt 32 byte && not (byte == 101 || byte == 110 || byte == 100)

abbrev pub has_mark : List ℕ → Bool
has_mark text = list_any is_mark text

-- each line has a mark, whether the first one has it already or not
abbrev pub marked : Bool → List ℕ → Bool
marked seen [] = seen
marked seen (byte ∷ bytes) = if byte == 10 then seen && marked false bytes else marked (seen || is_mark byte) bytes

mark_more : (line : List ℕ) (byte : ℕ) → (has_mark line || is_mark byte) ≡ has_mark (line ++ byte ∷ [])
mark_more [] byte = search rules
mark_more (first ∷ line) byte = by (is_mark first) refl (mark_more line byte)
  where
    by : (m : Bool) → is_mark first ≡ m → (has_mark line || is_mark byte) ≡ has_mark (line ++ byte ∷ []) → (has_mark (first ∷ line) || is_mark byte) ≡ has_mark (first ∷ (line ++ byte ∷ []))
    by true is on = rw is refl
    by false is on = rw is on

all_marked : (line bytes : List ℕ) → marked (has_mark line) bytes ≡ true → All (λ piece. has_mark piece ≡ true) (cut_after line bytes)
all_marked line [] is = All-cons (λ piece. has_mark piece ≡ true) line [] is (All-nil (λ piece. has_mark piece ≡ true))
all_marked line (byte ∷ bytes) is = by (byte == 10) refl (λ others. all_marked [] bytes others) (λ on. all_marked (line ++ byte ∷ []) bytes on)
  where
    by : (ends : Bool) → (byte == 10) ≡ ends → (marked false bytes ≡ true → All (λ piece. has_mark piece ≡ true) (cut_after [] bytes))
        → (marked (has_mark (line ++ byte ∷ [])) bytes ≡ true → All (λ piece. has_mark piece ≡ true) (cut_after (line ++ byte ∷ []) bytes))
        → All (λ piece. has_mark piece ≡ true) (cut_after line (byte ∷ bytes))
    by true same others on =
        let both : (has_mark line && marked false bytes) ≡ true = ap (λ (e : Bool). chosen e (has_mark line && marked false bytes) (marked (has_mark line || is_mark byte) bytes)) (sym same) ∙ is in
        let parts = and_parts (has_mark line) (marked false bytes) both in
        rw same (All-cons (λ piece. has_mark piece ≡ true) line (cut_after [] bytes) parts.0 (others parts.1))
    by false same others on =
        let more : marked (has_mark line || is_mark byte) bytes ≡ true = ap (λ (e : Bool). chosen e (has_mark line && marked false bytes) (marked (has_mark line || is_mark byte) bytes)) (sym same) ∙ is in
        rw same (on (subst (λ (m : Bool). marked m bytes ≡ true) (mark_more line byte) more))

-- ---- a line with a mark is not `end`
abbrev one_text : List (List ℕ) → List ℕ
one_text words = flat_map (λ word. word) words

filled_is : (word : List ℕ) → one_text (if_filled word) ≡ word
filled_is [] = refl
filled_is (byte ∷ bytes) = append-nil (byte ∷ bytes)

mark_both : (prefix back : List ℕ) → has_mark (prefix ++ back) ≡ (has_mark prefix || has_mark back)
mark_both [] back = refl
mark_both (byte ∷ prefix) back = by (is_mark byte) refl (mark_both prefix back)
  where
    by : (m : Bool) → is_mark byte ≡ m → has_mark (prefix ++ back) ≡ (has_mark prefix || has_mark back) → has_mark (byte ∷ (prefix ++ back)) ≡ (has_mark (byte ∷ prefix) || has_mark back)
    by true is on = rw is refl
    by false is on = rw is on

blank_no_mark : (byte : ℕ) → is_blank byte ≡ true → is_mark byte ≡ false
blank_no_mark byte blank = grind (arith, nat_tests)

texts_both : (one other : List (List ℕ)) → one_text (one ++ other) ≡ one_text one ++ one_text other
texts_both one other = flat_map-append (λ (word : List ℕ). word) one other

words_mark : (word line : List ℕ) → has_mark (one_text (words_after word line)) ≡ has_mark (word ++ line)
words_mark word [] = ap has_mark (filled_is word ∙ sym (append-nil word))
words_mark word (byte ∷ bytes) = by (is_blank byte) refl (words_mark [] bytes) (words_mark (word ++ byte ∷ []) bytes)
  where
    by : (blank : Bool) → is_blank byte ≡ blank → has_mark (one_text (words_after [] bytes)) ≡ has_mark bytes → has_mark (one_text (words_after (word ++ byte ∷ []) bytes)) ≡ has_mark ((word ++ byte ∷ []) ++ bytes)
        → has_mark (one_text (words_after word (byte ∷ bytes))) ≡ has_mark (word ++ byte ∷ bytes)
    by true is others on =
        let split : has_mark (one_text (if_filled word ++ words_after [] bytes)) ≡ (has_mark word || has_mark bytes) =
        ap has_mark (texts_both (if_filled word) (words_after [] bytes)) ∙ (mark_both (one_text (if_filled word)) (one_text (words_after [] bytes))
        ∙ (ap (λ (t : List ℕ). has_mark t || has_mark (one_text (words_after [] bytes))) (filled_is word) ∙ ap (λ (m : Bool). has_mark word || m) others)) in
        let rest : has_mark (byte ∷ bytes) ≡ has_mark bytes = ap (λ (m : Bool). m || has_mark bytes) (blank_no_mark byte is) in
        rw is (split ∙ (ap (λ (m : Bool). has_mark word || m) (sym rest) ∙ sym (mark_both word (byte ∷ bytes))))
    by false is others on = rw is (on ∙ ap has_mark (append_assoc word (byte ∷ []) bytes))

pub mark_not_end : (line : List ℕ) → has_mark line ≡ true → words line ≡ codes "end" ∷ [] → ⊥
mark_not_end line has is =
    let same : words_after [] line ≡ codes "end" ∷ [] = words_is line ∙ is in
    let none : has_mark line ≡ false = sym (words_mark [] line) ∙ ap (λ (ws : List (List ℕ)). has_mark (one_text ws)) same in
    true≢false (sym has ∙ none)

-- no piece of a text whose lines all have a mark is `end`
pub marked_inside : (text : List ℕ) → marked false text ≡ true → All (λ piece. ¬ (words piece ≡ codes "end" ∷ [])) (cut text)
marked_inside text is = All-weaker (λ piece. has_mark piece ≡ true) (λ piece. ¬ (words piece ≡ codes "end" ∷ [])) mark_not_end (cut text) (all_marked [] text is)
